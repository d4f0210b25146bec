use Rattle.std.proofs.Common.{List, map, sym, ap, subst, ◌∙◌}
use Rattle.ic_laws.specs.BookTrees.{IsMoved}
use Rattle.ic_laws.specs.CoreBook.{Sheet as CoreSheet}
use Rattle.ic_laws.specs.CoreStep.{moved}
use Rattle.ic_sheets.specs.Sheet.{sheet_core}
use Rattle.ic_sheets.specs.declared.sheet.Sheet.{Sheet as HeldSheet}
use Rattle.ic_parts.specs.Book.{ModelState, core_of}
use Rattle.ic_parts.specs.Change.{with_moved_sheet}
use Rattle.ic_book.specs.Inside.{held}
use Rattle.ic_parts.proofs.BookLemmas.{moved-map}
use Rattle.ic_parts.proofs.BookValid.{moved_valid}
use Rattle.ic_parts.proofs.NameIndexLemmas.{knows_moved}
use Rattle.ic_book.proofs.HeldLemmas.{held_after, keeps_moved, put}
use Rattle.ic_parts.proofs.HeldLemmas.{move_accepts, there_is, within_of}
use Rattle.ic_book.proofs.model.Model.move_at.Goals as goal

pub invariant_of-self : goal.invariant_of-self
invariant_of-self c =
    let from = within_of c.self.inside.contents.sheets c.len.result c.args.sheet_index c.len.ensures c.if-sheet_index-len.false in
    let to = within_of c.self.inside.contents.sheets c.len-2.result c.args.new_index c.len-2.ensures c.if-new_index-len.false in
    record {
      book = held_after c.self.inside c.self.invariant.book c.move_to.new.self c.self.inside.contents.definitions (with_moved_sheet c.args.sheet_index c.args.new_index (held c.self.inside))
          (put c.self.inside c.self.invariant.book c.move_to.new.self c.args.sheet_index c.args.new_index c.move_to.ensures.moved)
          (moved_valid (held c.self.inside) c.self.invariant.book c.args.sheet_index c.args.new_index (move_accepts (core_of (held c.self.inside)) c.args.sheet_index c.args.new_index (there_is c.self.inside.contents.sheets c.args.sheet_index from) (there_is c.self.inside.contents.sheets c.args.new_index to)));
      names = record {
        sheets = c.move_to.ensures.finds c.self.inside.names.sheets c.self.invariant.names.sheets;
        names = c.self.invariant.names.names;
        numbers = knows_moved c.self.inside.names.numbers c.self.inside.contents.sheets c.move_to.new.self c.self.invariant.names.numbers
            c.args.sheet_index c.args.new_index from c.move_to.ensures.moved;
      };
    }

pub returns-clause-ok : goal.returns-clause-ok
returns-clause-ok c =
    put c.self.inside c.self.invariant.book c.move_to.new.self c.args.sheet_index c.args.new_index c.move_to.ensures.moved ∙ ap (λ (m : ModelState). with_moved_sheet c.args.sheet_index c.args.new_index m.book) c.self.view_is

pub returns-clause-looks_up : goal.returns-clause-looks_up
returns-clause-looks_up c =
    ap (map (λ (s : HeldSheet). s.pool.is_whole)) c.move_to.ensures.moved ∙ moved-map (λ (s : HeldSheet). s.pool.is_whole) c.args.sheet_index c.args.new_index c.self.inside.contents.sheets
    ∙ ap (λ (m : ModelState). moved c.args.sheet_index c.args.new_index m.has_all) c.self.view_is

pub returns-clause-core : goal.returns-clause-core
returns-clause-core c =
    ap core_of (returns-clause-ok c)
    ∙ ap (λ (ss : List CoreSheet). record (core_of c.args.self.now.book) { sheets = ss }) (moved-map sheet_core c.args.sheet_index c.args.new_index c.args.self.now.book.sheets)

pub returns-clause-found : goal.returns-clause-found
returns-clause-found c =
    let from = within_of c.self.inside.contents.sheets c.len.result c.args.sheet_index c.len.ensures c.if-sheet_index-len.false in
    let to = within_of c.self.inside.contents.sheets c.len-2.result c.args.new_index c.len-2.ensures c.if-new_index-len.false in
    subst (IsMoved c.args.sheet_index c.args.new_index (core_of c.args.self.now.book)) (sym (returns-clause-core c))
    (subst (λ (m : ModelState). IsMoved c.args.sheet_index c.args.new_index (core_of m.book) (record (core_of m.book) { sheets = moved c.args.sheet_index c.args.new_index (core_of m.book).sheets })) c.self.view_is
    (keeps_moved c.self.inside c.self.invariant.book c.args.sheet_index c.args.new_index (move_accepts (core_of (held c.self.inside)) c.args.sheet_index c.args.new_index (there_is c.self.inside.contents.sheets c.args.sheet_index from) (there_is c.self.inside.contents.sheets c.args.new_index to))))
