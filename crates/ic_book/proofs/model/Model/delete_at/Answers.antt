use Rattle.std.proofs.Common.{◌≡◌, List, Bool, Some, ap, map, sym, subst, ◌∙◌}
use Rattle.std.specs.List.{slice_get}
use Rattle.std.specs.Prelude.{remove}
use Rattle.ic_laws.specs.BookTrees.{with_trees}
use Rattle.ic_laws.specs.Changes.{Change, changed_tree, sheet_gone}
use Rattle.ic_laws.specs.CoreBook.{scene_of}
use Rattle.ic_laws.specs.CoreStep.{changed_by, without_sheet}
use Rattle.ic_sheets.proofs.RewritingLemmas.{sheet_there}
use Rattle.ic_sheets.proofs.SearchLemmas.{names}
use Rattle.ic_sheets.specs.Rewriting.{look_ups, looks_up_after}
use Rattle.ic_sheets.specs.Sheet.{Sheet}
use Rattle.ic_sheets.specs.declared.sheet.Sheet.{Sheet as HeldSheet}
use Rattle.ic_definitions.specs.Named.{definitions_scene}
use Rattle.ic_parts.specs.Book.{ModelState, core_of, notations_in}
use Rattle.ic_parts.specs.Change.{book_changed_by, with_removed_sheet}
use Rattle.ic_parts.specs.SheetNames.{KnowsNumbers}
use Rattle.ic_book.specs.Inside.{IsHeld, held, held_state, with_contents, with_sheets}
use Rattle.ic_changes.specs.LookUps.{LooksUpWithout}
use Rattle.ic_parts.proofs.BookLemmas.{core_of-changed, removed_change}
use Rattle.ic_parts.proofs.BookValid.{removed_valid}
use Rattle.ic_book.proofs.HeldLemmas.{dangles_removed, held_after, removed, same_going}
use Rattle.ic_parts.proofs.HeldLemmas.{delete_accepts, more_than_one, there_is, within_of}
use Rattle.ic_parts.proofs.NameIndexLemmas.{names_removed}
use Rattle.ic_changes.proofs.LookUpLemmas.{looks_up_at}
use Rattle.ic_book.proofs.model.Model.delete_at.Goals as goal

pub invariant_of-self : goal.invariant_of-self
invariant_of-self c = record {
  book = subst (λ (ws : List HeldSheet). IsHeld (with_sheets ws c.self.inside)) (sym c.in_err-delete_sheet.ensures.err) c.self.invariant.book;
  names = record {
    sheets = c.delete_sheet.ensures.finds;
    names = c.self.invariant.names.names;
    numbers = subst (λ (ws : List HeldSheet). KnowsNumbers c.lose_sheet.new.self (names ws)) (sym c.in_err-delete_sheet.ensures.err)
        (c.lose_sheet.ensures.kept c.self.invariant.names.numbers);
  };
}

pub invariant_of-self-2 : goal.invariant_of-self-2
invariant_of-self-2 c =
    let at = sheet_there c.self.inside.contents.sheets c.args.index (within_of c.self.inside.contents.sheets c.len-2.result c.args.index c.len-2.ensures c.if-index-len.false) in
    record {
      book = held_after c.self.inside c.self.invariant.book c.delete_sheet.new.self c.apply.new.self (book_changed_by (with_removed_sheet c.args.index) (held c.self.inside))
          (removed c.self.inside c.self.invariant.book c.delete_sheet.new.self c.apply.new.self c.args.index at.0 at.1 (c.in_ok-delete_sheet.ensures.ok at.0 at.1) (c.apply.ensures.bodies ∙ c.in_ok-bodies.ensures.made at.0 at.1))
          (removed_valid (held c.self.inside) c.self.invariant.book c.args.index (delete_accepts (core_of (held c.self.inside)) c.args.index (more_than_one c.self.inside.contents.sheets c.len.result c.len.ensures c.if-len-eq1.false) (there_is c.self.inside.contents.sheets c.args.index (within_of c.self.inside.contents.sheets c.len-2.result c.args.index c.len-2.ensures c.if-index-len.false))));
      names = record {
        sheets = c.delete_sheet.ensures.finds;
        names = c.apply.ensures.finds c.self.inside.names.names c.self.invariant.names.names;
        numbers = subst (KnowsNumbers c.lose_sheet.new.self)
            (sym (names_removed c.self.inside.contents.sheets c.delete_sheet.new.self
            (sheet_gone (definitions_scene c.self.inside.contents.definitions) at.0.id at.0.name) c.args.index (c.in_ok-delete_sheet.ensures.ok at.0 at.1)))
            (c.lose_sheet.ensures.lost c.self.invariant.names.numbers);
      };
    }

pub returns-clause-ok : goal.returns-clause-ok
returns-clause-ok c =
    let at = sheet_there c.self.inside.contents.sheets c.args.index (within_of c.self.inside.contents.sheets c.len-2.result c.args.index c.len-2.ensures c.if-index-len.false) in
    removed c.self.inside c.self.invariant.book c.delete_sheet.new.self c.apply.new.self c.args.index at.0 at.1 (c.in_ok-delete_sheet.ensures.ok at.0 at.1) (c.apply.ensures.bodies ∙ c.in_ok-bodies.ensures.made at.0 at.1) ∙ ap (λ (m : ModelState). book_changed_by (with_removed_sheet c.args.index) m.book) c.self.view_is

pub returns-clause-core : goal.returns-clause-core
returns-clause-core c =
    ap core_of (returns-clause-ok c) ∙ core_of-changed (notations_in c.args.self.now.book) (with_removed_sheet c.args.index) (without_sheet c.args.index) (removed_change c.args.index) c.args.self.now.book

pub returns-clause-dangles : goal.returns-clause-dangles
returns-clause-dangles c = λ sheet at.
    returns-clause-core c
    ∙ subst (λ (m : ModelState). slice_get (core_of m.book).sheets c.args.index ≡ Some sheet → changed_by (notations_in m.book) (without_sheet c.args.index) (core_of m.book) ≡ without_sheet c.args.index (with_trees (changed_tree (sheet_gone (scene_of (core_of m.book)) sheet.id sheet.name)) (core_of m.book))) c.self.view_is
    (dangles_removed c.self.inside c.self.invariant.book c.args.index sheet (delete_accepts (core_of (held c.self.inside)) c.args.index (more_than_one c.self.inside.contents.sheets c.len.result c.len.ensures c.if-len-eq1.false) (there_is c.self.inside.contents.sheets c.args.index (within_of c.self.inside.contents.sheets c.len-2.result c.args.index c.len-2.ensures c.if-index-len.false)))) at

pub returns-clause-looks_up : goal.returns-clause-looks_up
returns-clause-looks_up c =
    let at = sheet_there c.self.inside.contents.sheets c.args.index (within_of c.self.inside.contents.sheets c.len-2.result c.args.index c.len-2.ensures c.if-index-len.false) in
    let new = held_state (with_contents c.delete_sheet.new.self c.apply.new.self c.self.inside) in
    subst (λ (m : ModelState). LooksUpWithout c.args.index m new) c.self.view_is
    (looks_up_at (λ (s : Sheet). sheet_gone (scene_of (core_of (held c.self.inside))) s.id s.name) (λ (had : List Bool). remove had c.args.index) c.self.inside.contents.sheets c.args.index at.0 at.1 (look_ups c.delete_sheet.new.self)
    (c.in_ok-delete_sheet.ensures.looks_up at.0 at.1 ∙ ap (λ (change : Change). remove (map (looks_up_after change) c.self.inside.contents.sheets) c.args.index) (same_going c.self.inside c.self.invariant.book at.0.id at.0.name)))
