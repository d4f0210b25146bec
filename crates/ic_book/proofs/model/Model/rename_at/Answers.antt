use Rattle.std.proofs.Common.{◌≡◌, List, Bool, Some, None, chars, map, sym, ap, subst, ◌∙◌}
use Rattle.std.specs.Prelude.{remove}
use Rattle.std.specs.List.{list_any, slice_get}
use Rattle.ic_laws.specs.BookTrees.{BookKeepsFound, with_body_tree, with_trees}
use Rattle.ic_laws.specs.Changes.{Change, changed_tree, sheet_named}
use Rattle.ic_laws.specs.CoreBook.{scene_of}
use Rattle.ic_laws.specs.CoreStep.{changed_by, rename_refusal, with_sheet_name}
use Rattle.ic_laws.specs.Name.{agrees}
use Rattle.ic_laws.specs.Refusal.{InvalidSheet, SheetExists}
use Rattle.ic_sheets.proofs.IndexLemmas.{read_boxed}
use Rattle.ic_sheets.proofs.RewritingLemmas.{sheet_there}
use Rattle.ic_sheets.proofs.SearchLemmas.{names}
use Rattle.ic_sheets.specs.Rewriting.{look_ups, looks_up_after}
use Rattle.ic_sheets.specs.Sheet.{Sheet}
use Rattle.ic_sheets.specs.declared.sheet.Sheet.{Sheet as HeldSheet}
use Rattle.ic_definitions.specs.Named.{definitions_scene}
use Rattle.ic_parts.specs.Book.{ModelState, core_of, notations_in}
use Rattle.ic_parts.specs.Change.{book_changed_by, with_renamed_sheet}
use Rattle.ic_book.specs.Inside.{IsHeld, held, held_state, with_contents, with_sheets}
use Rattle.ic_changes.specs.LookUps.{LooksUpNamed}
use Rattle.ic_parts.specs.Refused.{Refuses}
use Rattle.ic_parts.specs.SheetNames.{KnowsNumbers}
use Rattle.ic_parts.proofs.BookLemmas.{core_of-changed, renamed_change}
use Rattle.ic_parts.proofs.BookValid.{renamed_valid}
use Rattle.ic_parts.proofs.NameIndexLemmas.{names_renamed}
use Rattle.ic_parts.proofs.HeldLemmas.{no_memory, lacks_is, past_of, read_is, rename_accepts, rename_lacks, rename_taken, seen_names, there_is, within_of}
use Rattle.ic_book.proofs.HeldLemmas.{binds_renamed, held_after, keeps_renamed, renamed, same_naming}
use Rattle.ic_changes.proofs.SparedBodies.{naming_bodies}
use Rattle.ic_changes.proofs.LookUpLemmas.{looks_up_at}
use Rattle.ic_book.proofs.model.Model.rename_at.Goals as goal

pub returns-then-is_taken_by_other-clause-refused : goal.returns-then-is_taken_by_other-clause-refused
returns-then-is_taken_by_other-clause-refused c =
    let name = chars c.args.new_name.now in
    subst (λ (m : ModelState). rename_refusal (core_of m.book) c.args.index name ≡ Some SheetExists) c.self.view_is (rename_taken (core_of (held c.self.inside)) c.args.index name (sym c.is_valid_sheet_name.ensures ∙ c.if-not-is_valid_sheet_name.false) (ap (λ xs. list_any (agrees name) (remove xs c.args.index)) (sym (seen_names c.self.inside.contents.sheets)) ∙ sym c.is_taken_by_other.ensures ∙ c.if-is_taken_by_other.true))

pub returns-then-index-len-clause-refused : goal.returns-then-index-len-clause-refused
returns-then-index-len-clause-refused c =
    let name = chars c.args.new_name.now in
    subst (λ (m : ModelState). rename_refusal (core_of m.book) c.args.index name ≡ Some InvalidSheet) c.self.view_is (rename_lacks (core_of (held c.self.inside)) c.args.index name (sym c.is_valid_sheet_name.ensures ∙ c.if-not-is_valid_sheet_name.false) (ap (λ xs. list_any (agrees name) (remove xs c.args.index)) (sym (seen_names c.self.inside.contents.sheets)) ∙ sym c.is_taken_by_other.ensures ∙ c.if-is_taken_by_other.false) (lacks_is c.self.inside.contents.sheets c.args.index (past_of c.self.inside.contents.sheets c.len.result c.args.index c.len.ensures c.if-index-len.true)))

pub returns-in_err-bodies-clause-refused : goal.returns-in_err-bodies-clause-refused
returns-in_err-bodies-clause-refused c =
    let name = chars c.args.new_name.now in
    subst (λ (m : ModelState). Refuses c.from_residual.result (rename_refusal (core_of m.book) c.args.index name)) c.self.view_is (subst (Refuses c.from_residual.result) (sym (rename_accepts (core_of (held c.self.inside)) c.args.index name (sym c.is_valid_sheet_name.ensures ∙ c.if-not-is_valid_sheet_name.false) (ap (λ xs. list_any (agrees name) (remove xs c.args.index)) (sym (seen_names c.self.inside.contents.sheets)) ∙ sym c.is_taken_by_other.ensures ∙ c.if-is_taken_by_other.false) (there_is c.self.inside.contents.sheets c.args.index (within_of c.self.inside.contents.sheets c.len.result c.args.index c.len.ensures c.if-index-len.false)))) (no_memory c.from_residual.result c.from_residual.ensures))

pub prepare_dangling-requires : goal.prepare_dangling-requires
prepare_dangling-requires c = naming_bodies (definitions_scene c.self.inside.contents.definitions) _ _ c.self.inside.contents.definitions

pub returns-in_err-rename_sheet-clause-refused : goal.returns-in_err-rename_sheet-clause-refused
returns-in_err-rename_sheet-clause-refused c =
    let name = chars c.args.new_name.now in
    subst (λ (m : ModelState). Refuses c.from_residual-in_err-rename_sheet.result (rename_refusal (core_of m.book) c.args.index name)) c.self.view_is (subst (Refuses c.from_residual-in_err-rename_sheet.result) (sym (rename_accepts (core_of (held c.self.inside)) c.args.index name (sym c.is_valid_sheet_name.ensures ∙ c.if-not-is_valid_sheet_name.false) (ap (λ xs. list_any (agrees name) (remove xs c.args.index)) (sym (seen_names c.self.inside.contents.sheets)) ∙ sym c.is_taken_by_other.ensures ∙ c.if-is_taken_by_other.false) (there_is c.self.inside.contents.sheets c.args.index (within_of c.self.inside.contents.sheets c.len.result c.args.index c.len.ensures c.if-index-len.false)))) (no_memory c.from_residual-in_err-rename_sheet.result c.from_residual-in_err-rename_sheet.ensures))

pub invariant_of-self : goal.invariant_of-self
invariant_of-self c = record {
  book = subst (λ (ws : List HeldSheet). IsHeld (with_sheets ws c.self.inside)) (sym c.in_err-rename_sheet.ensures.err) c.self.invariant.book;
  names = record {
    sheets = c.rename_sheet.ensures.finds;
    names = c.self.invariant.names.names;
    numbers = subst (λ (ws : List HeldSheet). KnowsNumbers c.lose_sheet.new.self (names ws)) (sym c.in_err-rename_sheet.ensures.err)
        (c.lose_sheet.ensures.kept c.self.invariant.names.numbers);
  };
}

pub invariant_of-self-2 : goal.invariant_of-self-2
invariant_of-self-2 c =
    let name = chars c.args.new_name.now in
    let none = (rename_accepts (core_of (held c.self.inside)) c.args.index name (sym c.is_valid_sheet_name.ensures ∙ c.if-not-is_valid_sheet_name.false) (ap (λ xs. list_any (agrees name) (remove xs c.args.index)) (sym (seen_names c.self.inside.contents.sheets)) ∙ sym c.is_taken_by_other.ensures ∙ c.if-is_taken_by_other.false) (there_is c.self.inside.contents.sheets c.args.index (within_of c.self.inside.contents.sheets c.len.result c.args.index c.len.ensures c.if-index-len.false))) in
    let at = sheet_there c.self.inside.contents.sheets c.args.index (within_of c.self.inside.contents.sheets c.len.result c.args.index c.len.ensures c.if-index-len.false) in
    record {
      book = held_after c.self.inside c.self.invariant.book c.rename_sheet.new.self c.apply.new.self (book_changed_by (with_renamed_sheet c.args.index name) (held c.self.inside))
          (renamed c.self.inside c.self.invariant.book c.rename_sheet.new.self c.apply.new.self c.args.index name at.0 none at.1 (c.in_ok-rename_sheet.ensures.ok at.0 at.1) (c.apply.ensures.bodies ∙ c.in_ok-bodies.ensures.made ∙ ap (λ (s : HeldSheet). map (with_body_tree (changed_tree (sheet_named (definitions_scene c.self.inside.contents.definitions) s.id name))) c.self.inside.contents.definitions) (read_is c.as_slice.result.now c.self.inside.contents.sheets c.args.index c.as_ref.result.now at.0 c.as_slice.ensures.sheets (within_of c.self.inside.contents.sheets c.len.result c.args.index c.len.ensures c.if-index-len.false) (read_boxed c.as_slice.result.now c.args.index c.as_ref.ensures c.index-as_slice-index.is) at.1)))
          (renamed_valid (held c.self.inside) c.self.invariant.book c.args.index name none);
      names = record {
        sheets = c.rename_sheet.ensures.finds;
        names = c.apply.ensures.finds c.self.inside.names.names c.self.invariant.names.names;
        numbers = subst (KnowsNumbers c.lose_sheet.new.self)
            (sym (names_renamed c.self.inside.contents.sheets c.rename_sheet.new.self
            (sheet_named (definitions_scene c.self.inside.contents.definitions) at.0.id name) c.args.index name (c.in_ok-rename_sheet.ensures.ok at.0 at.1)))
            (c.lose_sheet.ensures.renamed c.self.invariant.names.numbers name);
      };
    }

pub returns-clause-ok : goal.returns-clause-ok
returns-clause-ok c =
    let name = chars c.args.new_name.now in
    let at = sheet_there c.self.inside.contents.sheets c.args.index (within_of c.self.inside.contents.sheets c.len.result c.args.index c.len.ensures c.if-index-len.false) in
    renamed c.self.inside c.self.invariant.book c.rename_sheet.new.self c.apply.new.self c.args.index name at.0 (rename_accepts (core_of (held c.self.inside)) c.args.index name (sym c.is_valid_sheet_name.ensures ∙ c.if-not-is_valid_sheet_name.false) (ap (λ xs. list_any (agrees name) (remove xs c.args.index)) (sym (seen_names c.self.inside.contents.sheets)) ∙ sym c.is_taken_by_other.ensures ∙ c.if-is_taken_by_other.false) (there_is c.self.inside.contents.sheets c.args.index (within_of c.self.inside.contents.sheets c.len.result c.args.index c.len.ensures c.if-index-len.false))) at.1 (c.in_ok-rename_sheet.ensures.ok at.0 at.1) (c.apply.ensures.bodies ∙ c.in_ok-bodies.ensures.made ∙ ap (λ (s : HeldSheet). map (with_body_tree (changed_tree (sheet_named (definitions_scene c.self.inside.contents.definitions) s.id name))) c.self.inside.contents.definitions) (read_is c.as_slice.result.now c.self.inside.contents.sheets c.args.index c.as_ref.result.now at.0 c.as_slice.ensures.sheets (within_of c.self.inside.contents.sheets c.len.result c.args.index c.len.ensures c.if-index-len.false) (read_boxed c.as_slice.result.now c.args.index c.as_ref.ensures c.index-as_slice-index.is) at.1))
    ∙ ap (λ (m : ModelState). book_changed_by (with_renamed_sheet c.args.index name) m.book) c.self.view_is

pub returns-clause-core : goal.returns-clause-core
returns-clause-core c =
    let name = chars c.args.new_name.now in
    ap core_of (returns-clause-ok c) ∙ core_of-changed (notations_in c.args.self.now.book) (with_renamed_sheet c.args.index name) (with_sheet_name c.args.index name) (renamed_change c.args.index name) c.args.self.now.book

pub returns-clause-found : goal.returns-clause-found
returns-clause-found c =
    let name = chars c.args.new_name.now in
    subst (BookKeepsFound (core_of c.args.self.now.book)) (sym (returns-clause-core c))
    (subst (λ (m : ModelState). BookKeepsFound (core_of m.book) (changed_by (notations_in m.book) (with_sheet_name c.args.index name) (core_of m.book))) c.self.view_is (keeps_renamed c.self.inside c.self.invariant.book c.args.index name (rename_accepts (core_of (held c.self.inside)) c.args.index name (sym c.is_valid_sheet_name.ensures ∙ c.if-not-is_valid_sheet_name.false) (ap (λ xs. list_any (agrees name) (remove xs c.args.index)) (sym (seen_names c.self.inside.contents.sheets)) ∙ sym c.is_taken_by_other.ensures ∙ c.if-is_taken_by_other.false) (there_is c.self.inside.contents.sheets c.args.index (within_of c.self.inside.contents.sheets c.len.result c.args.index c.len.ensures c.if-index-len.false)))))

pub returns-clause-binds : goal.returns-clause-binds
returns-clause-binds c = λ sheet at.
    let name = chars c.args.new_name.now in
    returns-clause-core c
    ∙ subst (λ (m : ModelState). slice_get (core_of m.book).sheets c.args.index ≡ Some sheet → changed_by (notations_in m.book) (with_sheet_name c.args.index name) (core_of m.book) ≡ with_sheet_name c.args.index name (with_trees (changed_tree (sheet_named (scene_of (core_of m.book)) sheet.id name)) (core_of m.book))) c.self.view_is
    (binds_renamed c.self.inside c.self.invariant.book c.args.index name sheet (rename_accepts (core_of (held c.self.inside)) c.args.index name (sym c.is_valid_sheet_name.ensures ∙ c.if-not-is_valid_sheet_name.false) (ap (λ xs. list_any (agrees name) (remove xs c.args.index)) (sym (seen_names c.self.inside.contents.sheets)) ∙ sym c.is_taken_by_other.ensures ∙ c.if-is_taken_by_other.false) (there_is c.self.inside.contents.sheets c.args.index (within_of c.self.inside.contents.sheets c.len.result c.args.index c.len.ensures c.if-index-len.false)))) at

pub returns-clause-refused : goal.returns-clause-refused
returns-clause-refused c =
    let name = chars c.args.new_name.now in
    subst (λ (m : ModelState). rename_refusal (core_of m.book) c.args.index name ≡ None) c.self.view_is (rename_accepts (core_of (held c.self.inside)) c.args.index name (sym c.is_valid_sheet_name.ensures ∙ c.if-not-is_valid_sheet_name.false) (ap (λ xs. list_any (agrees name) (remove xs c.args.index)) (sym (seen_names c.self.inside.contents.sheets)) ∙ sym c.is_taken_by_other.ensures ∙ c.if-is_taken_by_other.false) (there_is c.self.inside.contents.sheets c.args.index (within_of c.self.inside.contents.sheets c.len.result c.args.index c.len.ensures c.if-index-len.false)))

pub returns-clause-looks_up : goal.returns-clause-looks_up
returns-clause-looks_up c =
    let name = chars c.args.new_name.now in
    let at = sheet_there c.self.inside.contents.sheets c.args.index (within_of c.self.inside.contents.sheets c.len.result c.args.index c.len.ensures c.if-index-len.false) in
    let new = held_state (with_contents c.rename_sheet.new.self c.apply.new.self c.self.inside) in
    subst (λ (m : ModelState). LooksUpNamed c.args.index name m new) c.self.view_is
    (looks_up_at (λ (s : Sheet). sheet_named (scene_of (core_of (held c.self.inside))) s.id name) (λ (had : List Bool). had) c.self.inside.contents.sheets c.args.index at.0 at.1 (look_ups c.rename_sheet.new.self)
    (c.in_ok-rename_sheet.ensures.looks_up at.0 at.1 ∙ ap (λ (change : Change). map (looks_up_after change) c.self.inside.contents.sheets) (same_naming c.self.inside c.self.invariant.book at.0.id name)))
