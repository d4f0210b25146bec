use Rattle.std.proofs.Common.{◌≡◌, ◌+◌, ◌++◌, ◌∷◌, [], true, Some, None, chars, sym, ap, subst, ◌∙◌}
use Rattle.std.specs.List.{list_any}
use Rattle.ic_laws.specs.BookTrees.{with_sheet_at_end, with_trees}
use Rattle.ic_laws.specs.Changes.{Change, changed_tree, sheet_named}
use Rattle.ic_laws.specs.CoreBook.{fresh_id, greatest_id, scene_of}
use Rattle.ic_laws.specs.CoreStep.{add_sheet_refusal, changed_by, with_new_sheet}
use Rattle.ic_laws.specs.Name.{agrees}
use Rattle.ic_laws.specs.Refusal.{IdsUsedUp, SheetExists}
use Rattle.ic_definitions.specs.Named.{definitions_scene}
use Rattle.ic_parts.specs.Book.{ModelState, core_of, notations_in}
use Rattle.ic_parts.specs.Change.{book_changed_by, with_added_sheet}
use Rattle.ic_book.specs.Inside.{held, held_state, with_contents}
use Rattle.ic_changes.specs.LookUps.{LooksUpAdded, looks_up_in}
use Rattle.ic_parts.specs.Refused.{Refuses}
use Rattle.ic_parts.proofs.BookLemmas.{added_change, core_of-changed}
use Rattle.ic_parts.proofs.BookValid.{added_valid}
use Rattle.ic_parts.proofs.HeldLemmas.{no_memory, add_accepts, add_taken, add_used_up, fresh_is, seen_names}
use Rattle.ic_parts.proofs.NameIndexLemmas.{knows_added}
use Rattle.ic_book.proofs.HeldLemmas.{added, binds_added, fresh_above, held_after, same_naming}
use Rattle.ic_changes.proofs.SparedBodies.{naming_bodies}
use Rattle.ic_changes.proofs.LookUpLemmas.{looks_up_is}
use Rattle.ic_book.proofs.model.Model.append_sheet.Goals as goal

pub returns-then-is_taken-clause-refused : goal.returns-then-is_taken-clause-refused
returns-then-is_taken-clause-refused c =
    let name = chars c.args.sheet_name.now in
    subst (λ (m : ModelState). add_sheet_refusal (core_of m.book) name ≡ Some SheetExists) c.self.view_is (add_taken (core_of (held c.self.inside)) name (sym c.is_valid_sheet_name.ensures ∙ c.if-not-is_valid_sheet_name.false) (ap (list_any (agrees name)) (sym (seen_names c.self.inside.contents.sheets)) ∙ sym c.is_taken.ensures ∙ c.if-is_taken.true))

pub returns-in_default-clause-refused : goal.returns-in_default-clause-refused
returns-in_default-clause-refused c =
    let name = chars c.args.sheet_name.now in
    subst (λ (m : ModelState). add_sheet_refusal (core_of m.book) name ≡ Some IdsUsedUp) c.self.view_is (add_used_up (core_of (held c.self.inside)) name (sym c.is_valid_sheet_name.ensures ∙ c.if-not-is_valid_sheet_name.false) (ap (list_any (agrees name)) (sym (seen_names c.self.inside.contents.sheets)) ∙ sym c.is_taken.ensures ∙ c.if-is_taken.false) (ap (λ (m : ModelState). fresh_id (core_of m.book)) c.self.view_is ∙ sym c.in_default.ensures.fresh))

pub add_sheet-requires-clause-fresh : goal.add_sheet-requires-clause-fresh
add_sheet-requires-clause-fresh c = fresh_above c.self.inside c.self.invariant.book c.in-Some.id (ap (λ (m : ModelState). fresh_id (core_of m.book)) c.self.view_is ∙ sym c.in-Some.ensures.fresh)

pub returns-in_err-bodies-clause-refused : goal.returns-in_err-bodies-clause-refused
returns-in_err-bodies-clause-refused c =
    let name = chars c.args.sheet_name.now in
    subst (λ (m : ModelState). Refuses c.from_residual.result (add_sheet_refusal (core_of m.book) name)) c.self.view_is (subst (Refuses c.from_residual.result) (sym (add_accepts (core_of (held c.self.inside)) name c.in-Some.id (sym c.is_valid_sheet_name.ensures ∙ c.if-not-is_valid_sheet_name.false) (ap (list_any (agrees name)) (sym (seen_names c.self.inside.contents.sheets)) ∙ sym c.is_taken.ensures ∙ c.if-is_taken.false) (ap (λ (m : ModelState). fresh_id (core_of m.book)) c.self.view_is ∙ sym c.in-Some.ensures.fresh))) (no_memory c.from_residual.result c.from_residual.ensures))

pub prepare_dangling-requires : goal.prepare_dangling-requires
prepare_dangling-requires c = naming_bodies (definitions_scene c.self.inside.contents.definitions) _ _ c.self.inside.contents.definitions

pub returns-in_err-add_sheet-clause-refused : goal.returns-in_err-add_sheet-clause-refused
returns-in_err-add_sheet-clause-refused c =
    let name = chars c.args.sheet_name.now in
    subst (λ (m : ModelState). Refuses c.from_residual-in_err-add_sheet.result (add_sheet_refusal (core_of m.book) name)) c.self.view_is (subst (Refuses c.from_residual-in_err-add_sheet.result) (sym (add_accepts (core_of (held c.self.inside)) name c.in-Some.id (sym c.is_valid_sheet_name.ensures ∙ c.if-not-is_valid_sheet_name.false) (ap (list_any (agrees name)) (sym (seen_names c.self.inside.contents.sheets)) ∙ sym c.is_taken.ensures ∙ c.if-is_taken.false) (ap (λ (m : ModelState). fresh_id (core_of m.book)) c.self.view_is ∙ sym c.in-Some.ensures.fresh))) (no_memory c.from_residual-in_err-add_sheet.result c.from_residual-in_err-add_sheet.ensures))

pub invariant_of-self-2 : goal.invariant_of-self-2
invariant_of-self-2 c =
    let name = chars c.args.sheet_name.now in
    let none = (add_accepts (core_of (held c.self.inside)) name c.in-Some.id (sym c.is_valid_sheet_name.ensures ∙ c.if-not-is_valid_sheet_name.false) (ap (list_any (agrees name)) (sym (seen_names c.self.inside.contents.sheets)) ∙ sym c.is_taken.ensures ∙ c.if-is_taken.false) (ap (λ (m : ModelState). fresh_id (core_of m.book)) c.self.view_is ∙ sym c.in-Some.ensures.fresh)) in
    record {
      book = held_after c.self.inside c.self.invariant.book c.add_sheet.new.self c.apply.new.self (book_changed_by (with_added_sheet name) (held c.self.inside))
          (added c.self.inside c.self.invariant.book c.add_sheet.new.self c.apply.new.self name c.in-Some.id none (ap (λ (m : ModelState). fresh_id (core_of m.book)) c.self.view_is ∙ sym c.in-Some.ensures.fresh) c.in_ok-add_sheet.ensures.ok (c.apply.ensures.bodies ∙ c.in_ok-bodies.ensures.made))
          (added_valid (held c.self.inside) c.self.invariant.book name none);
      names = record {
        sheets = c.add_sheet.ensures.finds;
        names = c.apply.ensures.finds c.self.inside.names.names c.self.invariant.names.names;
        numbers = knows_added c.self.inside.names.numbers c.self.inside.contents.sheets c.add_sheet.new.self c.self.invariant.names.numbers
            (sheet_named (definitions_scene c.self.inside.contents.definitions) c.in-Some.id name) _ c.in_ok-add_sheet.ensures.ok;
      };
    }

pub returns-clause-ok : goal.returns-clause-ok
returns-clause-ok c =
    let name = chars c.args.sheet_name.now in
    added c.self.inside c.self.invariant.book c.add_sheet.new.self c.apply.new.self name c.in-Some.id (add_accepts (core_of (held c.self.inside)) name c.in-Some.id (sym c.is_valid_sheet_name.ensures ∙ c.if-not-is_valid_sheet_name.false) (ap (list_any (agrees name)) (sym (seen_names c.self.inside.contents.sheets)) ∙ sym c.is_taken.ensures ∙ c.if-is_taken.false) (ap (λ (m : ModelState). fresh_id (core_of m.book)) c.self.view_is ∙ sym c.in-Some.ensures.fresh)) (ap (λ (m : ModelState). fresh_id (core_of m.book)) c.self.view_is ∙ sym c.in-Some.ensures.fresh) c.in_ok-add_sheet.ensures.ok (c.apply.ensures.bodies ∙ c.in_ok-bodies.ensures.made) ∙ ap (λ (m : ModelState). book_changed_by (with_added_sheet name) m.book) c.self.view_is

pub returns-clause-core : goal.returns-clause-core
returns-clause-core c =
    let name = chars c.args.sheet_name.now in
    ap core_of (returns-clause-ok c) ∙ core_of-changed (notations_in c.args.self.now.book) (with_added_sheet name) (with_new_sheet name) (added_change name) c.args.self.now.book

pub returns-clause-binds : goal.returns-clause-binds
returns-clause-binds c =
    let name = chars c.args.sheet_name.now in
    returns-clause-core c
    ∙ subst (λ (m : ModelState). changed_by (notations_in m.book) (with_new_sheet name) (core_of m.book) ≡ with_sheet_at_end (greatest_id (core_of m.book) + 1) name (with_trees (changed_tree (sheet_named (scene_of (core_of m.book)) (greatest_id (core_of m.book) + 1) name)) (core_of m.book))) c.self.view_is
    (binds_added c.self.inside c.self.invariant.book name (add_accepts (core_of (held c.self.inside)) name c.in-Some.id (sym c.is_valid_sheet_name.ensures ∙ c.if-not-is_valid_sheet_name.false) (ap (list_any (agrees name)) (sym (seen_names c.self.inside.contents.sheets)) ∙ sym c.is_taken.ensures ∙ c.if-is_taken.false) (ap (λ (m : ModelState). fresh_id (core_of m.book)) c.self.view_is ∙ sym c.in-Some.ensures.fresh)))

pub returns-clause-refused : goal.returns-clause-refused
returns-clause-refused c =
    let name = chars c.args.sheet_name.now in
    subst (λ (m : ModelState). add_sheet_refusal (core_of m.book) name ≡ None) c.self.view_is (add_accepts (core_of (held c.self.inside)) name c.in-Some.id (sym c.is_valid_sheet_name.ensures ∙ c.if-not-is_valid_sheet_name.false) (ap (list_any (agrees name)) (sym (seen_names c.self.inside.contents.sheets)) ∙ sym c.is_taken.ensures ∙ c.if-is_taken.false) (ap (λ (m : ModelState). fresh_id (core_of m.book)) c.self.view_is ∙ sym c.in-Some.ensures.fresh))

pub returns-clause-looks_up : goal.returns-clause-looks_up
returns-clause-looks_up c =
    let name = chars c.args.sheet_name.now in
    let state = held_state c.self.inside in
    let new = held_state (with_contents c.add_sheet.new.self c.apply.new.self c.self.inside) in
    let id : c.in-Some.id ≡ greatest_id (core_of state.book) + 1 =
    fresh_is _ (greatest_id (core_of state.book)) c.in-Some.id (ap (λ (m : ModelState). fresh_id (core_of m.book)) c.self.view_is ∙ sym c.in-Some.ensures.fresh) in
    subst (λ (m : ModelState). LooksUpAdded name m new) c.self.view_is
    (c.in_ok-add_sheet.ensures.looks_up ∙ ap (λ had. had ++ true ∷ []) (sym (looks_up_is (sheet_named (definitions_scene c.self.inside.contents.definitions) c.in-Some.id name) c.self.inside.contents.sheets))
    ∙ ap (λ (change : Change). looks_up_in change state ++ true ∷ []) (same_naming c.self.inside c.self.invariant.book c.in-Some.id name) ∙ ap (λ k. looks_up_in (sheet_named (scene_of (core_of state.book)) k name) state ++ true ∷ []) id)
