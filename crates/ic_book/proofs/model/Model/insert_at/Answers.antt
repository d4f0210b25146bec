use Rattle.std.proofs.Common.{◌≡◌, List, Bool, true, Some, None, arith, chars, rules, sym, ap, subst, ◌∙◌}
use Rattle.std.specs.List.{insert}
use Rattle.ic_laws.specs.Changes.{Change, sheet_named}
use Rattle.ic_definitions.specs.Named.{definitions_scene}
use Rattle.ic_machine.specs.Refusal.{first_refusal}
use Rattle.ic_machine.specs.subjects.Sheets.{insert_causes}
use Rattle.ic_parts.specs.Book.{ModelState, whole_of}
use Rattle.ic_parts.proofs.NameIndexLemmas.{knows_inserted}
use Rattle.ic_parts.specs.Change.{book_changed_by, with_inserted_sheet}
use Rattle.ic_book.specs.Inside.{held, held_state, with_contents}
use Rattle.ic_changes.specs.LookUps.{LooksUpInserted, looks_up_in}
use Rattle.ic_parts.specs.Mentioned.{BindsInserted}
use Rattle.ic_book.proofs.HeldLemmas.{same_naming}
use Rattle.ic_book.proofs.InsertedHeld.{binds_inserted, inserted, inserted_held, put_free, put_fresh, put_within, says_id}
use Rattle.ic_changes.proofs.LookUpLemmas.{looks_up_is}
use Rattle.ic_changes.proofs.SparedBodies.{naming_bodies}
use Rattle.ic_book.proofs.model.Model.insert_at.Goals as goal

pub prepare_dangling-requires : goal.prepare_dangling-requires
prepare_dangling-requires c = naming_bodies (definitions_scene c.self.inside.contents.definitions) _ _ c.self.inside.contents.definitions

pub insert_sheet-requires-clause-within : goal.insert_sheet-requires-clause-within
insert_sheet-requires-clause-within c =
    let none = subst (λ (m : ModelState). first_refusal (insert_causes (whole_of m.book) (chars c.args.name.now) c.args.index (Some c.args.id)) ≡ None) (sym c.self.view_is) c.requires in
    put_within c.self.inside c.self.invariant.book c.args.index c.args.id (chars c.args.name.now) none

pub insert_sheet-requires-clause-free : goal.insert_sheet-requires-clause-free
insert_sheet-requires-clause-free c =
    let none = subst (λ (m : ModelState). first_refusal (insert_causes (whole_of m.book) (chars c.args.name.now) c.args.index (Some c.args.id)) ≡ None) (sym c.self.view_is) c.requires in
    put_free c.self.inside c.self.invariant.book c.args.index c.args.id (chars c.args.name.now) none

pub insert_sheet-requires-clause-fresh : goal.insert_sheet-requires-clause-fresh
insert_sheet-requires-clause-fresh c =
    let none = subst (λ (m : ModelState). first_refusal (insert_causes (whole_of m.book) (chars c.args.name.now) c.args.index (Some c.args.id)) ≡ None) (sym c.self.view_is) c.requires in
    put_fresh c.self.inside c.self.invariant.book c.args.index c.args.id (chars c.args.name.now) none

pub invariant_of-self-2 : goal.invariant_of-self-2
invariant_of-self-2 c =
    let none = subst (λ (m : ModelState). first_refusal (insert_causes (whole_of m.book) (chars c.args.name.now) c.args.index (Some c.args.id)) ≡ None) (sym c.self.view_is) c.requires in
    record {
      book = inserted_held c.self.inside c.self.invariant.book c.args.index c.args.id (chars c.args.name.now) none c.insert_sheet.new.self c.apply.new.self (says_id c.args.id (search (rules, arith)))
          (inserted c.self.inside c.self.invariant.book c.args.index c.args.id (chars c.args.name.now) none c.insert_sheet.new.self c.apply.new.self c.in_ok-insert_sheet.ensures.ok (c.apply.ensures.bodies ∙ c.in_ok-bodies.ensures.made));
      names = record {
        sheets = c.insert_sheet.ensures.finds;
        names = c.apply.ensures.finds c.self.inside.names.names c.self.invariant.names.names;
        numbers = knows_inserted c.self.inside.names.numbers c.self.inside.contents.sheets c.insert_sheet.new.self c.self.invariant.names.numbers
            (sheet_named (definitions_scene c.self.inside.contents.definitions) c.args.id (chars c.args.name.now)) _ _ c.in_ok-insert_sheet.ensures.ok;
      };
    }

pub returns-clause-ok : goal.returns-clause-ok
returns-clause-ok c =
    let none = subst (λ (m : ModelState). first_refusal (insert_causes (whole_of m.book) (chars c.args.name.now) c.args.index (Some c.args.id)) ≡ None) (sym c.self.view_is) c.requires in
    inserted c.self.inside c.self.invariant.book c.args.index c.args.id (chars c.args.name.now) none c.insert_sheet.new.self c.apply.new.self c.in_ok-insert_sheet.ensures.ok (c.apply.ensures.bodies ∙ c.in_ok-bodies.ensures.made)
    ∙ ap (λ (m : ModelState). book_changed_by (with_inserted_sheet c.args.index c.args.id (chars c.args.name.now)) m.book) c.self.view_is

pub returns-clause-binds : goal.returns-clause-binds
returns-clause-binds c =
    let none = subst (λ (m : ModelState). first_refusal (insert_causes (whole_of m.book) (chars c.args.name.now) c.args.index (Some c.args.id)) ≡ None) (sym c.self.view_is) c.requires in
    let new = held (with_contents c.insert_sheet.new.self c.apply.new.self c.self.inside) in
    subst (λ (m : ModelState). BindsInserted c.args.index c.args.id (chars c.args.name.now) m.book new) c.self.view_is
    (binds_inserted c.self.inside c.self.invariant.book c.args.index c.args.id (chars c.args.name.now) none new
    (inserted c.self.inside c.self.invariant.book c.args.index c.args.id (chars c.args.name.now) none c.insert_sheet.new.self c.apply.new.self c.in_ok-insert_sheet.ensures.ok (c.apply.ensures.bodies ∙ c.in_ok-bodies.ensures.made)))

pub returns-clause-looks_up : goal.returns-clause-looks_up
returns-clause-looks_up c =
    let new = held_state (with_contents c.insert_sheet.new.self c.apply.new.self c.self.inside) in
    subst (λ (m : ModelState). LooksUpInserted c.args.index c.args.id (chars c.args.name.now) m new) c.self.view_is
    (c.in_ok-insert_sheet.ensures.looks_up
    ∙ ap (λ (had : List Bool). insert had c.args.index true) (sym (looks_up_is (sheet_named (definitions_scene c.self.inside.contents.definitions) c.args.id (chars c.args.name.now)) c.self.inside.contents.sheets))
    ∙ ap (λ (change : Change). insert (looks_up_in change (held_state c.self.inside)) c.args.index true) (same_naming c.self.inside c.self.invariant.book c.args.id (chars c.args.name.now)))
