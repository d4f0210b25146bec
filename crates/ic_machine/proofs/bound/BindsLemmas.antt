-- What is bound after a command, by the identity machine's laws.
use Rattle.std.proofs.Common.{◌≡◌, ℕ, List, Option, Some, Ok, Err, refl, sym, ap, subst, ◌∙◌}
use Rattle.std.proofs.lemmas.Option.{slice_get-map}
use Rattle.std.specs.Prelude.{option_map}
use Rattle.ic_laws.proofs.keeping.Deletes.{delete_definition_dangles, new_definition_binds}
use Rattle.ic_laws.proofs.keeping.Renames.{add_binds, rename_binds}
use Rattle.ic_laws.specs.Command as core
use Rattle.ic_laws.specs.CoreBook.{CoreBook}
use Rattle.ic_laws.specs.CoreStep.{Outcome, at_found, core_step, rename_step}
use Rattle.ic_tree.proofs.NotationLaws.{notations_are}
use Rattle.ic_machine.specs.Binds.{AddedIsMeant, DefinedIsMeant, DeletedIsNotMeant, RenamedByNameIsMeant, RenamedIsMeant}
use Rattle.ic_machine.specs.Book.{Book, Stepped, core_of, core_sheet, notations_in}
use Rattle.ic_machine.specs.Command.{Command, OnDefinitions, OnSheets}
use Rattle.ic_machine.specs.Core.{IsSteppedAs, core_command, told_by, told_by_core}
use Rattle.ic_machine.specs.Reply.{Field, of_core_fields}
use Rattle.ic_machine.specs.Step.{step}
use Rattle.ic_machine.specs.subjects.Definitions as definitions
use Rattle.ic_machine.specs.subjects.Sheets as sheets
use Rattle.ic_machine.proofs.as_core.CoreValid.{core_valid}
use Rattle.ic_machine.proofs.as_core.SteppedLemmas.{stepped}

-- an accepted command of the identity machine leaves the core of what is left
core_told : (b after : Book) (k : core.Command) (fields : List Field) (o : Outcome) → core_step (notations_in b) (core_of b) k ≡ o → told_by_core o ≡ Ok (core_of after, fields)
    → (told : List core.Field) × (core_step (notations_in b) (core_of b) k ≡ Ok (core_of after, told))
core_told b after k fields (Err refusal) e told = cc
core_told b after k fields (Ok done) e told =
    let is : ◌≡◌ {A = CoreBook × List Field} (done.0, of_core_fields done.1) (core_of after, fields) = cc in
    (done.1, e ∙ ap (λ (c : CoreBook). Ok (c, done.1)) (ap (λ (p : CoreBook × List Field). p.0) is))

pub core_left : (b after : Book) (command : Command) (k : core.Command) (fields : List Field) → core_command command ≡ Some k → step b command ≡ Ok (after, fields)
    → (told : List core.Field) × (core_step (notations_in b) (core_of b) k ≡ Ok (core_of after, told))
core_left b after command k fields is e =
    core_told b after k fields (core_step (notations_in b) (core_of b) k) refl
    (sym (subst (IsSteppedAs b command) is (stepped b command)) ∙ ap (λ (s : Stepped Book). told_by s) e)

pub added_is_meant : AddedIsMeant
unfolding core_step
added_is_meant b after name fields valid e =
    let left = core_left b after (OnSheets (sheets.AddSheet name)) (core.AddSheet name) fields refl e in
    add_binds (notations_in b) (core_of b) (core_of after) name left.0 (notations_are b.tables valid.tables) (core_valid b valid) left.1

pub renamed_is_meant : RenamedIsMeant
unfolding core_step
renamed_is_meant b after index name sheet fields valid at e =
    let left = core_left b after (OnSheets (sheets.RenameSheetByIndex index name)) (core.RenameSheetByIndex index name) fields refl e in
    rename_binds (notations_in b) (core_of b) (core_of after) index name (core_sheet sheet) left.0 (notations_are b.tables valid.tables) (core_valid b valid)
    (slice_get-map core_sheet b.sheets index ∙ ap (option_map core_sheet) at) left.1

pub renamed_by_name_is_meant : RenamedByNameIsMeant
unfolding core_step
renamed_by_name_is_meant b after old name index sheet fields valid found at e =
    let left = core_left b after (OnSheets (sheets.RenameSheet old name)) (core.RenameSheet old name) fields refl e in
    rename_binds (notations_in b) (core_of b) (core_of after) index name (core_sheet sheet) left.0 (notations_are b.tables valid.tables) (core_valid b valid)
    (slice_get-map core_sheet b.sheets index ∙ ap (option_map core_sheet) at)
    (sym (ap (λ (o : Option ℕ). at_found o (λ i. rename_step (notations_in b) (core_of b) i name)) found) ∙ left.1)

pub defined_is_meant : DefinedIsMeant
unfolding core_step
defined_is_meant b after name scope text body fields valid read e =
    let left = core_left b after (OnDefinitions (definitions.NewDefinedName name scope text)) (core.NewDefinedName name scope text) fields refl e in
    new_definition_binds (notations_in b) (core_of b) (core_of after) name scope text body left.0 (notations_are b.tables valid.tables) (core_valid b valid) read left.1

pub deleted_is_not_meant : DeletedIsNotMeant
unfolding core_step
deleted_is_not_meant b after name scope index definition fields valid found at e =
    let left = core_left b after (OnDefinitions (definitions.DeleteDefinedName name scope)) (core.DeleteDefinedName name scope) fields refl e in
    delete_definition_dangles (notations_in b) (core_of b) (core_of after) name scope index definition left.0 (notations_are b.tables valid.tables) (core_valid b valid) found at left.1
