-- Each command that the identity machine has: seen by the core, a step of the whole machine is the identity machine's.
use Rattle.std.proofs.Common.{◌≡◌, ℕ, List, [], ◌∷◌, Option, Some, None, Ok, refl, ap}
use Rattle.std.specs.Prelude.{not, unwrap_or}
use Rattle.ic_laws.specs.Command as commands
use Rattle.ic_laws.specs.CoreBook.{CoreBook}
use Rattle.ic_laws.specs.CoreStep as core
use Rattle.ic_laws.specs.CoreStep.{Outcome, core_step}
use Rattle.ic_laws.specs.FormulaReading.{Body, body_of}
use Rattle.ic_laws.specs.Refusal as refusals
use Rattle.ic_machine.specs.Book.{Book, as_core, core_of, notations_in}
use Rattle.ic_machine.specs.Changed.{changed_by, with_definition, with_moved_sheet, with_removed_sheet, with_renamed_sheet, without_definition}
use Rattle.ic_machine.specs.Command.{Command, OnDefinitions, OnNotation, OnReading, OnSheets}
use Rattle.ic_machine.specs.Core.{IsSteppedAs, core_command, told_by, told_by_core}
use Rattle.ic_machine.specs.Reply.{of_core_fields}
use Rattle.ic_machine.specs.subjects.Definitions as definitions
use Rattle.ic_machine.specs.subjects.Definitions.{delete_definition_step, list_step, new_definition_step, valid_definition_step, with_new_definition}
use Rattle.ic_machine.specs.subjects.Notation as notation
use Rattle.ic_machine.specs.subjects.Notation.{set_language_step, set_locale_step}
use Rattle.ic_machine.specs.subjects.Reading as reading
use Rattle.ic_machine.specs.subjects.Reading.{cell_formula_step}
use Rattle.ic_machine.specs.subjects.Sheets as sheets
use Rattle.ic_machine.specs.subjects.Sheets.{add_sheet_step, delete_by_id_step, delete_by_name_step, delete_sheet_step, move_sheet_step, new_sheet_id_step, rename_by_index_step, rename_sheet_step, with_new_sheet}
use Rattle.ic_machine.proofs.as_core.CoreLemmas.{core_of-added, core_of-changed, core_of-defined, core_of-moved, core_of-removed, core_of-renamed, core_of-undefined}

-- a step of the identity machine, and what it leaves of the whole book, seen by the core
told : (refusal : Option refusals.Refusal) (left : CoreBook) (fields : List commands.Field) (whole : Book) → core_of whole ≡ left → told_by (as_core (core.unless_refused refusal left fields) whole) ≡ told_by_core (core.unless_refused refusal left fields)
told (Some refusal) left fields whole e = refl
told None left fields whole e = ap (λ (c : CoreBook). Ok (c, of_core_fields fields)) e

-- so is one on a sheet that is looked up
told_found : (o : Option ℕ) (step : ℕ → Outcome) (whole : ℕ → Book) → ((index : ℕ) → told_by (as_core (step index) (whole index)) ≡ told_by_core (step index))
    → told_by (as_core (core.at_found o step) (whole (unwrap_or o 0))) ≡ told_by_core (core.at_found o step)
told_found None step whole h = refl
told_found (Some index) step whole h = h index

module _ (b : Book) where
  renamed : (index : ℕ) (name : List ℕ) → told_by (as_core (core.rename_step (notations_in b) (core_of b) index name) (changed_by (with_renamed_sheet index name) b)) ≡ told_by_core (core.rename_step (notations_in b) (core_of b) index name)
  renamed index name =
      told (core.rename_refusal (core_of b) index name) (core.changed_by (notations_in b) (core.with_sheet_name index name) (core_of b)) [] (changed_by (with_renamed_sheet index name) b)
      (core_of-changed (with_renamed_sheet index name) (core.with_sheet_name index name) (core_of-renamed index name) b)

  deleted : (index : ℕ) → told_by (as_core (core.delete_step (notations_in b) (core_of b) index) (changed_by (with_removed_sheet index) b)) ≡ told_by_core (core.delete_step (notations_in b) (core_of b) index)
  deleted index =
      told (core.delete_refusal (core_of b) index) (core.changed_by (notations_in b) (core.without_sheet index) (core_of b)) [] (changed_by (with_removed_sheet index) b)
      (core_of-changed (with_removed_sheet index) (core.without_sheet index) (core_of-removed index) b)

  named : (name : List ℕ) (scope : Option ℕ) (body : Option Body) → core_of (with_new_definition b name scope body) ≡ core.with_new_definition (notations_in b) (core_of b) name scope body
  named name scope None = refl
  named name scope (Some body) =
      core_of-changed (with_definition (core.new_definition (notations_in b) (core_of b) name scope body)) (core.with_definition (core.new_definition (notations_in b) (core_of b) name scope body))
      (core_of-defined (core.new_definition (notations_in b) (core_of b) name scope body)) b

  sheets_are : (command : sheets.Sheets) → IsSteppedAs b (OnSheets command) (core_command (OnSheets command))
  unfolding core_step add_sheet_step rename_sheet_step rename_by_index_step move_sheet_step delete_sheet_step delete_by_name_step delete_by_id_step new_sheet_id_step
  sheets_are (sheets.AddSheet name) =
      told (core.add_sheet_refusal (core_of b) name) (core.changed_by (notations_in b) (core.with_new_sheet name) (core_of b)) [] (changed_by (with_new_sheet name) b)
      (core_of-changed (with_new_sheet name) (core.with_new_sheet name) (core_of-added name) b)
  sheets_are (sheets.RenameSheet old new) =
      told_found (core.index_of_name (core_of b) old) (λ index. core.rename_step (notations_in b) (core_of b) index new) (λ index. changed_by (with_renamed_sheet index new) b) (λ index. renamed index new)
  sheets_are (sheets.RenameSheetByIndex sheet name) = renamed sheet name
  sheets_are (sheets.MoveSheet sheet to) =
      told (core.move_refusal (core_of b) sheet to) (record (core_of b) { sheets = core.moved sheet to (core_of b).sheets }) [] (with_moved_sheet sheet to b) (core_of-moved sheet to b)
  sheets_are (sheets.DeleteSheet sheet) = deleted sheet
  sheets_are (sheets.DeleteSheetByName name) =
      told_found (core.index_of_name (core_of b) name) (λ index. core.delete_step (notations_in b) (core_of b) index) (λ index. changed_by (with_removed_sheet index) b) deleted
  sheets_are (sheets.DeleteSheetBySheetId id) =
      told_found (core.index_of_id (core_of b) id) (λ index. core.delete_step (notations_in b) (core_of b) index) (λ index. changed_by (with_removed_sheet index) b) deleted
  sheets_are sheets.GetNewSheetId = refl
  sheets_are command = tt

  definitions_are : (command : definitions.Definitions) → IsSteppedAs b (OnDefinitions command) (core_command (OnDefinitions command))
  unfolding core_step new_definition_step delete_definition_step valid_definition_step list_step
  definitions_are (definitions.NewDefinedName name scope body) =
      told (core.new_definition_refusal (notations_in b) (core_of b) name scope body) (core.with_new_definition (notations_in b) (core_of b) name (core.scope_or_none (core_of b) scope) (body_of (notations_in b) (core_of b) body)) []
      (with_new_definition b name (core.scope_or_none (core_of b) scope) (body_of (notations_in b) (core_of b) body)) (named name (core.scope_or_none (core_of b) scope) (body_of (notations_in b) (core_of b) body))
  definitions_are (definitions.DeleteDefinedName name scope) =
      told (core.delete_definition_refusal (core_of b) name scope) (core.changed_by (notations_in b) (core.without_definition (core.index_of_definition (core_of b) name (core.scope_or_none (core_of b) scope))) (core_of b)) []
      (changed_by (without_definition (core.index_of_definition (core_of b) name (core.scope_or_none (core_of b) scope))) b)
      (core_of-changed (without_definition (core.index_of_definition (core_of b) name (core.scope_or_none (core_of b) scope))) (core.without_definition (core.index_of_definition (core_of b) name (core.scope_or_none (core_of b) scope)))
      (core_of-undefined (core.index_of_definition (core_of b) name (core.scope_or_none (core_of b) scope))) b)
  definitions_are (definitions.IsValidDefinedName name scope body) = told (core.new_definition_refusal (notations_in b) (core_of b) name scope body) (core_of b) (commands.NumberField (core.scope_or_none (core_of b) scope) ∷ []) b refl
  definitions_are definitions.GetDefinedNameList = refl
  definitions_are command = tt

  notation_is : (command : notation.Notation) → IsSteppedAs b (OnNotation command) (core_command (OnNotation command))
  unfolding core_step set_locale_step set_language_step
  notation_is (notation.SetLocale id) = told (refusals.first_refusal ((not ((notations_in b).knows_locale id), refusals.InvalidLocale) ∷ [])) (record (core_of b) { locale = id }) [] (record b { locale = id }) refl
  notation_is (notation.SetLanguage id) = told (refusals.first_refusal ((not ((notations_in b).knows_language id), refusals.InvalidLanguage) ∷ [])) (record (core_of b) { language = id }) [] (record b { language = id }) refl
  notation_is command = tt

  reading_is : (command : reading.Reading) → IsSteppedAs b (OnReading command) (core_command (OnReading command))
  unfolding core_step cell_formula_step
  reading_is (reading.GetCellFormula sheet row column) = told _ _ _ b refl
  reading_is command = tt

  pub stepped : (command : Command) → IsSteppedAs b command (core_command command)
  stepped (OnSheets command) = sheets_are command
  stepped (OnDefinitions command) = definitions_are command
  stepped (OnNotation command) = notation_is command
  stepped (OnReading command) = reading_is command
  stepped command = tt
