-- The commands on sheets and on definitions keep what always holds of a book.
use Rattle.std.proofs.Common.{ℕ, Option, refl}
use Rattle.std.specs.Prelude.{unwrap_or}
use Rattle.ic_laws.specs.Command as core
use Rattle.ic_laws.specs.CoreStep.{core_step, index_of_definition, index_of_id, index_of_name, scope_or_none}
use Rattle.ic_laws.specs.FormulaReading.{body_of}
use Rattle.ic_machine.specs.Book.{Book, core_of, notations_in}
use Rattle.ic_machine.specs.Changed.{changed_by, with_removed_sheet, with_renamed_sheet, without_definition}
use Rattle.ic_machine.specs.Command.{OnDefinitions, OnSheets}
use Rattle.ic_machine.specs.Kept.{StaysValid, StaysValidIf, gives_id, is_given_id}
use Rattle.ic_machine.specs.Valid.{IsValidBook}
use Rattle.ic_machine.specs.subjects.Definitions as definitions
use Rattle.ic_machine.specs.subjects.Definitions.{delete_definition_step, definition_step, new_definition_step, with_new_definition}
use Rattle.ic_machine.specs.subjects.Sheets as sheets
use Rattle.ic_machine.specs.subjects.Sheets.{add_sheet_step, delete_by_id_step, delete_by_name_step, delete_sheet_step, move_sheet_step, rename_by_index_step, rename_sheet_step, sheet_step, with_new_sheet}
use Rattle.ic_machine.proofs.kinds.ReaderLemmas.{readers_leave}
use Rattle.ic_machine.proofs.valid.UpdatedStays.{update_name_stays}
use Rattle.ic_machine.proofs.valid.ValidLemmas.{by_asking, stays_leaving}
use Rattle.ic_machine.proofs.valid.DuplicatedStays.{duplicate_stays}
use Rattle.ic_machine.proofs.valid.InsertedStays.{insert_stays}
use Rattle.ic_machine.proofs.valid.NewSheetStays.{new_sheet_stays}
use Rattle.ic_machine.proofs.valid.SheetsStay.{added_stays, move_stays, named_stays, removed_stays, renamed_stays, stays_lifted, undefined_stays}

-- what is asked of a command where a test is passed

module _ (b : Book) (valid : IsValidBook b) where
  pub sheets_stay : (command : sheets.Sheets) → StaysValidIf (gives_id command) (sheet_step b command)
  unfolding add_sheet_step rename_sheet_step rename_by_index_step delete_sheet_step delete_by_name_step delete_by_id_step move_sheet_step
  sheets_stay (sheets.AddSheet name) =
      stays_lifted b valid (OnSheets (sheets.AddSheet name)) (core.AddSheet name) (changed_by (with_new_sheet name) b) refl (core_step (notations_in b) (core_of b) (core.AddSheet name)) refl (added_stays b valid name)
  sheets_stay (sheets.RenameSheet old new) =
      let index : ℕ = unwrap_or (index_of_name (core_of b) old) 0 in
      stays_lifted b valid (OnSheets (sheets.RenameSheet old new)) (core.RenameSheet old new) (changed_by (with_renamed_sheet index new) b) refl (core_step (notations_in b) (core_of b) (core.RenameSheet old new)) refl (renamed_stays b valid index new)
  sheets_stay (sheets.RenameSheetByIndex sheet name) =
      stays_lifted b valid (OnSheets (sheets.RenameSheetByIndex sheet name)) (core.RenameSheetByIndex sheet name) (changed_by (with_renamed_sheet sheet name) b) refl (core_step (notations_in b) (core_of b) (core.RenameSheetByIndex sheet name)) refl
      (renamed_stays b valid sheet name)
  sheets_stay (sheets.MoveSheet sheet to) = move_stays b valid sheet to (core_step (notations_in b) (core_of b) (core.MoveSheet sheet to)) refl
  sheets_stay (sheets.DeleteSheet sheet) =
      stays_lifted b valid (OnSheets (sheets.DeleteSheet sheet)) (core.DeleteSheet sheet) (changed_by (with_removed_sheet sheet) b) refl (core_step (notations_in b) (core_of b) (core.DeleteSheet sheet)) refl (removed_stays b valid sheet)
  sheets_stay (sheets.DeleteSheetByName name) =
      let index : ℕ = unwrap_or (index_of_name (core_of b) name) 0 in
      stays_lifted b valid (OnSheets (sheets.DeleteSheetByName name)) (core.DeleteSheetByName name) (changed_by (with_removed_sheet index) b) refl (core_step (notations_in b) (core_of b) (core.DeleteSheetByName name)) refl (removed_stays b valid index)
  sheets_stay (sheets.DeleteSheetBySheetId id) =
      let index : ℕ = unwrap_or (index_of_id (core_of b) id) 0 in
      stays_lifted b valid (OnSheets (sheets.DeleteSheetBySheetId id)) (core.DeleteSheetBySheetId id) (changed_by (with_removed_sheet index) b) refl (core_step (notations_in b) (core_of b) (core.DeleteSheetBySheetId id)) refl (removed_stays b valid index)
  sheets_stay (sheets.InsertSheet name index id) = by_asking (is_given_id id) _ (insert_stays b valid name index id)
  sheets_stay sheets.NewSheet = new_sheet_stays b valid
  sheets_stay (sheets.DuplicateSheet sheet) = duplicate_stays b valid sheet
  sheets_stay command = stays_leaving b valid _ (readers_leave b (OnSheets command))

  pub definitions_stay : (command : definitions.Definitions) → StaysValid (definition_step b command)
  unfolding new_definition_step delete_definition_step
  definitions_stay (definitions.NewDefinedName name scope body) =
      let left : Book = with_new_definition b name (scope_or_none (core_of b) scope) (body_of (notations_in b) (core_of b) body) in
      stays_lifted b valid (OnDefinitions (definitions.NewDefinedName name scope body)) (core.NewDefinedName name scope body) left refl (core_step (notations_in b) (core_of b) (core.NewDefinedName name scope body)) refl
      (named_stays b valid name (scope_or_none (core_of b) scope) (body_of (notations_in b) (core_of b) body))
  definitions_stay (definitions.DeleteDefinedName name scope) =
      let index : Option ℕ = index_of_definition (core_of b) name (scope_or_none (core_of b) scope) in
      stays_lifted b valid (OnDefinitions (definitions.DeleteDefinedName name scope)) (core.DeleteDefinedName name scope) (changed_by (without_definition index) b) refl (core_step (notations_in b) (core_of b) (core.DeleteDefinedName name scope)) refl
      (undefined_stays b valid index)
  definitions_stay (definitions.UpdateDefinedName update) = update_name_stays b valid update
  definitions_stay command = stays_leaving b valid _ (readers_leave b (OnDefinitions command))
