-- A step of the whole machine is seen by its core, and leaves beside it what stands beside.
use Rattle.std.proofs.Common.{◌≡◌, ℕ, List, [], ◌∷◌, ◌++◌, flat_map, Option, Some, None, Result, Ok, Err, option_map, slice_get, unwrap_or, refl, ap, ap₂, ◌∙◌}
use Rattle.std.specs.Prelude.{is_none}
use Rattle.ic_laws.specs.Character.{tab}
use Rattle.ic_laws.specs.Command as core
use Rattle.ic_laws.specs.CoreBook.{CoreBook}
use Rattle.ic_laws.specs.CoreStep.{Outcome, core_step, index_of_definition, index_of_id, index_of_name, scope_or_none}
use Rattle.ic_laws.specs.FormulaReading.{Body, body_of}
use Rattle.ic_laws.specs.Lines as lines
use Rattle.ic_laws.specs.Lines.{escaped}
use Rattle.ic_machine.specs.Book.{Book, Sheet, Stepped, as_core, core_of, found_or, notations_in, unless, unless_refused}
use Rattle.ic_machine.specs.Changed.{changed_by, with_moved_sheet, with_removed_sheet, with_renamed_sheet, without_definition}
use Rattle.ic_machine.specs.Core.{told_by, told_by_core, whole_command}
use Rattle.ic_machine.specs.Refusal.{InvalidSheet, NotAFormula, Refusal, first_refusal}
use Rattle.ic_machine.specs.Reply.{Field, field_word, of_core_field, of_core_fields, reply_text}
use Rattle.ic_machine.specs.Step.{outcome_of, step}
use Rattle.ic_machine.specs.InForce.{formula_typed}
use Rattle.ic_machine.specs.subjects.Writing.{formula_at_place, formula_step, formula_written, place_causes, with_written, write_causes}
use Rattle.ic_machine.specs.subjects.Definitions.{delete_definition_step, list_step, new_definition_step, valid_definition_step, with_new_definition}
use Rattle.ic_machine.specs.subjects.Notation.{set_language_step, set_locale_step}
use Rattle.ic_machine.specs.subjects.Reading.{cell_formula_step}
use Rattle.ic_machine.specs.subjects.Sheets.{with_new_sheet, add_sheet_step, delete_by_id_step, delete_by_name_step, delete_sheet_step, move_sheet_step, new_sheet_id_step, rename_by_index_step, rename_sheet_step}

-- Replies of both machines ----

field_same : (field : core.Field) → field_word (of_core_field field) ≡ tab ∷ escaped (core.field_text field)
field_same (core.TextField text) = refl
field_same (core.NumberField None) = refl
field_same (core.NumberField (Some n)) = refl

fields_same : (fields : List core.Field) → flat_map field_word (of_core_fields fields) ≡ flat_map (λ field. tab ∷ escaped (core.field_text field)) fields
fields_same [] = refl
fields_same (field ∷ fields) = ap₂ (λ (a b : List ℕ). a ++ b) (field_same field) (fields_same fields)

text_same : (fields : List core.Field) → reply_text (Ok (of_core_fields fields)) ≡ lines.reply_text (Ok fields)
text_same fields = ap (λ (t : List ℕ). lines.reply_text (Ok []) ++ t) (fields_same fields)

-- What is told of a step by its core ----

abbrev left_of : {A B E : Type 0} → A → Result (A × B) E → A
left_of a (Ok done) = done.0
left_of a (Err e) = a

abbrev fields_of : {A B E : Type 0} → B → Result (A × B) E → B
fields_of b (Ok done) = done.1
fields_of b (Err e) = b

abbrev refusal_in : {A E : Type 0} → E → Result A E → E
refusal_in e (Ok x) = e
refusal_in e (Err x) = x

module _ (b : Book) (c : CoreBook) (is : core_of b ≡ c) where
  -- what is left has the core that the identity machine leaves
  pub core_left : (made : Stepped Book) (o : Outcome) → told_by made ≡ told_by_core o → core_of (outcome_of b made).0 ≡ (lines.outcome_of c o).0
  core_left (Ok done) (Ok core) e = ap (left_of c) e
  core_left (Err refusal) (Err told) e = is
  core_left (Ok done) (Err told) e = cc
  core_left (Err refusal) (Ok core) e = cc

  -- and its reply is the identity machine's
  pub text_told : (made : Stepped Book) (o : Outcome) → told_by made ≡ told_by_core o → reply_text (outcome_of b made).1 ≡ lines.reply_text (lines.outcome_of c o).1
  text_told (Ok done) (Ok core) e = ap (λ (fields : List Field). reply_text (Ok fields)) (ap (fields_of []) e) ∙ text_same core.1
  text_told (Err refusal) (Err told) e = ap (λ (r : Refusal). reply_text (Err r)) (ap (refusal_in refusal) e)
  text_told (Ok done) (Err told) e = cc
  text_told (Err refusal) (Ok core) e = cc

-- Beside the core ----

pub record StandsBeside (old new : Book) : Type 0 where
  pub name : new.name ≡ old.name
  pub zone : new.zone ≡ old.zone
  pub theme : new.theme ≡ old.theme
  pub metadata : new.metadata ≡ old.metadata
  pub tables : new.tables ≡ old.tables

pub stands : (b : Book) → StandsBeside b b
stands b = record { name = refl; zone = refl; theme = refl; metadata = refl; tables = refl }

module _ (b : Book) where
  core_stands : (o : Outcome) (left : Book) → StandsBeside b left → StandsBeside b (outcome_of b (as_core o left)).0
  core_stands (Ok done) left h = h
  core_stands (Err refusal) left h = stands b

  defined : (name : List ℕ) (scope : Option ℕ) (body : Option Body) → StandsBeside b (with_new_definition b name scope body)
  defined name scope None = stands b
  defined name scope (Some body) = record { name = refl; zone = refl; theme = refl; metadata = refl; tables = refl }

  undefined : (index : Option ℕ) → StandsBeside b (changed_by (without_definition index) b)
  undefined None = record { name = refl; zone = refl; theme = refl; metadata = refl; tables = refl }
  undefined (Some index) = record { name = refl; zone = refl; theme = refl; metadata = refl; tables = refl }

  unless_stands : (refusal : Option Refusal) (left : Book) (fields : List Field) → StandsBeside b left → StandsBeside b (outcome_of b (unless refusal left fields)).0
  unless_stands (Some refusal) left fields h = stands b
  unless_stands None left fields h = h

  found_stands : (refusal : Refusal) (sheet : Option Sheet) (step : Sheet → Stepped Book) → ((s : Sheet) → StandsBeside b (outcome_of b (step s)).0) → StandsBeside b (outcome_of b (found_or refusal (option_map step sheet))).0
  found_stands refusal None step h = stands b
  found_stands refusal (Some s) step h = h s

  -- a command of the identity machine leaves what stands beside the core
  pub stands_beside : (k : core.Command) → StandsBeside b (outcome_of b (step b (whole_command k))).0
  unfolding add_sheet_step rename_sheet_step rename_by_index_step move_sheet_step delete_sheet_step delete_by_name_step delete_by_id_step new_sheet_id_step new_definition_step delete_definition_step valid_definition_step list_step set_locale_step set_language_step cell_formula_step formula_step
  stands_beside (core.AddSheet name) = core_stands (core_step (notations_in b) (core_of b) (core.AddSheet name)) (changed_by (with_new_sheet name) b) (record { name = refl; zone = refl; theme = refl; metadata = refl; tables = refl })
  stands_beside (core.RenameSheet old new) = core_stands (core_step (notations_in b) (core_of b) (core.RenameSheet old new)) (changed_by (with_renamed_sheet (unwrap_or (index_of_name (core_of b) old) 0) new) b) (record { name = refl; zone = refl; theme = refl; metadata = refl; tables = refl })
  stands_beside (core.RenameSheetByIndex sheet name) = core_stands (core_step (notations_in b) (core_of b) (core.RenameSheetByIndex sheet name)) (changed_by (with_renamed_sheet sheet name) b) (record { name = refl; zone = refl; theme = refl; metadata = refl; tables = refl })
  stands_beside (core.MoveSheet sheet to) = core_stands (core_step (notations_in b) (core_of b) (core.MoveSheet sheet to)) (with_moved_sheet sheet to b) (record { name = refl; zone = refl; theme = refl; metadata = refl; tables = refl })
  stands_beside (core.DeleteSheet sheet) = core_stands (core_step (notations_in b) (core_of b) (core.DeleteSheet sheet)) (changed_by (with_removed_sheet sheet) b) (record { name = refl; zone = refl; theme = refl; metadata = refl; tables = refl })
  stands_beside (core.DeleteSheetByName name) = core_stands (core_step (notations_in b) (core_of b) (core.DeleteSheetByName name)) (changed_by (with_removed_sheet (unwrap_or (index_of_name (core_of b) name) 0)) b) (record { name = refl; zone = refl; theme = refl; metadata = refl; tables = refl })
  stands_beside (core.DeleteSheetBySheetId id) = core_stands (core_step (notations_in b) (core_of b) (core.DeleteSheetBySheetId id)) (changed_by (with_removed_sheet (unwrap_or (index_of_id (core_of b) id) 0)) b) (record { name = refl; zone = refl; theme = refl; metadata = refl; tables = refl })
  stands_beside (core.SetLocale id) = core_stands (core_step (notations_in b) (core_of b) (core.SetLocale id)) (record b { locale = id }) (record { name = refl; zone = refl; theme = refl; metadata = refl; tables = refl })
  stands_beside (core.SetLanguage id) = core_stands (core_step (notations_in b) (core_of b) (core.SetLanguage id)) (record b { language = id }) (record { name = refl; zone = refl; theme = refl; metadata = refl; tables = refl })
  stands_beside (core.NewDefinedName name scope body) =
      core_stands (core_step (notations_in b) (core_of b) (core.NewDefinedName name scope body)) (with_new_definition b name (scope_or_none (core_of b) scope) (body_of (notations_in b) (core_of b) body)) (defined name (scope_or_none (core_of b) scope) (body_of (notations_in b) (core_of b) body))
  stands_beside (core.DeleteDefinedName name scope) =
      core_stands (core_step (notations_in b) (core_of b) (core.DeleteDefinedName name scope)) (changed_by (without_definition (index_of_definition (core_of b) name (scope_or_none (core_of b) scope))) b) (undefined (index_of_definition (core_of b) name (scope_or_none (core_of b) scope)))
  stands_beside (core.IsValidDefinedName name scope body) = core_stands (core_step (notations_in b) (core_of b) (core.IsValidDefinedName name scope body)) b (stands b)
  stands_beside core.GetDefinedNameList = core_stands (core_step (notations_in b) (core_of b) core.GetDefinedNameList) b (stands b)
  stands_beside core.GetNewSheetId = core_stands (core_step (notations_in b) (core_of b) core.GetNewSheetId) b (stands b)
  stands_beside (core.GetCellFormula sheet row column) = core_stands (core_step (notations_in b) (core_of b) (core.GetCellFormula sheet row column)) b (stands b)
  stands_beside (core.UpdateCellWithFormula sheet row column text) =
      let w = λ (s : Sheet). formula_written b s (formula_at_place b s (row, column) (unwrap_or (formula_typed b text) [])) in
      let causes = λ (s : Sheet). place_causes (row, column) ++ (write_causes s (row, column) ++ (is_none (formula_typed b text), NotAFormula) ∷ []) in
      let left = λ (s : Sheet). with_written b sheet s (row, column) (w s) in
      found_stands InvalidSheet (slice_get b.sheets sheet) (λ s. unless_refused (causes s) (left s) []) (λ s. unless_stands (first_refusal (causes s)) (left s) [] (record { name = refl; zone = refl; theme = refl; metadata = refl; tables = refl }))
