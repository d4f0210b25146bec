-- Where nothing refuses a command, the machine accepts it, and leaves the book that the command names.
use Rattle.std.proofs.Common.{◌≡◌, ℕ, List, [], ◌∷◌, not, Option, None, Ok, ap}
use Rattle.ic_laws.specs.Command.{AddSheet, DeleteDefinedName, DeleteSheet, MoveSheet, NewDefinedName, RenameSheetByIndex, SetLanguage, SetLocale}
use Rattle.ic_laws.specs.CoreBook.{CoreBook}
use Rattle.ic_laws.specs.CoreStep.{add_sheet_refusal, changed_by, core_step, delete_definition_refusal, delete_refusal, index_of_definition, move_refusal, moved, new_definition_refusal, scope_or_none, with_new_definition, without_definition, rename_refusal, unless_refused, with_new_sheet, with_sheet_name, without_sheet}
use Rattle.ic_laws.specs.FormulaReading.{body_of}
use Rattle.ic_laws.specs.Notations.{Notations}
use Rattle.ic_laws.specs.Refusal.{InvalidLanguage, InvalidLocale, first_refusal}

module _ (n : Notations) (core : CoreBook) where
  pub add_accepted : (name : List ℕ) → add_sheet_refusal core name ≡ None → core_step n core (AddSheet name) ≡ Ok (changed_by n (with_new_sheet name) core, [])
  unfolding core_step
  add_accepted name e = ap (λ r. unless_refused r (changed_by n (with_new_sheet name) core) []) e

  pub rename_accepted : (index : ℕ) (name : List ℕ) → rename_refusal core index name ≡ None → core_step n core (RenameSheetByIndex index name) ≡ Ok (changed_by n (with_sheet_name index name) core, [])
  unfolding core_step
  rename_accepted index name e = ap (λ r. unless_refused r (changed_by n (with_sheet_name index name) core) []) e

  pub new_definition_accepted : (name : List ℕ) (index : Option ℕ) (text : List ℕ) → new_definition_refusal n core name index text ≡ None
      → core_step n core (NewDefinedName name index text) ≡ Ok (with_new_definition n core name (scope_or_none core index) (body_of n core text), [])
  unfolding core_step
  new_definition_accepted name index text e = ap (λ r. unless_refused r (with_new_definition n core name (scope_or_none core index) (body_of n core text)) []) e

  pub delete_definition_accepted : (name : List ℕ) (index : Option ℕ) → delete_definition_refusal core name index ≡ None
      → core_step n core (DeleteDefinedName name index) ≡ Ok (changed_by n (without_definition (index_of_definition core name (scope_or_none core index))) core, [])
  unfolding core_step
  delete_definition_accepted name index e = ap (λ r. unless_refused r (changed_by n (without_definition (index_of_definition core name (scope_or_none core index))) core) []) e

  pub move_accepted : (from to : ℕ) → move_refusal core from to ≡ None → core_step n core (MoveSheet from to) ≡ Ok (record core { sheets = moved from to core.sheets }, [])
  unfolding core_step
  move_accepted from to e = ap (λ r. unless_refused r (record core { sheets = moved from to core.sheets }) []) e

  pub delete_accepted : (index : ℕ) → delete_refusal core index ≡ None → core_step n core (DeleteSheet index) ≡ Ok (changed_by n (without_sheet index) core, [])
  unfolding core_step
  delete_accepted index e = ap (λ r. unless_refused r (changed_by n (without_sheet index) core) []) e

  pub locale_accepted : (id : List ℕ) → first_refusal ((not (n.knows_locale id), InvalidLocale) ∷ []) ≡ None → core_step n core (SetLocale id) ≡ Ok (record core { locale = id }, [])
  unfolding core_step
  locale_accepted id e = ap (λ r. unless_refused r (record core { locale = id }) []) e

  pub language_accepted : (id : List ℕ) → first_refusal ((not (n.knows_language id), InvalidLanguage) ∷ []) ≡ None → core_step n core (SetLanguage id) ≡ Ok (record core { language = id }, [])
  unfolding core_step
  language_accepted id e = ap (λ r. unless_refused r (record core { language = id }) []) e
