-- What the steps answer that ask a workbook which is handed in for its conditions, one after another.
use Rattle.std.specs.Prelude.{◌≡◌, ◌<◌, ◌≤◌, ℕ, List, [], Some, None, map, length, true, ◌==◌}
use Rattle.std.specs.List.{AllByRecursion, IsDistinct}
use Rattle.ic_laws.specs.Character.{equals}
use Rattle.ic_laws.specs.CoreBook.{Definition, last_id}
use Rattle.ic_laws.specs.Name.{is_identifier, is_sheet_name}
use Rattle.ic_laws.specs.Refusal.{InvalidLanguage, InvalidLocale, InvalidTimezone}
use Rattle.ic_laws.specs.Scan.{first_is}
use Rattle.ic_laws.specs.Scene.{key_of, same_key}
use Rattle.ic_laws.specs.ValidCore.{IsScope}
use Rattle.ic_laws.specs.declared.tree.Formula.TheVariants as formulas
use Rattle.ic_laws.specs.declared.tree.NameKey.{NameKey}
use Rattle.ic_cells.specs.declared.sheet.Worksheet.{Worksheet}
use Rattle.ic_cells.specs.declared.workbook.DefinedName.{DefinedName}
use Rattle.ic_cells.specs.declared.workbook.Workbook.{Workbook}
use Rattle.ic_sheets.specs.Records.{HasApartNames}
use Rattle.ic_tables.specs.Tables.{TableSet}
use Rattle.ic_workbooks.specs.HandedIn.{Condition, IsFirstBroken, Meets, MeetsAll, notation_refusal, number_of}
use Rattle.ic_parts.specs.declared.error.BookError.{BookError}
use Rattle.ic_parts.specs.declared.error.BookError.TheVariants as errors

-- an error of a step: that memory ran out, or the number of the condition, which isn't met
abbrev pub Breaks : ℕ → Type 0 → BookError → Type 0
Breaks number Met errors.OutOfMemory = Unit {0}
Breaks number Met (errors.BadWorkbook n) = (n ≡ number) × (Met → ⊥)
Breaks number Met e = ⊥

-- there is a sheet, and there are no more than ids
pub record HasCount (worksheets : List Worksheet) : Type 0 where
  pub some : 0 < length worksheets
  pub few : length worksheets ≤ last_id

-- each name is that of a sheet, and no two agree
pub record HasNames (worksheets : List Worksheet) : Type 0 where
  pub each : AllByRecursion (λ (w : Worksheet). is_sheet_name w.name ≡ true) worksheets
  pub differ : HasApartNames worksheets

-- the key of a definition
abbrev pub key_in : DefinedName → NameKey
key_in d = key_of (record { name = d.name; scope = d.sheet_id })

-- its name is an identifier, and its scope an id
pub record IsDefined (d : DefinedName) : Type 0 where
  pub name : is_identifier d.name ≡ true
  pub scope : IsScope d.sheet_id

-- each is so, and no two have one key
pub record AreDefined (names : List DefinedName) : Type 0 where
  pub each : AllByRecursion IsDefined names
  pub differ : IsDistinct same_key (map key_in names)

-- a definition whose body isn't read yet: it has an empty text
abbrev pub unread : DefinedName → Definition
unread d = record {
  name = d.name;
  scope = d.sheet_id;
  has_equals = first_is (λ c. c == equals) d.formula;
  body = formulas.Raw [];
}

-- Of a whole workbook. ----

-- the first conditions, so many, are met
abbrev pub MeetsTo : ℕ → Workbook → List ℕ → TableSet → Type 0
MeetsTo count w language tables = (condition : Condition) → number_of condition ≤ count → Meets w language tables condition

-- an error of the steps together: that memory ran out, or the number of the first condition that isn't met, which is the
-- same in each language
abbrev pub TellsFirst : Workbook → TableSet → BookError → Type 0
TellsFirst w tables errors.OutOfMemory = Unit {0}
TellsFirst w tables (errors.BadWorkbook n) = (language : List ℕ) → IsFirstBroken w language tables n
TellsFirst w tables e = ⊥

-- A workbook that is taken in: nothing refuses its locale, its zone or the language, and it meets all conditions.
pub record IsTakenIn (w : Workbook) (language : List ℕ) (tables : TableSet) : Type 0 where
  pub free : notation_refusal w language tables ≡ None
  pub meets : MeetsAll w language tables

-- What an error of the call that takes a workbook in tells: what refuses its locale, its zone or the language; where nothing
-- does, the number of the first condition that isn't met, or that memory ran out.
abbrev pub TellsHandedIn : Workbook → List ℕ → TableSet → BookError → Type 0
TellsHandedIn w language tables errors.InvalidLocale = notation_refusal w language tables ≡ Some InvalidLocale
TellsHandedIn w language tables errors.InvalidTimezone = notation_refusal w language tables ≡ Some InvalidTimezone
TellsHandedIn w language tables errors.InvalidLanguage = notation_refusal w language tables ≡ Some InvalidLanguage
TellsHandedIn w language tables (errors.BadWorkbook n) = (notation_refusal w language tables ≡ None) × IsFirstBroken w language tables n
TellsHandedIn w language tables errors.OutOfMemory = notation_refusal w language tables ≡ None
TellsHandedIn w language tables e = ⊥
