-- What a whole text refers to in the A1 form, as a relation.
use Rattle.std.specs.Prelude.{◌≡◌, ℕ, pos, List, ◌++◌, ◌⊎◌, true, false, reverse, Option, Result, Ok, Err}
use Rattle.std.specs.List.{list_all}
use Rattle.ic_laws.specs.Scan.{first_is, is_blank}
use Rattle.ic_laws.specs.declared.reference.RefToken.{RefToken}
use Rattle.ic_refs.specs.declared.error.ReferenceError.{ReferenceError}
use Rattle.ic_refs.specs.declared.error.ReferenceError.TheVariants as errors
use Rattle.ic_refs.specs.declared.reference.ParsedReference.{ParsedReference}
use Rattle.ic_refs.specs.A1.{SpellsPlace}
use Rattle.ic_refs.specs.Formula.{IsSheetOf, not_a_reference, place_on, trimmed}
use Rattle.ic_refs.specs.Sheet.{SpellsReference}

-- what is left of a text without the blanks at both ends
pub record IsTrimmedOf (text core : List ℕ) : Type 0 where
  pub before : List ℕ
  pub after : List ℕ
  pub whole : text ≡ before ++ (core ++ after)
  pub blank_before : list_all is_blank before ≡ true
  pub blank_after : list_all is_blank after ≡ true
  pub begins : first_is is_blank core ≡ false
  pub ends : first_is is_blank (reverse core) ≡ false

-- the whole text, but for blanks, is this reference; each position is counted from the corner of the sheet
abbrev pub SpellsFormula : List ℕ → RefToken → Type 0
SpellsFormula text token = (core : List ℕ) × IsTrimmedOf text core × SpellsReference (SpellsPlace (pos 0) (pos 0)) core token

-- What is answered is what the text spells, and that alone. An error is told where it spells no reference, or the
-- sheet of its reference isn't known, or memory ran out.
abbrev pub TellsFormula : (List ℕ → Option ℕ → Type 0) → Option ℕ → List ℕ → Result ParsedReference ReferenceError → Type 0
TellsFormula Answers context text (Ok found) =
    (token : RefToken) × (sheet : ℕ) × SpellsFormula text token × IsSheetOf Answers context token.sheet (Ok sheet) × (found ≡ place_on token.place sheet)
    × ((other : RefToken) → SpellsFormula text other → other ≡ token)
TellsFormula Answers context text (Err errors.OutOfMemory) = Unit {0}
TellsFormula Answers context text (Err e) =
    ((e ≡ not_a_reference (trimmed text)) × ((token : RefToken) → SpellsFormula text token → ⊥))
    ⊎ ((token : RefToken) × SpellsFormula text token × IsSheetOf Answers context token.sheet (Err e))
