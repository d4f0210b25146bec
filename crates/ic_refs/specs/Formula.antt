-- What a whole text refers to, in the A1 form.
use Rattle.std.specs.Prelude.{◌≡◌, ℕ, pos, List, [], ◌∷◌, Bool, true, false, reverse, Option, Some, None, Result, Ok, Err, option_map, if◌then◌else◌}
use Rattle.std.specs.List.{list_all}
use Rattle.ic_laws.specs.Scan.{is_blank, is_word_character, past_run}
use Rattle.ic_laws.specs.Position.{place_at}
use Rattle.ic_laws.specs.declared.reference.Position.{Position}
use Rattle.ic_laws.specs.declared.reference.Position.TheVariants as at
use Rattle.ic_laws.specs.declared.reference.RefPart.{RefPart}
use Rattle.ic_laws.specs.declared.reference.Place.{Place}
use Rattle.ic_laws.specs.declared.reference.Place.TheVariants as places
use Rattle.ic_laws.specs.declared.reference.RefToken.{RefToken}
use Rattle.ic_refs.specs.declared.error.ReferenceError.{ReferenceError}
use Rattle.ic_refs.specs.declared.error.ReferenceError.TheVariants as errors
use Rattle.ic_refs.specs.declared.reference.CellReferenceIndex.{CellReferenceIndex}
use Rattle.ic_refs.specs.declared.reference.A1Reference.{A1Reference}
use Rattle.ic_refs.specs.declared.reference.ParsedReference.{ParsedReference}
use Rattle.ic_refs.specs.declared.reference.ParsedReference.TheVariants as parsed
use Rattle.ic_refs.specs.A1.{cell_at, a1_place_at}
use Rattle.ic_refs.specs.Sheet.{reference_at}

-- A whole text is read as if by a cell at row and column 0, where each position counts from the corner of the sheet.

-- what the whole text is, by what reads at its front
abbrev pub whole_of : {T : Type 0} → Option (T × List ℕ) → Option T
whole_of None = None
whole_of (Some (value, [])) = Some value
whole_of (Some (value, c ∷ rest)) = None

abbrev pub is_absolute : Position → Bool
is_absolute (at.Abs n) = true
is_absolute (at.Rel k) = false

-- a cell with its numbers and its dollar signs
abbrev pub a1_reference : RefPart → A1Reference
a1_reference part = record {
  row = place_at part.row (pos 0);
  column = place_at part.column (pos 0);
  absolute_row = is_absolute part.row;
  absolute_column = is_absolute part.column;
}

-- the cell that the whole text is
abbrev pub a1_cell_of : List ℕ → Option A1Reference
a1_cell_of text = option_map a1_reference (whole_of (cell_at (pos 0) (pos 0) text))

-- without the blanks at both ends
abbrev pub trimmed : List ℕ → List ℕ
trimmed text = reverse (past_run is_blank (reverse (past_run is_blank text)))

-- what stands in place of a reference: a word or nothing, or anything else
abbrev pub not_a_reference : List ℕ → ReferenceError
not_a_reference text = if list_all is_word_character text then errors.NotReference else errors.OneToken

abbrev pub found_or : {T : Type 0} → ReferenceError → Option T → Result T ReferenceError
found_or e None = Err e
found_or e (Some x) = Ok x

-- the reference that the whole text is, but for blanks
abbrev pub formula_token : List ℕ → Result RefToken ReferenceError
formula_token text = found_or (not_a_reference (trimmed text)) (whole_of (reference_at (a1_place_at (pos 0) (pos 0)) (trimmed text)))

-- a corner on a sheet
abbrev pub cell_on : ℕ → RefPart → CellReferenceIndex
cell_on sheet part = record { sheet = sheet; row = place_at part.row (pos 0); column = place_at part.column (pos 0) }

-- a place on a sheet, its corners as they are written
abbrev pub place_on : Place → ℕ → ParsedReference
place_on (places.Cell part) sheet = parsed.CellReference (cell_on sheet part)
place_on (places.Range first last) sheet = parsed.Range (cell_on sheet first) (cell_on sheet last)

-- The sheet that a reference is on: the one that is known where no name is written, else what was answered for the
-- name.
abbrev pub IsSheetOf : (List ℕ → Option ℕ → Type 0) → Option ℕ → Option (List ℕ) → Result ℕ ReferenceError → Type 0
IsSheetOf Answers known None found = found ≡ found_or errors.NoSheetKnown known
IsSheetOf Answers known (Some name) found = (answer : Option ℕ) × Answers name answer × (found ≡ found_or (errors.SheetUnknown name) answer)

-- a result, unless memory ran out
abbrev pub UnlessMemory : {T : Type 0} → Result T ReferenceError → (Result T ReferenceError → Type 0) → Type 0
UnlessMemory (Err errors.OutOfMemory) P = Unit {0}
UnlessMemory result P = P result

infixl 10 ◌>>=◌
abbrev pub ◌>>=◌ : {A B : Type 0} → Result A ReferenceError → (A → Result B ReferenceError) → Result B ReferenceError
(Ok x) >>= f = f x
(Err e) >>= f = Err e

-- What the text refers to: first what it spells, then its sheet.
abbrev pub ParsesFormula : (List ℕ → Option ℕ → Type 0) → Option ℕ → Result RefToken ReferenceError → Result ParsedReference ReferenceError → Type 0
ParsesFormula Answers context (Err e) result = result ≡ Err e
ParsesFormula Answers context (Ok token) result =
    (sheet : Result ℕ ReferenceError) × IsSheetOf Answers context token.sheet sheet × (result ≡ (sheet >>= λ s. Ok (place_on token.place s)))
