-- The R1C1 form of a reference, as a relation: what a whole text refers to, relative to a cell of the sheet.
use Rattle.std.specs.Prelude.{◌≡◌, ℕ, ℤ, pos, ◌+ℤ◌, ◌-ℤ◌, ◌≤ℤ◌, ◌<◌, List, [], ◌∷◌, ◌++◌, true, false, ◌&&◌, ◌⊎◌, is_some, nat_abs, Option, Some, None, Result, Ok, Err}
use Rattle.std.specs.List.{list_any}
use Rattle.ic_laws.specs.Character.{bang, colon, open_square}
use Rattle.ic_laws.specs.Name.{is_r, is_c, in_quotes}
use Rattle.ic_laws.specs.Position.{row_count, column_count}
use Rattle.ic_laws.specs.Scan.{first_is}
use Rattle.ic_refs.specs.declared.error.ReferenceError.{ReferenceError}
use Rattle.ic_refs.specs.declared.error.ReferenceError.TheVariants as errors
use Rattle.ic_refs.specs.declared.r1c1_ends.End.{End}
use Rattle.ic_refs.specs.declared.reference.CellReferenceIndex.{CellReferenceIndex}
use Rattle.ic_refs.specs.declared.reference.ParsedReference.{ParsedReference}
use Rattle.ic_refs.specs.declared.reference.ParsedReference.TheVariants as parsed
use Rattle.ic_laws.specs.SheetText.{is_bang, is_quote}
use Rattle.ic_refs.specs.Stored.{SpellsNumber, SpellsDistance, close_square}

-- from 1 to the length of the sheet
abbrev pub IsNumberOf : ℕ → ℤ → Type 0
IsNumberOf length place = (pos 1 ≤ℤ place) × (place ≤ℤ pos length)

-- the row (the column) that lies so far from one of the sheet, round the end of the sheet
pub record LiesAway (length : ℕ) (origin k place : ℤ) : Type 0 where
  pub number : IsNumberOf length place
  pub away : (place ≡ origin +ℤ k) ⊎ (place ≡ origin +ℤ k -ℤ pos length) ⊎ (place ≡ origin +ℤ k +ℤ pos length)

-- what stands after the letter of a row (a column): nothing for that of the cell
abbrev pub SpellsSame : ℤ → List ℕ → ℤ → Type 0
SpellsSame origin text place = (text ≡ []) × (place ≡ origin)

-- a number for itself
abbrev pub SpellsAbsolute : ℕ → List ℕ → ℤ → Type 0
SpellsAbsolute length text place = (n : ℕ) × SpellsNumber text n × IsNumberOf length place × (place ≡ pos n)

-- an offset between brackets, less than the sheet's length
abbrev pub SpellsOffset : ℕ → ℤ → List ℕ → ℤ → Type 0
SpellsOffset length origin text place =
    (inner : List ℕ) × (k : ℤ) × (text ≡ open_square ∷ inner ++ close_square ∷ []) × SpellsDistance inner k × (nat_abs k < length)
    × LiesAway length origin k place

abbrev pub SpellsPart : ℕ → ℤ → List ℕ → ℤ → Type 0
SpellsPart length origin text place = SpellsSame origin text place ⊎ SpellsAbsolute length text place ⊎ SpellsOffset length origin text place

-- a row: R and its part; a column: C and its part
abbrev pub SpellsRowPart : CellReferenceIndex → List ℕ → ℤ → Type 0
SpellsRowPart cell text row = (r : ℕ) × (part : List ℕ) × (text ≡ r ∷ part) × (is_r r ≡ true) × SpellsPart row_count cell.row part row

abbrev pub SpellsColumnPart : CellReferenceIndex → List ℕ → ℤ → Type 0
SpellsColumnPart cell text column = (c : ℕ) × (part : List ℕ) × (text ≡ c ∷ part) × (is_c c ≡ true) × SpellsPart column_count cell.column part column

-- an end: a row and a column for a cell, a row alone for a whole row, a column alone for a whole column
abbrev pub SpellsEndOf : CellReferenceIndex → List ℕ → Option ℤ → Option ℤ → Type 0
SpellsEndOf cell text (Some row) (Some column) = (a : List ℕ) × (b : List ℕ) × (text ≡ a ++ b) × SpellsRowPart cell a row × SpellsColumnPart cell b column
SpellsEndOf cell text (Some row) None = SpellsRowPart cell text row
SpellsEndOf cell text None (Some column) = SpellsColumnPart cell text column
SpellsEndOf cell text None None = ⊥

abbrev pub SpellsEnd : CellReferenceIndex → List ℕ → End → Type 0
SpellsEnd cell text end = SpellsEndOf cell text end.row end.column

-- two ends with a colon between them, or a whole row or column that is both
abbrev pub SpellsEnds : CellReferenceIndex → List ℕ → End → End → Type 0
SpellsEnds cell text first last =
    ((a : List ℕ) × (b : List ℕ) × (text ≡ a ++ colon ∷ b) × SpellsEnd cell a first × SpellsEnd cell b last)
    ⊎ (SpellsEnd cell text first × (first ≡ last) × ((is_some first.row && is_some first.column) ≡ false))

-- from the lower to the higher of two rows (columns), or all of them where neither end has one
abbrev pub Spans : ℕ → Option ℤ → Option ℤ → ℤ → ℤ → Type 0
Spans length (Some a) (Some b) low high = ((a ≤ℤ b) × (low ≡ a) × (high ≡ b)) ⊎ ((b ≤ℤ a) × (low ≡ b) × (high ≡ a))
Spans length None None low high = (low ≡ pos 1) × (high ≡ pos length)
Spans length a b low high = ⊥

-- all cells between two ends of one kind, on a sheet
pub record IsAreaOf (sheet : ℕ) (a b : End) (first last : CellReferenceIndex) : Type 0 where
  pub rows : Spans row_count a.row b.row first.row last.row
  pub columns : Spans column_count a.column b.column first.column last.column
  pub first_sheet : first.sheet ≡ sheet
  pub last_sheet : last.sheet ≡ sheet

-- what the text refers to on a sheet: a cell alone is a cell, all else is a range
abbrev pub RefersTo : CellReferenceIndex → List ℕ → ℕ → ParsedReference → Type 0
RefersTo cell text sheet (parsed.CellReference target) =
    SpellsEnd cell text (record { row = Some target.row; column = Some target.column }) × (target.sheet ≡ sheet)
RefersTo cell text sheet (parsed.Range first last) = (a : End) × (b : End) × SpellsEnds cell text a b × IsAreaOf sheet a b first last

-- a sheet's name and the `!` after it are split off: the name stands between quotes, each of its own doubled, or it is
-- what stands before the first `!`; without a name there is no `!`
abbrev pub SplitsSheet : List ℕ → Option (List ℕ) → List ℕ → Type 0
SplitsSheet text None rest = (text ≡ rest) × (first_is is_quote text ≡ false) × (list_any is_bang text ≡ false)
SplitsSheet text (Some name) rest =
    (text ≡ in_quotes name ++ bang ∷ rest)
    ⊎ ((text ≡ name ++ bang ∷ rest) × (first_is is_quote text ≡ false) × (list_any is_bang name ≡ false))

-- the whole text is this name of a sheet or none, and refers to this on a sheet
abbrev pub SpellsR1C1 : CellReferenceIndex → List ℕ → Option (List ℕ) → ℕ → ParsedReference → Type 0
SpellsR1C1 cell text name sheet found = (rest : List ℕ) × SplitsSheet text name rest × RefersTo cell rest sheet found

-- the sheet: that of the cell where no name is written, else the one that was answered for the name
abbrev pub IsOnSheet : (List ℕ → Option ℕ → Type 0) → CellReferenceIndex → Option (List ℕ) → ℕ → Type 0
IsOnSheet Answers cell None sheet = sheet ≡ cell.sheet
IsOnSheet Answers cell (Some name) sheet = Answers name (Some sheet)

-- no sheet is known by the name that the text begins with
abbrev pub HasUnknownSheet : (List ℕ → Option ℕ → Type 0) → List ℕ → ReferenceError → Type 0
HasUnknownSheet Answers text e = (name : List ℕ) × (rest : List ℕ) × SplitsSheet text (Some name) rest × Answers name None × (e ≡ errors.SheetUnknown name)

-- What is answered is what the text spells, and that alone. An error is told where it spells nothing, or no sheet has
-- its name, or memory ran out.
abbrev pub TellsR1C1 : (List ℕ → Option ℕ → Type 0) → CellReferenceIndex → List ℕ → Result ParsedReference ReferenceError → Type 0
TellsR1C1 Answers cell text (Ok found) =
    (name : Option (List ℕ)) × (sheet : ℕ) × IsOnSheet Answers cell name sheet × SpellsR1C1 cell text name sheet found
    × ((other_name : Option (List ℕ)) (other : ParsedReference) → SpellsR1C1 cell text other_name sheet other → (other_name ≡ name) × (other ≡ found))
TellsR1C1 Answers cell text (Err errors.OutOfMemory) = Unit {0}
TellsR1C1 Answers cell text (Err e) =
    HasUnknownSheet Answers text e ⊎ ((name : Option (List ℕ)) (sheet : ℕ) (found : ParsedReference) → SpellsR1C1 cell text name sheet found → ⊥)
