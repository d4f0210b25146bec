-- The A1 form of a reference, in a cell. A position with a dollar sign is absolute, one without counts from the cell.
use Rattle.std.specs.Prelude.{◌≡◌, ℕ, ℤ, pos, ◌-ℤ◌, ◌≤ℤ◌, List, [], ◌∷◌, ◌++◌, Bool, true, false, ◌&&◌, ◌==◌, ◌⊎◌, nat_abs, Option, Some, None, option_map, option_and_then, if◌then◌else◌}
use Rattle.std.specs.Fmt.{decimal}
use Rattle.std.specs.Str.Parse.{digits_value}
use Rattle.std.specs.Ordering.{int_eq}
use Rattle.ic_laws.specs.declared.reference.TheConstants.{LAST_ROW, LAST_COLUMN}
use Rattle.ic_laws.specs.Character.{colon, dollar}
use Rattle.ic_laws.specs.Name.{names_row}
use Rattle.ic_laws.specs.Scan.{first_is, past_dollar}
use Rattle.ic_laws.specs.Position.{row_count, is_row, is_column, letters_number, names_column, place_at, is_inside}
use Rattle.ic_laws.specs.Tree.{is_written_sheet}
use Rattle.ic_laws.specs.declared.reference.Position.{Position}
use Rattle.ic_laws.specs.declared.reference.Position.TheVariants as at
use Rattle.ic_laws.specs.declared.reference.RefPart.{RefPart}
use Rattle.ic_laws.specs.declared.reference.Place.{Place}
use Rattle.ic_laws.specs.declared.reference.Place.TheVariants as places
use Rattle.ic_laws.specs.declared.reference.RefToken.{RefToken}
use Rattle.ic_refs.specs.Column.{column_letters}
use Rattle.ic_refs.specs.Digits.{decimal_from, letters_from}
use Rattle.ic_laws.specs.SheetText.{sheet_text}
use Rattle.ic_refs.specs.Sheet.{SpellsReference, or_else, reference_at}

-- an absolute position has a dollar sign
abbrev pub dollar_of : Position → List ℕ
dollar_of (at.Abs n) = dollar ∷ []
dollar_of (at.Rel k) = []

-- a column: its letters, after a dollar sign or not
pub record SpellsColumn (origin : ℤ) (text : List ℕ) (position : Position) : Type 0 where
  pub letters : List ℕ
  pub whole : text ≡ dollar_of position ++ letters
  pub named : names_column letters ≡ true
  pub place : place_at position origin ≡ pos (letters_number letters)

-- a row: its digits, after a dollar sign or not
pub record SpellsRow (origin : ℤ) (text : List ℕ) (position : Position) : Type 0 where
  pub digits : List ℕ
  pub whole : text ≡ dollar_of position ++ digits
  pub named : names_row digits ≡ true
  pub place : place_at position origin ≡ pos (digits_value 10 digits)

-- a cell: its column and its row
pub record SpellsCell (at_row at_column : ℤ) (text : List ℕ) (part : RefPart) : Type 0 where
  pub column_text : List ℕ
  pub row_text : List ℕ
  pub whole : text ≡ column_text ++ row_text
  pub column : SpellsColumn at_column column_text part.column
  pub row : SpellsRow at_row row_text part.row

-- what two corners have in common where they are whole columns, and where they are whole rows
abbrev pub AreWholeColumns : RefPart → RefPart → Type 0
AreWholeColumns first last = (first.row ≡ at.Abs (pos 1)) × (last.row ≡ at.Abs LAST_ROW)

abbrev pub AreWholeRows : RefPart → RefPart → Type 0
AreWholeRows first last = (first.column ≡ at.Abs (pos 1)) × (last.column ≡ at.Abs LAST_COLUMN)

-- the two corners of a range: two cells, or two columns that are whole, or two rows that are whole
abbrev pub SpellsCorners : ℤ → ℤ → List ℕ → List ℕ → RefPart → RefPart → Type 0
SpellsCorners row column a b first last =
    (SpellsCell row column a first × SpellsCell row column b last)
    ⊎ (AreWholeColumns first last × SpellsColumn column a first.column × SpellsColumn column b last.column)
    ⊎ (AreWholeRows first last × SpellsRow row a first.row × SpellsRow row b last.row)

-- a place: a cell, or two corners with a colon between them
abbrev pub SpellsPlace : ℤ → ℤ → List ℕ → Place → Type 0
SpellsPlace row column text (places.Cell part) = SpellsCell row column text part
SpellsPlace row column text (places.Range first last) =
    (a : List ℕ) × (b : List ℕ) × (text ≡ a ++ colon ∷ b) × SpellsCorners row column a b first last

-- the text is this reference in the A1 form, in a cell of the sheet
pub record SpellsA1 (row column : ℤ) (text : List ℕ) (token : RefToken) : Type 0 where
  pub in_row : is_row row ≡ true
  pub in_column : is_column column ≡ true
  pub reference : SpellsReference (SpellsPlace row column) text token

-- Spelling

abbrev pub column_text : ℤ → Position → List ℕ
column_text column position = dollar_of position ++ column_letters (nat_abs (place_at position column))

abbrev pub row_text : ℤ → Position → List ℕ
row_text row position = dollar_of position ++ decimal (nat_abs (place_at position row))

abbrev pub cell_text : ℤ → ℤ → RefPart → List ℕ
cell_text row column part = column_text column part.column ++ row_text row part.row

-- a position is the absolute one of this number
abbrev pub is_abs : Position → ℤ → Bool
is_abs (at.Abs n) m = int_eq n m
is_abs (at.Rel k) m = false

abbrev pub are_whole_columns : RefPart → RefPart → Bool
are_whole_columns first last = is_abs first.row (pos 1) && is_abs last.row LAST_ROW

abbrev pub are_whole_rows : RefPart → RefPart → Bool
are_whole_rows first last = is_abs first.column (pos 1) && is_abs last.column LAST_COLUMN

-- whole columns and whole rows have a short form, and columns come first
abbrev pub range_text : ℤ → ℤ → RefPart → RefPart → List ℕ
range_text row column first last =
    if are_whole_columns first last then column_text column first.column ++ colon ∷ column_text column last.column
    else if are_whole_rows first last then row_text row first.row ++ colon ∷ row_text row last.row
    else cell_text row column first ++ colon ∷ cell_text row column last

abbrev pub place_text : ℤ → ℤ → Place → List ℕ
place_text row column (places.Cell part) = cell_text row column part
place_text row column (places.Range first last) = range_text row column first last

-- a reference can be spelled in a cell where both lie in the sheet
abbrev pub is_spellable : ℤ → ℤ → RefToken → Bool
is_spellable row column token = is_row row && is_column column && is_inside token.place row column

-- it can be written so that it is read back: the name of its sheet, if it has one, is one that a sheet may have
abbrev pub is_shown_spellable : ℤ → ℤ → RefToken → Bool
is_shown_spellable row column token = is_spellable row column token && is_written_sheet token.sheet

abbrev pub a1_text : ℤ → ℤ → RefToken → Option (List ℕ)
a1_text row column token = if is_spellable row column token then Some (sheet_text token.sheet ++ place_text row column token.place) else None

-- Reading

-- a reference is read in a cell of the sheet, or from its corner, at row and column 0
abbrev pub IsAnOrigin : ℤ → ℤ → Type 0
IsAnOrigin row column = (pos 0 ≤ℤ row) × (row ≤ℤ LAST_ROW) × (pos 0 ≤ℤ column) × (column ≤ℤ LAST_COLUMN)

-- the position of this number, as it is written after a dollar sign or without
abbrev pub position_of : Bool → ℤ → ℕ → Position
position_of true origin n = at.Abs (pos n)
position_of false origin n = at.Rel (pos n -ℤ origin)

abbrev pub has_dollar : List ℕ → Bool
has_dollar text = first_is (λ c. c == dollar) text

-- the position of a number that was read; there is none where no digit or letter was, and no row and column is 0
abbrev pub read_position : Bool → ℤ → ℕ × List ℕ → Option (Position × List ℕ)
read_position absolute origin read = if read.0 == 0 then None else Some (position_of absolute origin read.0, read.1)

-- the column at the front, and the rest
abbrev pub column_at : ℤ → List ℕ → Option (Position × List ℕ)
column_at column text = read_position (has_dollar text) column (letters_from 0 (past_dollar text))

-- the row at the front, and the rest
abbrev pub row_at : ℤ → List ℕ → Option (Position × List ℕ)
row_at row text = read_position (has_dollar text) row (decimal_from row_count 0 (past_dollar text))

-- the cell at the front
abbrev pub cell_at : ℤ → ℤ → List ℕ → Option (RefPart × List ℕ)
cell_at row column text =
    option_and_then (λ c. option_map (λ r. (record { row = r.0; column = c.0 }, r.1)) (row_at row c.1)) (column_at column text)

-- what stands after a colon at the front
abbrev pub past_colon : List ℕ → Option (List ℕ)
past_colon [] = None
past_colon (c ∷ cs) = if c == colon then Some cs else None

-- two of a kind with a colon between them
abbrev pub pair_at : {T : Type 0} → (List ℕ → Option (T × List ℕ)) → List ℕ → Option ((T × T) × List ℕ)
pair_at read text =
    option_and_then (λ a. option_and_then (λ rest. option_map (λ b. ((a.0, b.0), b.1)) (read rest)) (past_colon a.1)) (read text)

-- all rows of these columns, and all columns of these rows
abbrev pub whole_columns : Position → Position → Place
whole_columns first last = places.Range (record { row = at.Abs (pos 1); column = first }) (record { row = at.Abs LAST_ROW; column = last })

abbrev pub whole_rows : Position → Position → Place
whole_rows first last = places.Range (record { row = first; column = at.Abs (pos 1) }) (record { row = last; column = at.Abs LAST_COLUMN })

-- the longest place at the front
abbrev pub a1_place_at : ℤ → ℤ → List ℕ → Option (Place × List ℕ)
a1_place_at row column text =
    or_else (option_map (λ f. (places.Range f.0.0 f.0.1, f.1)) (pair_at (cell_at row column) text))
    (or_else (option_map (λ f. (places.Cell f.0, f.1)) (cell_at row column text))
    (or_else (option_map (λ f. (whole_columns f.0.0 f.0.1, f.1)) (pair_at (column_at column) text))
    (option_map (λ f. (whole_rows f.0.0 f.0.1, f.1)) (pair_at (row_at row) text))))

-- the longest reference at the front, in a cell of the sheet
abbrev pub a1_at : ℤ → ℤ → List ℕ → Option (RefToken × List ℕ)
a1_at row column text = if is_row row && is_column column then reference_at (a1_place_at row column) text else None
