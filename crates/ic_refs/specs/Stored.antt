-- The stored form of a reference: rows and columns by number, each absolute or by its distance from the cell.
use Rattle.std.specs.Prelude.{◌≡◌, ◌≢◌, ◌⊎◌, ℕ, ℤ, pos, neg_ℤ, ◌-◌, List, [], ◌∷◌, ◌++◌, Bool, true, ◌&&◌, ◌==◌, Option, Some, None, option_map, option_and_then, if◌then◌else◌}
use Rattle.std.specs.Fmt.{signed_decimal}
use Rattle.std.specs.Str.{all_ascii_digits}
use Rattle.std.specs.Str.Parse.{digits_value}
use Rattle.ic_laws.specs.Character.{colon, minus, open_square, upper_c, upper_r}
use Rattle.ic_laws.specs.declared.reference.Position.{Position}
use Rattle.ic_laws.specs.declared.reference.Position.TheVariants as at
use Rattle.ic_laws.specs.declared.reference.RefPart.{RefPart}
use Rattle.ic_laws.specs.declared.reference.Place.{Place}
use Rattle.ic_laws.specs.declared.reference.Place.TheVariants as places
use Rattle.ic_laws.specs.declared.reference.RefToken.{RefToken}
use Rattle.ic_laws.specs.Scan.{is_digit, first_is}
use Rattle.ic_laws.specs.Position.{is_part_within, is_place_within, column_count, row_count}
use Rattle.ic_laws.specs.Tree.{is_written_sheet}
use Rattle.ic_refs.specs.Digits.{decimal_from}
use Rattle.ic_laws.specs.SheetText.{sheet_text}
use Rattle.ic_refs.specs.Sheet.{SpellsReference}

-- the bracket that closes a distance
abbrev pub close_square : ℕ
close_square = 93

-- the digits of a number, zeros in front or not
abbrev pub SpellsNumber : List ℕ → ℕ → Type 0
SpellsNumber digits n = (all_ascii_digits digits ≡ true) × (digits ≢ []) × (digits_value 10 digits ≡ n)

-- a distance: digits, after a `-` or not
abbrev pub SpellsDistance : List ℕ → ℤ → Type 0
SpellsDistance text k = (n : ℕ) × ((SpellsNumber text n × (k ≡ pos n)) ⊎ ((digits : List ℕ) × (text ≡ minus ∷ digits) × SpellsNumber digits n × (k ≡ neg_ℤ (pos n))))

-- a row or a column: its letter, and its number or the distance between brackets
abbrev pub SpellsPosition : ℕ → List ℕ → Position → Type 0
SpellsPosition letter text (at.Abs n) = (digits : List ℕ) × (m : ℕ) × (text ≡ letter ∷ digits) × SpellsNumber digits m × (n ≡ pos m)
SpellsPosition letter text (at.Rel k) = (inner : List ℕ) × (text ≡ letter ∷ open_square ∷ inner ++ close_square ∷ []) × SpellsDistance inner k

-- a cell: R and its row, C and its column
pub record SpellsCell (text : List ℕ) (part : RefPart) : Type 0 where
  pub row_text : List ℕ
  pub column_text : List ℕ
  pub whole : text ≡ row_text ++ column_text
  pub row : SpellsPosition upper_r row_text part.row
  pub column : SpellsPosition upper_c column_text part.column
  pub within : is_part_within part ≡ true

-- a place: a cell, or two cells with a colon between them
abbrev pub SpellsPlace : List ℕ → Place → Type 0
SpellsPlace text (places.Cell part) = SpellsCell text part
SpellsPlace text (places.Range first last) = (a : List ℕ) × (b : List ℕ) × (text ≡ a ++ colon ∷ b) × SpellsCell a first × SpellsCell b last

-- the text is this reference in the stored form
abbrev pub SpellsStored : List ℕ → RefToken → Type 0
SpellsStored text token = SpellsReference SpellsPlace text token

-- a reference can be written in the stored form: within the limits of the form, and with a name that a sheet may have,
-- if it has one
abbrev pub is_stored_spellable : RefToken → Bool
is_stored_spellable token = is_place_within token.place && is_written_sheet token.sheet

-- Spelling

abbrev pub position_text : ℕ → Position → List ℕ
position_text letter (at.Abs n) = letter ∷ signed_decimal n
position_text letter (at.Rel k) = letter ∷ open_square ∷ signed_decimal k ++ close_square ∷ []

abbrev pub cell_text : RefPart → List ℕ
cell_text part = position_text upper_r part.row ++ position_text upper_c part.column

abbrev pub place_text : Place → List ℕ
place_text (places.Cell part) = cell_text part
place_text (places.Range first last) = cell_text first ++ colon ∷ cell_text last

abbrev pub stored_text : RefToken → List ℕ
stored_text token = sheet_text token.sheet ++ place_text token.place

-- Reading

-- an absolute row or column is counted from 1
abbrev pub absolute_of : ℕ × List ℕ → Option (Position × List ℕ)
absolute_of read = if read.0 == 0 then None else Some (at.Abs (pos read.0), read.1)

-- a number and what stands after the bracket that closes it
abbrev pub past_bracket : ℕ → List ℕ → Option (ℕ × List ℕ)
past_bracket n [] = None
past_bracket n (c ∷ cs) = if c == close_square then Some (n, cs) else None

-- the digits of a distance less than the length, and the bracket that closes it
abbrev pub digits_at : ℕ → List ℕ → Option (ℕ × List ℕ)
digits_at length text =
    let read : ℕ × List ℕ = decimal_from (length - 1) 0 text in if first_is is_digit text then past_bracket read.0 read.1 else None

-- what stands after an opening bracket: a distance
abbrev pub distance_at : ℕ → List ℕ → Option (Position × List ℕ)
distance_at length [] = None
distance_at length (c ∷ cs) =
    if c == minus then option_map (λ f. (at.Rel (neg_ℤ (pos f.0)), f.1)) (digits_at length cs)
    else option_map (λ f. (at.Rel (pos f.0), f.1)) (digits_at length (c ∷ cs))

-- what stands after the letter of a row or a column of a sheet of this length
abbrev pub part_at : ℕ → List ℕ → Option (Position × List ℕ)
part_at length [] = None
part_at length (c ∷ cs) = if c == open_square then distance_at length cs else absolute_of (decimal_from length 0 (c ∷ cs))

-- the row or the column at the front
abbrev pub position_at : ℕ → ℕ → List ℕ → Option (Position × List ℕ)
position_at letter length [] = None
position_at letter length (c ∷ cs) = if c == letter then part_at length cs else None

-- the cell at the front
abbrev pub cell_at : List ℕ → Option (RefPart × List ℕ)
cell_at text =
    option_and_then (λ r. option_map (λ c. (record { row = r.0; column = c.0 }, c.1)) (position_at upper_c column_count r.1)) (position_at upper_r row_count text)

-- a cell alone where no second cell was read
abbrev pub cell_or_range : RefPart → List ℕ → Option (RefPart × List ℕ) → Place × List ℕ
cell_or_range first beyond None = (places.Cell first, beyond)
cell_or_range first beyond (Some last) = (places.Range first last.0, last.1)

-- the place that begins with a cell: with a colon and a second cell it is a range
abbrev pub place_from : RefPart → List ℕ → Place × List ℕ
place_from first [] = (places.Cell first, [])
place_from first (c ∷ cs) = if c == colon then cell_or_range first (c ∷ cs) (cell_at cs) else (places.Cell first, c ∷ cs)

-- the longest place at the front
abbrev pub stored_place_at : List ℕ → Option (Place × List ℕ)
stored_place_at text = option_map (λ f. place_from f.0 f.1) (cell_at text)
