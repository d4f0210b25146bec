-- Rows, columns and where a reference points.
use Rattle.std.specs.Prelude.{ℕ, ℤ, pos, ◌-ℤ◌, int_lt, ◌+◌, ◌-◌, ◌*◌, ◌^◌, List, [], ◌∷◌, Bool, ◌&&◌, length, nat_lt, nat_le, nat_abs, int_le, ◌+ℤ◌, if◌then◌else◌}
use Rattle.std.specs.List.{list_all}
use Rattle.ic_laws.specs.Character.{at_sign, grave, lower_a}
use Rattle.ic_laws.specs.Scan.{is_ascii_letter}
use Rattle.ic_laws.specs.declared.reference.TheConstants.{LAST_ROW, LAST_COLUMN}
use Rattle.ic_laws.specs.declared.reference.Position.{Position}
use Rattle.ic_laws.specs.declared.reference.Position.TheVariants as at
use Rattle.ic_laws.specs.declared.reference.RefPart.{RefPart}
use Rattle.ic_laws.specs.declared.reference.Place.{Place}
use Rattle.ic_laws.specs.declared.reference.Place.TheVariants as places

-- how many rows and columns a sheet has
abbrev pub row_count : ℕ
row_count = nat_abs LAST_ROW

abbrev pub column_count : ℕ
column_count = nat_abs LAST_COLUMN

-- they are numbered from 1
abbrev pub is_row : ℤ → Bool
is_row n = int_le (pos 1) n && int_le n LAST_ROW

abbrev pub is_column : ℤ → Bool
is_column n = int_le (pos 1) n && int_le n LAST_COLUMN

-- what a letter counts: A and a are 1, Z and z are 26; `@` stands before `A`, and a grave accent before `a`
abbrev pub letter_digit : ℕ → ℕ
letter_digit c = if nat_lt c lower_a then c - at_sign else c - grave

-- the number of column letters, in base 26 without a zero: each letter counts 26 times what it would one place
-- further to the right
abbrev pub letters_number : List ℕ → ℕ
letters_number [] = 0
letters_number (c ∷ cs) = letter_digit c * 26 ^ length cs + letters_number cs

-- the letters name a column of the sheet, in either case; more than three letters are past the last one
abbrev pub names_column : List ℕ → Bool
names_column letters = nat_lt 0 (length letters) && list_all is_ascii_letter letters && nat_le (letters_number letters) column_count

-- where a position lies, in a cell whose row or column is the origin
abbrev pub place_at : Position → ℤ → ℤ
place_at (at.Abs n) origin = n
place_at (at.Rel k) origin = origin +ℤ k

-- a corner lies in the sheet, in the cell at this row and column
abbrev pub is_part_inside : RefPart → ℤ → ℤ → Bool
is_part_inside part row column = is_row (place_at part.row row) && is_column (place_at part.column column)

-- so does each corner of a place
abbrev pub is_inside : Place → ℤ → ℤ → Bool
is_inside (places.Cell part) row column = is_part_inside part row column
is_inside (places.Range first last) row column = is_part_inside first row column && is_part_inside last row column

-- A position within the limits: an absolute one is a number of the sheet, a distance is less than the sheet's length.
abbrev pub is_within : ℕ → Position → Bool
is_within length (at.Abs n) = int_le (pos 1) n && int_le n (pos length)
is_within length (at.Rel k) = nat_lt (nat_abs k) length

-- so is each row and each column of a place
abbrev pub is_part_within : RefPart → Bool
is_part_within part = is_within row_count part.row && is_within column_count part.column

-- and of a place: of each corner
abbrev pub is_place_within : Place → Bool
is_place_within (places.Cell part) = is_part_within part
is_place_within (places.Range first last) = is_part_within first && is_part_within last

-- A position as one number: an absolute one as it is, a distance as 2^22 more. Within the limits the first is less than
-- 2^21, and the second is not.
abbrev pub packed_limit : ℤ
packed_limit = pos 2097152

abbrev pub packed_origin : ℤ
packed_origin = pos 4194304

abbrev pub position_of : ℤ → Position
position_of n = if int_lt n packed_limit then at.Abs n else at.Rel (n -ℤ packed_origin)

-- a corner by the numbers of its row and its column
abbrev pub part_of : ℤ → ℤ → RefPart
part_of row column = record { row = position_of row; column = position_of column }

-- a place by the numbers of both corners, where a cell has 0 for the last row
abbrev pub place_of : ℤ → ℤ → ℤ → ℤ → Place
place_of row column last_row last_column =
    if int_lt (pos 0) last_row then places.Range (part_of row column) (part_of last_row last_column) else places.Cell (part_of row column)
