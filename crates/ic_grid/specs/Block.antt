-- Blocks of places: which places they hold, whether they meet, and the order by rows.
use Rattle.std.specs.Prelude.{ℤ, pos, ◌+ℤ◌, Bool, ◌&&◌, int_le, int_lt, if◌then◌else◌}
use Rattle.std.specs.Ordering.{eq_by_cmp, int_eq}
use Rattle.ic_laws.specs.Position.{is_column, is_row}
use Rattle.ic_laws.specs.declared.reference.TheConstants.{LAST_COLUMN, LAST_ROW}
use Rattle.ic_cells.specs.Maps.{place_cmp}
use Rattle.ic_grid.specs.declared.block.Block.{Block}

-- a row and a column, from 1
abbrev pub Place : Type 0
Place = ℤ × ℤ

-- two places are one
abbrev pub same_place : Place → Place → Bool
same_place = eq_by_cmp place_cmp

-- a place of the sheet
abbrev pub is_in_sheet : Place → Bool
is_in_sheet p = is_row p.0 && is_column p.1

-- a number is one of those from the first on, up to the last, which is left out
unfoldable pub is_between : ℤ → ℤ → ℤ → Bool
is_between first last n = int_le first n && int_lt n last

-- a number is one of so many from the first on
abbrev pub is_in_span : ℤ → ℤ → ℤ → Bool
is_in_span first count n = is_between first (first +ℤ count) n

-- a place lies in rows and columns from the first on, up to the last, which are left out
abbrev pub is_in_lines : ℤ → ℤ → ℤ → ℤ → Place → Bool
is_in_lines row last_row column last_column p = is_between row last_row p.0 && is_between column last_column p.1

-- a place is one of a block
abbrev pub is_in_block : Block → Place → Bool
is_in_block b p = is_in_span b.row b.height p.0 && is_in_span b.column b.width p.1

unfoldable pub spans_meet : ℤ → ℤ → ℤ → ℤ → Bool
spans_meet first count other many = int_lt first (other +ℤ many) && int_lt other (first +ℤ count)

-- two blocks, each with a place at least, have a place in common
abbrev pub blocks_meet : Block → Block → Bool
blocks_meet b c = spans_meet b.row b.height c.row c.height && spans_meet b.column b.width c.column c.width

unfoldable pub is_span_within : ℤ → ℤ → ℤ → ℤ → Bool
is_span_within first count other many = int_le other first && int_le (first +ℤ count) (other +ℤ many)

-- each place of the first block is one of the second
abbrev pub is_block_within : Block → Block → Bool
is_block_within b c = is_span_within b.row b.height c.row c.height && is_span_within b.column b.width c.column c.width

-- the whole sheet
abbrev pub whole_sheet : Block
whole_sheet = record { row = pos 1; column = pos 1; width = LAST_COLUMN; height = LAST_ROW }

-- a block has a place at least
abbrev pub has_places : Block → Bool
has_places b = int_le (pos 1) b.width && int_le (pos 1) b.height

-- a block of at least one place, each of them in the sheet
abbrev pub is_area : Block → Bool
is_area b = has_places b && is_block_within b whole_sheet

-- one place alone
abbrev pub is_single : Block → Bool
is_single b = int_eq b.width (pos 1) && int_eq b.height (pos 1)

-- the block of so many columns and rows from a place on
abbrev pub block_at : Place → ℤ → ℤ → Block
block_at p width height = record { row = p.0; column = p.1; width = width; height = height }

-- how many columns and rows it has
abbrev pub area_of : Block → ℤ × ℤ
area_of b = (b.width, b.height)

-- its first place
abbrev pub first_place : Block → Place
first_place b = (b.row, b.column)

-- a block has a column to the right of a place
abbrev pub has_next_column : Block → Place → Bool
has_next_column b p = int_lt (p.1 +ℤ pos 1) (b.column +ℤ b.width)

-- the place after one of a block, by rows: the next one to the right, or the first of the next row
abbrev pub next_place : Block → Place → Place
next_place b p = if has_next_column b p then (p.0, p.1 +ℤ pos 1) else (p.0 +ℤ pos 1, b.column)
