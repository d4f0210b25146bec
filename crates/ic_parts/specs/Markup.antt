-- A sheet as a table, as a model has it.
use Rattle.std.specs.Prelude.{◌≡◌, ◌+◌, ◌≤ℤ◌, ℕ, ℤ, pos, max, nat_abs, List, [], Bool, None, map, option_and_then}
use Rattle.std.specs.FinMap as finite
use Rattle.std.specs.Option.{option_map_or}
use Rattle.ic_laws.specs.CoreBook.{CellPlace}
use Rattle.ic_laws.specs.Greatest.{greatest}
use Rattle.ic_laws.specs.Position.{row_count}
use Rattle.ic_cells.specs.declared.layout.RowProps.{RowProps}
use Rattle.ic_grid.specs.declared.grid.Grid.{Grid}
use Rattle.ic_machine.specs.Book.{content_at}
use Rattle.ic_machine.specs.subjects.Reading.{cell_markup, content_markup, is_bold, row_markup, sheet_markup}
use Rattle.ic_sheets.specs.Sheet.{Sheet}
use Rattle.ic_parts.specs.Book.{Book}
use Rattle.ic_parts.specs.Whole.{whole_of, whole_sheet}

-- a sheet, a row of it up to a column, and a place of it
abbrev pub sheet_shown : Book → Sheet → List ℕ
sheet_shown book s = sheet_markup (whole_of book) (whole_sheet book.strings s)

abbrev pub row_shown : Book → Sheet → ℕ → ℕ → List ℕ
row_shown book s columns row = row_markup (whole_of book) (whole_sheet book.strings s) columns row

abbrev pub place_shown : Book → Sheet → ℤ → ℤ → List ℕ
place_shown book s row column = cell_markup (whole_of book) (whole_sheet book.strings s) (row, column)

-- the same without stars
abbrev pub plain_shown : Book → Sheet → CellPlace → List ℕ
plain_shown book s place =
    option_map_or (content_markup (whole_of book) (whole_sheet book.strings s) place) (content_at (whole_sheet book.strings s) place.0 place.1) []

-- whether a place shows a bold style
abbrev pub shows_bold : Book → Sheet → CellPlace → Bool
shows_bold book s place = is_bold (whole_of book) (whole_sheet book.strings s) place

-- the greatest row and column of some places, and 1 where there is none
abbrev pub last_of : List CellPlace → ℕ × ℕ
last_of places = (max 1 (greatest (map (λ p. nat_abs p.0) places)), max 1 (greatest (map (λ p. nat_abs p.1) places)))

-- the row behind the last one of a sheet
abbrev pub row_behind : ℕ
row_behind = row_count + 1

-- no cell stands in a row, and the row has no style
pub record IsBlankRow (grid : Grid) (row : ℤ) : Type 0 where
  pub free : (column : ℤ) → pos 1 ≤ℤ column → finite.get grid.cells (row, column) ≡ None
  pub plain : option_and_then (λ (props : RowProps). props.style) (finite.get grid.rows row) ≡ None
