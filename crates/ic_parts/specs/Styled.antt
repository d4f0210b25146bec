-- The style that is set for a row or a column of a sheet.
use Rattle.std.specs.Prelude.{◌≡◌, ℕ, Option, Some, OnErr, OnOk, Result, option_and_then}
use Rattle.std.specs.FinMap as finite
use Rattle.ic_laws.specs.declared.memory.OutOfMemory.{OutOfMemory}
use Rattle.ic_cells.specs.declared.style.Style.{Style}
use Rattle.ic_grid.specs.Lines.{with_column_style, with_row_style}
use Rattle.ic_grid.specs.Style.{Columns, Rows}
use Rattle.ic_grid.specs.declared.grid.Grid.{Grid}
use Rattle.ic_machine.specs.Book as machine
use Rattle.ic_machine.specs.Book.{Stepped, at_sheet, unless_refused}
use Rattle.ic_machine.specs.Line.{column_causes, column_of, row_causes, row_of, with_column, with_row}
use Rattle.ic_machine.specs.Refusal.{Causes}
use Rattle.ic_machine.specs.subjects.Styles.{optional_style, set_style_step}
use Rattle.ic_parts.specs.declared.styled.Line.{Line}
use Rattle.ic_parts.specs.declared.styled.Line.TheVariants as lines

-- what refuses a row or a column: that it is none of the sheet's
abbrev pub line_causes : Line → Causes
line_causes (lines.Row row) = row_causes row
line_causes (lines.Column column) = column_causes column

-- the number of the style that was set for it
abbrev pub line_style : Line → Rows → Columns → Option ℕ
line_style (lines.Row row) rows columns = option_and_then (λ props. props.style) (finite.get rows row)
line_style (lines.Column column) rows columns = option_and_then (λ props. props.style) (finite.get columns column)

-- the sheet where the style of a number is set for it
abbrev pub with_line_style : Line → ℕ → Grid → Grid
with_line_style (lines.Row row) number grid = record grid { rows = with_row_style row (Some number) grid.rows }
with_line_style (lines.Column column) number grid = record grid { columns = with_column_style column (Some number) grid.columns }

-- A row or a column of a sheet was given the style of a number, or memory was missing and the sheet is as it was.
pub record StylesLine (line : Line) (number : ℕ) (result : Result (Unit {0}) OutOfMemory) (before after : Grid) : Type 0 where
  pub done : OnOk result (after ≡ with_line_style line number before)
  pub undone : OnErr result (after ≡ before)

-- The same in the whole book. ----

abbrev pub whole_line_style : Line → machine.Grid → Option ℕ
whole_line_style (lines.Row row) grid = (row_of grid.rows row).style
whole_line_style (lines.Column column) grid = (column_of grid.columns column).style

abbrev pub whole_with_line_style : Line → ℕ → machine.Grid → machine.Grid
whole_with_line_style (lines.Row row) number grid = record grid { rows = with_row row (λ props. record props { style = Some number }) grid.rows }
whole_with_line_style (lines.Column column) number grid = record grid { columns = with_column column (λ props. record props { style = Some number }) grid.columns }

-- a row or a column is given a style, and tells the one that it was given
abbrev pub set_line_step : ℕ → Line → Style → machine.Book → Stepped machine.Book
set_line_step index line style book = set_style_step book index (line_causes line) style (whole_with_line_style line)

abbrev pub line_style_step : ℕ → Line → machine.Book → Stepped machine.Book
line_style_step index line book = at_sheet book index (λ sheet. unless_refused (line_causes line) book (optional_style book (whole_line_style line sheet.grid)))
