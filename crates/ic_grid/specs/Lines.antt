-- What is set for rows and columns.
use Rattle.std.specs.Prelude.{ℕ, ℤ, Bool, false, Option, Some, None}
use Rattle.std.specs.FinMap as finite
use Rattle.std.specs.Option.{unwrap_or}
use Rattle.ic_cells.specs.declared.layout.ColumnProps.{ColumnProps}
use Rattle.ic_cells.specs.declared.layout.RowProps.{RowProps}
use Rattle.ic_grid.specs.Style.{Columns, Rows}

-- nothing is set
abbrev pub plain_row : RowProps
plain_row = record { height = None; hidden = false; style = None }

abbrev pub plain_column : ColumnProps
plain_column = record { width = None; hidden = false; style = None }

-- what is set for a row, and for a column
abbrev pub row_at : Rows → ℤ → RowProps
row_at rows row = unwrap_or (finite.get rows row) plain_row

abbrev pub column_at : Columns → ℤ → ColumnProps
column_at columns column = unwrap_or (finite.get columns column) plain_column

-- a row is given a height, hidden or shown, and given a style, or none
abbrev pub with_row_height : ℤ → ℕ → Rows → Rows
with_row_height row height rows = finite.insert rows row (record (row_at rows row) { height = Some height })

abbrev pub with_row_hidden : ℤ → Bool → Rows → Rows
with_row_hidden row hidden rows = finite.insert rows row (record (row_at rows row) { hidden = hidden })

abbrev pub with_row_style : ℤ → Option ℕ → Rows → Rows
with_row_style row style rows = finite.insert rows row (record (row_at rows row) { style = style })

-- so is a column
abbrev pub with_column_width : ℤ → ℕ → Columns → Columns
with_column_width column width columns = finite.insert columns column (record (column_at columns column) { width = Some width })

abbrev pub with_column_hidden : ℤ → Bool → Columns → Columns
with_column_hidden column hidden columns = finite.insert columns column (record (column_at columns column) { hidden = hidden })

abbrev pub with_column_style : ℤ → Option ℕ → Columns → Columns
with_column_style column style columns = finite.insert columns column (record (column_at columns column) { style = style })

-- a style is taken away: where nothing is set, nothing is
abbrev pub row_without_style : ℤ → Option RowProps → Rows → Rows
row_without_style row None rows = rows
row_without_style row (Some props) rows = with_row_style row None rows

abbrev pub without_row_style : ℤ → Rows → Rows
without_row_style row rows = row_without_style row (finite.get rows row) rows

abbrev pub column_without_style : ℤ → Option ColumnProps → Columns → Columns
column_without_style column None columns = columns
column_without_style column (Some props) columns = with_column_style column None columns

abbrev pub without_column_style : ℤ → Columns → Columns
without_column_style column columns = column_without_style column (finite.get columns column) columns
