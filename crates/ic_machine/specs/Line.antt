-- What was set for a row or a column of a sheet, and how that is changed.
use Rattle.std.specs.Prelude.{ℤ, [], ◌∷◌, false, not, Option, Some, None, unwrap_or}
use Rattle.std.specs.FinMap as finite
use Rattle.ic_laws.specs.Position.{is_column, is_row}
use Rattle.ic_cells.specs.declared.layout.ColumnProps.{ColumnProps}
use Rattle.ic_cells.specs.declared.layout.RowProps.{RowProps}
use Rattle.ic_grid.specs.Style.{Columns, Rows}
use Rattle.ic_machine.specs.Refusal.{Causes, InvalidColumn, InvalidRow}

-- nothing was set
abbrev pub plain_row : RowProps
plain_row = record { height = None; hidden = false; style = None }

abbrev pub plain_column : ColumnProps
plain_column = record { width = None; hidden = false; style = None }

abbrev pub row_of : Rows → ℤ → RowProps
row_of rows row = unwrap_or (finite.get rows row) plain_row

abbrev pub column_of : Columns → ℤ → ColumnProps
column_of columns column = unwrap_or (finite.get columns column) plain_column

-- something is set for one, and all else that was set for it stays
abbrev pub with_row : ℤ → (RowProps → RowProps) → Rows → Rows
with_row row change rows = finite.insert rows row (change (row_of rows row))

abbrev pub with_column : ℤ → (ColumnProps → ColumnProps) → Columns → Columns
with_column column change columns = finite.insert columns column (change (column_of columns column))

-- something is taken from one for which anything was set
abbrev pub from_row : Option RowProps → ℤ → (RowProps → RowProps) → Rows → Rows
from_row None row change rows = rows
from_row (Some props) row change rows = finite.insert rows row (change props)

abbrev pub from_column : Option ColumnProps → ℤ → (ColumnProps → ColumnProps) → Columns → Columns
from_column None column change columns = columns
from_column (Some props) column change columns = finite.insert columns column (change props)

-- it is none of the sheet's
abbrev pub row_causes : ℤ → Causes
row_causes row = (not (is_row row), InvalidRow) ∷ []

abbrev pub column_causes : ℤ → Causes
column_causes column = (not (is_column column), InvalidColumn) ∷ []
