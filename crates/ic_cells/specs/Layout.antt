-- How high a row is, and how wide a column, in hundredths.
use Rattle.std.specs.Prelude.{ℕ, Option, Some, None}
use Rattle.std.specs.Option.{unwrap_or}
use Rattle.ic_cells.specs.declared.layout.ColumnProps.{ColumnProps}
use Rattle.ic_cells.specs.declared.layout.RowProps.{RowProps}

-- as it was set, and else 2,800
abbrev pub height_of : Option RowProps → ℕ
height_of None = 2800
height_of (Some props) = unwrap_or props.height 2800

-- as it was set, and else 12,500
abbrev pub width_of : Option ColumnProps → ℕ
width_of None = 12500
width_of (Some props) = unwrap_or props.width 12500
