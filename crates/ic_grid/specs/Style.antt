-- The style that a place of a sheet shows.
use Rattle.std.specs.Prelude.{ℕ, Option, Some, None, option_and_then, option_map}
use Rattle.std.specs.FinMap as finite
use Rattle.std.specs.Ordering.{int_cmp}
use Rattle.ic_cells.specs.declared.layout.ColumnProps.{ColumnProps}
use Rattle.ic_cells.specs.declared.layout.RowProps.{RowProps}
use Rattle.ic_grid.specs.Block.{Place}
use Rattle.ic_grid.specs.Contents.{Contents}
use Rattle.ic_grid.specs.Shape.{Holding}

-- what was set for rows and for columns
abbrev pub Rows : Type 0
Rows = finite.FinMap int_cmp RowProps

abbrev pub Columns : Type 0
Columns = finite.FinMap int_cmp ColumnProps

-- the first of three numbers that is there, else 0
abbrev pub first_style : Option ℕ → Option ℕ → Option ℕ → ℕ
first_style (Some s) row column = s
first_style None (Some s) column = s
first_style None None (Some s) = s
first_style None None None = 0

-- the number of the style of a place: its cell's, else its row's, else its column's, else 0
abbrev pub style_at : {X : Type 0} → Holding X → Contents X → Rows → Columns → Place → ℕ
style_at h m rows columns p =
    first_style (option_map h.style (finite.get m p)) (option_and_then (λ row. row.style) (finite.get rows p.0)) (option_and_then (λ column. column.style) (finite.get columns p.1))
