-- Values whose text is lent.
use Rattle.std.specs.Prelude.{chars}
use Rattle.ic_cells.specs.declared.lent.LentValue.{LentValue}
use Rattle.ic_cells.specs.declared.lent.LentValue.TheVariants as lents
use Rattle.ic_cells.specs.declared.value.CellValue.{CellValue}
use Rattle.ic_cells.specs.declared.value.CellValue.TheVariants as values

-- the value itself
abbrev pub value_lent : LentValue → CellValue
value_lent lents.Nothing = values.None
value_lent (lents.Text t) = values.String (chars t.now)
value_lent (lents.Number n) = values.Number n
value_lent (lents.Boolean b) = values.Boolean b
