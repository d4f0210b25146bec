-- The value of an array formula.
use Rattle.std.specs.Prelude.{Option, Some, None}
use Rattle.ic_cells.specs.declared.value.FormulaValue.{FormulaValue}
use Rattle.ic_cells.specs.declared.value.FormulaValue.TheVariants as formulas

-- the value, by what is kept of it: nothing of none at all
abbrev pub value_kept : Option FormulaValue → FormulaValue
value_kept None = formulas.Unevaluated
value_kept (Some value) = value
