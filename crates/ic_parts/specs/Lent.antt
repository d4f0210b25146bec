-- What a book lends: the formulas of its cells.
use Rattle.std.specs.Prelude.{List}
use Rattle.std.specs.Option.{option_to_list}
use Rattle.std.specs.Prelude.{option_and_then, option_map}
use Rattle.std.specs.List.{slice_get}
use Rattle.ic_laws.specs.CoreBook.{CellPlace, Cells}
use Rattle.ic_laws.specs.declared.tree.Formula.{Formula}
use Rattle.ic_cells.specs.Cell.{cell_formula_index}
use Rattle.ic_cells.specs.declared.cell.Cell.{Cell}
use Rattle.ic_parts.specs.declared.lent.PlacedFormula.{PlacedFormula}

-- a cell with its formula
abbrev pub placed : PlacedFormula → CellPlace × Formula
placed cell = ((cell.row, cell.column), cell.formula.now)

-- the formula of a cell, with its place, if it is one of these
abbrev pub kept_in : List Formula → CellPlace × Cell → Cells
kept_in pool entry = option_to_list (option_map (λ formula. (entry.0, formula)) (option_and_then (slice_get pool) (cell_formula_index entry.1)))
