use Rattle.std.proofs.Common.{◌≡◌, ◌++◌, ℕ, chars, map, take}
use Rattle.std.specs.Fmt.{decimal}
use Rattle.ic_parts.specs.Book.{core_of, notations_in}
use Rattle.ic_parts.specs.Lent.{placed}
use Rattle.ic_dump.specs.Lines.{lines_of_cells}
use Rattle.ic_dump.proofs.formulas.push_each.Given as goal

-- those so far
abbrev pub invariant-loop-cell : goal.invariant-loop-cell
invariant-loop-cell l = (index : ℕ) → chars l.sheet ≡ decimal index → l.lines.items ≡ l.initial.lines.items ++ lines_of_cells (notations_in l.model.book) (core_of l.model.book) index (map placed (take l.cell-index l.cells))
