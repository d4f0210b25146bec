use Rattle.std.proofs.Common.{◌≡◌, ◌++◌, drop, map}
use Rattle.ic_parts.specs.Book.{core_of, notations_in}
use Rattle.ic_dump.specs.Lines.{cell_lines_from}
use Rattle.ic_dump.specs.Records.{core_seen}
use Rattle.ic_dump.proofs.formulas.push_cells.Given as goal

-- those so far, and those of the sheets that are left
abbrev pub invariant-loop-index : goal.invariant-loop-index
invariant-loop-index l = l.lines.items ++ cell_lines_from (notations_in l.model.book) (core_of l.model.book) l.index (drop l.index (map core_seen l.sheets)) ≡ l.initial.lines.items ++ cell_lines_from (notations_in l.model.book) (core_of l.model.book) 0 (map core_seen l.sheets)
