use Rattle.std.proofs.Common.{◌∙◌, ap, ap₂, ℤ, w32}
use Rattle.std.proofs.lemmas.Int.{to_z-of_z}
use Rattle.ic_grid.proofs.WriteLemmas.{written_whole}
use Rattle.ic_grid.specs.Contents.{Contents}
use Rattle.ic_grid.specs.Prepare.{written}
use Rattle.ic_grid.specs.Shape.{celled}
use Rattle.ic_grid.specs.declared.grid.Grid.{Grid}
use Rattle.ic_cells.specs.declared.cell.Cell.{Cell}
use Rattle.ic_grid.proofs.grid.Grid.write.Goals as goal

pub returns-clause-whole : goal.returns-clause-whole
returns-clause-whole c =
    written_whole c.args.self.now (c.args.row, c.args.column) c.args.cell c.requires.whole c.requires.place c.requires.cell _
    (ap (λ (cells : Contents Cell). let grid : Grid = record c.args.self.now { cells = cells } in grid)
    (c.in_ok-write_at.ensures.ok ∙ ap₂ (λ (r k : ℤ). written celled (r, k) c.args.cell c.args.self.now.cells) (to_z-of_z w32 c.args.row c.ranges.row) (to_z-of_z w32 c.args.column c.ranges.column)))
