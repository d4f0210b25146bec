use Rattle.std.proofs.Common.{◌∙◌, ap₂, ℤ, refl, w32}
use Rattle.std.proofs.lemmas.Int.{to_z-of_z}
use Rattle.ic_grid.proofs.ValueWhole.{valued_whole}
use Rattle.ic_grid.specs.Shape.{celled}
use Rattle.ic_grid.specs.Value.{valued}
use Rattle.ic_grid.proofs.grid.Grid.write_value.Goals as goal

pub returns-clause-whole : goal.returns-clause-whole
returns-clause-whole c =
    valued_whole c.args.self.now (c.args.row, c.args.column) c.args.value c.requires c.value_at.new.cells
    (c.in_ok-value_at.ensures.ok ∙ ap₂ (λ (r k : ℤ). valued celled (r, k) c.args.value c.args.self.now.cells) (to_z-of_z w32 c.args.row c.ranges.row) (to_z-of_z w32 c.args.column c.ranges.column)) _ refl
