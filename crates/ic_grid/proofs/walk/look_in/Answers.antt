use Rattle.std.specs.BTreeMap as tree
use Rattle.std.specs.FinMap as finite
use Rattle.ic_cells.specs.Maps.{place_cmp}
use Rattle.ic_laws.proofs.core.CellWritten.{place_cmp_total}
use Rattle.ic_grid.proofs.WalkLemmas.{map_get, seen_as}
use Rattle.ic_grid.proofs.walk.look_in.Goals as goal

pub returns : goal.returns
returns c =
    seen_as (tree.get place_cmp c.as_map.result.now) (finite.get c.args.cells.now) c.args.wanted c.args.block.now c.args.from c.look_on.result
    (map_get place_cmp_total c.as_map.result.now c.args.cells.now c.as_map.ensures) c.look_on.ensures
