use Rattle.std.specs.BTreeMap as tree
use Rattle.std.specs.FinMap as finite
use Rattle.ic_cells.specs.Maps.{place_cmp}
use Rattle.ic_laws.proofs.core.CellWritten.{place_cmp_total}
use Rattle.ic_grid.proofs.WalkLemmas.{map_get, none_first, some_first}
use Rattle.ic_grid.proofs.walk.first_from.Goals as goal

pub returns-clause-some : goal.returns-clause-some
returns-clause-some c =
    some_first (tree.get place_cmp c.as_map.result.now) (finite.get c.args.cells.now) c.args.from c.first_of.result
    (map_get place_cmp_total c.as_map.result.now c.args.cells.now c.as_map.ensures) c.first_of.ensures.some

pub returns-clause-none : goal.returns-clause-none
returns-clause-none c =
    none_first (tree.get place_cmp c.as_map.result.now) (finite.get c.args.cells.now) c.args.from c.first_of.result
    (map_get place_cmp_total c.as_map.result.now c.args.cells.now c.as_map.ensures) c.first_of.ensures.none
