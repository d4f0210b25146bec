use Rattle.std.proofs.Common.{sym}
use Rattle.ic_grid.proofs.ArrayLemmas.{array_area, whole_release}
use Rattle.ic_grid.specs.Shape.{celled}
use Rattle.ic_grid.proofs.prepare.release.Goals as goal

pub unspill_block-requires : goal.unspill_block-requires
unspill_block-requires c = array_area celled c.args.cells.now c.requires.arrays c.args.anchor c.in-Some.array (sym c.in-Some.ensures)

pub returns-in-Some : goal.returns-in-Some
returns-in-Some c =
    whole_release celled c.args.cells.now c.requires.arrays c.args.anchor c.in-Some.array (sym c.in-Some.ensures) c.unspill_block.new.cells c.reset.new.cells c.unspill_block.ensures c.reset.ensures
