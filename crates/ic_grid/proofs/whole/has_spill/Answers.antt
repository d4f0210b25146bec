use Rattle.std.proofs.Common.{rules, ◌≡◌, ◌∙◌, sym}
use Rattle.ic_grid.proofs.WholeLemmas.{spill_decided}
use Rattle.ic_grid.specs.Block.{block_at}
use Rattle.ic_grid.specs.Shape.{celled}
use Rattle.ic_grid.proofs.whole.has_spill.Goals as goal

pub returns-then-is_area : goal.returns-then-is_area
returns-then-is_area c =
    let is : c.at-block.result ≡ block_at c.args.place c.args.width c.args.height = search rules in
    spill_decided celled c.args.cells.now c.args.place c.args.width c.args.height c.at-block.result c.is_filled.result is (sym c.is_area.ensures ∙ c.if-is_area.true) c.is_filled.ensures
