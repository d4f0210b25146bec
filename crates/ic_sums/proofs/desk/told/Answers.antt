use Rattle.std.proofs.Common.{ap, flat_map, take_all, ◌∙◌}
use Rattle.std.proofs.lemmas.Str.{chars-nil}
use Rattle.std.specs.Str.{chars}
use Rattle.ic_parts.specs.Whole.{whole_of}
use Rattle.ic_sums.specs.Told.{told_cell}
use Rattle.ic_sums.proofs.desk.told.Goals as goal

pub loop-cell-init : goal.loop-cell-init
loop-cell-init c = ap chars c.new-text.ensures.bytes ∙ chars-nil

pub returns : goal.returns
returns c =
    let all = take_all c.loop-cell.cell-index c.deref-cell-items.result.now c.loop-cell-test.false ∙ c.deref-cell-items.ensures.value in
    (c.in_ok-cells.cells, c.in_ok-cells.ensures.does.done, c.loop-cell.invariant ∙ ap (flat_map (told_cell (whole_of c.args.model.now.book))) all)
