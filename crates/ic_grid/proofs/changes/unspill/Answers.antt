use Rattle.std.proofs.Common.{◌≡◌, Some, None, rules}
use Rattle.std.specs.FinMap as finite
use Rattle.ic_grid.proofs.ReleaseLemmas.{is_unspilled, none_there}
use Rattle.ic_grid.specs.Prepare.{unspilled}
use Rattle.ic_grid.specs.Shape.{celled}
use Rattle.ic_grid.proofs.changes.unspill.Goals as goal

pub returns-in-Some : goal.returns-in-Some
returns-in-Some c =
    let value : Some c.in-Some.cell.now ≡ finite.get c.args.cells.now c.args.place = search rules in
    is_unspilled c.args.cells.now c.args.place c.args.anchor _ c.in-Some.cell.now c.unspill_cell.new.cell (search rules) value c.unspill_cell.ensures

pub returns-in_default : goal.returns-in_default
returns-in_default c =
    let value : None ≡ finite.get c.args.cells.now c.args.place = search rules in
    none_there c.args.cells.now c.args.place (unspilled celled c.args.anchor) value
