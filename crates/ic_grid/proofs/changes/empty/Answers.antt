use Rattle.std.proofs.Common.{◌≡◌, Some, None, rules}
use Rattle.std.specs.FinMap as finite
use Rattle.ic_grid.proofs.ChangeLemmas.{emptied_there, none_emptied}
use Rattle.ic_grid.proofs.changes.empty.Goals as goal

pub returns-in-Some : goal.returns-in-Some
returns-in-Some c =
    let value : Some c.in-Some.cell.now ≡ finite.get c.args.cells.now c.args.place = search rules in
    emptied_there c.args.cells.now _ c.args.place c.in-Some.cell.now c.empty_cell.new.cell (search rules) value c.empty_cell.ensures

pub returns-in-None : goal.returns-in-None
returns-in-None c =
    let value : None ≡ finite.get c.args.cells.now c.args.place = search rules in
    none_emptied c.args.cells.now c.args.place value
