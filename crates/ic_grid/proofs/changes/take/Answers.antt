use Rattle.std.proofs.Common.{◌≡◌, ◌∙◌, rules}
use Rattle.std.specs.FinMap as finite
use Rattle.ic_grid.proofs.ChangeLemmas.{one_taken}
use Rattle.ic_grid.proofs.changes.take.Goals as goal

pub returns : goal.returns
returns c =
    let removed : c.remove-taken.new.self ≡ finite.remove c.args.cells.now c.args.place = search rules in
    removed ∙ one_taken c.args.cells.now c.args.place
