use Rattle.std.proofs.Common.{rules, ◌≡◌, ◌∙◌, ap, Some}
use Rattle.std.specs.FinMap as finite
use Rattle.std.specs.Option.{option_map, unwrap_or}
use Rattle.ic_grid.specs.Shape.{Empty, is_spill_of, shape_of}
use Rattle.ic_grid.proofs.whole.has_spill_of.Goals as goal

pub returns-in-Some : goal.returns-in-Some
returns-in-Some c =
    let there : Some c.in-Some.cell.now ≡ finite.get c.args.cells.now c.args.place = search rules in
    c.is_spill_of.ensures ∙ ap (λ o. is_spill_of c.args.anchor (unwrap_or (option_map shape_of o) Empty)) there
