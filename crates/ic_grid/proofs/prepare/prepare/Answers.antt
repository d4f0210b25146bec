use Rattle.std.proofs.Common.{◌∙◌, sym, ap}
use Rattle.ic_grid.proofs.ArrayLemmas.{anchored}
use Rattle.ic_grid.specs.Prepare.{released_if}
use Rattle.ic_grid.specs.Shape.{celled}
use Rattle.ic_grid.proofs.prepare.prepare.Goals as goal

pub release-requires-clause-anchor : goal.release-requires-clause-anchor
release-requires-clause-anchor c = anchored celled c.args.cells.now c.requires c.args.place c.in-Some.anchor (sym c.in-Some.ensures)

pub returns-in-Some : goal.returns-in-Some
returns-in-Some c = c.release.ensures ∙ ap (λ o. released_if celled o c.args.cells.now) c.in-Some.ensures

pub returns-in_default : goal.returns-in_default
returns-in_default c = ap (λ o. released_if celled o c.args.cells.now) c.in_default.ensures
