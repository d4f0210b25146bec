use Rattle.std.proofs.Common.{◌∙◌, sym}
use Rattle.std.proofs.lemmas.Bool.{both_ways}
use Rattle.ic_grid.proofs.HandedInLemmas.{refused}
use Rattle.ic_grid.proofs.WholeLemmas.{separate_decided}
use Rattle.ic_grid.specs.HandedIn.{AreSeparate}
use Rattle.ic_grid.proofs.handed_in.are_separate.Goals as goal

pub returns-then-are_areas : goal.returns-then-are_areas
returns-then-are_areas c = separate_decided c.args.merges.now c.are_apart.result (sym c.are_areas.ensures ∙ c.if-are_areas.true) c.are_apart.ensures

pub returns-else-are_areas : goal.returns-else-are_areas
returns-else-are_areas c = refused c.are_areas.result c.if-are_areas.false (λ (good : AreSeparate c.args.merges.now). both_ways c.are_areas.result c.if-are_areas.false (c.are_areas.ensures ∙ good.areas))
