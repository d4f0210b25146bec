use Rattle.std.proofs.Common.{◌∙◌}
use Rattle.ic_grid.proofs.WriteLemmas.{empty_whole}
use Rattle.ic_grid.proofs.grid.Grid.new.Goals as goal

pub returns-clause-whole : goal.returns-clause-whole
returns-clause-whole c = empty_whole _ c.new.ensures (c.from.ensures ∙ c.new-4.ensures.items)
