use Rattle.ic_machine.proofs.contents.AlikeLemmas.{cells_are_contents}
use Rattle.ic_machine.proofs.law.law_cells_are_contents.Goals as goal

pub returns : goal.returns
returns c = cells_are_contents
