use Rattle.ic_machine.proofs.bound.SceneLemmas.{scene_stays}
use Rattle.ic_machine.proofs.law.law_cells_leave_names.Goals as goal

pub returns : goal.returns
returns c = scene_stays
