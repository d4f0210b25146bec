use Rattle.ic_run.proofs.CoreLineLemmas.{core_lines_done}
use Rattle.ic_run.proofs.lines.law_core_lines_are_done.Goals as goal

pub returns : goal.returns
returns c = core_lines_done
