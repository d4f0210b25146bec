use Rattle.ic_machine.proofs.as_core.CoreLines.{back, core_is_read, core_lines_are}
use Rattle.ic_machine.proofs.law.law_core_lines_are_core.Goals as goal

pub returns : goal.returns
returns c = record { lines = core_lines_are; all = core_is_read; back = back }
