use Rattle.ic_machine.proofs.as_core.CoreValid.{core_stays, core_valid}
use Rattle.ic_machine.proofs.law.law_core_stays_valid.Goals as goal

pub returns : goal.returns
returns c = record { core = core_valid; stays = core_stays }
