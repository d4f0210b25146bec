use Rattle.ic_run.proofs.DeskLemmas.{english_read}
use Rattle.ic_run.proofs.start.english_start.Goals as goal

pub returns : goal.returns
returns c = english_read
