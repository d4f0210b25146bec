use Rattle.ic_dump.proofs.Rebuilt.{rebuilds}
use Rattle.ic_dump.proofs.law.law_lines_rebuild.Goals as goal

pub returns : goal.returns
returns c = rebuilds
