use Rattle.ic_lines.proofs.FallLemmas.{falls_as_answered}
use Rattle.ic_lines.proofs.law.law_lines.Goals as goal

pub returns : goal.returns
returns c = falls_as_answered
