use Rattle.ic_laws.proofs.core.Steps.{step_keeps}
use Rattle.ic_laws.proofs.kept.TreeFacts.{tree_facts}
use Rattle.ic_laws.proofs.book_law.law_steps_stay_valid.Goals as goal

pub returns : goal.returns
returns c n book after command fields notations valid e = step_keeps n notations (tree_facts n notations) book valid command after fields e
