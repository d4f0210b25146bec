use Rattle.ic_refs.proofs.EqualLemmas.{parsed_Decides, written_Decides}
use Rattle.ic_refs.proofs.equality.law_equal_references.Goals as goal

pub returns-clause-written : goal.returns-clause-written
returns-clause-written c = written_Decides

pub returns-clause-parsed : goal.returns-clause-parsed
returns-clause-parsed c = parsed_Decides
