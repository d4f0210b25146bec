use Rattle.ic_tree.proofs.BodyReference.{body_reference}
use Rattle.ic_tree.proofs.law.law_body_reference.Goals as goal

pub returns : goal.returns
returns c = body_reference
