use Rattle.ic_input.proofs.AgainLemmas.{amount_again}
use Rattle.ic_input.proofs.TypedSteps.{tells_texts}
use Rattle.ic_input.proofs.law.law_amount_typed_again.Goals as goal

pub returns : goal.returns
returns c = λ t l language english v h is. amount_again l (tells_texts t l h) language english v is
