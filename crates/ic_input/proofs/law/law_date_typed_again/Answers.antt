use Rattle.ic_input.proofs.DateAgain.{date_again}
use Rattle.ic_input.proofs.TypedSteps.{tells_texts}
use Rattle.ic_input.proofs.law.law_date_typed_again.Goals as goal

pub returns : goal.returns
returns c = λ t l language english code text n h which shown. date_again l (tells_texts t l h) language english code text n which shown
