use Rattle.ic_input.proofs.WordAgain.{booleans_again, errors_again}
use Rattle.ic_input.proofs.law.law_word_typed_again.Goals as goal

pub returns : goal.returns
returns c = record { booleans = booleans_again; errors = errors_again }
