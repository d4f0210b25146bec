use Rattle.ic_input.proofs.WordAgain.{formulas_again, quoted_again, texts_again}
use Rattle.ic_input.proofs.law.law_text_typed_again.Goals as goal

pub returns : goal.returns
returns c = record { texts = texts_again; quoted = quoted_again; formulas = formulas_again }
