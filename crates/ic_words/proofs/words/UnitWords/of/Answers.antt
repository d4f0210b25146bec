use Rattle.ic_words.proofs.WordsLemmas.{too_many}
use Rattle.ic_words.proofs.words.UnitWords.of.Goals as goal

pub returns-in-Some-clause-exact : goal.returns-in-Some-clause-exact
returns-in-Some-clause-exact c = too_many c.args.rest c.in-Some.field-0 c.in-Some.is
