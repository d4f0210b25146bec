use Rattle.std.proofs.Common.{[], chars, refl}
use Rattle.ic_words.specs.Words.{words_left}
use Rattle.ic_words.proofs.WordsLemmas.{all_there, always, others_have_escape, without_first, without_others}
use Rattle.ic_words.proofs.words.Tuple2Words.of.Goals as goal

pub returns-in_default-2-clause-exact : goal.returns-in_default-2-clause-exact
returns-in_default-2-clause-exact g c =
    without_first [] g.A.Word.form (λ text. refl) g.B.Words.forms g.A.Word.says g.B.Words.says c.args.rest c.in-Some.line (chars c.first_word.result.0.now) (words_left c.first_word.result.1) c.in-Some.is c.first_word.ensures c.in_ok-first.field-0 c.in_default-2.is c.in_ok-first.ensures.exact

pub returns-in_default-3-clause-exact : goal.returns-in_default-3-clause-exact
returns-in_default-3-clause-exact g c =
    without_others [] g.A.Word.form (λ text. refl) g.B.Words.forms g.A.Word.says g.B.Words.says c.args.rest c.in-Some.line (chars c.first_word.result.0.now) (words_left c.first_word.result.1) c.in-Some.is c.first_word.ensures c.in_ok-others.field-0 c.in_default-3.is c.in_ok-others.ensures.exact

pub returns-clause-exact : goal.returns-clause-exact
returns-clause-exact g c =
    all_there [] g.A.Word.form (λ text. refl) g.B.Words.forms g.A.Word.says g.B.Words.says c.args.rest c.in-Some.line (chars c.first_word.result.0.now) (words_left c.first_word.result.1) c.in-Some.is c.first_word.ensures c.in_ok-first.field-0 c.in_ok-others.field-0 c.in-Some-2.first c.in-Some-3.others c.in-Some-2.is c.in-Some-3.is c.in_ok-first.ensures.exact c.in_ok-others.ensures.exact

pub returns-in_err-others-clause-memory : goal.returns-in_err-others-clause-memory
returns-in_err-others-clause-memory g c =
    always _ (others_have_escape c.args.rest c.in-Some.line (chars c.first_word.result.0.now) (words_left c.first_word.result.1) c.in-Some.is c.first_word.ensures c.in_err-others.ensures.memory)
