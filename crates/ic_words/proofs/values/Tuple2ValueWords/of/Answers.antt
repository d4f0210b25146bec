use Rattle.std.proofs.Common.{chars}
use Rattle.ic_tables.specs.Words.{error_words}
use Rattle.ic_words.specs.Words.{words_left}
use Rattle.ic_words.proofs.WordsLemmas.{all_there, without_first, without_others}
use Rattle.ic_words.proofs.values.Tuple2ValueWords.of.Goals as goal

pub returns-in_default-2 : goal.returns-in_default-2
returns-in_default-2 g c =
    without_first (error_words c.args.english.now) g.A.Word.form (g.A.Word.plain (error_words c.args.english.now)) g.B.ValueWords.forms g.A.Word.says g.B.ValueWords.says c.args.rest c.in-Some.line (chars c.first_word.result.0.now) (words_left c.first_word.result.1) c.in-Some.is c.first_word.ensures c.in_ok-first.field-0 c.in_default-2.is c.in_ok-first.ensures.exact

pub returns-in_default-3 : goal.returns-in_default-3
returns-in_default-3 g c =
    without_others (error_words c.args.english.now) g.A.Word.form (g.A.Word.plain (error_words c.args.english.now)) g.B.ValueWords.forms g.A.Word.says g.B.ValueWords.says c.args.rest c.in-Some.line (chars c.first_word.result.0.now) (words_left c.first_word.result.1) c.in-Some.is c.first_word.ensures c.in_ok-others.field-0 c.in_default-3.is c.in_ok-others.ensures

pub returns : goal.returns
returns g c =
    all_there (error_words c.args.english.now) g.A.Word.form (g.A.Word.plain (error_words c.args.english.now)) g.B.ValueWords.forms g.A.Word.says g.B.ValueWords.says c.args.rest c.in-Some.line (chars c.first_word.result.0.now) (words_left c.first_word.result.1) c.in-Some.is c.first_word.ensures c.in_ok-first.field-0 c.in_ok-others.field-0 c.in-Some-2.first c.in-Some-3.others c.in-Some-2.is c.in-Some-3.is c.in_ok-first.ensures.exact c.in_ok-others.ensures
