use Rattle.std.proofs.Common.{chars}
use Rattle.ic_laws.specs.declared.dialect.WordKind.TheVariants as kinds
use Rattle.ic_tables.specs.Words.{first_agreeing, words_of}
use Rattle.ic_tree.proofs.ShownLemmas.{second_answers}
use Rattle.ic_tree.proofs.shown.find_error_in.Goals as goal

pub returns-in-None : goal.returns-in-None
returns-in-None c =
    second_answers (first_agreeing (words_of c.args.words.now.language.now kinds.Error)) (first_agreeing (words_of c.args.english.now.language.now kinds.Error)) (chars c.args.text.now)
    c.find_error-in-None.result (λ p. chars p.1.now) (λ p. p.0) c.in-None.ensures c.find_error-in-None.ensures
