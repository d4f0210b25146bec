use Rattle.std.proofs.Common.{chars, sym, ◌∙◌}
use Rattle.ic_tables.specs.Words.{error_words}
use Rattle.ic_words.proofs.ValueLemmas.{more_than_one}
use Rattle.ic_words.proofs.values.FormulaValueValueWords.of.Goals as goal

pub returns-then-is_some : goal.returns-then-is_some
returns-then-is_some c =
    more_than_one (error_words c.args.english.now) c.args.rest c.in-Some.line (chars c.first_word.result.0.now) c.first_word.result.1 c.in-Some.is c.first_word.ensures (sym c.is_some.ensures ∙ c.if-is_some.true)
