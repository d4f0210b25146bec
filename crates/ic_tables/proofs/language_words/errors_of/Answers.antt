use Rattle.std.proofs.Common.{◌∙◌, sym, arith}
use Rattle.ic_tables.proofs.PlaceLemmas.{errors_are, other_than_twelve}
use Rattle.ic_tables.proofs.language_words.errors_of.Goals as goal

pub returns-in-Ok : goal.returns-in-Ok
returns-in-Ok c = sym (errors_are c.errors_from.result c.args.words.items (c.errors_from.ensures ∙ c.in-Ok.ensures.0))

pub returns : goal.returns
returns c = sym (other_than_twelve c.args.words.items (λ same. c.in-Err.ensures.1 (omega arith)))
