use Rattle.std.proofs.Common.{◌∙◌, sym, arith}
use Rattle.ic_tables.proofs.PlaceLemmas.{booleans_are, other_than_two}
use Rattle.ic_tables.proofs.language_words.booleans_of.Goals as goal

pub returns-in-Ok : goal.returns-in-Ok
returns-in-Ok c = sym (booleans_are c.booleans_from.result c.args.words.items (c.booleans_from.ensures ∙ c.in-Ok.ensures.0))

pub returns : goal.returns
returns c = sym (other_than_two c.args.words.items (λ same. c.in-Err.ensures.1 (omega arith)))
