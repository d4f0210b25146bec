use Rattle.std.proofs.Common.{◌∙◌, sym}
use Rattle.std.proofs.lemmas.Bool.{eqb-false, eqb-true}
use Rattle.ic_run.proofs.MakeLemmas.{seed_parsed, seed_plus}
use Rattle.ic_run.proofs.make.number_of.Goals as goal

pub returns-then-has_plus : goal.returns-then-has_plus
returns-then-has_plus c = seed_plus c.args.word.now c.utf8.word (eqb-true _ _ (sym c.has_plus.ensures ∙ c.if-has_plus.true))

pub returns : goal.returns
returns c = c.ok.ensures.value ∙ seed_parsed c.args.word.now c.parse.result c.utf8.word (eqb-false _ _ (sym c.has_plus.ensures ∙ c.if-has_plus.false)) c.parse.ensures.value.0
