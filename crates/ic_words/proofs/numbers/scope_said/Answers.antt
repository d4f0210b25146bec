use Rattle.std.proofs.Common.{None, Some, chars, sym, ◌∙◌}
use Rattle.ic_words.proofs.ScopeLemmas.{minus_alone, scope_as_index, scope_spelled}
use Rattle.ic_words.proofs.numbers.scope_said.Goals as goal

pub returns-then-eq : goal.returns-then-eq
returns-then-eq c =
    let said = minus_alone c.args.word.now (sym c.eq.ensures ∙ c.if-eq.true) in
    record { exact = said; spelled = said ∙ scope_spelled (chars c.args.word.now) }

pub returns-in_err-index : goal.returns-in_err-index
returns-in_err-index c =
    let said = c.from_residual.ensures ∙ scope_as_index c.args.word.now None c.utf8.word (sym c.eq.ensures ∙ c.if-eq.false) c.in_err-index.ensures.exact in
    record { exact = said; spelled = said ∙ scope_spelled (chars c.args.word.now) }

pub returns : goal.returns
returns c =
    let said = scope_as_index c.args.word.now (Some c.in_ok-index.index) c.utf8.word (sym c.eq.ensures ∙ c.if-eq.false) c.in_ok-index.ensures.exact in
    record { exact = said; spelled = said ∙ scope_spelled (chars c.args.word.now) }
