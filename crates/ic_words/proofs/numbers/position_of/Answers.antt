use Rattle.std.proofs.Common.{◌∙◌, sym, chars}
use Rattle.std.proofs.lemmas.Bool.{eqb-false, eqb-true}
use Rattle.ic_words.proofs.EscapedNumbers.{position_spelled}
use Rattle.ic_words.proofs.NumberLemmas.{position_parsed, position_plus, same_position}
use Rattle.ic_words.proofs.numbers.position_of.Goals as goal

pub returns-then-has_plus : goal.returns-then-has_plus
returns-then-has_plus c =
    let word = c.args.word.now in
    let none = sym (position_plus word (eqb-true _ _ (sym c.has_plus.ensures ∙ c.if-has_plus.true))) ∙ sym (same_position word c.utf8.word) in
    record { exact = none; spelled = none ∙ position_spelled (chars word) }

pub returns : goal.returns
returns c =
    let word = c.args.word.now in
    let read = c.ok.ensures.value ∙ position_parsed word c.parse.result (eqb-false _ _ (sym c.has_plus.ensures ∙ c.if-has_plus.false)) c.parse.ensures.value.0 ∙ sym (same_position word c.utf8.word) in
    record { exact = read; spelled = read ∙ position_spelled (chars word) }
