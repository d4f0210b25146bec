use Rattle.std.proofs.Common.{◌∙◌, sym, chars}
use Rattle.std.proofs.lemmas.Bool.{eqb-false, eqb-true}
use Rattle.ic_words.proofs.EscapedNumbers.{index_spelled}
use Rattle.ic_words.proofs.NumberLemmas.{index_parsed, index_plus, same_index}
use Rattle.ic_words.proofs.numbers.index_of.Goals as goal

pub returns-then-has_plus : goal.returns-then-has_plus
returns-then-has_plus c =
    let word = c.args.word.now in
    let none = sym (index_plus word (eqb-true _ _ (sym c.has_plus.ensures ∙ c.if-has_plus.true))) ∙ sym (same_index word c.utf8.word) in
    record { exact = none; spelled = none ∙ index_spelled (chars word) }

pub returns : goal.returns
returns c =
    let word = c.args.word.now in
    let read = c.ok.ensures.value ∙ index_parsed word c.parse.result (eqb-false _ _ (sym c.has_plus.ensures ∙ c.if-has_plus.false)) c.parse.ensures.value.0 ∙ sym (same_index word c.utf8.word) in
    record { exact = read; spelled = read ∙ index_spelled (chars word) }
