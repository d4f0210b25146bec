use Rattle.std.proofs.Common.{sym}
use Rattle.ic_run.proofs.MakeLemmas.{by_numbers, other_word}
use Rattle.ic_run.proofs.make.making_named.Goals as goal

pub returns-then-not-same_text : goal.returns-then-not-same_text
returns-then-not-same_text c = other_word c.args.words.now c.if-words-ne3.false c.index-words-0.result c.as_str.result.now c.index-words-0.is c.as_str.ensures.value (sym c.if-not-same_text.ensures)

pub returns : goal.returns
returns c =
    by_numbers c.args.words.now c.if-words-ne3.false c.index-words-0.result c.as_str.result.now c.index-words-0.is c.as_str.ensures.value (sym c.if-not-same_text.ensures)
    c.index-words-1.result c.as_str-2.result.now c.index-words-1.is c.as_str-2.ensures.value c.index-words-2.result c.as_str-3.result.now c.index-words-2.is c.as_str-3.ensures.value
    c.in_ok-seed.seed c.in_ok-count.count c.in_ok-seed.ensures c.in_ok-count.ensures c.if-count-gt-MOST_LINES.false
