use Rattle.std.proofs.Common.{sym}
use Rattle.ic_run.proofs.TranslationLemmas.{by_ids, other_word}
use Rattle.ic_run.proofs.translation.wanted_named.Goals as goal

pub returns-then-not-same_text : goal.returns-then-not-same_text
returns-then-not-same_text c = other_word c.args.words.now c.if-words-ne3.false c.index-words-0.result c.as_str.result.now c.index-words-0.is c.as_str.ensures.value (sym c.if-not-same_text.ensures)

pub returns : goal.returns
returns c =
    by_ids c.args.words.now c.if-words-ne3.false c.index-words-0.result c.as_str.result.now c.index-words-0.is c.as_str.ensures.value (sym c.if-not-same_text.ensures)
    c.index-words-1.result c.index-words-2.result c.as_str-2.result.now c.as_str-3.result.now c.index-words-1.is c.index-words-2.is c.as_str-2.ensures.value c.as_str-3.ensures.value
