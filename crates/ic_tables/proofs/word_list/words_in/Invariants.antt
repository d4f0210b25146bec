use Rattle.std.proofs.Common.{◌≡◌, ◌++◌, chars, length}
use denote.Text.{Utf8}
use denote.Shadow.{shadow}
use Rattle.ic_tables.specs.WordList.{words_in}
use Rattle.ic_tables.proofs.ListLemmas.{later_words}
use Rattle.ic_tables.proofs.word_list.words_in.Given as goal

-- the words so far and those of the rest are all words
abbrev pub invariant-loop-after : goal.invariant-loop-after
invariant-loop-after l = shadow (Utf8 l.rest) × (l.words.items ++ later_words (chars l.rest) ≡ words_in (chars l.text))

abbrev pub decreases-loop-after : goal.decreases-loop-after
decreases-loop-after l = length l.rest
