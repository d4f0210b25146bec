use Rattle.std.proofs.Common.{length}
use Rattle.ic_tables.specs.Words.{error_words}
use Rattle.ic_words.specs.Words.{words_left}
use Rattle.ic_words.proofs.ValueLemmas.{AreRead}
use Rattle.ic_words.proofs.values.VecSpillValueValueWords.of.Given as goal

abbrev pub invariant-loop-left : goal.invariant-loop-left
invariant-loop-left l = AreRead (error_words l.english) l.values.items l.fn.rest l.left

abbrev pub decreases-loop-left : goal.decreases-loop-left
decreases-loop-left l = length (words_left l.left)
