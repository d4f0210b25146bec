use Rattle.std.proofs.Common.{chars, map}
use Rattle.ic_run.proofs.RetoldLemmas.{AreSoFar}
use Rattle.ic_run.proofs.retold.texts_of_words.Given as goal

-- the texts of the words so far
abbrev pub invariant-loop-word : goal.invariant-loop-word
invariant-loop-word l = AreSoFar (map (λ w. chars w.now) l.words) l.word-index l.texts.items
