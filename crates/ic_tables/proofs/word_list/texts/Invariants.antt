use Rattle.std.proofs.Common.{◌≡◌, chars, map, take}
use Rattle.ic_tables.proofs.word_list.texts.Given as goal

-- the texts so far
abbrev pub invariant-loop-word : goal.invariant-loop-word
invariant-loop-word l = l.texts.items ≡ map (λ w. chars w.now) (take l.word-index l.words)
