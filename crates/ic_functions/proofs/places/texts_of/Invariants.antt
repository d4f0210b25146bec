use Rattle.std.proofs.Common.{◌≡◌, chars, map, take}
use Rattle.ic_functions.proofs.places.texts_of.Given as goal

-- the texts so far
abbrev pub invariant-loop-text : goal.invariant-loop-text
invariant-loop-text l = l.texts.items ≡ map (λ t. chars t.now) (take l.text-index l.all)
