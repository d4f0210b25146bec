use Rattle.std.proofs.Common.{◌≡◌, ℕ, List, ◌∷◌, ◌++◌, chars, flat_map, map, string_bytes, take}
use Rattle.ic_laws.specs.Character.{tab}
use Rattle.ic_laws.specs.Lines.{escaped}
use Rattle.ic_dump.proofs.lines.push_others.Given as goal

-- the words so far
abbrev pub invariant-loop-other : goal.invariant-loop-other
invariant-loop-other l = chars (string_bytes l.text) ≡ chars (string_bytes l.initial.text) ++ flat_map (λ (t : List ℕ). tab ∷ escaped t) (map (λ t. chars t.now) (take l.other-index l.others))
