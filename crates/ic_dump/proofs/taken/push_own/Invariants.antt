use Rattle.std.proofs.Common.{◌≡◌, ◌++◌, map, take}
use Rattle.ic_dump.proofs.taken.push_own.Given as goal

-- those so far
abbrev pub invariant-loop-sheet : goal.invariant-loop-sheet
invariant-loop-sheet l = map (λ name. name.now) l.names.items ≡ map (λ name. name.now) l.initial.names.items ++ map (λ s. s.name.now.name) (take l.sheet-index l.sheets)
