use Rattle.std.proofs.Common.{map, take}
use Rattle.ic_dump.specs.Records.{FindsIds}
use Rattle.ic_dump.proofs.scopes.own_ids.Given as goal

-- those so far
abbrev pub invariant-loop-sheet : goal.invariant-loop-sheet
invariant-loop-sheet l = FindsIds l.seen (map (λ s. s.name.now.id) (take l.sheet-index l.sheets))
