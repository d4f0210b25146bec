use Rattle.std.proofs.Common.{◌≡◌, ◌++◌, map, take}
use Rattle.std.specs.Prelude.{flat_map}
use Rattle.ic_dump.specs.Records.{core_seen}
use Rattle.ic_dump.proofs.TakenLemmas.{unfound_at}
use Rattle.ic_dump.proofs.taken.push_unfound_in.Given as goal

-- those so far
abbrev pub invariant-loop-sheet : goal.invariant-loop-sheet
invariant-loop-sheet l = map (λ name. name.now) l.names.items ≡ map (λ name. name.now) l.initial.names.items ++ flat_map unfound_at (map core_seen (take l.sheet-index l.sheets))
