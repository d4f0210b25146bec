use Rattle.std.proofs.Common.{◌≡◌, ◌++◌, map, take}
use Rattle.std.specs.Prelude.{flat_map}
use Rattle.ic_dump.specs.Passing.{unfound_of}
use Rattle.ic_dump.proofs.taken.push_unfound_by.Given as goal

-- those so far
abbrev pub invariant-loop-index : goal.invariant-loop-index
invariant-loop-index l = map (λ name. name.now) l.names.items ≡ map (λ name. name.now) l.initial.names.items ++ flat_map unfound_of (map (λ d. d.body) (take l.index l.model.book.definitions))
