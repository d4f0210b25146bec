use Rattle.std.proofs.Common.{map, take}
use Rattle.ic_tables.specs.Words.{FindsFoldings}
use Rattle.ic_dump.proofs.passing.folded_names.Given as goal

-- those so far
abbrev pub invariant-loop-name : goal.invariant-loop-name
invariant-loop-name l = FindsFoldings l.folded (map (λ t. t.now) (take l.name-index l.names))
