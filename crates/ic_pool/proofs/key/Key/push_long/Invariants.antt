use Rattle.std.proofs.Common.{◌≡◌, ◌++◌}
use Rattle.ic_pool.specs.Bytes.{number_bytes}
use Rattle.ic_pool.proofs.key.Key.push_long.Given as goal

-- what is written and what is left to write
abbrev pub invariant-loop-rest : goal.invariant-loop-rest
invariant-loop-rest l = l.self-inside.bytes.items ++ number_bytes l.rest ≡ l.fn.self ++ number_bytes l.number

abbrev pub decreases-loop-rest : goal.decreases-loop-rest
decreases-loop-rest l = l.rest
