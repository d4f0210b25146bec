use Rattle.std.proofs.Common.{◌≡◌, ◌++◌, drop}
use Rattle.ic_pool.specs.Bytes.{joined, number_bytes}
use Rattle.ic_pool.proofs.key.Key.extend.Given as goal

-- what is written and what is left to write
abbrev pub invariant-loop-number : goal.invariant-loop-number
invariant-loop-number l = l.self ++ joined number_bytes (drop l.number-index l.numbers) ≡ l.fn.self ++ joined number_bytes l.numbers
