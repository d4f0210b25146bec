use Rattle.std.proofs.Common.{◌≡◌, drop}
use Rattle.ic_pool.specs.Hash.{mixed_bytes}
use Rattle.ic_pool.proofs.hashed.mixed_bytes.Given as goal

-- what is mixed, with what is left to mix
abbrev pub invariant-loop-byte : goal.invariant-loop-byte
invariant-loop-byte l = mixed_bytes l.out (drop l.byte-index l.bytes) ≡ mixed_bytes l.number l.bytes
