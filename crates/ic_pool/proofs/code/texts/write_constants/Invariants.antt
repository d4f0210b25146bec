use Rattle.std.proofs.Common.{◌≡◌, ◌++◌, map, drop}
use Rattle.ic_pool.specs.Code.{constant_text}
use Rattle.ic_pool.specs.Bytes.{text_bytes, joined, all_bytes}
use Rattle.ic_pool.proofs.code.texts.write_constants.Given as goal

-- what is written and what is left to write
abbrev pub invariant-loop-constant : goal.invariant-loop-constant
invariant-loop-constant l =
    l.key ++ joined text_bytes (map constant_text (drop l.constant-index l.row)) ≡ l.fn.key ++ all_bytes text_bytes (map constant_text l.row)
