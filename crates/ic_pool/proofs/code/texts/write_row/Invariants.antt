use Rattle.std.proofs.Common.{◌≡◌, ◌++◌, drop}
use Rattle.ic_pool.specs.Bytes.{text_bytes, joined, all_bytes}
use Rattle.ic_pool.proofs.code.texts.write_row.Given as goal

-- what is written and what is left to write
abbrev pub invariant-loop-text : goal.invariant-loop-text
invariant-loop-text l =
    l.key ++ joined text_bytes (drop l.text-index l.texts) ≡ l.fn.key ++ all_bytes text_bytes l.texts
