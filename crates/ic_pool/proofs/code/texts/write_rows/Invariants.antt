use Rattle.std.proofs.Common.{◌≡◌, ◌++◌, map, drop}
use Rattle.ic_pool.specs.Code.{constant_text}
use Rattle.ic_pool.specs.Bytes.{text_bytes, joined, all_bytes}
use Rattle.ic_pool.proofs.code.texts.write_rows.Given as goal

-- what is written and what is left to write
abbrev pub invariant-loop-row : goal.invariant-loop-row
invariant-loop-row l =
    l.key ++ joined (all_bytes text_bytes) (map (map constant_text) (drop l.row-index l.rows)) ≡ l.fn.key ++ all_bytes (all_bytes text_bytes) (map (map constant_text) l.rows)
