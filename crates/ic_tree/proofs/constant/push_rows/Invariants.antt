use Rattle.std.proofs.Common.{◌≡◌, ◌++◌, chars, drop, string_bytes}
use Rattle.ic_tree.specs.Printed.{each_from, row_separator, row_text}
use Rattle.ic_tree.proofs.constant.push_rows.Given as goal

-- what is written so far, and what is left to write, are the whole
abbrev pub invariant-loop-n : goal.invariant-loop-n
invariant-loop-n g l =
    chars (string_bytes l.out) ++ each_from (row_separator (g.D.Dialect.meaning l.d)) l.n (row_text (g.D.Dialect.meaning l.d)) (drop l.n l.rows) ≡ chars (string_bytes l.fn.out) ++ each_from (row_separator (g.D.Dialect.meaning l.d)) 0 (row_text (g.D.Dialect.meaning l.d)) l.rows
