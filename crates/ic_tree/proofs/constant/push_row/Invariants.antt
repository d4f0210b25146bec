use Rattle.std.proofs.Common.{◌≡◌, ◌++◌, chars, drop, string_bytes}
use Rattle.ic_tree.specs.Printed.{constant_text, each_from}
use Rattle.ic_tree.proofs.constant.push_row.Given as goal

-- what is written so far, and what is left to write, are the whole
abbrev pub invariant-loop-n : goal.invariant-loop-n
invariant-loop-n g l =
    chars (string_bytes l.out) ++ each_from (g.D.Dialect.meaning l.d).list l.n (constant_text (g.D.Dialect.meaning l.d)) (drop l.n l.row) ≡ chars (string_bytes l.fn.out) ++ each_from (g.D.Dialect.meaning l.d).list 0 (constant_text (g.D.Dialect.meaning l.d)) l.row
