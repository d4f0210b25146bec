use Rattle.std.proofs.Common.{◌≡◌, ◌++◌, chars, drop, string_bytes}
use Rattle.ic_tree.specs.Printed.{each_before, each_from, written_pair}
use Rattle.ic_tree.proofs.tree_printer.+push.Given as goal

-- what is written so far, and what is left to write, are the whole
abbrev pub invariant-push_arguments-loop-n : goal.invariant-push_arguments-loop-n
invariant-push_arguments-loop-n g l =
    chars (string_bytes l.out) ++ each_from (g.D.Dialect.meaning l.d).list l.n (g.M.Mentions.written l.mentions (g.D.Dialect.meaning l.d)) (drop l.n l.arguments) ≡ chars (string_bytes l.fn.out) ++ each_from (g.D.Dialect.meaning l.d).list 0 (g.M.Mentions.written l.mentions (g.D.Dialect.meaning l.d)) l.arguments

abbrev pub invariant-push_pairs-loop-pair : goal.invariant-push_pairs-loop-pair
invariant-push_pairs-loop-pair g l =
    chars (string_bytes l.out) ++ each_before (g.D.Dialect.meaning l.d).list (written_pair (g.D.Dialect.meaning l.d) (g.M.Mentions.written l.mentions (g.D.Dialect.meaning l.d))) (drop l.pair-index l.pairs) ≡ chars (string_bytes l.fn.out) ++ each_before (g.D.Dialect.meaning l.d).list (written_pair (g.D.Dialect.meaning l.d) (g.M.Mentions.written l.mentions (g.D.Dialect.meaning l.d))) l.pairs
