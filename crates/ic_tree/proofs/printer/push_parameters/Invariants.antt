use Rattle.std.proofs.Common.{◌≡◌, ◌++◌, chars, drop, string_bytes}
use Rattle.ic_tree.specs.Printed.{each_before}
use Rattle.ic_tree.proofs.printer.push_parameters.Given as goal

-- what is written so far, and what is left to write, are the whole
abbrev pub invariant-loop-parameter : goal.invariant-loop-parameter
invariant-loop-parameter g l = chars (string_bytes l.out) ++ each_before (g.D.Dialect.meaning l.d).list (λ p. p) (drop l.parameter-index l.parameters) ≡ chars (string_bytes l.fn.out) ++ each_before (g.D.Dialect.meaning l.d).list (λ p. p) l.parameters
