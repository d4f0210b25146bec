use Rattle.std.proofs.Common.{◌≡◌}
use Rattle.ic_parts.proofs.CopyLemmas.{inserted}
use Rattle.ic_parts.proofs.copies.copy_lines.Given as goal

-- what is copied so far, with the rest put in, is all of it
abbrev pub invariant-loop-number : goal.invariant-loop-number
invariant-loop-number g l = inserted l.out l.number-iterator ≡ l.lines
