use Rattle.std.proofs.Common.{◌≡◌, ◌≤◌, length}
use Rattle.ic_changes.specs.Copied.{with_each_body}
use Rattle.ic_changes.proofs.sheet_copies.definitions.put_bodies.Given as goal

-- what is left to be put makes of the definitions what all makes
abbrev pub invariant-loop-body : goal.invariant-loop-body
invariant-loop-body l = record {
  left : with_each_body l.bodies.items l.definitions ≡ with_each_body l.fn.bodies.items l.fn.definitions;
  within : length l.bodies.items ≤ length l.definitions;
}

abbrev pub decreases-loop-body : goal.decreases-loop-body
decreases-loop-body l = goal.left-loop-body l
