use Rattle.std.proofs.Common.{◌≡◌, take}
use Rattle.ic_parts.proofs.copies.copy_styles.Given as goal

-- those so far
abbrev pub invariant-loop-index : goal.invariant-loop-index
invariant-loop-index l = l.out ≡ take l.index l.styles
