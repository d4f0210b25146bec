use Rattle.std.proofs.Common.{◌≡◌, take}
use Rattle.ic_parts.proofs.copies.copy_texts.Given as goal

-- what is copied so far
abbrev pub invariant-loop-text : goal.invariant-loop-text
invariant-loop-text l = l.out.items ≡ take l.text-index l.texts
