use Rattle.std.proofs.Common.{◌≡◌, take}
use Rattle.ic_pool.proofs.copies.parts.copy_texts.Given as goal

abbrev pub invariant-loop-text : goal.invariant-loop-text
invariant-loop-text l = l.out.items ≡ take l.text-index l.texts
