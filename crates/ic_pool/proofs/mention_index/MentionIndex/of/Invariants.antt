use Rattle.std.proofs.Common.{◌≡◌, ◌<◌, ℕ, Some}
use Rattle.std.specs.List.{slice_get}
use Rattle.ic_laws.specs.declared.tree.Formula.{Formula}
use Rattle.ic_pool.specs.MentionPlaces.{HasAt}
use Rattle.ic_pool.specs.Topics.{topics_in}
use Rattle.ic_pool.proofs.mention_index.MentionIndex.of.Given as goal

-- the formulas before are known
abbrev pub invariant-loop-at : goal.invariant-loop-at
invariant-loop-at l = (k : ℕ) (x : Formula) → k < l.at → slice_get l.formulas k ≡ Some x → HasAt l.index k (topics_in x)
