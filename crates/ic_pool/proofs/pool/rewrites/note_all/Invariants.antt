use Rattle.std.proofs.Common.{take}
use Rattle.std.specs.List.{AllByRecursion}
use Rattle.ic_pool.specs.MentionPlaces.{HasAt, KeepsAll}
use Rattle.ic_pool.specs.Topics.{topics_in}
use Rattle.ic_pool.proofs.pool.rewrites.note_all.Given as goal

-- the changes before are noted
abbrev pub invariant-loop-change : goal.invariant-loop-change
invariant-loop-change l = record {
  noted : AllByRecursion (λ change. HasAt l.mentions change.at (topics_in change.formula)) (take l.change-index l.changes);
  kept : KeepsAll l.initial.mentions l.mentions;
}
