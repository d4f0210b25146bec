use Rattle.std.proofs.Common.{◌≡◌, ℕ, Some, take, true}
use Rattle.std.specs.BTreeSet.{contains}
use Rattle.std.specs.Ordering.{nat_cmp}
use Rattle.ic_pool.specs.MentionPlaces.{has_place_of}
use Rattle.ic_sheets.specs.Spots.{index_at}
use Rattle.ic_sheets.proofs.sheets.mentioning.indexes_about.Given as goal

-- those of the topics before are in
abbrev pub invariant-loop-topic : goal.invariant-loop-topic
invariant-loop-topic l = (id index : ℕ) → has_place_of l.mentioners.index (take l.topic-index l.topics) id ≡ true → index_at id l.indexes.list.items ≡ Some index → contains nat_cmp l.about index ≡ true
