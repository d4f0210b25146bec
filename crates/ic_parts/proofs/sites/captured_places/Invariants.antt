use Rattle.std.proofs.Common.{◌≡◌, ℕ, take}
use Rattle.std.specs.BTreeSet.{contains}
use Rattle.std.specs.Ordering.{nat_cmp}
use Rattle.ic_laws.specs.Keeping.{changed_key}
use Rattle.ic_parts.specs.Sites.{captures_at}
use Rattle.ic_parts.proofs.sites.captured_places.Given as goal

-- the places of those that were looked at
abbrev pub invariant-loop-new : goal.invariant-loop-new
invariant-loop-new l =
    (index : ℕ) → contains nat_cmp l.places index ≡ captures_at (changed_key l.change.old l.change.new) l.pool.formulas (take l.new-index l.changes) index
