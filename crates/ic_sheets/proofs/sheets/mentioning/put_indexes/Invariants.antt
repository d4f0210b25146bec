use Rattle.std.proofs.Common.{◌≡◌, ℕ, Some, take, true}
use Rattle.std.specs.BTreeSet.{contains}
use Rattle.std.specs.Ordering.{nat_cmp}
use Rattle.ic_sheets.specs.Index.{is_listed}
use Rattle.ic_sheets.specs.Spots.{index_at}
use Rattle.ic_sheets.proofs.sheets.mentioning.put_indexes.Given as goal

-- those of the ids before are in, and what was
abbrev pub invariant-loop-id : goal.invariant-loop-id
invariant-loop-id l = record {
  put : (id index : ℕ) → is_listed id (take l.id-index l.ids) ≡ true → index_at id l.indexes.list.items ≡ Some index → contains nat_cmp l.about index ≡ true;
  kept : (index : ℕ) → contains nat_cmp l.initial.about index ≡ true → contains nat_cmp l.about index ≡ true;
}
