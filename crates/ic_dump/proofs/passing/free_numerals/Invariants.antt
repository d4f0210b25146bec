use Rattle.std.proofs.Common.{◌≡◌, ◌≤◌, ◌+◌, ◌-◌, ◌++◌, filter, length, map, take}
use Rattle.std.specs.Fmt.{decimal}
use Rattle.std.specs.List.{range_with_len}
use Rattle.ic_dump.specs.Passing.{free_numerals, is_free}
use Rattle.ic_dump.proofs.passing.free_numerals.Given as goal

-- those so far, and the numerals that are left
abbrev pub invariant-loop-number : goal.invariant-loop-number
invariant-loop-number l = record {
  few : length l.names.items ≤ l.count;
  left : l.names.items ++ take (l.count - length l.names.items) (filter (is_free (map (λ t. t.now) l.taken)) (map decimal (range_with_len l.number (l.end - l.number)))) ≡ free_numerals l.count (map (λ t. t.now) l.taken);
}
