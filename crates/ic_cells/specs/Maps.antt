-- The order of places on a sheet, and marks of the columns in which something stands.
use Rattle.std.specs.Prelude.{◌≡◌, ℕ, ℤ, pos, ◌^◌, ◌≤ℤ◌, ◌<ℤ◌, IsSome, None, unsigned_abs}
use Rattle.std.specs.FinMap as map
use Rattle.std.specs.FinMap.{FinMap}
use Rattle.std.specs.Int.{bit_at, int_rem_euclid}
use Rattle.std.specs.Ordering.{int_cmp, ordering_then}
use Rattle.std.specs.declared.cmp.Ordering.{Ordering}

-- by row, and then by column
abbrev pub place_cmp : ℤ × ℤ → ℤ × ℤ → Ordering
place_cmp p q = ordering_then (int_cmp p.0 q.0) (int_cmp p.1 q.1)

-- which of 64 bits marks a column
abbrev pub column_bit : ℤ → ℕ
column_bit c = unsigned_abs (int_rem_euclid c (pos 64))

-- that bit alone
abbrev pub column_mark : ℤ → ℕ
column_mark c = 2 ^ column_bit c

-- that bit is set
abbrev pub IsMarked : ℕ → ℤ → Type 0
IsMarked marks c = bit_at marks (column_bit c) ≡ 1

-- the column of each place at which something stands is marked
abbrev pub AreMarked : {X : Type 0} → ℕ → FinMap place_cmp X → Type 0
AreMarked marks m = (p : ℤ × ℤ) → IsSome (map.get m p) → IsMarked marks p.1

-- nothing stands in the columns from the first number up to before the second
abbrev pub HasNoneBetween : {X : Type 0} → FinMap place_cmp X → ℤ → ℤ → Type 0
HasNoneBetween m from to = (p : ℤ × ℤ) → from ≤ℤ p.1 → p.1 <ℤ to → map.get m p ≡ None
