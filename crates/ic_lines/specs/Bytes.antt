-- What a source and a sink do to the bytes that they tell, and how their faults are seen.
use Rattle.std.specs.Prelude.{◌≡◌, ℕ, ◌+◌, ◌<◌, ◌≤◌, ◌⊎◌, nat_lt, ◌==◌, ◌&&◌, ◌||◌, Bool, List, [], ◌++◌, length, take, drop, Option, Some, None, Result, Ok, Err}
use Rattle.ic_lines.specs.declared.error.Failed.{Failed}

-- where a counter stands still
abbrev pub last_count : ℕ
last_count = 18446744073709551615

-- A call met a fault, and one alone: the count of faults rose by one in it, or stood at its end, where one more doesn't
-- show, and stands there.
abbrev pub HasFault : ℕ → ℕ → Type 0
HasFault before now = (now ≡ before + 1) ⊎ ((before ≡ last_count) × (now ≡ last_count))

-- Where the bytes were told before a call, they are told after it too, and both are so related.
abbrev pub IfTold : Option (List ℕ) → Option (List ℕ) → (List ℕ → List ℕ → Type 0) → Type 0
IfTold None now P = Unit {0}
IfTold (Some before) None P = ⊥
IfTold (Some before) (Some now) P = P before now

-- n bytes went from the front of what was left to the front of the buffer
pub record TakesFront (n : ℕ) (buffer before now : List ℕ) : Type 0 where
  pub enough : n ≤ length before
  pub moved : take n buffer ≡ take n before
  pub rest : now ≡ drop n before
  -- no byte comes only at the end, or into no room
  pub end : n ≡ 0 → 0 < length buffer → before ≡ []

-- a front of the bytes was taken
abbrev pub TakesFirst : List ℕ → List ℕ → Type 0
TakesFirst before now = (got : List ℕ) × (before ≡ got ++ now)

-- what a read answers and does to the bytes that are left
abbrev pub MovesRead : Option (List ℕ) → Option (List ℕ) → Result ℕ Failed → List ℕ → Type 0
MovesRead before now (Ok n) buffer = IfTold before now (TakesFront n buffer)
MovesRead before now (Err failed) buffer = IfTold before now (λ old new. new ≡ old)

-- a front of the piece, not all of it, stands after what was written before
abbrev pub AppendsFront : List ℕ → List ℕ → List ℕ → Type 0
AppendsFront piece before now = (n : ℕ) × (n < length piece) × (now ≡ before ++ take n piece)

-- what a write of a piece answers and does to the bytes that were written
abbrev pub MovesWritten : Option (List ℕ) → Option (List ℕ) → Result ℕ Failed → List ℕ → Type 0
MovesWritten before now (Ok n) piece = IfTold before now (λ old new. new ≡ old ++ take n piece)
MovesWritten before now (Err failed) piece = IfTold before now (λ old new. new ≡ old)

-- whether the end was shown before a read into this much room and after it: a read of nothing into some room shows it
abbrev pub ShowsEnd : {E : Type 0} → Bool → Bool → Result ℕ E → ℕ → Type 0
ShowsEnd before now (Ok n) room = now ≡ (before || n == 0 && nat_lt 0 room)
ShowsEnd before now (Err e) room = now ≡ before
