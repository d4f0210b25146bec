-- Places in ascending order: one more is put in, and those of two lists are merged.
use Rattle.std.proofs.Common.{◌≡◌, ◌<◌, ◌≤◌, ◌-◌, ℕ, zero, suc, List, [], ◌∷◌, ◌++◌, ◌||◌, subst, length, get_or, arith, append-nil}
use Rattle.std.specs.List.{insert}
use Rattle.std.specs.Ordering.{nat_cmp}
use Rattle.std.specs.List.Sorted.{IsBinarySearchResult}
use Rattle.std.specs.declared.result.Result.TheVariants.{Err}
use Rattle.std.proofs.lemmas.List.Sorted.{searched}
use Rattle.ic_pool.specs.MentionPlaces.{AscendFrom}
use Rattle.ic_pool.specs.Pool.{is_among}

-- ---- one place more

at_least : (from : ℕ) (xs : List ℕ) (k : ℕ) → AscendFrom from xs → k < length xs → from ≤ get_or xs k 0
at_least from [] k h lt = absurd (omega (arith, lt))
at_least from (x ∷ xs) zero h lt = h.0
at_least from (x ∷ xs) (suc k) h lt =
    let first = h.0 in
    let later = at_least (suc x) xs k h.1 (omega (arith, lt)) in
    omega (arith, first, later)

pub rises : (from : ℕ) (xs : List ℕ) → AscendFrom from xs → (i j : ℕ) → i ≤ j → j < length xs → get_or xs i 0 ≤ get_or xs j 0
rises from [] h i j le lt = absurd (omega (arith, lt))
rises from (x ∷ xs) h zero zero le lt = omega arith
rises from (x ∷ xs) h zero (suc j) le lt = let later = at_least (suc x) xs j h.1 (omega (arith, lt)) in omega (arith, later)
rises from (x ∷ xs) h (suc i) zero le lt = absurd (omega (arith, le))
rises from (x ∷ xs) h (suc i) (suc j) le lt = rises (suc x) xs h.1 i j (omega (arith, le)) (omega (arith, lt))

later : (from to : ℕ) (xs : List ℕ) → AscendFrom from xs → (0 < length xs → to ≤ get_or xs 0 0) → AscendFrom to xs
later from to [] h above = tt
later from to (x ∷ xs) h above = (above (omega arith), h.1)

-- where those before its index are below a place, and the others above it
pub put_in : (from : ℕ) (xs : List ℕ) (index place : ℕ) → from ≤ place → AscendFrom from xs → index ≤ length xs
    → ((k : ℕ) → k < index → get_or xs k 0 < place) → ((k : ℕ) → index ≤ k → k < length xs → place < get_or xs k 0)
    → AscendFrom from (insert xs index place)
put_in from xs zero place le h within below above = (le, later from (suc place) xs h (λ some. let first = above 0 (omega arith) some in omega (arith, first)))
put_in from [] (suc index) place le h within below above = absurd (omega (arith, within))
put_in from (x ∷ xs) (suc index) place le h within below above = (
  h.0,
  put_in (suc x) xs index place (let first = below 0 (omega arith) in omega (arith, first)) h.1 (omega (arith, within))
      (λ k lt. below (suc k) (omega (arith, lt))) (λ k from lt. above (suc k) (omega (arith, from)) (omega (arith, lt))),
)

-- where the last one is below a place
pub put_last : (xs : List ℕ) (last place : ℕ) → AscendFrom 0 xs → last ≡ get_or xs (length xs - 1) 0 → last < place → AscendFrom 0 (insert xs (length xs) place)
put_last xs last place h is past =
    put_in 0 xs (length xs) place (omega arith) h (omega arith)
    (λ k lt. let most = rises 0 xs h k (length xs - 1) (omega (arith, lt)) (omega (arith, lt)) in omega (arith, most, is, past))
    (λ k from lt. absurd (omega (arith, from, lt)))

-- where a search came to an index
pub put_where_searched : (xs : List ℕ) (place index : ℕ) → AscendFrom 0 xs → IsBinarySearchResult (λ y. nat_cmp y place) xs (Err index)
    → AscendFrom 0 (insert xs index place)
put_where_searched xs place index h found =
    let there = searched xs place (Err index) found (rises 0 xs h) in
    put_in 0 xs index place (omega arith) h there.0 there.1 there.2

-- ---- places up to one

-- these places and others from one on ascend together
pub record AscendTo (to : ℕ) (places : List ℕ) : Type 0 where
  pub joins : (others : List ℕ) → AscendFrom to others → AscendFrom 0 (places ++ others)

pub ascended : (to : ℕ) (places : List ℕ) → AscendTo to places → AscendFrom 0 places
ascended to places before = subst (AscendFrom 0) (append-nil places) (before.joins [] tt)

-- the places so far of two lists ascend and end before those that are left of the lists, and no place is lost
pub record MergedSoFar (one other both ones others : List ℕ) : Type 0 where
  pub to : ℕ
  pub ascend : AscendTo to both
  pub ones_left : AscendFrom to ones
  pub others_left : AscendFrom to others
  pub among : (k : ℕ) → (is_among k both || (is_among k ones || is_among k others)) ≡ (is_among k one || is_among k other)
