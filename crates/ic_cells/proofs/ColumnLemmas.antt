-- Marks of the columns in which something stands.
use Rattle.std.proofs.Common.{◌≡◌, ◌∙◌, refl, sym, ap, subst, ℕ, ◌*◌, ◌^◌, ◌<◌, max, ℤ, pos, negsuc, ◌+ℤ◌, Bool, true, false, cond, Option, Some, None, IsSome, arith, bit_and, bit_or, int_lt}
use Rattle.std.proofs.lemmas.Int.{ints}
use Rattle.std.proofs.lemmas.Nat.{pow_pos}
use Rattle.std.proofs.lemmas.Nat.Bits.{and_pow, bit_at-lt, bit_at-pow_same, bit_at_ones, bit_at_or}
use Rattle.std.specs.FinMap as map
use Rattle.std.specs.FinMap.{FinMap, get-empty, get-insert, get-remove}
use Rattle.std.specs.Int.{bit_at}
use Rattle.std.specs.Ordering.{eq_by_cmp, is_eq}
use Rattle.std.specs.declared.cmp.Ordering.{Ordering}
use Rattle.std.specs.declared.cmp.Ordering.TheVariants.{Less, Equal, Greater}
use Rattle.ic_cells.proofs.MapLemmas.{places_exact, places_total}
use Rattle.ic_cells.specs.Maps.{AreMarked, HasNoneBetween, IsMarked, column_bit, column_mark, place_cmp}

most_one : (b : ℕ) → b < 2 → (max 1 b ≡ 1) × (max b 1 ≡ 1)
most_one b below = (omega arith, omega arith)

-- a bit that is set stays so, and the new one is set
still_set : (marks j k : ℕ) → bit_at marks k ≡ 1 → bit_at (bit_or marks (2 ^ j)) k ≡ 1
still_set marks j k e = bit_at_or marks (2 ^ j) k ∙ ap (λ b. max b (bit_at (2 ^ j) k)) e ∙ (most_one (bit_at (2 ^ j) k) (bit_at-lt _ k)).0

now_set : (marks k : ℕ) → bit_at (bit_or marks (2 ^ k)) k ≡ 1
now_set marks k = bit_at_or marks (2 ^ k) k ∙ ap (max (bit_at marks k)) (bit_at-pow_same k) ∙ (most_one (bit_at marks k) (bit_at-lt _ k)).1

bit_below : (c : ℤ) → column_bit c < 64
bit_below (pos a) = omega arith
bit_below (negsuc a) = omega arith

-- where all bits are set, each column is marked
pub all_set : (c : ℤ) → IsMarked 18446744073709551615 c
all_set c = bit_at_ones 64 (column_bit c) (bit_below c)

-- places that tie are one
pub tie : (r : Ordering) → is_eq r ≡ true → r ≡ Equal
tie Less e = let no : false ≡ true = e in cc
tie Equal e = refl
tie Greater e = let no : false ≡ true = e in cc

-- where nothing stands, it isn't so that something does
none_some : {X P : Type 0} (o : Option X) → o ≡ None → IsSome o → P
none_some None e some = let no : false ≡ true = some in cc
none_some (Some x) e some = let no : Some x ≡ None = e in cc

-- a map without places
pub none_marked : {X : Type 0} (marks : ℕ) (n : FinMap place_cmp X) → n ≡ map.empty → AreMarked marks n
none_marked marks n e q some = none_some (map.get n q) (ap (λ w. map.get w q) e ∙ get-empty place_cmp q) some

module _ {X : Type 0} (marks : ℕ) (m : FinMap place_cmp X) (marked : AreMarked marks m) where
  put_at : (b : Bool) (v : X) (q : ℤ × ℤ) → IsSome (cond b (Some v) (map.get m q)) → (b ≡ true → IsMarked marks q.1) → IsMarked marks q.1
  put_at true v q some here = here refl
  put_at false v q some here = marked q some

  taken_at : (b : Bool) (q : ℤ × ℤ) → IsSome (cond b None (map.get m q)) → IsMarked marks q.1
  taken_at true q some = none_some {X = X} None refl some
  taken_at false q some = marked q some

  -- an item is put at a place with a marked column
  put_marked : (p : ℤ × ℤ) (v : X) (n : FinMap place_cmp X) → n ≡ map.insert m p v → IsMarked marks p.1 → AreMarked marks n
  put_marked p v n is here q some =
      put_at (eq_by_cmp place_cmp q p) v q (subst (λ o. IsSome o) (ap (λ w. map.get w q) is ∙ get-insert places_total m p v q) some)
      (λ t. ap (λ (r : ℤ × ℤ). bit_at marks (column_bit r.1)) (places_exact q p (tie _ t)) ∙ here)

  -- at a place at which something stands
  pub lent_marked : (p : ℤ × ℤ) (v : X) (n : FinMap place_cmp X) → n ≡ map.insert m p v → IsSome (map.get m p) → AreMarked marks n
  lent_marked p v n is some = put_marked p v n is (marked p some)

  -- and taken away
  pub removed_marked : (p : ℤ × ℤ) (n : FinMap place_cmp X) → n ≡ map.remove m p → AreMarked marks n
  removed_marked p n is q some = taken_at (eq_by_cmp place_cmp q p) q (subst (λ o. IsSome o) (ap (λ w. map.get w q) is ∙ get-remove places_total m p q) some)

module _ {X : Type 0} (marks : ℕ) (m : FinMap place_cmp X) (marked : AreMarked marks m) (mark : ℕ) (c : ℤ) (one : mark ≡ column_mark c) where
  -- one column more is marked
  more_marked : AreMarked (bit_or marks mark) m
  more_marked q some = ap (λ n. bit_at (bit_or marks n) (column_bit q.1)) one ∙ still_set marks (column_bit c) (column_bit q.1) (marked q some)

  pub left_marked : (n : FinMap place_cmp X) → n ≡ m → AreMarked (bit_or marks mark) n
  left_marked n is = subst (λ w. AreMarked (bit_or marks mark) w) (sym is) more_marked

  -- and an item is put in it
  pub insert_marked : (row : ℤ) (v : X) (n : FinMap place_cmp X) → n ≡ map.insert m (row, c) v → AreMarked (bit_or marks mark) n
  insert_marked row v n is =
      put_marked (bit_or marks mark) m more_marked (row, c) v n is (ap (λ n. bit_at (bit_or marks n) (column_bit c)) one ∙ now_set marks (column_bit c))

module _ {X : Type 0} (marks : ℕ) (m : FinMap place_cmp X) (marked : AreMarked marks m) where
  -- a bit that isn't in a number isn't set
  not_set : (k : ℕ) → bit_and marks (2 ^ k) ≡ 0 → bit_at marks k ≡ 1 → 2 ^ k ≡ 0
  not_set k e one = let w = sym (and_pow marks k) ∙ e in let b = ap (λ b. b * 2 ^ k) one in omega (arith, w, b)

  only : (k : ℕ) (o : Option X) → (IsSome o → 2 ^ k ≡ 0) → o ≡ None
  only k None h = refl
  only k (Some x) h = absurd (omega (arith, h refl, pow_pos k))

  -- in a column without a mark nothing stands
  pub none_unmarked : (mark : ℕ) (p : ℤ × ℤ) → mark ≡ column_mark p.1 → bit_and marks mark ≡ 0 → map.get m p ≡ None
  none_unmarked mark p one e = only (column_bit p.1) (map.get m p) (λ some. not_set (column_bit p.1) (ap (bit_and marks) (sym one) ∙ e) (marked p some))

  -- and so it goes on from one column to the next
  pub next_unmarked : (from c : ℤ) (mark : ℕ) → HasNoneBetween m from c → mark ≡ column_mark c → bit_and marks mark ≡ 0 → HasNoneBetween m from (c +ℤ pos 1)
  next_unmarked from c mark none one e p above below = by_test (int_lt p.1 c) refl
    where
      by_test : (b : Bool) → int_lt p.1 c ≡ b → map.get m p ≡ None
      by_test true t = none p above (grind (arith, ints, t))
      by_test false t =
          let here : p.1 ≡ c = omega (arith, ints, below, t) in
          none_unmarked mark p (one ∙ ap column_mark (sym here)) e
