-- Ids and names: the greatest, the fresh one, and how many there are.
use Rattle.std.proofs.Common.{◌≡◌, ℕ, ◌+◌, ◌<◌, ◌≤◌, List, [], ◌∷◌, length, true, false, All, nat_eq, arith, max, inl, inr, Some, None, is_none, nat_lt}
use Rattle.std.specs.List.{list_any, IsDistinct}
use Rattle.std.specs.Cmp.{IsEquivalence, on_equiv}
use Rattle.std.specs.Cmp.Lexicographic.{nat_list_eq_equiv}
use Rattle.std.proofs.lemmas.Bool.{cases_Bool, eqb-true, ltb-true}
use Rattle.std.proofs.lemmas.List.Elements.{All-cons, All-nil, All-weaker, All-contains, recursion_from_All}
use Rattle.std.proofs.lemmas.Map.Keys.{IsDistinct-cons}
use Rattle.std.proofs.lemmas.Map.Steps.{length-le_from_distinct_below}
use Rattle.std.proofs.lemmas.Map.Views.{Contains-from_any}
use Rattle.ic_laws.specs.Name.{agrees, fold}
use Rattle.ic_laws.specs.CoreBook.{CoreBook, IsId, fresh_id, greatest_id, last_id}
use Rattle.ic_laws.specs.Greatest.{greatest}

-- to agree is to be equal after folding, so it is an equivalence
pub agrees_equiv : IsEquivalence agrees
agrees_equiv = on_equiv fold nat_list_eq_equiv

-- no number of a list is above its greatest
pub All-greatest : (ns : List ℕ) → All (λ n. n ≤ greatest ns) ns
All-greatest [] = All-nil _
All-greatest (n ∷ ns) =
    let P : ℕ → Type 0 = λ m. m ≤ max n (greatest ns) in
    All-cons P n ns (omega arith) (All-weaker (λ m. m ≤ greatest ns) P (λ m h. omega (arith, h)) ns (All-greatest ns))

-- each number of a list that a query finds has what all of them have
found_has : (P : ℕ → Type 0) (q : ℕ) (ns : List ℕ) → All P ns → list_any (nat_eq q) ns ≡ true → P q
found_has P q ns h e = All-contains P ns q h (Contains-from_any eqb-true q ns e)

-- what is above the greatest is in no list
pub above_greatest : (q : ℕ) (ns : List ℕ) → greatest ns < q → list_any (nat_eq q) ns ≡ false
above_greatest q ns l =
    elim (cases_Bool (list_any (nat_eq q) ns)) [
      | inl e ↦ absurd (omega (arith, found_has (λ n. n ≤ greatest ns) q ns (All-greatest ns) e))
      | inr e ↦ e
    ]

-- there are no more ids than numbers from 1 to the last
pub ids_few : (ns : List ℕ) → All IsId ns → IsDistinct nat_eq ns → length ns ≤ last_id
ids_few ns each apart =
    let Small : ℕ → Type 0 = λ n. n ≤ last_id in
    let not_zero : All (λ n. nat_eq 0 n ≡ false) ns = All-weaker IsId _ (λ n h. positive n h.0) ns each in
    let zero_apart : IsDistinct nat_eq (0 ∷ ns) = IsDistinct-cons nat_eq 0 ns (recursion_from_All _ ns not_zero) apart in
    let within : All Small (0 ∷ ns) = All-cons Small 0 ns (omega arith) (All-weaker IsId Small (λ n h. h.1) ns each) in
    let most : length (0 ∷ ns) ≤ 4294967296 =
    length-le_from_distinct_below (0 ∷ ns) 4294967296 zero_apart (λ q e. omega (arith, found_has Small q (0 ∷ ns) within e)) in
    omega (arith, most)
  where
    positive : (n : ℕ) → 0 < n → nat_eq 0 n ≡ false
    positive n h = grind arith

-- where an id is left, it is one more than the greatest
pub fresh_is_next : (book : CoreBook) (id : ℕ) → Some id ≡ fresh_id book → (greatest_id book < last_id) × (id ≡ greatest_id book + 1)
fresh_is_next book id e =
    elim (cases_Bool (nat_lt (greatest_id book) last_id)) [
      | inl room ↦ let next : Some id ≡ Some (greatest_id book + 1) = rw room at e in (ltb-true _ _ room, cc)
      | inr none ↦ let no : Some id ≡ None = rw none at e in cc
    ]

-- where a fresh id is left, the greatest in use is not the last
pub fresh_room : (book : CoreBook) → is_none (fresh_id book) ≡ false → greatest_id book < last_id
fresh_room book e =
    elim (cases_Bool (nat_lt (greatest_id book) last_id)) [
      | inl room ↦ ltb-true _ _ room
      | inr none ↦ let no : true ≡ false = rw none at e in cc
    ]
