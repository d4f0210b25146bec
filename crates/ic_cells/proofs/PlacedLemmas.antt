-- First places in a list, of items and of their keys, and what a look-up by keys finds as the list changes.
use Rattle.std.proofs.Common.{◌≡◌, ◌≢◌, ℕ, zero, suc, ◌<◌, List, [], ◌∷◌, ◌++◌, Bool, true, false, not, ltb, cond, Option, Some, None, is_some, option_map, refl, sym, ap, subst, ◌∙◌, length, take, bytes_eq, arith}
use Rattle.std.proofs.lemmas.Bool.{and_parts, and_from, both_ways}
use Rattle.std.proofs.lemmas.Bool.Decides.{nat_tests}
use Rattle.std.proofs.lemmas.Map.Entries.{option_filter}
use Rattle.std.proofs.lemmas.Slice.Eq.{bytes_eq-Decides}
use Rattle.std.specs.Bool.{Decides, one_answer}
use Rattle.std.specs.List.{slice_get}
use Rattle.std.specs.Option.{unwrap_or}
use Rattle.ic_cells.specs.Key.{place_by_key}
use Rattle.ic_cells.specs.Listed.{IsFirstAt, IsPlaced, are_apart, number_in, place_in, with_item_in}
use Rattle.ic_laws.proofs.General.{none_left, swap_places, bytes_eq-flip}

-- ---- choices

pub none_is : (o : Option ℕ) → not (is_some o) ≡ true → o ≡ None
none_is None e = refl
none_is (Some k) e = cc

is_none : (o : Option ℕ) → o ≡ None → not (is_some o) ≡ true
is_none o e = ap (λ p. not (is_some p)) e

below_zero : (o : Option ℕ) → None ≡ option_filter (λ p. ltb p 0) o
below_zero None = refl
below_zero (Some k) = let e : ltb k 0 ≡ false = grind (arith, nat_tests) in ap (λ b. cond b (Some k) None) (sym e)

below_suc : (n : ℕ) (b : Bool) (o : Option ℕ) → cond b (Some 0) (option_map suc (option_filter (λ p. ltb p n) o)) ≡ option_filter (λ p. ltb p (suc n)) (cond b (Some 0) (option_map suc o))
below_suc n true o = let e : ltb 0 (suc n) ≡ true = grind (arith, nat_tests) in ap (λ b. cond b (Some 0) None) (sym e)
below_suc n false None = refl
below_suc n false (Some k) =
    let e : ltb k n ≡ ltb (suc k) (suc n) = grind (arith, nat_tests) in
    both (ltb k n) ∙ ap (λ b. cond b (Some (suc k)) None) e
  where
    both : (b : Bool) → option_map suc (cond b (Some k) None) ≡ cond b (Some (suc k)) None
    both true = refl
    both false = refl

-- ---- an item at its first place

module _ {X : Type 0} where
  first_head : (x : X) (xs : List X) → IsFirstAt x zero (x ∷ xs)
  first_head x xs = record { here = refl; none_before = λ k lt. absurd (omega arith) }

  first_tail : (x y : X) (at : ℕ) (ys : List X) → y ≢ x → IsFirstAt x at ys → IsFirstAt x (suc at) (y ∷ ys)
  first_tail x y at ys other f = record { here = f.here; none_before = none }
    where
      none : (k : ℕ) → k < suc at → slice_get (y ∷ ys) k ≢ Some x
      none zero lt e = let same : y ≡ x = cc in other same
      none (suc k) lt e = f.none_before k (omega arith) e

  below_length : (x : X) (at : ℕ) (xs : List X) → slice_get xs at ≡ Some x → at < length xs
  below_length x at [] e = cc
  below_length x zero (y ∷ ys) e = omega arith
  below_length x (suc at) (y ∷ ys) e = let lt = below_length x at ys e in omega arith

  -- an item at the head stays there
  pub head-push : (x d : X) (xs : List X) → slice_get xs 0 ≡ Some d → slice_get (xs ++ x ∷ []) 0 ≡ Some d
  head-push x d [] e = cc
  head-push x d (y ∷ ys) e = e

  pub head-take : (d : X) (n : ℕ) (xs : List X) → 0 < n → slice_get xs 0 ≡ Some d → slice_get (take n xs) 0 ≡ Some d
  head-take d zero xs lt e = absurd (omega arith)
  head-take d (suc n) [] lt e = cc
  head-take d (suc n) (y ∷ ys) lt e = e

-- ---- items that a test tells apart

module _ {X : Type 0} (same : X → X → Bool) (decides : (a b : X) → Decides (same a b) (a ≡ b)) where
  same_flip : (a b : X) → same a b ≡ same b a
  same_flip a b = one_answer _ _ (decides a b) ((λ e. sym ((decides b a).0 e)), (λ e. (decides b a).1 (sym e)))

  apart : (a b : X) → same a b ≡ false → b ≢ a
  apart a b e is = both_ways (same a b) e ((decides a b).1 (sym is))

  found_step : (x y : X) (ys : List X) (at : ℕ) (o : Option ℕ) → ((k : ℕ) → o ≡ Some k → IsFirstAt x k ys) → (b : Bool) → same x y ≡ b → cond b (Some 0) (option_map suc o) ≡ Some at → IsFirstAt x at (y ∷ ys)
  found_step x y ys at o h true b g =
      let start : zero ≡ at = cc in
      let is : x ≡ y = (decides x y).0 b in
      subst (λ n. IsFirstAt x n (y ∷ ys)) start (subst (λ z. IsFirstAt x zero (z ∷ ys)) is (first_head x ys))
  found_step x y ys at None h false b g = cc
  found_step x y ys at (Some k) h false b g =
      let next : suc k ≡ at = cc in subst (λ n. IsFirstAt x n (y ∷ ys)) next (first_tail x y k ys (apart x y b) (h k refl))

  -- what the search finds is the first place
  first_found : (x : X) (xs : List X) (at : ℕ) → place_in same x xs ≡ Some at → IsFirstAt x at xs
  first_found x [] at e = cc
  first_found x (y ∷ ys) at e = found_step x y ys at (place_in same x ys) (λ k f. first_found x ys k f) (same x y) refl e

  -- an item that the list has not is first at its end
  first_pushed : (x : X) (xs : List X) → place_in same x xs ≡ None → IsFirstAt x (length xs) (xs ++ x ∷ [])
  first_pushed x [] e = first_head x []
  first_pushed x (y ∷ ys) e =
      let parts = none_left (same x y) (place_in same x ys) e in
      first_tail x y (length ys) (ys ++ x ∷ []) (apart x y parts.0) (first_pushed x ys parts.1)

  -- where an item was put

  pub placed_found : (x : X) (at : ℕ) (xs : List X) → place_in same x xs ≡ Some at → IsPlaced x at xs xs
  placed_found x at xs e =
      let first = first_found x xs at e in
      let lt = below_length x at xs first.here in
      record { first = first; found = λ h. refl; pushed = λ h. absurd (omega arith) }

  pub placed_pushed : (x : X) (at : ℕ) (xs after : List X) → place_in same x xs ≡ None → at ≡ length xs → after ≡ xs ++ x ∷ [] → IsPlaced x at xs after
  placed_pushed x at xs after none end put = record {
    first = subst (λ ys. IsFirstAt x at ys) (sym put) (subst (λ n. IsFirstAt x n (xs ++ x ∷ [])) (sym end) (first_pushed x xs none));
    found = λ h. absurd (omega arith);
    pushed = λ h. put;
  }

  -- no item twice

  place-push : (x y : X) (xs : List X) → place_in same x xs ≡ None → same x y ≡ false → place_in same x (xs ++ y ∷ []) ≡ None
  place-push x y [] e f = ap (λ b. cond b (Some 0) (option_map suc None)) f
  place-push x y (z ∷ zs) e f =
      let parts = none_left (same x z) (place_in same x zs) e in
      ap (λ b. cond b (Some 0) (option_map suc (place_in same x (zs ++ y ∷ [])))) parts.0 ∙ ap (λ o. option_map suc o) (place-push x y zs parts.1 f)

  pub apart-push : (x : X) (xs : List X) → place_in same x xs ≡ None → are_apart same xs ≡ true → are_apart same (xs ++ x ∷ []) ≡ true
  apart-push x [] e d = refl
  apart-push x (y ∷ ys) e d =
      let parts = none_left (same x y) (place_in same x ys) e in
      let both = and_parts (not (is_some (place_in same y ys))) (are_apart same ys) d in
      and_from _ _ (is_none _ (place-push y x ys (none_is _ both.0) (same_flip y x ∙ parts.0))) (apart-push x ys parts.1 both.1)

module _ {X : Type 0} (same : X → X → Bool) where
  pub number_found : (x : X) (xs : List X) (at : ℕ) → place_in same x xs ≡ Some at → number_in same x xs ≡ at
  number_found x xs at e = ap (λ o. unwrap_or o (length xs)) e

  pub number_pushed : (x : X) (xs : List X) → place_in same x xs ≡ None → number_in same x xs ≡ length xs
  number_pushed x xs e = ap (λ o. unwrap_or o (length xs)) e

  pub list_found : (x : X) (xs : List X) (at : ℕ) → place_in same x xs ≡ Some at → with_item_in same x xs ≡ xs
  list_found x xs at e = ap (λ o. cond (is_some o) xs (xs ++ x ∷ [])) e

  pub list_pushed : (x : X) (xs : List X) → place_in same x xs ≡ None → with_item_in same x xs ≡ xs ++ x ∷ []
  list_pushed x xs e = ap (λ o. cond (is_some o) xs (xs ++ x ∷ [])) e

  none-take : (x : X) (n : ℕ) (xs : List X) → place_in same x xs ≡ None → place_in same x (take n xs) ≡ None
  none-take x zero xs e = refl
  none-take x (suc n) [] e = refl
  none-take x (suc n) (y ∷ ys) e =
      let parts = none_left (same x y) (place_in same x ys) e in
      ap (λ b. cond b (Some 0) (option_map suc (place_in same x (take n ys)))) parts.0 ∙ ap (λ o. option_map suc o) (none-take x n ys parts.1)

  pub apart-take : (n : ℕ) (xs : List X) → are_apart same xs ≡ true → are_apart same (take n xs) ≡ true
  apart-take zero xs e = refl
  apart-take (suc n) [] e = refl
  apart-take (suc n) (y ∷ ys) e =
      let both = and_parts (not (is_some (place_in same y ys))) (are_apart same ys) e in
      and_from _ _ (is_none _ (none-take y n ys (none_is _ both.0))) (apart-take n ys both.1)

-- ---- a look-up by keys

module _ {X : Type 0} (key_of : X → List ℕ) where
  -- where keys are equal just where a test says that the items are the same, the search by keys is the search by items
  pub place_is : (same : X → X → Bool) → ((a b : X) → bytes_eq (key_of a) (key_of b) ≡ same a b) → (x : X) (xs : List X) → place_by_key key_of (key_of x) xs ≡ place_in same x xs
  place_is same keys x [] = refl
  place_is same keys x (y ∷ ys) =
      ap (λ b. cond b (Some 0) (option_map suc (place_by_key key_of (key_of x) ys))) (keys x y)
      ∙ ap (λ o. cond (same x y) (Some 0) (option_map suc o)) (place_is same keys x ys)

  pub key-push : (x : X) (xs : List X) → place_by_key key_of (key_of x) xs ≡ None → (q : List ℕ) → place_by_key key_of q (xs ++ x ∷ []) ≡ cond (bytes_eq (key_of x) q) (Some (length xs)) (place_by_key key_of q xs)
  key-push x [] none q = ap (λ b. cond b (Some 0) None) (bytes_eq-flip q (key_of x))
  key-push x (y ∷ ys) none q =
      let parts = none_left (bytes_eq (key_of x) (key_of y)) (place_by_key key_of (key_of x) ys) none in
      ap (λ o. cond (bytes_eq q (key_of y)) (Some 0) (option_map suc o)) (key-push x ys parts.1 q)
      ∙ swap_places (bytes_eq q (key_of y)) (bytes_eq (key_of x) q) (length ys) (place_by_key key_of q ys)
      (λ a b.
      let is : key_of x ≡ key_of y = (bytes_eq-Decides (key_of x) q).0 b ∙ (bytes_eq-Decides q (key_of y)).0 a in
      both_ways (bytes_eq (key_of x) (key_of y)) parts.0 ((bytes_eq-Decides (key_of x) (key_of y)).1 is))

  pub key-take : (q : List ℕ) (n : ℕ) (xs : List X) → place_by_key key_of q (take n xs) ≡ option_filter (λ p. ltb p n) (place_by_key key_of q xs)
  key-take q zero xs = below_zero (place_by_key key_of q xs)
  key-take q (suc n) [] = refl
  key-take q (suc n) (y ∷ ys) =
      ap (λ o. cond (bytes_eq q (key_of y)) (Some 0) (option_map suc o)) (key-take q n ys)
      ∙ below_suc n (bytes_eq q (key_of y)) (place_by_key key_of q ys)

  module _ (before after : List ℕ → Option ℕ) (xs : List X) (finds : (q : List ℕ) → before q ≡ place_by_key key_of q xs) where
    -- an item at the end, whose key was none before
    pub finds-push : (x : X) (at : ℕ) → place_by_key key_of (key_of x) xs ≡ None → at ≡ length xs → ((q : List ℕ) → after q ≡ cond (bytes_eq (key_of x) q) (Some at) (before q))
        → (q : List ℕ) → after q ≡ place_by_key key_of q (xs ++ x ∷ [])
    finds-push x at none end set q =
        set q
        ∙ ap (cond (bytes_eq (key_of x) q) (Some at)) (finds q)
        ∙ ap (λ n. cond (bytes_eq (key_of x) q) (Some n) (place_by_key key_of q xs)) end
        ∙ sym (key-push x xs none q)

    -- the first items alone
    pub finds-take : (n : ℕ) → ((q : List ℕ) → after q ≡ option_filter (λ p. ltb p n) (before q)) → (q : List ℕ) → after q ≡ place_by_key key_of q (take n xs)
    finds-take n left q = left q ∙ ap (option_filter (λ p. ltb p n)) (finds q) ∙ sym (key-take q n xs)
