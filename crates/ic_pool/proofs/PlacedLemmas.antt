-- First places in a list of formulas, and a look-up that keeps up with it.
use Rattle.std.proofs.Common.{◌≡◌, ◌≢◌, ℕ, zero, suc, ◌<◌, List, [], ◌∷◌, ◌++◌, Bool, true, false, cond, Option, Some, None, option_map, refl, sym, ap, ap₂, subst, ◌∙◌, length, bytes_eq, arith}
use Rattle.std.specs.List.{slice_get}
use Rattle.std.proofs.lemmas.Slice.Eq.{bytes_eq-Decides}
use Rattle.ic_laws.specs.declared.tree.Formula.{Formula}
use Rattle.ic_pool.specs.Code.{code}
use Rattle.ic_pool.specs.Pool.{IsFirstAt, IsFirstPlace, IsPlaced, first_place, KeepsPlaces}
use Rattle.ic_pool.proofs.CodeLaws.{code_determines}
use Rattle.ic_pool.proofs.KeyLemmas.{clash}
use Rattle.ic_laws.proofs.General.{none_left, swap_places, bytes_eq-flip}

-- ---- in a list

first_head : {X : Type 0} (x : X) (xs : List X) → IsFirstAt x zero (x ∷ xs)
first_head x xs = record { here = refl; none_before = λ k lt. absurd (omega arith) }

first_tail : {X : Type 0} (x y : X) (at : ℕ) (xs : List X) → y ≢ x → IsFirstAt x at xs → IsFirstAt x (suc at) (y ∷ xs)
first_tail {X} x y at xs apart f = record { here = f.here; none_before = none }
  where
    none : (k : ℕ) → k < suc at → slice_get (y ∷ xs) k ≢ Some x
    none zero lt e = let same : y ≡ x = cc in apart same
    none (suc k) lt e = f.none_before k (omega arith) e

pub below_length : {X : Type 0} (x : X) (at : ℕ) (xs : List X) → slice_get xs at ≡ Some x → at < length xs
below_length x at [] e = cc
below_length x zero (y ∷ xs) e = omega arith
below_length x (suc at) (y ∷ xs) e = let lt = below_length x at xs e in omega arith

apart_from_codes : (x y : Formula) → bytes_eq (code x) (code y) ≡ false → y ≢ x
apart_from_codes x y e same = clash (bytes_eq (code x) (code y)) ((bytes_eq-Decides (code x) (code y)).1 (ap code (sym same))) e

found_step : (x y : Formula) (xs : List Formula) (at : ℕ) (o : Option ℕ) → ((k : ℕ) → o ≡ Some k → IsFirstAt x k xs) → (b : Bool) → bytes_eq (code x) (code y) ≡ b → cond b (Some 0) (option_map suc o) ≡ Some at → IsFirstAt x at (y ∷ xs)
found_step x y xs at o h true b g =
    let start : zero ≡ at = cc in
    let same : x ≡ y = code_determines x y ((bytes_eq-Decides (code x) (code y)).0 b) in
    subst (λ n. IsFirstAt x n (y ∷ xs)) start (subst (λ z. IsFirstAt x zero (z ∷ xs)) same (first_head x xs))
found_step x y xs at None h false b g = cc
found_step x y xs at (Some k) h false b g =
    let next : suc k ≡ at = cc in subst (λ n. IsFirstAt x n (y ∷ xs)) next (first_tail x y k xs (apart_from_codes x y b) (h k refl))

-- what the search by keys finds is the first place of the formula itself
pub first_found : (x : Formula) (xs : List Formula) (at : ℕ) → first_place (code x) xs ≡ Some at → IsFirstAt x at xs
first_found x [] at e = cc
first_found x (y ∷ xs) at e = found_step x y xs at (first_place (code x) xs) (λ k f. first_found x xs k f) (bytes_eq (code x) (code y)) refl e

-- a formula that the list has not is first at its end
pub first_pushed : (x : Formula) (xs : List Formula) → first_place (code x) xs ≡ None → IsFirstAt x (length xs) (xs ++ x ∷ [])
first_pushed x [] e = first_head x []
first_pushed x (y ∷ xs) e =
    let parts = none_left (bytes_eq (code x) (code y)) (first_place (code x) xs) e in
    first_tail x y (length xs) (xs ++ x ∷ []) (apart_from_codes x y parts.0) (first_pushed x xs parts.1)

pub first_place-push : (x : Formula) (xs : List Formula) → first_place (code x) xs ≡ None → (key : List ℕ) → first_place key (xs ++ x ∷ []) ≡ cond (bytes_eq (code x) key) (Some (length xs)) (first_place key xs)
first_place-push x [] none key = ap (λ b. cond b (Some 0) None) (bytes_eq-flip key (code x))
first_place-push x (y ∷ xs) none key =
    let parts = none_left (bytes_eq (code x) (code y)) (first_place (code x) xs) none in
    ap (λ o. cond (bytes_eq key (code y)) (Some 0) (option_map suc o)) (first_place-push x xs parts.1 key)
    ∙ swap_places (bytes_eq key (code y)) (bytes_eq (code x) key) (length xs) (first_place key xs)
    (λ t b.
    let same : code x ≡ code y = (bytes_eq-Decides (code x) key).0 b ∙ (bytes_eq-Decides key (code y)).0 t in
    clash (bytes_eq (code x) (code y)) ((bytes_eq-Decides (code x) (code y)).1 same) parts.0)

-- a first place stays first where formulas are put at the end
first_stays : (key : List ℕ) (xs ys : List Formula) (at : ℕ) → first_place key xs ≡ Some at → first_place key (xs ++ ys) ≡ Some at
first_stays key [] ys at e = cc
first_stays key (x ∷ xs) ys at e = step (bytes_eq key (code x)) (first_place key xs) (first_place key (xs ++ ys)) (first_stays key xs ys) e
  where
    step : (b : Bool) (o p : Option ℕ) → ((k : ℕ) → o ≡ Some k → p ≡ Some k) → cond b (Some 0) (option_map suc o) ≡ Some at → cond b (Some 0) (option_map suc p) ≡ Some at
    step true o p h e = e
    step false None p h e = cc
    step false (Some k) p h e = ap (option_map suc) (h k refl) ∙ e

pub IsFirstPlace-push : (at : ℕ) (xs list : List Formula) (x : Formula) → list ≡ xs ++ x ∷ [] → IsFirstPlace at xs → IsFirstPlace at list
IsFirstPlace-push at xs list x put first = (first.0, ap (first_place first.0) put ∙ first_stays first.0 xs (x ∷ []) at first.1)

pub first_at_end : (x : Formula) (xs list : List Formula) (key : List ℕ) (at : ℕ) → first_place key xs ≡ None → key ≡ code x → at ≡ length xs → list ≡ xs ++ x ∷ [] → first_place key list ≡ Some at
first_at_end x xs list key at none same end put =
    ap₂ first_place same put ∙ first_place-push x xs (ap (λ k. first_place k xs) (sym same) ∙ none) (code x)
    ∙ ap (λ b. cond b (Some (length xs)) (first_place (code x) xs)) ((bytes_eq-Decides (code x) (code x)).1 refl) ∙ ap (λ n. Some n) (sym end)

-- ---- what `place` answers

pub IsPlaced-found : (x : Formula) (at : ℕ) (xs : List Formula) → first_place (code x) xs ≡ Some at → IsPlaced x at xs xs
IsPlaced-found x at xs e =
    let first = first_found x xs at e in
    let lt = below_length x at xs first.here in
    record { first = first; found = λ h. refl; pushed = λ h. absurd (omega arith) }

pub IsPlaced-pushed : (x : Formula) (at : ℕ) (xs after : List Formula) → first_place (code x) xs ≡ None → at ≡ length xs → after ≡ xs ++ x ∷ [] → IsPlaced x at xs after
IsPlaced-pushed x at xs after none end put = record {
  first = subst (λ ys. IsFirstAt x at ys) (sym put) (subst (λ n. IsFirstAt x n (xs ++ x ∷ [])) (sym end) (first_pushed x xs none));
  found = λ h. absurd (omega arith);
  pushed = λ h. put;
}

-- ---- the map

-- by a key another place is found, or none; by each other key what was found before
abbrev pub Finds : (List ℕ → Option ℕ) → (List ℕ → Option ℕ) → List ℕ → Option ℕ → Type 0
Finds before after key place = (q : List ℕ) → after q ≡ cond (bytes_eq key q) place (before q)

pub KeepsPlaces-push : (before after : List ℕ → Option ℕ) (xs list : List Formula) (x : Formula) (key : List ℕ) (at : ℕ) → KeepsPlaces before xs → first_place (code x) xs ≡ None → key ≡ code x → at ≡ length xs → Finds before after key (Some at) → list ≡ xs ++ x ∷ [] → KeepsPlaces after list
KeepsPlaces-push before after xs list x key at kept none same end u put =
    subst (KeepsPlaces after) (sym put)
    (record {
      finds = λ q.
          u q
          ∙ ap (λ b. cond b (Some at) (before q)) (ap (λ k. bytes_eq k q) same)
          ∙ ap (cond (bytes_eq (code x) q) (Some at)) (kept.finds q)
          ∙ ap (λ n. cond (bytes_eq (code x) q) (Some n) (first_place q xs)) end
          ∙ sym (first_place-push x xs none q);
    })

-- what the map has at a formula's key is its first place
pub IsPlaced-kept : (find : List ℕ → Option ℕ) (before xs : List Formula) (x : Formula) (key : List ℕ) (at : ℕ) → KeepsPlaces find xs → key ≡ code x → find key ≡ Some at → xs ≡ before → IsPlaced x at before xs × (at < length xs)
IsPlaced-kept find before xs x key at kept same got is =
    let found : first_place (code x) xs ≡ Some at = ap (λ k. first_place k xs) (sym same) ∙ sym (kept.finds key) ∙ got in
    (subst (λ ys. IsPlaced x at ys xs) is (IsPlaced-found x at xs found), below_length x at xs (first_found x xs at found).here)

-- where the map has nothing at its key, no formula has that key
pub none_kept : (find : List ℕ → Option ℕ) (xs : List Formula) (key : List ℕ) → KeepsPlaces find xs → find key ≡ None → first_place key xs ≡ None
none_kept find xs key kept got = sym (kept.finds key) ∙ got
