-- What is found in a list after one of its items is taken out.
use Rattle.std.proofs.Common.{◌≡◌, ℕ, zero, suc, List, [], ◌∷◌, map, Bool, true, false, cond, ◌||◌, None, Some, refl, sym, ap, subst, ◌∙◌, inl, inr}
use Rattle.std.specs.Prelude.{remove, slice_get}
use Rattle.std.specs.List.{AllByRecursion, IsDistinct, find, list_any}
use Rattle.std.proofs.lemmas.Bool.{cases_Bool}
use Rattle.ic_laws.proofs.binding.SceneLemmas.{find_here, find_later}

pub remove_map : {X Y : Type 0} (f : X → Y) (xs : List X) (i : ℕ) → map f (remove xs i) ≡ remove (map f xs) i
remove_map f [] zero = refl
remove_map f [] (suc i) = refl
remove_map f (x ∷ xs) zero = refl
remove_map f (x ∷ xs) (suc i) = ap (λ ys. f x ∷ ys) (remove_map f xs i)

-- what finds nothing doesn't pass the first item, and finds nothing behind it
pub none_first : {X : Type 0} (p : X → Bool) (x : X) (xs : List X) → find p (x ∷ xs) ≡ None → (p x ≡ false) × (find p xs ≡ None)
none_first p x xs e =
    elim (cases_Bool (p x)) [
      | inl t ↦ absurd (let no : Some x ≡ None = sym (find_here p x xs t) ∙ e in cc)
      | inr f ↦ (f, sym (find_later p x xs f) ∙ e)
    ]

-- what finds nothing finds nothing in less
pub removed_finds_none : {X : Type 0} (p : X → Bool) (xs : List X) (i : ℕ) → find p xs ≡ None → find p (remove xs i) ≡ None
removed_finds_none p [] zero e = refl
removed_finds_none p [] (suc i) e = refl
removed_finds_none p (x ∷ xs) zero e = (none_first p x xs e).1
removed_finds_none p (x ∷ xs) (suc i) e = let parts = none_first p x xs e in find_later p x (remove xs i) parts.0 ∙ removed_finds_none p xs i parts.1

-- a test that the item doesn't pass finds what it found
pub removed_finds : {X : Type 0} (p : X → Bool) (xs : List X) (i : ℕ) (d : X) → slice_get xs i ≡ Some d → p d ≡ false → find p (remove xs i) ≡ find p xs
removed_finds p [] i d at f = absurd (let no : None ≡ Some d = at in cc)
removed_finds p (x ∷ xs) zero d at f = let same : x ≡ d = cc in sym (find_later p x xs (subst (λ y. p y ≡ false) (sym same) f))
removed_finds p (x ∷ xs) (suc i) d at f = ap (cond (p x) (Some x)) (removed_finds p xs i d at f)

-- and passes where it passed
pub removed_any : {X : Type 0} (p : X → Bool) (xs : List X) (i : ℕ) (d : X) → slice_get xs i ≡ Some d → p d ≡ false → list_any p (remove xs i) ≡ list_any p xs
removed_any p [] i d at f = absurd (let no : None ≡ Some d = at in cc)
removed_any p (x ∷ xs) zero d at f = let same : x ≡ d = cc in sym (ap (λ b. b || list_any p xs) (subst (λ y. p y ≡ false) (sym same) f))
removed_any p (x ∷ xs) (suc i) d at f = ap (λ b. p x || b) (removed_any p xs i d at f)

-- where no two items have one key
module _ {X K : Type 0} (key : X → K) (eq : K → K → Bool) (flip : (a b : K) → eq a b ≡ eq b a) where
  all_but : (P : K → Type 0) (xs : List X) (i : ℕ) → AllByRecursion P (map key xs) → AllByRecursion P (map key (remove xs i))
  all_but P [] zero h = tt
  all_but P [] (suc i) h = tt
  all_but P (x ∷ xs) zero h = h.1
  all_but P (x ∷ xs) (suc i) h = (h.0, all_but P xs i h.1)

  pub removed_differs : (xs : List X) (i : ℕ) → IsDistinct eq (map key xs) → IsDistinct eq (map key (remove xs i))
  unfolding IsDistinct
  removed_differs [] zero h = tt
  removed_differs [] (suc i) h = tt
  removed_differs (x ∷ xs) zero h = h.1
  removed_differs (x ∷ xs) (suc i) h = (all_but (λ k. eq (key x) k ≡ false) xs i h.0, removed_differs xs i h.1)

  -- an item before another has another key
  apart : (x : X) (xs : List X) (i : ℕ) (d : X) → AllByRecursion (λ k. eq (key x) k ≡ false) (map key xs) → slice_get xs i ≡ Some d → eq (key x) (key d) ≡ false
  apart x [] i d h at = absurd (let no : None ≡ Some d = at in cc)
  apart x (y ∷ xs) zero d h at = let same : y ≡ d = cc in subst (λ z. eq (key x) (key z) ≡ false) same h.0
  apart x (y ∷ xs) (suc i) d h at = apart x xs i d h.1 at

  no_other : (x : X) (xs : List X) → AllByRecursion (λ k. eq (key x) k ≡ false) (map key xs) → find (λ y. eq (key y) (key x)) xs ≡ None
  no_other x [] h = refl
  no_other x (y ∷ xs) h = find_later (λ z. eq (key z) (key x)) y xs (flip (key y) (key x) ∙ h.0) ∙ no_other x xs h.1

  -- an item's key finds that item
  pub finds_itself : ((a : K) → eq a a ≡ true) → (xs : List X) (i : ℕ) (d : X) → IsDistinct eq (map key xs) → slice_get xs i ≡ Some d → find (λ y. eq (key y) (key d)) xs ≡ Some d
  unfolding IsDistinct
  finds_itself same [] i d h at = absurd (let no : None ≡ Some d = at in cc)
  finds_itself same (x ∷ xs) zero d h at =
      let e : x ≡ d = cc in find_here (λ y. eq (key y) (key d)) x xs (subst (λ y. eq (key x) (key y) ≡ true) e (same (key x))) ∙ at
  finds_itself same (x ∷ xs) (suc i) d h at = find_later (λ y. eq (key y) (key d)) x xs (apart x xs i d h.0 at) ∙ finds_itself same xs i d h.1 at

  -- and nothing once it is taken out
  pub finds_no_other : (xs : List X) (i : ℕ) (d : X) → IsDistinct eq (map key xs) → slice_get xs i ≡ Some d → find (λ y. eq (key y) (key d)) (remove xs i) ≡ None
  unfolding IsDistinct
  finds_no_other [] i d h at = absurd (let no : None ≡ Some d = at in cc)
  finds_no_other (x ∷ xs) zero d h at = let e : x ≡ d = cc in subst (λ z. find (λ y. eq (key y) (key z)) xs ≡ None) e (no_other x xs h.0)
  finds_no_other (x ∷ xs) (suc i) d h at = find_later (λ y. eq (key y) (key d)) x (remove xs i) (apart x xs i d h.0 at) ∙ finds_no_other xs i d h.1 at

  -- no other key is the item's
  no_other_key : (k : K) (xs : List X) → AllByRecursion (λ other. eq k other ≡ false) (map key xs) → list_any (eq k) (map key xs) ≡ false
  no_other_key k [] h = refl
  no_other_key k (x ∷ xs) h = rw h.0 (no_other_key k xs h.1)

  pub key_of_no_other : (xs : List X) (i : ℕ) (d : X) → IsDistinct eq (map key xs) → slice_get xs i ≡ Some d → list_any (eq (key d)) (remove (map key xs) i) ≡ false
  unfolding IsDistinct
  key_of_no_other [] i d h at = absurd (let no : None ≡ Some d = at in cc)
  key_of_no_other (x ∷ xs) zero d h at = let e : x ≡ d = cc in subst (λ y. list_any (eq (key y)) (map key xs) ≡ false) e (no_other_key (key x) xs h.0)
  key_of_no_other (x ∷ xs) (suc i) d h at = rw (flip (key d) (key x) ∙ apart x xs i d h.0 at) (key_of_no_other xs i d h.1 at)
