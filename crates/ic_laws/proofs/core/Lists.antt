-- Lists in which an item is put at the end, changed, or taken out.
use Rattle.std.proofs.Common.{◌≡◌, ℕ, zero, suc, List, [], ◌∷◌, ◌++◌, map, Bool, true, false, refl, ap, ◌∙◌, length, inl, inr}
use Rattle.std.specs.List.{AllByRecursion, IsDistinct, list_any, remove}
use Rattle.std.specs.Cmp.{IsEquivalence}
use Rattle.std.proofs.lemmas.Bool.{cases_Bool}
use Rattle.std.proofs.lemmas.Map.Keys.{IsDistinct-cons, IsDistinct-head, IsDistinct-tail}
use Rattle.ic_laws.specs.CoreStep.{updated_at}

module _ {X : Type 0} (P : X → Type 0) where
  pub all_pushed : (xs : List X) (x : X) → AllByRecursion P xs → P x → AllByRecursion P (xs ++ x ∷ [])
  all_pushed [] x h p = (p, tt)
  all_pushed (y ∷ xs) x h p = (h.0, all_pushed xs x h.1 p)

  pub all_removed : (xs : List X) (i : ℕ) → AllByRecursion P xs → AllByRecursion P (remove xs i)
  all_removed [] zero h = tt
  all_removed [] (suc i) h = tt
  all_removed (x ∷ xs) zero h = h.1
  all_removed (x ∷ xs) (suc i) h = (h.0, all_removed xs i h.1)

  pub all_updated : (f : X → X) → ((x : X) → P x → P (f x)) → (i : ℕ) (xs : List X) → AllByRecursion P xs → AllByRecursion P (updated_at f i xs)
  all_updated f keeps i [] h = tt
  all_updated f keeps zero (x ∷ xs) h = (keeps x h.0, h.1)
  all_updated f keeps (suc i) (x ∷ xs) h = (h.0, all_updated f keeps i xs h.1)

-- an item that passes no test but that of the one that is gone
pub none_passes : {X : Type 0} (test : X → Bool) (xs : List X) → list_any test xs ≡ false → AllByRecursion (λ x. test x ≡ false) xs
none_passes test [] e = tt
none_passes test (x ∷ xs) e = elim (cases_Bool (test x)) [
  | inl t ↦ let no : true ≡ false = rw t at e in cc
  | inr f ↦ (f, none_passes test xs (rw f at e))
]

module _ {X Y : Type 0} (g : X → Y) where
  -- a change that can't be seen through g
  pub updated_unseen : (f : X → X) → ((x : X) → g (f x) ≡ g x) → (i : ℕ) (xs : List X) → map g (updated_at f i xs) ≡ map g xs
  updated_unseen f same i [] = refl
  updated_unseen f same zero (x ∷ xs) = ap (λ y. y ∷ map g xs) (same x)
  updated_unseen f same (suc i) (x ∷ xs) = ap (λ r. g x ∷ r) (updated_unseen f same i xs)

  -- and one that is seen as another
  pub updated_seen : (f : X → X) (h : Y → Y) → ((x : X) → g (f x) ≡ h (g x)) → (i : ℕ) (xs : List X) → map g (updated_at f i xs) ≡ updated_at h i (map g xs)
  updated_seen f h same i [] = refl
  updated_seen f h same zero (x ∷ xs) = ap (λ y. y ∷ map g xs) (same x)
  updated_seen f h same (suc i) (x ∷ xs) = ap (λ r. g x ∷ r) (updated_seen f h same i xs)

  pub removed_seen : (xs : List X) (i : ℕ) → map g (remove xs i) ≡ remove (map g xs) i
  removed_seen [] zero = refl
  removed_seen [] (suc i) = refl
  removed_seen (x ∷ xs) zero = refl
  removed_seen (x ∷ xs) (suc i) = ap (λ r. g x ∷ r) (removed_seen xs i)

pub length_updated : {X : Type 0} (f : X → X) (i : ℕ) (xs : List X) → length (updated_at f i xs) ≡ length xs
length_updated f i [] = refl
length_updated f zero (x ∷ xs) = refl
length_updated f (suc i) (x ∷ xs) = ap (λ n. suc n) (length_updated f i xs)

module _ {X : Type 0} {same : X → X → Bool} (equiv : IsEquivalence same) where
  pub distinct_removed : (xs : List X) (i : ℕ) → IsDistinct same xs → IsDistinct same (remove xs i)
  distinct_removed [] zero d = d
  distinct_removed [] (suc i) d = d
  distinct_removed (x ∷ xs) zero d = IsDistinct-tail same x xs d
  distinct_removed (x ∷ xs) (suc i) d =
      IsDistinct-cons same x (remove xs i) (all_removed (λ y. same x y ≡ false) xs i (IsDistinct-head same x xs d)) (distinct_removed xs i (IsDistinct-tail same x xs d))

  -- what is put at an index differs from all others
  pub distinct_replaced : (x : X) (i : ℕ) (xs : List X) → IsDistinct same xs → list_any (same x) (remove xs i) ≡ false → IsDistinct same (updated_at (λ y. x) i xs)
  distinct_replaced x i [] d e = d
  distinct_replaced x zero (y ∷ xs) d e = IsDistinct-cons same x xs (none_passes (same x) xs e) (IsDistinct-tail same y xs d)
  distinct_replaced x (suc i) (y ∷ xs) d e =
      let apart : (same x y ≡ false) × (list_any (same x) (remove xs i) ≡ false) = parted y (remove xs i) e in
      IsDistinct-cons same y (updated_at (λ z. x) i xs) (all_updated (λ z. same y z ≡ false) (λ z. x) (λ z h. equiv.symm y x ∙ apart.0) i xs (IsDistinct-head same y xs d))
      (distinct_replaced x i xs (IsDistinct-tail same y xs d) apart.1)
    where
      parted : (y : X) (ys : List X) → list_any (same x) (y ∷ ys) ≡ false → (same x y ≡ false) × (list_any (same x) ys ≡ false)
      parted y ys e = elim (cases_Bool (same x y)) [
        | inl t ↦ let no : true ≡ false = rw t at e in cc
        | inr f ↦ (f, rw f at e)
      ]
