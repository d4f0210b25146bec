-- What a test finds in a list, and that it finds something.
use Rattle.std.proofs.Common.{◌≡◌, List, [], ◌∷◌, Bool, true, false, ◌||◌, None, Some, sym, refl, subst, ◌∙◌, inl, inr}
use Rattle.std.specs.List.{find, list_any}
use Rattle.std.proofs.lemmas.Bool.{cases_Bool}
use Rattle.ic_laws.proofs.binding.SceneLemmas.{find_here, find_later}

-- a test that passes somewhere finds something
pub found_where_any : {X : Type 0} (p : X → Bool) (xs : List X) → list_any p xs ≡ true → (x : X) × (find p xs ≡ Some x)
found_where_any p [] e = absurd (let no : false ≡ true = e in cc)
found_where_any p (x ∷ xs) e =
    elim (cases_Bool (p x)) [
      | inl here ↦ (x, find_here p x xs here)
      | inr later ↦ let more = found_where_any p xs (rw later at e) in (more.0, find_later p x xs later ∙ more.1)
    ]

-- what one test finds and another passes is somewhere
pub any_where_found : {X : Type 0} (p q : X → Bool) (xs : List X) (x : X) → find p xs ≡ Some x → q x ≡ true → list_any q xs ≡ true
any_where_found p q [] x e t = absurd (let no : None ≡ Some x = e in cc)
any_where_found p q (y ∷ ys) x e t =
    elim (cases_Bool (p y)) [
      | inl here ↦ let found : Some y ≡ Some x = sym (find_here p y ys here) ∙ e in let same : y ≡ x = cc in or_left (q y) _ (subst (λ z. q z ≡ true) (sym same) t)
      | inr later ↦ or_right (q y) _ (any_where_found p q ys x (sym (find_later p y ys later) ∙ e) t)
    ]
  where
    or_left : (a b : Bool) → a ≡ true → (a || b) ≡ true
    or_left true b e = refl
    or_left false b e = cc

    or_right : (a b : Bool) → b ≡ true → (a || b) ≡ true
    or_right true b e = refl
    or_right false b e = e
