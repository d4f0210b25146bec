-- A look-up by an id finds something exactly where the id is among the ids.
use Rattle.std.proofs.Common.{◌≡◌, ℕ, List, [], ◌∷◌, true, false, ◌||◌, cond, Option, Some, None, is_some, option_map, MatchResult, map, find, bytes_eq, refl, sym, ap, ◌∙◌}
use Rattle.std.specs.Option.{ok_or}
use Rattle.ic_tables.specs.Tables.{has_text}

pub is_some-find : {A : Type 0} (f : A → List ℕ) (t : List ℕ) (xs : List A) → is_some (find (λ x. bytes_eq (f x) t) xs) ≡ has_text (map f xs) t
is_some-find f t [] = refl
is_some-find f t (x ∷ xs) =
    elim (bytes_eq (f x) t) as (λ b. is_some (cond b (Some x) (find (λ y. bytes_eq (f y) t) xs)) ≡ (b || has_text (map f xs) t))
    [ true ↦ refl | false ↦ is_some-find f t xs ]

pub is_some-option_map : {A B : Type 0} (f : A → B) (o : Option A) → is_some o ≡ is_some (option_map f o)
is_some-option_map f None = refl
is_some-option_map f (Some x) = refl

pub ok_or-gives : {A B E : Type 0} (f : A → B) (o : Option A) (found : Option B) (e : E)
    → option_map f o ≡ found → MatchResult (ok_or o e) (λ x. found ≡ Some (f x)) (λ x. (x ≡ e) × (found ≡ None))
ok_or-gives f None found e h = (refl, sym h)
ok_or-gives f (Some x) found e h = sym h

-- a look-up finds something where the id is listed
pub found-is_some : {A B : Type 0} (f : A → B) (id : B → List ℕ) (t : List ℕ) (xs : List B) (o : Option A)
    → option_map f o ≡ find (λ x. bytes_eq (id x) t) xs → has_text (map id xs) t ≡ true → is_some o ≡ true
found-is_some f id t xs o h e = is_some-option_map f o ∙ ap is_some h ∙ is_some-find id t xs ∙ e
