-- One of several that holds, met in a loop.
use Rattle.std.proofs.Common.{◌≡◌, ◌<◌, ℕ, List, [], ◌∷◌, Bool, true, ◌||◌, map, length, get_or, refl, sym, ap, ◌∙◌}
use Rattle.std.proofs.lemmas.List.Folds.{list_any_at}
use Rattle.std.specs.List.{list_any}

any-map : {X : Type 0} (f : X → Bool) (xs : List X) → list_any (λ part. part) (map f xs) ≡ list_any f xs
any-map f [] = refl
any-map f (x ∷ xs) = ap (λ b. f x || b) (any-map f xs)

-- the test holds of the element that stands at an index
pub one_met : {X : Type 0} (f : X → Bool) (xs : List X) (i : ℕ) (x : X) → i < length xs → x ≡ get_or xs i x → f x ≡ true → true ≡ list_any (λ part. part) (map f xs)
one_met f xs i x within item holds = sym (any-map f xs ∙ list_any_at f xs i x within (sym (ap f item) ∙ holds))
