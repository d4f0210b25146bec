-- Places in an index by mention.
use Rattle.std.proofs.Common.{◌≡◌, ℕ, zero, suc, ◌<◌, ◌+◌, List, [], ◌∷◌, Bool, true, false, ◌||◌, refl, sym, ap, ap₂, ◌∙◌, get_or, length, take, arith, ◌⊎◌, inl, inr}
use Rattle.std.specs.Prelude.{◌==◌}
use Rattle.std.specs.List.{insert, list_any}
use Rattle.std.proofs.lemmas.Bool.{eqb-true}
use Rattle.std.proofs.lemmas.List.{take_more}
use Rattle.std.proofs.lemmas.List.Folds.{list_any-append}

-- one of two passes
either : (a b : Bool) → (a || (b || false)) ≡ true → (a ≡ true) ⊎ (b ≡ true)
either true b e = inl refl
either false true e = inr refl
either false false e = cc

-- of the items up to one, one before it passes or that one
pub any_more : (test : ℕ → Bool) (xs : List ℕ) (i : ℕ) → i < length xs → list_any test (take (i + 1) xs) ≡ true → (list_any test (take i xs) ≡ true) ⊎ (test (get_or xs i 0) ≡ true)
any_more test xs i below e =
    either (list_any test (take i xs)) (test (get_or xs i 0))
    (sym (ap (list_any test) (take_more xs i 0 below) ∙ list_any-append test (take i xs) (get_or xs i 0 ∷ [])) ∙ e)

-- none before one passes, nor that one
pub none_more : (test : ℕ → Bool) (xs : List ℕ) (i : ℕ) → i < length xs → list_any test (take i xs) ≡ false → test (get_or xs i 0) ≡ false → list_any test (take (i + 1) xs) ≡ false
none_more test xs i below before here =
    ap (list_any test) (take_more xs i 0 below) ∙ list_any-append test (take i xs) (get_or xs i 0 ∷ []) ∙ ap₂ (λ a b. a || (b || false)) before here

-- a list without items
pub no_items : {X : Type 0} (xs : List X) → (length xs == 0) ≡ true → xs ≡ []
no_items [] e = refl
no_items (x ∷ xs) e = let none : suc (length xs) ≡ 0 = eqb-true (suc (length xs)) 0 e in absurd (omega (arith, none))

pub or_true : (b : Bool) → (b || true) ≡ true
or_true true = refl
or_true false = refl

-- what passes a test still does when an item is put in
pub inserted_passes : {X : Type 0} (test : X → Bool) (xs : List X) (index : ℕ) (x : X) → list_any test xs ≡ true → list_any test (insert xs index x) ≡ true
inserted_passes test xs zero x e = ap (λ b. test x || b) e ∙ or_true (test x)
inserted_passes test [] (suc index) x e = cc
inserted_passes test (y ∷ xs) (suc index) x e = step (test y) e (inserted_passes test xs index x)
  where
    step : (b : Bool) → (b || list_any test xs) ≡ true → (list_any test xs ≡ true → list_any test (insert xs index x) ≡ true) → (b || list_any test (insert xs index x)) ≡ true
    step true e rest = refl
    step false e rest = rest e
