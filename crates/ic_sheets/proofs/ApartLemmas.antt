-- What is asked of each of some items, and that no two of them are the same, where they are looked at one after another.
use Rattle.std.proofs.Common.{◌≡◌, ◌∙◌, ◌<◌, ◌≤◌, ◌+◌, ℕ, zero, suc, List, [], ◌∷◌, ◌++◌, Bool, true, false, ◌||◌, map, length, take, get_or, refl, sym, ap, ap₂, subst, arith}
use Rattle.std.proofs.lemmas.List.{map_more, take_all, take_more}
use Rattle.std.proofs.lemmas.Map.Keys.{IsDistinct-head, IsDistinct-push, IsDistinct-tail}
use Rattle.std.specs.Cmp.{IsEquivalence}
use Rattle.std.specs.List.{AllByRecursion, IsDistinct, list_any}
use Rattle.ic_laws.proofs.core.Lists.{all_pushed}

-- what holds of each holds of the one at a place
pub one_at : {W : Type 0} (P : W → Type 0) (ws : List W) (i : ℕ) (w : W) → i < length ws → w ≡ get_or ws i w → AllByRecursion P ws → P w
one_at P [] i w lt read h = absurd (omega arith)
one_at P (v ∷ ws) zero w lt read h = subst P (sym read) h.0
one_at P (v ∷ ws) (suc i) w lt read h = one_at P ws i w (omega arith) read h.1

pub one_of : {W X : Type 0} (P : X → Type 0) (f : W → X) (ws : List W) (i : ℕ) (w : W) → i < length ws → w ≡ get_or ws i w → AllByRecursion P (map f ws) → P (f w)
one_of P f [] i w lt read h = absurd (omega arith)
one_of P f (v ∷ ws) zero w lt read h = subst (λ y. P (f y)) (sym read) h.0
one_of P f (v ∷ ws) (suc i) w lt read h = one_of P f ws i w (omega arith) read h.1

module _ {W X : Type 0} {same : X → X → Bool} (laws : IsEquivalence same) (f : W → X) where
  -- none of the first ones is the same as one behind them
  pub first_apart : (ws : List W) (i : ℕ) (w : W) → i < length ws → w ≡ get_or ws i w → IsDistinct same (map f ws) → list_any (same (f w)) (map f (take i ws)) ≡ false
  first_apart [] i w lt read d = absurd (omega arith)
  first_apart (v ∷ ws) zero w lt read d = refl
  first_apart (v ∷ ws) (suc i) w lt read d =
      ap₂ ◌||◌ (laws.symm (f w) (f v) ∙ one_of (λ y. same (f v) y ≡ false) f ws i w (omega arith) read (IsDistinct-head same (f v) (map f ws) d))
      (first_apart ws i w (omega arith) read (IsDistinct-tail same (f v) (map f ws) d))

none_apart : {X : Type 0} (same : X → X → Bool) → IsDistinct same []
unfolding IsDistinct
none_apart same = tt

module _ {W X : Type 0} {same : X → X → Bool} (laws : IsEquivalence same) (P : W → Type 0) (f : W → X) (ws : List W) where
  -- of the items before this place all is so
  pub record AreFine (i : ℕ) : Type 0 where
    pub each : AllByRecursion P (take i ws)
    pub differ : IsDistinct same (map f (take i ws))

  pub fine_start : AreFine 0
  fine_start = record { each = tt; differ = none_apart same }

  pub fine_differ : (i : ℕ) → AreFine i → length ws ≤ i → IsDistinct same (map f ws)
  fine_differ i done end = subst (λ xs. IsDistinct same (map f xs)) (take_all i ws end) done.differ

  module _ (i next : ℕ) (w : W) (is_next : i + 1 ≡ next) (below : i < length ws) (item : w ≡ get_or ws i w) where
    one_more : map f (take next ws) ≡ map f (take i ws) ++ f w ∷ []
    one_more = ap (λ n. map f (take n ws)) (sym is_next) ∙ map_more f ws i w below ∙ ap (λ y. map f (take i ws) ++ f y ∷ []) (sym item)

    one_item : take next ws ≡ take i ws ++ w ∷ []
    one_item = ap (λ n. take n ws) (sym is_next) ∙ take_more ws i w below ∙ ap (λ y. take i ws ++ y ∷ []) (sym item)

    pub fine_next : AreFine i → P w → list_any (same (f w)) (map f (take i ws)) ≡ false → AreFine next
    fine_next done p free = record {
      each = subst (AllByRecursion P) (sym one_item) (all_pushed P (take i ws) w done.each p);
      differ = subst (IsDistinct same) (sym one_more) (IsDistinct-push laws (map f (take i ws)) (f w) done.differ free);
    }

    pub not_each : (P w → ⊥) → AllByRecursion P ws → ⊥
    not_each not h = not (one_at P ws i w below item h)

    pub not_differ : list_any (same (f w)) (map f (take i ws)) ≡ true → IsDistinct same (map f ws) → ⊥
    not_differ taken d = let no : true ≡ false = sym taken ∙ first_apart laws f ws i w below item d in cc
