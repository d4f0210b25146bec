-- The index of a formula in a pool is the first place of an equal one.
use Rattle.std.proofs.Common.{◌≡◌, ℕ, zero, suc, ◌<◌, ◌≤◌, ◌⊎◌, inl, inr, List, [], ◌∷◌, ◌++◌, length, Option, Some, None, is_some, refl, sym, subst, ◌∙◌, if◌then◌else◌, arith}
use Rattle.std.specs.Prelude.{unwrap_or}
use Rattle.std.specs.List.{slice_get}
use Rattle.ic_laws.specs.declared.tree.Formula.{Formula}
use Rattle.ic_machine.specs.Placed.{FormulaIsPlaced, PlacedAlone}
use Rattle.ic_pool.proofs.PlacedLemmas.{IsPlaced-found, IsPlaced-pushed, below_length, first_found, first_pushed}
use Rattle.ic_pool.specs.Code.{code}
use Rattle.ic_pool.specs.Pool.{IsFirstAt, IsPlaced, first_place}
use Rattle.ic_laws.proofs.General.{in_front as got_in_front}

pub is_placed : FormulaIsPlaced
is_placed formula pool = by_place (first_place (code formula) pool) refl
  where
    by_place : (o : Option ℕ) → first_place (code formula) pool ≡ o → IsPlaced formula (unwrap_or o (length pool)) pool (if is_some o then pool else pool ++ formula ∷ [])
    by_place (Some at) e = IsPlaced-found formula at pool e
    by_place None e = IsPlaced-pushed formula (length pool) pool (pool ++ formula ∷ []) e refl refl

split_at : (m n : ℕ) → (m < n) ⊎ (n ≤ m)
split_at m zero = inr (omega arith)
split_at zero (suc n) = inl (omega arith)
split_at (suc m) (suc n) = elim (split_at m n) [ inl lt ↦ inl (omega arith) | inr le ↦ inr (omega arith) ]

pub placed_index : PlacedAlone
placed_index formula at before after placed = at_first (first_place (code formula) before) refl
  where
    same_first : (k : ℕ) (xs : List Formula) → IsFirstAt formula k xs → IsFirstAt formula at xs → k ≡ at
    same_first k xs one other =
        elim (split_at k at) [
          | inl less ↦ absurd (other.none_before k less one.here)
          | inr le ↦ elim (split_at at k) [ inl more ↦ absurd (one.none_before at more other.here) | inr ge ↦ omega (arith, le, ge) ]
        ]

    at_first : (o : Option ℕ) → first_place (code formula) before ≡ o → (unwrap_or o (length before) ≡ at) × ((if is_some o then before else before ++ formula ∷ []) ≡ after)
    at_first (Some k) e =
        let first = first_found formula before k e in
        let lt : k < length before = below_length formula k before first.here in
        elim (split_at at (length before)) [
          | inl lt ↦ (let same = placed.found lt in (same_first k before first (subst (IsFirstAt formula at) same placed.first), sym same))
          | inr le ↦ (let pushed = placed.pushed le in absurd (placed.first.none_before k (omega (arith, lt, le)) (subst (λ xs. slice_get xs k ≡ Some formula) (sym pushed) (got_in_front before (formula ∷ []) k lt ∙ first.here))))
        ]
    at_first None e =
        let pushed = first_pushed formula before e in
        elim (split_at at (length before)) [
          | inl lt ↦ absurd (let same = placed.found lt in pushed.none_before at lt (got_in_front before (formula ∷ []) at lt ∙ subst (λ xs. slice_get xs at ≡ Some formula) same placed.first.here))
          | inr le ↦ (let same = placed.pushed le in (same_first (length before) (before ++ formula ∷ []) pushed (subst (IsFirstAt formula at) same placed.first), sym same))
        ]
