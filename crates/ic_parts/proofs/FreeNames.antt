-- The least number of a name that no sheet has.
use Rattle.std.proofs.Common.{◌≡◌, ℕ, zero, suc, ◌+◌, ◌<◌, ◌≤◌, min, List, length, Bool, true, false, not, Some, None, Result, Ok, Err, IfOk, OnOk}
use Rattle.std.proofs.Common.{refl, sym, ap, subst, ◌∙◌, arith, inl, inr}
use Rattle.std.proofs.lemmas.Bool.{cases_Bool, cases_lt}
use Rattle.std.specs.List.{find, list_any, range_with_len}
use Rattle.std.specs.Prelude.{unwrap_or}
use Rattle.ic_laws.specs.Name.{agrees}
use Rattle.ic_parts.specs.SheetNames.{AreTaken, HasPassed, free_among}

module _ (p : ℕ → Bool) where
  -- none of these numbers passes, nor does the next one
  none_more : (a k : ℕ) → find p (range_with_len a k) ≡ None → p (a + k) ≡ false → find p (range_with_len a (suc k)) ≡ None
  none_more a zero e f = let g : p a ≡ false = subst (λ n. p n ≡ false) (omega arith) f in rw g refl
  none_more a (suc k) e f = elim (cases_Bool (p a)) [
    | inl t ↦ absurd (let no : Some a ≡ None = rw t at e in cc)
    | inr g ↦ rw g (none_more (a + 1) k (rw g at e) (subst (λ n. p n ≡ false) (omega arith) f))
  ]

  -- none of these numbers passes, but the next one does
  first_next : (a k m : ℕ) → find p (range_with_len a k) ≡ None → p (a + k) ≡ true → k < m → find p (range_with_len a m) ≡ Some (a + k)
  first_next a k zero e t less = absurd (omega (arith, less))
  first_next a zero (suc m) e t less = let g : p a ≡ true = subst (λ n. p n ≡ true) (omega arith) t in rw g (ap Some (omega arith))
  first_next a (suc k) (suc m) e t less = elim (cases_Bool (p a)) [
    | inl g ↦ absurd (let no : Some a ≡ None = rw g at e in cc)
    | inr g ↦ rw g (first_next (a + 1) k m (rw g at e) (subst (λ n. p n ≡ true) (omega arith) t) (omega (arith, less)) ∙ ap Some (omega arith))
  ]

module _ (taken : List (List ℕ)) (name : ℕ → List ℕ) where
  abbrev is_free : ℕ → Bool
  is_free n = not (list_any (agrees (name n)) taken)

  none_free : (k : ℕ) → AreTaken taken name k → find is_free (range_with_len 1 k) ≡ None
  none_free zero all = refl
  none_free (suc k) all =
      none_more is_free 1 k (none_free k (λ n less. all n (omega (arith, less))))
      (subst (λ n. is_free n ≡ false) (omega arith) (ap not (all k (omega arith))))

  pub taken_too : (k : ℕ) → AreTaken taken name k → list_any (agrees (name (k + 1))) taken ≡ true → AreTaken taken name (k + 1)
  taken_too k all e = λ n less.
      elim (cases_lt n k) [
        | inl before ↦ all n before
        | inr after ↦ let same : n ≡ k = omega (arith, less, after) in subst (λ m. list_any (agrees (name (m + 1))) taken ≡ true) (sym same) e
      ]

  free_is : (k : ℕ) → AreTaken taken name k → list_any (agrees (name (k + 1))) taken ≡ false → k < length taken → free_among taken name ≡ k + 1
  free_is k all e less =
      ap (λ o. unwrap_or o (suc (length taken)))
      (first_next is_free 1 k (suc (length taken)) (none_free k all) (subst (λ n. is_free n ≡ true) (omega arith) (ap not e)) (omega (arith, less))) ∙ omega arith

  -- the last one
  free_last : AreTaken taken name (length taken) → free_among taken name ≡ length taken + 1
  free_last all = elim (cases_Bool (is_free (1 + length taken))) [
    | inl t ↦ ap (λ o. unwrap_or o (suc (length taken)))
        (first_next is_free 1 (length taken) (suc (length taken)) (none_free (length taken) all) t (omega arith)) ∙ omega arith
    | inr f ↦ ap (λ o. unwrap_or o (suc (length taken))) (none_more is_free 1 (length taken) (none_free (length taken) all) f) ∙ omega arith
  ]

  -- the number after those that are passed is the least free one, where as many might be as there are names
  pub passed_free : (most passed : ℕ) → most ≡ length taken → HasPassed taken name most passed → free_among taken name ≡ passed + 1
  passed_free most passed all h =
      let within : passed ≤ length taken = subst (λ m. passed ≤ m) all h.within in
      elim (cases_lt passed (length taken)) [
        | inl less ↦ free_is passed h.taken (h.next (subst (λ m. passed < m) (sym all) less)) less
        | inr end ↦ let last : passed ≡ length taken = omega (arith, within, end) in
            ap (λ k. free_among taken name) last ∙ free_last (subst (AreTaken taken name) last h.taken) ∙ ap (λ k. k + 1) (sym last)
      ]

  -- what stops before its limit stops there under a higher one
  pub passed_soon : (count soon most passed : ℕ) → soon ≡ min count most → HasPassed taken name soon passed → passed < most → HasPassed taken name count passed
  passed_soon count soon most passed is h less = record {
    taken = h.taken;
    within = let below : passed ≤ soon = h.within in omega (arith, is, below);
    next = λ before. h.next (omega (arith, is, before, less));
  }

  -- so is the name that is written with it
  pub passed_named : {E : Type 0} (r : Result ℕ E) (most : ℕ) (text : List ℕ) → most ≡ length taken
      → IfOk r (HasPassed taken name most) → IfOk r (λ passed. text ≡ name (passed + 1)) → OnOk r (text ≡ name (free_among taken name))
  passed_named (Ok passed) most text all h is = is ∙ ap name (sym (passed_free most passed all h))
  passed_named (Err e) most text all h is = tt
