-- The name of a new sheet is one, and no sheet has it.
use Rattle.std.proofs.Common.{◌≡◌, ℕ, zero, suc, ◌+◌, ◌<◌, ◌≤◌, ◌^◌, ◌%◌, List, [], ◌∷◌, ◌++◌, map, length, Bool, true, false, not, cond, Option, Some, None, refl, sym, ◌∙◌, arith, inl, inr, length-append}
use Rattle.std.proofs.lemmas.Bool.{cases_Bool}
use Rattle.std.proofs.lemmas.Bool.Decides.{nat_tests}
use Rattle.std.proofs.lemmas.Fmt.{decimal_by_steps, decimal_injective, length-decimal-le}
use Rattle.std.proofs.lemmas.List.{append_cancel_left}
use Rattle.std.proofs.lemmas.List.FromFn.{length-map-range_with_len}
use Rattle.std.proofs.lemmas.Map.Keys.{IsDistinct-cons}
use Rattle.std.proofs.lemmas.Map.Made.{length-le_from_is_member}
use Rattle.std.specs.Fmt.{decimal}
use Rattle.std.specs.List.{AllByRecursion, IsDistinct, find, list_all, list_any, range_with_len}
use Rattle.std.specs.Prelude.{codes, nat_le, nat_lt, unwrap_or}
use Rattle.std.specs.Set.{is_member}
use Rattle.ic_laws.proofs.CoreLemmas.{agrees_equiv}
use Rattle.ic_laws.proofs.FoldLaws.{fold-fixed, fold_append, is_fixed}
use Rattle.ic_laws.proofs.binding.SceneLemmas.{agree_from}
use Rattle.ic_laws.proofs.binding.SceneLemmas.{found_passes}
use Rattle.ic_laws.specs.Name.{agrees, fold, is_forbidden, is_sheet_name}
use Rattle.ic_machine.specs.subjects.Sheets.{base_name}
use Rattle.ic_refs.proofs.StoredTextLemmas.{none_append as none_joined}

-- a free one of more numbers than there are names ----

any_alike : (x y : List ℕ) → agrees x y ≡ true → (zs : List (List ℕ)) → list_any (agrees x) zs ≡ list_any (agrees y) zs
any_alike x y e [] = refl
any_alike x y e (z ∷ zs) = rw (agrees_equiv.congr x y z e, any_alike x y e zs) refl

module _ (names : List (List ℕ)) (name : ℕ → List ℕ) (top : ℕ) (apart : (a n : ℕ) → a < top → n < top → agrees (name a) (name n) ≡ true → a ≡ n) where
  abbrev taken : ℕ → Bool
  taken n = list_any (agrees (name n)) names

  all_taken : (a k : ℕ) → find (λ n. not (taken n)) (range_with_len a k) ≡ None → AllByRecursion (λ n. taken n ≡ true) (range_with_len a k)
  all_taken a zero e = tt
  all_taken a (suc k) e = elim (cases_Bool (taken a)) [
    | inl t ↦ (t, all_taken (a + 1) k (rw t at e))
    | inr f ↦ absurd (let no : Some a ≡ None = rw f at e in cc)
  ]

  unlike : (a n : ℕ) → a < n → n < top → agrees (name a) (name n) ≡ false
  unlike a n less in_top = elim (cases_Bool (agrees (name a) (name n))) [
    | inl t ↦ absurd (let same = apart a n (omega (arith, less, in_top)) in_top t in omega (arith, same, less))
    | inr f ↦ f
  ]

  others : (x a k : ℕ) → x < a → a + k ≤ top → AllByRecursion (λ y. agrees (name x) y ≡ false) (map name (range_with_len a k))
  others x a zero less fits = tt
  others x a (suc k) less fits = (unlike x a less (omega (arith, fits)), others x (a + 1) k (omega (arith, less)) (omega (arith, fits)))

  distinct : (a k : ℕ) → a + k ≤ top → IsDistinct agrees (map name (range_with_len a k))
  unfolding IsDistinct
  distinct a zero fits = tt
  distinct a (suc k) fits = IsDistinct-cons agrees (name a) (map name (range_with_len (a + 1) k)) (others a (a + 1) k (omega (arith)) (omega (arith, fits))) (distinct (a + 1) k (omega (arith, fits)))

  members : (a k : ℕ) → AllByRecursion (λ n. taken n ≡ true) (range_with_len a k) → (q : List ℕ) → is_member agrees (map name (range_with_len a k)) q ≡ true → is_member agrees names q ≡ true
  members a zero h q e = cc
  members a (suc k) h q e = elim (cases_Bool (agrees q (name a))) [
    | inl t ↦ any_alike q (name a) t names ∙ h.0
    | inr f ↦ members (a + 1) k h.1 q (rw f at e)
  ]

  -- the first one that isn't taken
  pub free_of : (a k : ℕ) (o : Option ℕ) (d : ℕ) → find (λ n. not (taken n)) (range_with_len a k) ≡ o → length names < k → a + k ≤ top → taken (unwrap_or o d) ≡ false
  free_of a k (Some n) d e more fits = not-false-back (taken n) (found_passes (λ m. not (taken m)) (range_with_len a k) n e)
    where
      not-false-back : (b : Bool) → not b ≡ true → b ≡ false
      not-false-back true h = cc
      not-false-back false h = refl
  free_of a k None d e more fits =
      let most = length-le_from_is_member agrees_equiv (map name (range_with_len a k)) names (distinct a k fits) (members a k (all_taken a k e)) in
      absurd (omega (arith, most, length-map-range_with_len name a k, more))

-- digits ----

pub below_ten : (P : ℕ → Type 0) → P 0 → P 1 → P 2 → P 3 → P 4 → P 5 → P 6 → P 7 → P 8 → P 9 → (n : ℕ) → n < 10 → P n
below_ten P a b c d e f g h i j zero less = a
below_ten P a b c d e f g h i j (suc zero) less = b
below_ten P a b c d e f g h i j (suc (suc zero)) less = c
below_ten P a b c d e f g h i j (suc (suc (suc zero))) less = d
below_ten P a b c d e f g h i j (suc (suc (suc (suc zero)))) less = e
below_ten P a b c d e f g h i j (suc (suc (suc (suc (suc zero))))) less = f
below_ten P a b c d e f g h i j (suc (suc (suc (suc (suc (suc zero)))))) less = g
below_ten P a b c d e f g h i j (suc (suc (suc (suc (suc (suc (suc zero))))))) less = h
below_ten P a b c d e f g h i j (suc (suc (suc (suc (suc (suc (suc (suc zero)))))))) less = i
below_ten P a b c d e f g h i j (suc (suc (suc (suc (suc (suc (suc (suc (suc zero))))))))) less = j
below_ten P a b c d e f g h i j (suc (suc (suc (suc (suc (suc (suc (suc (suc (suc n)))))))))) less = absurd (omega (arith, less))

pub all_joined : (p : ℕ → Bool) (xs ys : List ℕ) → list_all p xs ≡ true → list_all p ys ≡ true → list_all p (xs ++ ys) ≡ true
all_joined p [] ys h g = g
all_joined p (x ∷ xs) ys h g = elim (cases_Bool (p x)) [
  | inl t ↦ rw t (all_joined p xs ys (rw t at h) g)
  | inr f ↦ absurd (let no : false ≡ true = rw f at h in cc)
]

digit_fixed : (n : ℕ) → n < 10 → list_all is_fixed ((48 + n) ∷ []) ≡ true
digit_fixed = below_ten (λ n. list_all is_fixed ((48 + n) ∷ []) ≡ true) refl refl refl refl refl refl refl refl refl refl

digit_good : (n : ℕ) → n < 10 → list_any is_forbidden ((48 + n) ∷ []) ≡ false
digit_good = below_ten (λ n. list_any is_forbidden ((48 + n) ∷ []) ≡ false) refl refl refl refl refl refl refl refl refl refl

pub digits_fixed : (n : ℕ) → n < 2 ^ 64 → list_all is_fixed (decimal n) ≡ true
digits_fixed = decimal_by_steps (λ n ds. list_all is_fixed ds ≡ true) digit_fixed (λ n ds more h. all_joined is_fixed ds ((48 + n % 10) ∷ []) h (digit_fixed (n % 10) (omega (arith))))

pub digits_good : (n : ℕ) → n < 2 ^ 64 → list_any is_forbidden (decimal n) ≡ false
digits_good = decimal_by_steps (λ n ds. list_any is_forbidden ds ≡ false) digit_good (λ n ds more h. none_joined is_forbidden ds ((48 + n % 10) ∷ []) h (digit_good (n % 10) (omega (arith))))

-- names with a number ----

pub numbers_apart : (base : List ℕ) (a n : ℕ) → a < 2 ^ 64 → n < 2 ^ 64 → agrees (base ++ decimal a) (base ++ decimal n) ≡ true → a ≡ n
numbers_apart base a n x y e =
    let same : fold base ++ fold (decimal a) ≡ fold base ++ fold (decimal n) = sym (fold_append base (decimal a)) ∙ agree_from (base ++ decimal a) (base ++ decimal n) e ∙ fold_append base (decimal n) in
    decimal_injective a n x y (sym (fold-fixed (decimal a) (digits_fixed a x)) ∙ append_cancel_left (fold base) (fold (decimal a)) (fold (decimal n)) same ∙ fold-fixed (decimal n) (digits_fixed n y))

pub record IsBase (base : List ℕ) : Type 0 where
  pub some : 0 < length base
  pub short : length base ≤ 7
  pub good : list_any is_forbidden base ≡ false

either : (P : List ℕ → Type 0) (c : Bool) (x y : List ℕ) → P x → P y → P (cond c x y)
either P true x y p q = p
either P false x y p q = q

pub base_good : (language : List ℕ) → IsBase (base_name language)
base_good language =
    either IsBase _ (codes "Hoja") _ (record { some = omega (arith); short = omega (arith); good = refl })
    (either IsBase _ (codes "Feuil") _ (record { some = omega (arith); short = omega (arith); good = refl })
    (either IsBase _ (codes "Tabelle") _ (record { some = omega (arith); short = omega (arith); good = refl })
    (either IsBase _ (codes "Foglio") (codes "Sheet") (record { some = omega (arith); short = omega (arith); good = refl }) (record { some = omega (arith); short = omega (arith); good = refl }))))

pub numbered_good : (base : List ℕ) (n : ℕ) → IsBase base → n < 10 ^ 12 → is_sheet_name (base ++ decimal n) ≡ true
numbered_good base n is small =
    let most : length (decimal n) ≤ 12 = length-decimal-le 12 n (omega (arith)) small (omega (arith, small)) in
    let count : length (base ++ decimal n) ≡ length base + length (decimal n) = length-append base (decimal n) in
    let some = is.some in
    let short = is.short in
    let one : nat_lt 0 (length (base ++ decimal n)) ≡ true = grind (arith, nat_tests) in
    let two : nat_le (length (base ++ decimal n)) 31 ≡ true = grind (arith, nat_tests) in
    let three : list_any is_forbidden (base ++ decimal n) ≡ false = none_joined is_forbidden base (decimal n) is.good (digits_good n (omega (arith, small))) in
    rw (one, two, three) refl
