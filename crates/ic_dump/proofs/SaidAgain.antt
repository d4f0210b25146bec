-- What a numeral says as a word of a line is the number that it was written for.
use Rattle.std.proofs.Common.{◌≡◌, ℕ, pos, ◌<◌, ◌≤◌, ◌^◌, List, [], ◌∷◌, Bool, true, false, cond, ◌==◌, Option, None, Some, codes, length, refl, ap, ap₂, subst, ◌∙◌, arith, inl, inr}
use Rattle.std.proofs.lemmas.Bool.{and_parts, cases_Bool}
use Rattle.std.proofs.lemmas.Bool.Decides.{nat_tests}
use Rattle.std.proofs.lemmas.Fmt.{decimal_nonempty, digits_decimal, digits_value-decimal}
use Rattle.std.proofs.lemmas.Slice.Eq.{bytes_eq-Decides}
use Rattle.std.specs.Fmt.{decimal, signed_decimal}
use Rattle.std.specs.Prelude.{bytes_eq, nat_le, neg_ℤ, option_and_then, option_map}
use Rattle.std.specs.Str.{all_ascii_digits}
use Rattle.std.specs.Str.Parse.{digits_value}
use Rattle.ic_laws.specs.Character.{minus}
use Rattle.ic_laws.specs.Command.{at_most, index_said, number_said, position_said, scope_said}
use Rattle.ic_laws.proofs.AmountLemmas.{numerals}

digits_said : (ds : List ℕ) (n : ℕ) → 0 < length ds → all_ascii_digits ds ≡ true → digits_value 10 ds ≡ n → number_said ds ≡ Some n
digits_said [] n some all value = absurd (omega (arith, some))
digits_said (c ∷ cs) n some all value = ap₂ (λ (b : Bool) (v : ℕ). cond b (Some v) None) all value

pub number_again : (n : ℕ) → n < 2 ^ 64 → number_said (decimal n) ≡ Some n
number_again n fits = digits_said (decimal n) n (decimal_nonempty n fits) (digits_decimal numerals n fits) (digits_value-decimal numerals n fits)

within : (most n : ℕ) → n ≤ most → at_most most n ≡ Some n
within most n fits = ap (λ (b : Bool). cond b (Some n) None) (let low : nat_le n most ≡ true = grind (arith, nat_tests) in low)

pub index_again : (n : ℕ) → n ≤ 4294967295 → index_said (decimal n) ≡ Some n
index_again n fits = ap (option_and_then (at_most 4294967295)) (number_again n (omega (arith, fits))) ∙ within 4294967295 n fits

-- a numeral isn't a minus
no_minus : (n : ℕ) → n < 2 ^ 64 → bytes_eq (decimal n) (codes "-") ≡ false
no_minus n fits = elim (cases_Bool (bytes_eq (decimal n) (codes "-"))) [
  | inl t ↦
      let same : decimal n ≡ codes "-" = (bytes_eq-Decides (decimal n) (codes "-")).0 t in
      let all : all_ascii_digits (codes "-") ≡ true = subst (λ (ds : List ℕ). all_ascii_digits ds ≡ true) same (digits_decimal numerals n fits) in
      absurd (cc)
  | inr f ↦ f
]

pub scope_again : (n : ℕ) → n ≤ 4294967295 → scope_said (decimal n) ≡ Some (Some n)
scope_again n fits =
    ap₂ (λ (b : Bool) (o : Option ℕ). cond b (Some None) (option_map (λ (k : ℕ). let some : Option ℕ = Some k in some) o)) (no_minus n (omega (arith, fits))) (index_again n fits)

-- a row or a column is above 0
place_said : (ds : List ℕ) (n : ℕ) → bytes_eq ds (codes "-") ≡ false → all_ascii_digits ds ≡ true → number_said ds ≡ Some n → n ≤ 2147483647 → position_said ds ≡ Some (pos n)
place_said [] n unsigned all said fits = absurd (let none : ◌≡◌ {A = Option ℕ} None (Some n) = said in cc)
place_said (c ∷ cs) n unsigned all said fits =
    ap₂ (λ (b : Bool) (o : Option ℕ). cond b (option_map (λ (k : ℕ). neg_ℤ (pos k)) (option_and_then (at_most 2147483648) (number_said cs))) (option_map pos (option_and_then (at_most 2147483647) o))) (first (c == minus) refl) said
    ∙ ap (option_map pos) (within 2147483647 n fits)
  where
    first : (b : Bool) → (c == minus) ≡ b → (c == minus) ≡ false
    first true e = absurd (let digit = (and_parts _ (all_ascii_digits cs) all).0 in grind (arith, nat_tests))
    first false e = e

pub position_again : (n : ℕ) → n ≤ 2147483647 → position_said (signed_decimal (pos n)) ≡ Some (pos n)
position_again n fits =
    let small : n < 2 ^ 64 = omega (arith, fits) in
    place_said (decimal n) n (no_minus n small) (digits_decimal numerals n small) (number_again n small) fits
