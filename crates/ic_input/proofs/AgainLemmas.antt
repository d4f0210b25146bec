-- What is shown of an amount is typed as it.
use Rattle.std.proofs.Common.{◌≡◌, ℕ, suc, ℤ, pos, negsuc, ◌+◌, ◌*◌, ◌-◌, ◌^◌, ◌<◌, ◌≤◌, List, [], ◌∷◌, ◌++◌, true, false, ◌&&◌, ◌==◌, nat_le, nat_lt, length, Option, Some, None, refl, sym, ap, ◌∙◌, append-nil, inl, inr}
use Rattle.std.specs.Str.{all_ascii_digits}
use Rattle.std.specs.Str.Parse.{digits_value}
use Rattle.std.proofs.lemmas.Bool.{and_parts, cases_Bool, eqb-true, leb-true, ltb-true}
use Rattle.ic_laws.specs.Amount.{amount_text, is_amount, read_units, unsigned_text, units_by, units_of_one}
use Rattle.ic_laws.specs.Scan.{is_digit, past_run, run_of}
use Rattle.ic_laws.proofs.AmountTexts.{unsigned_amount-text}
use Rattle.ic_laws.proofs.RunLemmas.{run_and_rest}
use Rattle.ic_tables.specs.declared.language.Language.{Language}
use Rattle.ic_tables.specs.declared.locale.Locale.{Locale}
use Rattle.ic_tables.specs.Formats.{decimal_separator}
use Rattle.ic_input.specs.Number.{IsUnsigned, fraction_of, fraction_text}
use Rattle.ic_input.specs.Typed.{IsNumber, typed}
use Rattle.ic_input.specs.declared.input.Typed.TheVariants as kinds
use Rattle.ic_input.proofs.LocaleLemmas.{decimal_digit}
use Rattle.ic_input.proofs.TypedLaws.{number_is_typed}
use Rattle.ic_input.proofs.TypedSteps.{TellsTexts}
use Rattle.ic_laws.proofs.AmountReading.{run_of-is_digits as run-digits}

-- What the units are that digits write.
record WritesUnits (whole count fraction places units : ℕ) : Type 0 where
  few : places ≤ 9
  some : 0 < count + places
  value : units ≡ whole * 10 ^ 9 + fraction * 10 ^ (9 - places)
  small : whole * 10 ^ 9 + fraction * 10 ^ (9 - places) < 10 ^ 27

units_written : (whole count fraction places units : ℕ) → units_by whole count fraction places ≡ Some units → WritesUnits whole count fraction places units
units_written whole count fraction places units h =
    elim (cases_Bool (nat_le places 9 && nat_lt 0 (count + places))) [
      | inr e ↦ let none : None ≡ Some units = rw e at h in absurd (cc)
      | inl e ↦ elim (cases_Bool (nat_lt (whole * units_of_one + fraction * 10 ^ (9 - places)) (10 ^ 27))) [
        | inr f ↦ let none : None ≡ Some units = rw (e, f) at h in absurd (cc)
        | inl f ↦
            let p = and_parts (nat_le places 9) (nat_lt 0 (count + places)) e in
            let same : Some (whole * units_of_one + fraction * 10 ^ (9 - places)) ≡ Some units = rw (e, f) at h in
            record { few = leb-true _ _ p.0; some = ltb-true _ _ p.1; value = cc; small = ltb-true _ _ f }
      ]
    ]

-- the number of digits, and of a fraction or none
plain : (l : Locale) (text : List ℕ) (fraction : Option (List ℕ)) (units : ℕ) → text ≡ run_of is_digit text ++ fraction_text (decimal_separator l) fraction → all_ascii_digits (fraction_of fraction) ≡ true → units_by (digits_value 10 (run_of is_digit text)) (length (run_of is_digit text)) (digits_value 10 (fraction_of fraction)) (length (fraction_of fraction)) ≡ Some units → IsUnsigned l text (record { amount = pos units; code = None })
plain l text fraction units e d h =
    let w = units_written _ _ _ _ units h in
    record {
      before = [];
      whole = run_of is_digit text;
      grouped = false;
      whole_text = run_of is_digit text;
      fraction = fraction;
      after = [];
      spelled = e ∙ ap (λ t. run_of is_digit text ++ t) (sym (append-nil (fraction_text (decimal_separator l) fraction)));
      beside = refl;
      whole_digits = run-digits text;
      written = refl;
      fraction_digits = d;
      some = w.some;
      few = w.few;
      value = ap pos w.value;
      small = w.small;
      code = refl;
    }

-- a number of a formula is one that may be typed
formula_number : (l : Locale) (text rest : List ℕ) (units : ℕ) → text ≡ run_of is_digit text ++ rest → read_units (decimal_separator l) (run_of is_digit text) rest ≡ Some units → IsUnsigned l text (record { amount = pos units; code = None })
formula_number l text [] units e h = plain l text None units e refl h
formula_number l text (c ∷ cs) units e h =
    elim (cases_Bool (c == decimal_separator l)) [
      | inr f ↦ let none : None ≡ Some units = rw f at h in absurd (cc)
      | inl f ↦ elim (cases_Bool (all_ascii_digits cs)) [
        | inr g ↦ let none : None ≡ Some units = rw (f, g) at h in absurd (cc)
        | inl g ↦
            let same : c ≡ decimal_separator l = eqb-true c (decimal_separator l) f in
            plain l text (Some cs) units (e ∙ ap (λ d. run_of is_digit text ++ d ∷ cs) same) g (rw (f, g) at h)
      ]
    ]

unsigned_again : (l : Locale) (n : ℕ) → n < 10 ^ 27 → IsUnsigned l (unsigned_text (decimal_separator l) n) (record { amount = pos n; code = None })
unsigned_again l n small =
    let text = unsigned_text (decimal_separator l) n in
    formula_number l text (past_run is_digit text) n (run_and_rest is_digit text) (unsigned_amount-text (decimal_separator l) n small (decimal_digit l))

number_again : (l : Locale) (v : ℤ) → is_amount v ≡ true → IsNumber l (amount_text (decimal_separator l) v) v None
number_again l (pos n) h = inl (record { amount = pos n; code = None }, (unsigned_again l n (ltb-true _ _ h), refl, refl))
number_again l (negsuc k) h =
    inr (inr (inl (unsigned_text (decimal_separator l) (suc k), (refl, (record { amount = pos (suc k); code = None }, (unsigned_again l (suc k) (ltb-true _ _ h), refl, refl))))))

pub amount_again : (l : Locale) → TellsTexts l → (language english : Language) (v : ℤ) → is_amount v ≡ true → typed l language english (amount_text (decimal_separator l) v) ≡ kinds.Number v None
amount_again l tells language english v h = number_is_typed l tells language english _ v None (number_again l v h)
