-- Digits at the front of a text: at most so many of them, and the number that a whole part and a fraction write.
use Rattle.std.proofs.Common.{◌≡◌, ℕ, ℤ, zero, suc, ◌+◌, ◌*◌, ◌-◌, ◌^◌, ◌<◌, List, [], ◌∷◌, ◌++◌, true, false, ◌==◌, length, Option, Some, None, option_map, pos, refl, sym, ◌∙◌, ap, inl, inr, arith, add-one}
use Rattle.std.proofs.Math.Nat.{pow-suc}
use Rattle.std.specs.List.{list_all}
use Rattle.std.specs.Str.{all_ascii_digits}
use Rattle.std.specs.Str.Parse.{digits_value}
use Rattle.std.proofs.lemmas.Bool.{and_from, cases_Bool}
use Rattle.std.proofs.lemmas.Bool.Decides.{eqb_tells, nat_tests}
use Rattle.ic_laws.specs.Amount.{units_by, read_units, unsigned_amount}
use Rattle.ic_laws.specs.AmountFront.{amount_front, digits_to, fraction_front, last_whole, number_in_one_pass, past_fraction, past_some, past_to, some_digits}
use Rattle.ic_laws.specs.Dialect.{DialectMeaning, IsLawful}
use Rattle.ic_laws.specs.Scan.{is_digit, past_run, run_of}
use Rattle.ic_laws.specs.Token.{Token, Num}
use Rattle.ic_tree.specs.Lexing.{fraction_run}
use Rattle.ic_laws.proofs.tokens.Characters.{past_run_all, run_of_all}
use Rattle.ic_laws.proofs.tokens.Numbers.{separator_apart, digits_all as all_whole}

-- one digit more, and none
pub some_first : (k c : ℕ) (cs : List ℕ) → 0 < k → is_digit c ≡ true → (some_digits k (c ∷ cs) ≡ c ∷ some_digits (k - 1) cs) × (past_some k (c ∷ cs) ≡ past_some (k - 1) cs)
some_first zero c cs lt h = absurd (omega arith)
some_first (suc k) c cs lt h =
    let same : k ≡ suc k - 1 = omega arith in
    (rw h (ap (λ n. c ∷ some_digits n cs) same), rw h (ap (λ n. past_some n cs) same))

some_stop : (k c : ℕ) (cs : List ℕ) → is_digit c ≡ false → (some_digits k (c ∷ cs) ≡ []) × (past_some k (c ∷ cs) ≡ c ∷ cs)
some_stop zero c cs h = (refl, refl)
some_stop (suc k) c cs h = (rw h refl, rw h refl)

some_end : (k : ℕ) → (some_digits k [] ≡ []) × (past_some k [] ≡ [])
some_end zero = (refl, refl)
some_end (suc k) = (refl, refl)

pub stop_here : (k c : ℕ) (text cs : List ℕ) → text ≡ c ∷ cs → is_digit c ≡ false → (some_digits k text ≡ []) × (past_some k text ≡ text)
stop_here k c text cs e h = let s = some_stop k c cs h in (ap (some_digits k) e ∙ s.0, ap (past_some k) e ∙ s.1 ∙ sym e)

pub end_here : (k : ℕ) (text : List ℕ) → text ≡ [] → (some_digits k text ≡ []) × (past_some k text ≡ text)
end_here k text e = let s = some_end k in (ap (some_digits k) e ∙ s.0, ap (past_some k) e ∙ s.1 ∙ sym e)

pub some_none : (k : ℕ) (text : List ℕ) → k ≡ 0 → (some_digits k text ≡ []) × (past_some k text ≡ text)
some_none zero text e = (refl, refl)
some_none (suc k) text e = absurd (omega (arith, e))

-- a digit is below ten, and a number of so many digits below their power of ten
pub digit_below : (c : ℕ) → is_digit c ≡ true → c - 48 < 10
digit_below c h = grind (arith, nat_tests)

pub power_more : (value digit count : ℕ) → value < 10 ^ count → digit < 10 → value * 10 + digit < 10 ^ (count + 1)
power_more value digit count small below =
    let power : 10 ^ (count + 1) ≡ 10 ^ count * 10 = rw (add-one, pow-suc) refl in
    omega (arith, power)

all_some : (k : ℕ) (cs : List ℕ) → all_ascii_digits (some_digits k cs) ≡ true
all_some zero cs = refl
all_some (suc k) [] = refl
all_some (suc k) (c ∷ cs) = elim (cases_Bool (is_digit c)) [ inl e ↦ rw e (and_from (is_digit c) (all_ascii_digits (some_digits k cs)) e (all_some k cs)) | inr e ↦ rw e refl ]

-- what a whole part and what stands at the front after it write
front_units : (separator : ℕ) (whole after : List ℕ) → is_digit separator ≡ false → list_all is_digit whole ≡ true
    → unsigned_amount separator (whole ++ fraction_front separator after) ≡ units_by (digits_value 10 whole) (length whole) (digits_value 10 (fraction_run separator after)) (length (fraction_run separator after))
front_units separator whole [] apart digits =
    let run : run_of is_digit (whole ++ []) ≡ whole = run_of_all is_digit whole [] digits refl in
    let past : past_run is_digit (whole ++ []) ≡ [] = past_run_all is_digit whole [] digits refl in
    ap (λ r. read_units separator r (past_run is_digit (whole ++ []))) run ∙ ap (read_units separator whole) past
front_units separator whole (c ∷ cs) apart digits =
    elim (eqb_tells c separator) [
      | inl e ↦
          let tail : fraction_front separator (c ∷ cs) ≡ separator ∷ some_digits 9 cs = rw (e.0) (ap (λ x. x ∷ some_digits 9 cs) (e.1)) in
          let taken : fraction_run separator (c ∷ cs) ≡ some_digits 9 cs = rw (e.0) refl in
          let text = whole ++ separator ∷ some_digits 9 cs in
          let run : run_of is_digit text ≡ whole = run_of_all is_digit whole (separator ∷ some_digits 9 cs) digits apart in
          let past : past_run is_digit text ≡ separator ∷ some_digits 9 cs = past_run_all is_digit whole (separator ∷ some_digits 9 cs) digits apart in
          ap (λ t. unsigned_amount separator (whole ++ t)) tail
          ∙ ap (λ r. read_units separator r (past_run is_digit text)) run ∙ ap (read_units separator whole) past ∙ by_fraction separator whole (some_digits 9 cs) (all_some 9 cs)
          ∙ ap (λ f. units_by (digits_value 10 whole) (length whole) (digits_value 10 f) (length f)) (sym taken)
      | inr e ↦
          let tail : fraction_front separator (c ∷ cs) ≡ [] = rw (e.0) refl in
          let taken : fraction_run separator (c ∷ cs) ≡ [] = rw (e.0) refl in
          let run : run_of is_digit (whole ++ []) ≡ whole = run_of_all is_digit whole [] digits refl in
          let past : past_run is_digit (whole ++ []) ≡ [] = past_run_all is_digit whole [] digits refl in
          ap (λ t. unsigned_amount separator (whole ++ t)) tail
          ∙ ap (λ r. read_units separator r (past_run is_digit (whole ++ []))) run ∙ ap (read_units separator whole) past
          ∙ ap (λ f. units_by (digits_value 10 whole) (length whole) (digits_value 10 f) (length f)) (sym taken)
    ]
  where
    by_fraction : (separator : ℕ) (whole fraction : List ℕ) → all_ascii_digits fraction ≡ true
        → read_units separator whole (separator ∷ fraction) ≡ units_by (digits_value 10 whole) (length whole) (digits_value 10 fraction) (length fraction)
    by_fraction separator whole fraction all = let same : (separator == separator) ≡ true = grind (arith, nat_tests) in rw (same, all) refl

-- the number at the front, by the numbers that its digits write
pub number_by_parts : (d : DialectMeaning) → IsLawful d → (decimal : ℕ) (text after rest : List ℕ) (whole whole_count fraction fraction_count : ℕ) (found : Option ℤ) → decimal ≡ d.decimal
    → whole ≡ digits_value 10 (digits_to last_whole 0 text) → whole_count ≡ length (digits_to last_whole 0 text) → after ≡ past_to last_whole 0 text
    → fraction ≡ digits_value 10 (fraction_run decimal after) → fraction_count ≡ length (fraction_run decimal after) → rest ≡ past_fraction decimal after
    → found ≡ option_map pos (units_by whole whole_count fraction fraction_count) → option_map {U = Token × List ℕ} (λ units. (Num units, rest)) found ≡ number_in_one_pass d text
number_by_parts d n decimal text after rest whole whole_count fraction fraction_count found is_decimal a b is_after e f r is =
    let W = digits_to last_whole 0 text in
    let A = past_to last_whole 0 text in
    let run : fraction_run decimal after ≡ fraction_run d.decimal A = ap (λ x. fraction_run x after) is_decimal ∙ ap (fraction_run d.decimal) is_after in
    let past : rest ≡ past_fraction d.decimal A = r ∙ ap (λ x. past_fraction x after) is_decimal ∙ ap (past_fraction d.decimal) is_after in
    let units : units_by whole whole_count fraction fraction_count ≡ unsigned_amount d.decimal (amount_front d.decimal text) =
    ap (λ x. units_by x whole_count fraction fraction_count) a ∙ ap (λ x. units_by (digits_value 10 W) x fraction fraction_count) b
    ∙ ap (λ x. units_by (digits_value 10 W) (length W) x fraction_count) e ∙ ap (λ x. units_by (digits_value 10 W) (length W) (digits_value 10 (fraction_run decimal after)) x) f
    ∙ ap (λ x. units_by (digits_value 10 W) (length W) (digits_value 10 x) (length x)) run
    ∙ sym (front_units d.decimal W A (separator_apart d n) (all_whole last_whole 0 text)) in
    ap (option_map {U = Token × List ℕ} (λ units. (Num units, rest))) (is ∙ ap (option_map pos) units)
    ∙ twice rest (unsigned_amount d.decimal (amount_front d.decimal text)) ∙ ap (λ x. option_map {U = Token × List ℕ} (λ units. (Num (pos units), x)) (unsigned_amount d.decimal (amount_front d.decimal text))) past
  where
    twice : (rest : List ℕ) (o : Option ℕ) → option_map {U = Token × List ℕ} (λ units. (Num units, rest)) (option_map pos o) ≡ option_map {U = Token × List ℕ} (λ units. (Num (pos units), rest)) o
    twice rest None = refl
    twice rest (Some units) = refl
