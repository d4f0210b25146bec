-- A number is taken apart from left to right, and what is too large is counted as one number.
use Rattle.std.proofs.Common.{◌≡◌, ℕ, ◌+◌, ◌*◌, ◌-◌, ◌^◌, ◌<◌, ◌≤◌, List, [], ◌∷◌, Bool, true, false, not, ◌&&◌, ◌||◌, ◌==◌, cond, min, nat_le, nat_lt, bytes_eq, length, chars, None, refl, sym, ap, ◌∙◌, inl, inr, arith}
use Rattle.std.specs.Str.{all_ascii_digits}
use Rattle.std.specs.Str.Parse.{digits_value, digits_value_after}
use Rattle.std.proofs.lemmas.Bool.{cases_Bool, and_right, or_from, or_parts}
use Rattle.std.proofs.Math.Nat.{mul-le-mul, pow-le-pow_right}
use Rattle.std.proofs.lemmas.Bool.Decides.{leb_tells, nat_tests}
use Rattle.std.proofs.lemmas.Str.Parse.{digits_value_short}
use Rattle.ic_laws.specs.Character.{dollar}
use Rattle.ic_laws.specs.Scan.{first_is, is_digit, past_run, run_of}
use Rattle.ic_laws.proofs.AmountLemmas.{numerals}
use Rattle.ic_tables.specs.declared.locale.Locale.{Locale}
use Rattle.ic_input.specs.Convention.{begins_currency, euro, group_of, is_currency, is_nothing}
use Rattle.ic_tables.specs.Formats.{decimal_separator}
use Rattle.ic_input.specs.Code.{is_percent, stands_beside}
use Rattle.ic_input.specs.Group.{past_threes, threes}
use Rattle.ic_input.specs.Number.{decimals_at, begins_digits, from_digits, is_first_group, may_begin, most_decimals, past_decimals, stands_before, units_if, unsigned_number, with_after, with_code, code_for}
use Rattle.ic_input.specs.declared.digits.Digits.{Digits}
use Rattle.ic_input.specs.declared.digits.Groups.{Groups}
use Rattle.ic_input.proofs.DigitLemmas.{capped, within-is}
use Rattle.ic_laws.proofs.AmountReading.{run_of-is_digits as run-digits}

pub decimals-digits : (separator : ℕ) (text : List ℕ) → all_ascii_digits (decimals_at separator text) ≡ true
decimals-digits separator [] = refl
decimals-digits separator (c ∷ cs) = elim (cases_Bool (c == separator)) [ inl e ↦ rw e (run-digits cs) | inr e ↦ rw e refl ]

-- a whole part that is too large gives no units, whatever it is
too_large : (places w wc f k : ℕ) → 7 ≤ places → 10 ^ 20 ≤ w → units_if places w wc f k ≡ None
too_large places w wc f k p large =
    let seven : 10 ^ 7 ≤ 10 ^ places = pow-le-pow_right (omega arith) p in
    let part : 10 ^ 20 * 10 ^ 7 ≤ w * 10 ^ places = mul-le-mul large seven in
    let over : nat_lt (w * 10 ^ places + f * 10 ^ (places - k)) (10 ^ 27) ≡ false = grind (arith, nat_tests) in
    rw (and_right (nat_lt 0 (wc + k) && nat_le k places) (nat_lt (w * 10 ^ places + f * 10 ^ (places - k)) (10 ^ 27)) over) refl

-- the units are those of the numbers themselves
pub units_capped : (places w wc : ℕ) (fraction : List ℕ) → 7 ≤ places → places ≤ 9 → all_ascii_digits fraction ≡ true → units_if places (min w (10 ^ 20)) wc (min (digits_value 10 fraction) (10 ^ 20)) (length fraction) ≡ units_if places w wc (digits_value 10 fraction) (length fraction)
units_capped places w wc fraction low high digits =
    elim (leb_tells (length fraction) places) [
      | inl p ↦
          let short : digits_value 10 fraction < 10 ^ 9 = digits_value_short numerals fraction 9 digits (omega (arith, p.1)) in
          let same : min (digits_value 10 fraction) (10 ^ 20) ≡ digits_value 10 fraction = omega arith in
          rw same (elim (leb_tells w (10 ^ 20)) [
            | inl q ↦ ap (λ n. units_if places n wc (digits_value 10 fraction) (length fraction)) (sym (within-is w (10 ^ 20) q.1))
            | inr q ↦ too_large places _ wc _ _ low (omega (arith, q.1)) ∙ sym (too_large places w wc _ _ low (omega (arith, q.1)))
          ])
      | inr p ↦ rw (and_right (nat_lt 0 (wc + length fraction)) (nat_le (length fraction) places) p.0) refl
    ]

abbrev pub first_in : List ℕ → List ℕ
first_in body = run_of is_digit body

abbrev pub groups_in : Locale → List ℕ → List ℕ
groups_in l body = threes (group_of l) (past_run is_digit body)

abbrev pub rest_in : Locale → List ℕ → List ℕ
rest_in l body = past_threes (group_of l) (past_run is_digit body)

-- whether the digits before them fit the groups
pub fits-groups : (l : Locale) (body : List ℕ) (k : ℕ) (some b : Bool) → k ≡ length (first_in body) → some ≡ not (is_nothing (groups_in l body)) → (not some || nat_lt 0 k && nat_le k 3) ≡ b → is_first_group (first_in body) (groups_in l body) ≡ b
fits-groups l body k some b ek es h = rw (← ek, ← nothing (is_nothing (groups_in l body)) some es) h
  where
    nothing : (n s : Bool) → s ≡ not n → not s ≡ n
    nothing true s e = ap not e
    nothing false s e = ap not e

pub refused : (l : Locale) (before body : List ℕ) → is_first_group (first_in body) (groups_in l body) ≡ false → None ≡ from_digits l before body
unfolding from_digits
refused l before body h = rw h refl

-- what each part is, put together
pub assembled : (l : Locale) (before body : List ℕ) (some : Bool) (v k f kf : ℕ) (after : List ℕ) → is_first_group (first_in body) (groups_in l body) ≡ true → some ≡ not (is_nothing (groups_in l body)) → v ≡ min (digits_value_after 10 (min (digits_value 10 (first_in body)) (10 ^ 20)) (groups_in l body)) (10 ^ 20) → k ≡ length (first_in body) → f ≡ min (digits_value 10 (decimals_at (decimal_separator l) (rest_in l body))) (10 ^ 20) → kf ≡ length (decimals_at (decimal_separator l) (rest_in l body)) → after ≡ past_decimals (decimal_separator l) (rest_in l body) → with_after l before some v k f kf after ≡ from_digits l before body
unfolding from_digits
assembled l before body some v k f kf after grouped es ev ek ef ekf ea =
    let whole : v ≡ min (digits_value_after 10 (digits_value 10 (first_in body)) (groups_in l body)) (10 ^ 20) = ev ∙ capped _ (10 ^ 20) (groups_in l body) in
    rw (grouped, es, whole, ek, ef, ekf, ea)
    (ap (λ u. cond (stands_beside (is_currency l) before (past_decimals (decimal_separator l) (rest_in l body))) (with_code (code_for (not (is_nothing (groups_in l body))) before (past_decimals (decimal_separator l) (rest_in l body)) (nat_lt 0 (length (decimals_at (decimal_separator l) (rest_in l body))))) u) None)
    (units_capped (most_decimals (past_decimals (decimal_separator l) (rest_in l body))) _ _ (decimals_at (decimal_separator l) (rest_in l body)) (low (past_decimals (decimal_separator l) (rest_in l body))) (high (past_decimals (decimal_separator l) (rest_in l body))) (decimals-digits (decimal_separator l) (rest_in l body))))
  where
    low : (after : List ℕ) → 7 ≤ most_decimals after
    low after = elim (cases_Bool (is_percent after)) [ inl e ↦ rw e (omega arith) | inr e ↦ rw e (omega arith) ]

    high : (after : List ℕ) → most_decimals after ≤ 9
    high after = elim (cases_Bool (is_percent after)) [ inl e ↦ rw e (omega arith) | inr e ↦ rw e (omega arith) ]

pub from_start : (l : Locale) (text before body : List ℕ) (d : ℕ) → d ≡ decimal_separator l → before ≡ run_of (stands_before d) text → body ≡ past_run (stands_before d) text → from_digits l before body ≡ unsigned_number l text
unfolding unsigned_number
from_start l text before body d e b r = rw (b, r, e) refl

-- where no currency stands before digits, but something, it is no number
no_currency : (l : Locale) (c : ℕ) (before body : List ℕ) → is_currency l (c ∷ before) ≡ false → None ≡ from_digits l (c ∷ before) body
unfolding from_digits
no_currency l c before body e =
    let apart = and_right (is_nothing (past_decimals (decimal_separator l) (rest_in l body))) (is_currency l (c ∷ before)) e in
    elim (cases_Bool (is_first_group (first_in body) (groups_in l body))) [ inl t ↦ rw (t, apart) refl | inr f ↦ rw f refl ]

-- a text that begins with no character of a currency is none
unlike_symbol : (symbol : List ℕ) (c : ℕ) (cs : List ℕ) → first_is (λ d. d == c) symbol ≡ false → bytes_eq symbol (c ∷ cs) ≡ false
unlike_symbol [] c cs e = refl
unlike_symbol (d ∷ ds) c cs e = rw e refl

unlike_currency : (l : Locale) (c : ℕ) (cs : List ℕ) → begins_currency l c ≡ false → is_currency l (c ∷ cs) ≡ false
unlike_currency l c cs e =
    let p = or_parts (c == dollar || c == euro) (first_is (λ d. d == c) l.currency.symbol) e in
    or_from ((c == dollar || c == euro) && is_nothing cs) (bytes_eq l.currency.symbol (c ∷ cs)) (ap (λ b. b && is_nothing cs) p.0) (unlike_symbol l.currency.symbol c cs p.1)

-- a text that begins as no number may is none
pub unbegun : (l : Locale) (text : List ℕ) → first_is (may_begin l) text ≡ false → None ≡ unsigned_number l text
unfolding unsigned_number from_digits
unbegun l [] e = refl
unbegun l (c ∷ cs) e =
    let p = or_parts (begins_digits (decimal_separator l) c) (begins_currency l c) e in
    let other : stands_before (decimal_separator l) c ≡ true = ap not p.0 in
    let before = run_of (stands_before (decimal_separator l)) cs in
    rw other (no_currency l c before (past_run (stands_before (decimal_separator l)) cs) (unlike_currency l c before p.1))

-- What the groups are of which the code tells.
pub record AreGroups (l : Locale) (body : List ℕ) (groups : Groups) : Type 0 where
  pub value : groups.value ≡ min (digits_value_after 10 (min (digits_value 10 (first_in body)) (10 ^ 20)) (groups_in l body)) (10 ^ 20)
  pub some : groups.are_some ≡ not (is_nothing (groups_in l body))
  pub rest : chars groups.rest.now ≡ rest_in l body

pub groups_is : (l : Locale) (body : List ℕ) (first : Digits) (groups : Groups) (g : ℕ) → g ≡ group_of l → first.value ≡ min (digits_value 10 (run_of is_digit body)) (10 ^ 20) → chars first.rest.now ≡ past_run is_digit body → groups.value ≡ min (digits_value_after 10 first.value (threes g (chars first.rest.now))) (10 ^ 20) → groups.are_some ≡ not (is_nothing (threes g (chars first.rest.now))) → chars groups.rest.now ≡ past_threes g (chars first.rest.now) → AreGroups l body groups
groups_is l body first groups g eg ev er v s r =
    let same : threes g (chars first.rest.now) ≡ groups_in l body = rw (eg, er) refl in
    record {
      value = v ∙ ap (λ n. min (digits_value_after 10 n (threes g (chars first.rest.now))) (10 ^ 20)) ev ∙ ap (λ ts. min (digits_value_after 10 (min (digits_value 10 (first_in body)) (10 ^ 20)) ts) (10 ^ 20)) same;
      some = s ∙ ap (λ ts. not (is_nothing ts)) same;
      rest = r ∙ rw (eg, er) refl;
    }

pub record AreDecimals (l : Locale) (body : List ℕ) (decimals : Digits) : Type 0 where
  pub value : decimals.value ≡ min (digits_value 10 (decimals_at (decimal_separator l) (rest_in l body))) (10 ^ 20)
  pub count : decimals.count ≡ length (decimals_at (decimal_separator l) (rest_in l body))
  pub after : chars decimals.rest.now ≡ past_decimals (decimal_separator l) (rest_in l body)

pub decimals_is : (l : Locale) (body : List ℕ) (groups : Groups) (decimals : Digits) (d : ℕ) → d ≡ decimal_separator l → chars groups.rest.now ≡ rest_in l body → decimals.value ≡ min (digits_value 10 (decimals_at d (chars groups.rest.now))) (10 ^ 20) → decimals.count ≡ length (decimals_at d (chars groups.rest.now)) → chars decimals.rest.now ≡ past_decimals d (chars groups.rest.now) → AreDecimals l body decimals
decimals_is l body groups decimals d ed er v n r =
    let same : decimals_at d (chars groups.rest.now) ≡ decimals_at (decimal_separator l) (rest_in l body) = rw (ed, er) refl in
    record {
      value = v ∙ ap (λ ds. min (digits_value 10 ds) (10 ^ 20)) same;
      count = n ∙ ap length same;
      after = r ∙ ap (λ t. past_decimals t (chars groups.rest.now)) ed ∙ ap (past_decimals (decimal_separator l)) er;
    }
