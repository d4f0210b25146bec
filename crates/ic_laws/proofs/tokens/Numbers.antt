-- The longest amount at the front of a text is read in one pass.
use Rattle.std.proofs.Common.{◌≡◌, ℕ, zero, suc, ◌+◌, ◌*◌, ◌-◌, ◌^◌, ◌<◌, ◌≤◌, List, [], ◌∷◌, ◌++◌, true, false, ◌&&◌, ◌==◌, nat_le, nat_lt, pos, length, Option, Some, None, option_map, refl, sym, ◌∙◌, ap, inl, inr, arith, append_assoc, append-nil, length-append}
use Rattle.std.specs.Char.{digit_value}
use Rattle.std.specs.List.{list_all}
use Rattle.std.specs.Str.{all_ascii_digits}
use Rattle.std.specs.Str.Parse.{digits_value, digits_value_after}
use Rattle.std.proofs.lemmas.Bool.{and_parts, and_from, cases_Bool, le-leb, leb-true, leb-false, lt-ltb, ltb-true}
use Rattle.std.proofs.lemmas.Nat.{pow-add}
use Rattle.std.proofs.lemmas.Str.Parse.{digits_value_short}
use Rattle.std.proofs.Math.Nat.{mul-lt-mul_of_pos_right, one-le-pow}
use Rattle.std.proofs.lemmas.Bool.Decides.{eqb_tells, nat_tests}
use Rattle.std.proofs.lemmas.Option.{cond_some}
use Rattle.ic_laws.specs.Amount.{units_of_one, if_amount, units_by, units_of, read_units, unsigned_amount}
use Rattle.ic_laws.specs.Scan.{is_digit, first_is, run_of, past_run}
use Rattle.ic_laws.proofs.AmountLemmas.{digits_value_after-ge, numerals}
use Rattle.ic_laws.proofs.RunLemmas.{run_and_rest}
use Rattle.ic_laws.specs.Dialect.{DialectMeaning, IsLawful}
use Rattle.ic_laws.specs.Token.{Token, Num}
use Rattle.ic_laws.specs.TokenKinds.{OfKind, is_number}
use Rattle.ic_laws.specs.Split.{FindsBest}
use Rattle.ic_laws.proofs.tokens.Next.{ComesAfter}
use Rattle.ic_laws.proofs.tokens.Splits.{mapped, none_some, same_split}
use Rattle.ic_laws.specs.AmountFront.{amount_front, digits_to, fraction_front, last_whole, number_in_one_pass, past_amount, past_fraction, past_some, past_to, some_digits}
use Rattle.ic_laws.proofs.tokens.Characters.{run_of_all, past_run_all, all_of_run}

-- fronts and rests
digits_whole : (most n : ℕ) (text : List ℕ) → text ≡ digits_to most n text ++ past_to most n text
digits_whole most n [] = refl
digits_whole most n (c ∷ cs) =
    elim (cases_Bool (is_digit c && nat_le (n * 10 + digit_value c) most)) [
      | inl p ↦ rw p (ap (λ t. c ∷ t) (digits_whole most (n * 10 + digit_value c) cs))
      | inr p ↦ rw p refl
    ]

some_whole : (k : ℕ) (text : List ℕ) → text ≡ some_digits k text ++ past_some k text
some_whole zero text = refl
some_whole (suc k) [] = refl
some_whole (suc k) (c ∷ cs) = elim (cases_Bool (is_digit c)) [ inl p ↦ rw p (ap (λ t. c ∷ t) (some_whole k cs)) | inr p ↦ rw p refl ]

fraction_whole : (separator : ℕ) (text : List ℕ) → text ≡ fraction_front separator text ++ past_fraction separator text
fraction_whole separator [] = refl
fraction_whole separator (c ∷ cs) = elim (cases_Bool (c == separator)) [ inl p ↦ rw p (ap (λ t. c ∷ t) (some_whole 9 cs)) | inr p ↦ rw p refl ]

amount_whole : (separator : ℕ) (text : List ℕ) → text ≡ amount_front separator text ++ past_amount separator text
amount_whole separator text =
    digits_whole last_whole 0 text ∙ ap (λ t. digits_to last_whole 0 text ++ t) (fraction_whole separator (past_to last_whole 0 text))
    ∙ sym (append_assoc (digits_to last_whole 0 text) (fraction_front separator (past_to last_whole 0 text)) (past_amount separator text))

-- what is taken are digits within the limits
pub digits_all : (most n : ℕ) (text : List ℕ) → list_all is_digit (digits_to most n text) ≡ true
digits_all most n [] = refl
digits_all most n (c ∷ cs) =
    elim (cases_Bool (is_digit c && nat_le (n * 10 + digit_value c) most)) [
      | inl p ↦ rw p (and_from (is_digit c) _ (and_parts (is_digit c) (nat_le (n * 10 + digit_value c) most) p).0 (digits_all most (n * 10 + digit_value c) cs))
      | inr p ↦ rw p refl
    ]

digits_within : (most n : ℕ) (text : List ℕ) → n ≤ most → digits_value_after 10 n (digits_to most n text) ≤ most
digits_within most n [] h = h
digits_within most n (c ∷ cs) h =
    elim (cases_Bool (is_digit c && nat_le (n * 10 + digit_value c) most)) [
      | inl p ↦ rw p (digits_within most (n * 10 + digit_value c) cs (leb-true (n * 10 + digit_value c) most (and_parts (is_digit c) (nat_le (n * 10 + digit_value c) most) p).1))
      | inr p ↦ rw p h
    ]

some_all : (k : ℕ) (text : List ℕ) → list_all is_digit (some_digits k text) ≡ true
some_all zero text = refl
some_all (suc k) [] = refl
some_all (suc k) (c ∷ cs) = elim (cases_Bool (is_digit c)) [ inl p ↦ rw p (and_from (is_digit c) _ p (some_all k cs)) | inr p ↦ rw p refl ]

some_few : (k : ℕ) (text : List ℕ) → length (some_digits k text) ≤ k
some_few zero text = omega arith
some_few (suc k) [] = omega arith
some_few (suc k) (c ∷ cs) = elim (cases_Bool (is_digit c)) [ inl p ↦ rw p (omega (arith, some_few k cs)) | inr p ↦ rw p (omega arith) ]

-- digits that fit are taken, with more after them
digits_over : (most n : ℕ) (w after : List ℕ) → list_all is_digit w ≡ true → digits_value_after 10 n w ≤ most
    → (digits_to most n (w ++ after) ≡ w ++ digits_to most (digits_value_after 10 n w) after) × (past_to most n (w ++ after) ≡ past_to most (digits_value_after 10 n w) after)
digits_over most n [] after h le = (refl, refl)
digits_over most n (c ∷ cs) after h le =
    let parts = and_parts (is_digit c) (list_all is_digit cs) h in
    let fits : nat_le (n * 10 + digit_value c) most ≡ true = le-leb (n * 10 + digit_value c) most (omega (arith, le, digits_value_after-ge (n * 10 + digit_value c) cs)) in
    let more = digits_over most (n * 10 + digit_value c) cs after parts.1 le in
    rw (parts.0, fits) (ap (λ t. c ∷ t) more.0, more.1)

digits_stop : (most n c : ℕ) (cs : List ℕ) → is_digit c ≡ false → (digits_to most n (c ∷ cs) ≡ []) × (past_to most n (c ∷ cs) ≡ c ∷ cs)
digits_stop most n c cs h = rw h (refl, refl)

some_over : (k : ℕ) (f after : List ℕ) → list_all is_digit f ≡ true → length f ≤ k → length f ≤ length (some_digits k (f ++ after))
some_over k [] after h le = omega arith
some_over zero (c ∷ cs) after h le = absurd (omega (arith, le))
some_over (suc k) (c ∷ cs) after h le =
    let parts = and_parts (is_digit c) (list_all is_digit cs) h in
    rw (parts.0) (omega (arith, some_over k cs after parts.1 (omega (arith, le))))

-- both ways to say that all are digits
ascii-all : (text : List ℕ) → list_all is_digit text ≡ true → all_ascii_digits text ≡ true
ascii-all [] h = refl
ascii-all (c ∷ cs) h = let p = and_parts (is_digit c) (list_all is_digit cs) h in and_from (is_digit c) (all_ascii_digits cs) p.0 (ascii-all cs p.1)

all-ascii : (text : List ℕ) → all_ascii_digits text ≡ true → list_all is_digit text ≡ true
all-ascii [] h = refl
all-ascii (c ∷ cs) h = let p = and_parts (is_digit c) (all_ascii_digits cs) h in and_from (is_digit c) (list_all is_digit cs) p.0 (all-ascii cs p.1)

-- what an amount is made of: the digits of its whole part, and what stands after them
abbrev pub IsTail : ℕ → List ℕ → Type 0
IsTail separator [] = Unit {0}
IsTail separator (c ∷ f) = (c ≡ separator) × (list_all is_digit f ≡ true) × (length f ≤ 9)

abbrev places : List ℕ → ℕ
places [] = 0
places (c ∷ f) = length f

pub record AmountParts (separator : ℕ) (text : List ℕ) : Type 0 where
  pub whole : List ℕ
  pub tail : List ℕ
  pub made : text ≡ whole ++ tail
  pub digits : list_all is_digit whole ≡ true
  pub small : digits_value 10 whole ≤ last_whole
  pub tail_is : IsTail separator tail
  pub some : 0 < length whole + places tail

-- an amount has these parts
record UnitsParts (whole count fraction digits : ℕ) : Type 0 where
  pub few : digits ≤ 9
  pub some : 0 < count + digits
  pub small : whole ≤ last_whole

units_parts : (whole count fraction digits units : ℕ) → units_by whole count fraction digits ≡ Some units → UnitsParts whole count fraction digits
units_parts whole count fraction digits units e =
    elim (cases_Bool (nat_le digits 9 && nat_lt 0 (count + digits))) [
      | inl p ↦ let parts = and_parts (nat_le digits 9) (nat_lt 0 (count + digits)) p in
          let more : if_amount (whole * units_of_one + fraction * 10 ^ (9 - digits)) ≡ Some units = rw p at e in
          let q = cond_some (nat_lt (whole * units_of_one + fraction * 10 ^ (9 - digits)) (10 ^ 27)) (whole * units_of_one + fraction * 10 ^ (9 - digits)) units more in
          let low : whole * units_of_one + fraction * 10 ^ (9 - digits) < 10 ^ 27 = ltb-true (whole * units_of_one + fraction * 10 ^ (9 - digits)) (10 ^ 27) q.0 in
          record { few = leb-true digits 9 parts.0; some = ltb-true 0 (count + digits) parts.1; small = omega (arith, low) }
      | inr p ↦ let no : ◌≡◌ {A = Option ℕ} None (Some units) = rw p at e in absurd (none_some units no)
    ]

read_parts : (separator : ℕ) (text whole tail : List ℕ) (units : ℕ) → text ≡ whole ++ tail → list_all is_digit whole ≡ true → read_units separator whole tail ≡ Some units → AmountParts separator text
read_parts separator text whole [] units made digits e =
    let p = units_parts (digits_value 10 whole) (length whole) 0 0 units e in
    record { whole = whole; tail = []; made = made; digits = digits; small = p.small; tail_is = tt; some = p.some }
read_parts separator text whole (c ∷ f) units made digits e =
    elim (eqb_tells c separator) [
      | inl s ↦ let more : units_of (digits_value 10 whole) (length whole) f ≡ Some units = rw (s.0) at e in
          elim (cases_Bool (all_ascii_digits f)) [
            | inl all ↦ let read : units_by (digits_value 10 whole) (length whole) (digits_value 10 f) (length f) ≡ Some units = rw all at more in
                let p = units_parts (digits_value 10 whole) (length whole) (digits_value 10 f) (length f) units read in
                record { whole = whole; tail = c ∷ f; made = made; digits = digits; small = p.small; tail_is = (s.1, all-ascii f all, p.few); some = p.some }
            | inr other ↦ let no : ◌≡◌ {A = Option ℕ} None (Some units) = rw other at more in absurd (none_some units no)
          ]
      | inr s ↦ let no : ◌≡◌ {A = Option ℕ} None (Some units) = rw (s.0) at e in absurd (none_some units no)
    ]

pub amount_parts : (separator : ℕ) (text : List ℕ) (units : ℕ) → unsigned_amount separator text ≡ Some units → AmountParts separator text
amount_parts separator text units e =
    read_parts separator text (run_of is_digit text) (past_run is_digit text) units (run_and_rest is_digit text) (all_of_run is_digit text) e

-- and what has these parts is one
units_given : (whole count fraction digits : ℕ) → digits ≤ 9 → 0 < count + digits → whole ≤ last_whole → fraction < 10 ^ digits → (units : ℕ) × (units_by whole count fraction digits ≡ Some units)
units_given whole count fraction digits few some small below =
    let scaled : fraction * 10 ^ (9 - digits) < 10 ^ digits * 10 ^ (9 - digits) = mul-lt-mul_of_pos_right below (one-le-pow (9 - digits) 10 (omega arith)) in
    let sum : digits + (9 - digits) ≡ 9 = omega arith in
    let nine : 10 ^ digits * 10 ^ (9 - digits) ≡ 10 ^ 9 = sym (pow-add 10 digits (9 - digits)) ∙ ap (λ k. 10 ^ k) sum in
    let total : whole * units_of_one + fraction * 10 ^ (9 - digits) < 10 ^ 27 = omega (arith, scaled, nine) in
    let amount : nat_lt (whole * units_of_one + fraction * 10 ^ (9 - digits)) (10 ^ 27) ≡ true = lt-ltb (whole * units_of_one + fraction * 10 ^ (9 - digits)) (10 ^ 27) total in
    (whole * units_of_one + fraction * 10 ^ (9 - digits), rw (le-leb digits 9 few, lt-ltb 0 (count + digits) some, amount) refl)

tail_apart : (separator : ℕ) (tail : List ℕ) → is_digit separator ≡ false → IsTail separator tail → first_is is_digit tail ≡ false
tail_apart separator [] apart t = refl
tail_apart separator (c ∷ f) apart t = ap is_digit t.0 ∙ apart

read_given : (separator : ℕ) (whole tail : List ℕ) → digits_value 10 whole ≤ last_whole → IsTail separator tail → 0 < length whole + places tail → (units : ℕ) × (read_units separator whole tail ≡ Some units)
read_given separator whole [] small t some = units_given (digits_value 10 whole) (length whole) 0 0 (omega arith) some small (omega arith)
read_given separator whole (c ∷ f) small t some =
    let given = units_given (digits_value 10 whole) (length whole) (digits_value 10 f) (length f) t.2 some small (digits_value_short numerals f (length f) (ascii-all f t.1) (omega arith)) in
    let same : (c == separator) ≡ true = ap (λ x. x == separator) t.0 ∙ eqb_same separator in
    (given.0, rw (same, ascii-all f t.1) given.1)
  where
    eqb_same : (n : ℕ) → (n == n) ≡ true
    eqb_same n = grind (arith, nat_tests)

amount_given : (separator : ℕ) (text : List ℕ) → is_digit separator ≡ false → AmountParts separator text → (units : ℕ) × (unsigned_amount separator text ≡ Some units)
amount_given separator text apart p =
    let stop = tail_apart separator p.tail apart p.tail_is in
    let run : run_of is_digit text ≡ p.whole = ap (run_of is_digit) p.made ∙ run_of_all is_digit p.whole p.tail p.digits stop in
    let past : past_run is_digit text ≡ p.tail = ap (past_run is_digit) p.made ∙ past_run_all is_digit p.whole p.tail p.digits stop in
    let given = read_given separator p.whole p.tail p.small p.tail_is p.some in
    (given.0, ap (λ r. read_units separator r (past_run is_digit text)) run ∙ ap (read_units separator p.whole) past ∙ given.1)

-- What is taken reaches as far as any amount, and is one where there is any.
fraction_tail : (separator : ℕ) (text : List ℕ) → IsTail separator (fraction_front separator text)
fraction_tail separator [] = tt
fraction_tail separator (c ∷ cs) = elim (eqb_tells c separator) [ inl p ↦ rw (p.0) (p.1, some_all 9 cs, some_few 9 cs) | inr p ↦ rw (p.0) tt ]

record Reached (separator : ℕ) (text other : List ℕ) : Type 0 where
  pub long : length other ≤ length (amount_front separator text)
  pub some : 0 < length (digits_to last_whole 0 text) + places (fraction_front separator (past_to last_whole 0 text))

reached : (separator : ℕ) (text other after whole tail : List ℕ) → is_digit separator ≡ false → text ≡ other ++ after → other ≡ whole ++ tail → list_all is_digit whole ≡ true → digits_value 10 whole ≤ last_whole
    → IsTail separator tail → 0 < length whole + places tail → Reached separator text other
reached separator text other after whole [] apart is made digits small t some =
    let text_is : text ≡ whole ++ after = is ∙ ap (λ o. o ++ after) (made ∙ append-nil whole) in
    let taken : digits_to last_whole 0 text ≡ whole ++ digits_to last_whole (digits_value 10 whole) after = ap (digits_to last_whole 0) text_is ∙ (digits_over last_whole 0 whole after digits small).0 in
    let more = length-append whole (digits_to last_whole (digits_value 10 whole) after) in
    record {
      long = omega (arith, ap length (made ∙ append-nil whole), ap length taken, more, length-append (digits_to last_whole 0 text) (fraction_front separator (past_to last_whole 0 text)));
      some = omega (arith, some, ap length taken, more);
    }
reached separator text other after whole (c ∷ f) apart is made digits small t some =
    let text_is : text ≡ whole ++ (separator ∷ (f ++ after)) = is ∙ ap (λ o. o ++ after) made ∙ append_assoc whole (c ∷ f) after ∙ ap (λ x. whole ++ (x ∷ (f ++ after))) t.0 in
    let over = digits_over last_whole 0 whole (separator ∷ (f ++ after)) digits small in
    let stop = digits_stop last_whole (digits_value 10 whole) separator (f ++ after) apart in
    let taken : digits_to last_whole 0 text ≡ whole = ap (digits_to last_whole 0) text_is ∙ over.0 ∙ ap (λ r. whole ++ r) stop.0 ∙ append-nil whole in
    let past : past_to last_whole 0 text ≡ separator ∷ (f ++ after) = ap (past_to last_whole 0) text_is ∙ over.1 ∙ stop.1 in
    let unread : fraction_front separator (past_to last_whole 0 text) ≡ separator ∷ some_digits 9 (f ++ after) = ap (fraction_front separator) past ∙ first_taken separator (f ++ after) in
    let many = some_over 9 f after t.1 t.2 in
    record {
      long = omega (arith, ap length made, length-append whole (c ∷ f), ap length taken, ap length unread, many, length-append (digits_to last_whole 0 text) (fraction_front separator (past_to last_whole 0 text)));
      some = omega (arith, some, ap length taken, ap places unread, many);
    }
  where
    first_taken : (n : ℕ) (cs : List ℕ) → fraction_front n (n ∷ cs) ≡ n ∷ some_digits 9 cs
    first_taken n cs = let same : (n == n) ≡ true = grind (arith, nat_tests) in rw same refl

-- so it is the longest of its kind
pub separator_apart : (d : DialectMeaning) → IsLawful d → is_digit d.decimal ≡ false
separator_apart d n = elim n.separators [ inl s ↦ rw (s.1) refl | inr s ↦ rw (s.1) refl ]

any_reached : (d : DialectMeaning) → IsLawful d → (text other after : List ℕ) (units : ℕ) → unsigned_amount d.decimal other ≡ Some units → text ≡ other ++ after → Reached d.decimal text other
any_reached d n text other after units e is =
    let p = amount_parts d.decimal other units e in
    reached d.decimal text other after p.whole p.tail (separator_apart d n) is p.made p.digits p.small p.tail_is p.some

front_given : (d : DialectMeaning) → IsLawful d → (text other : List ℕ) → Reached d.decimal text other → (units : ℕ) × (unsigned_amount d.decimal (amount_front d.decimal text) ≡ Some units)
front_given d n text other r =
    amount_given d.decimal (amount_front d.decimal text) (separator_apart d n) (record {
      whole = digits_to last_whole 0 text;
      tail = fraction_front d.decimal (past_to last_whole 0 text);
      made = refl;
      digits = digits_all last_whole 0 text;
      small = digits_within last_whole 0 text (omega arith);
      tail_is = fraction_tail d.decimal (past_to last_whole 0 text);
      some = r.some;
    })

abbrev taken_units : DialectMeaning → List ℕ → Option ℕ → Option (Token × List ℕ)
taken_units d text found = option_map (λ units. (Num (pos units), past_amount d.decimal text)) found

pub number_spelled : (d : DialectMeaning) (other after : List ℕ) (v : Token) → OfKind is_number d v other after → (units : ℕ) × (unsigned_amount d.decimal other ≡ Some units) × (v ≡ Num (pos units))
number_spelled d other after (Num u) s = let p = mapped pos (unsigned_amount d.decimal other) u s.1 in (p.0, p.1, ap (λ x. Num x) (sym p.2))
number_spelled d other after v s = absurd (cc)

pass_best : (d : DialectMeaning) → IsLawful d → (text : List ℕ) (found : Option ℕ) → unsigned_amount d.decimal (amount_front d.decimal text) ≡ found → FindsBest (OfKind is_number d) ComesAfter text (taken_units d text found)
pass_best d n text None e = λ other after v is s.
    let p = number_spelled d other after v s in
    let given = front_given d n text other (any_reached d n text other after p.0 p.1 is) in
    none_some given.0 (sym e ∙ given.1)
pass_best d n text (Some units) e = record {
  front = amount_front d.decimal text;
  whole = amount_whole d.decimal text;
  spelled = (refl, ap (option_map pos) e);
  wins = λ other after v is s.
      let p = number_spelled d other after v s in
      let r = any_reached d n text other after p.0 p.1 is in
      let rest = past_amount d.decimal text in
      let le : length rest ≤ length after = omega (arith, r.long, ap length (sym (amount_whole d.decimal text) ∙ is), length-append (amount_front d.decimal text) rest, length-append other after) in
      elim (cases_Bool (nat_le (length after) (length rest))) [
        | inl q ↦ let same = same_split other after (amount_front d.decimal text) rest (sym is ∙ amount_whole d.decimal text) (omega (arith, le, leb-true (length after) (length rest) q)) in
            let both : ◌≡◌ {A = Option ℕ} (Some p.0) (Some units) = sym p.1 ∙ ap (unsigned_amount d.decimal) same.0 ∙ e in
            let one_units : p.0 ≡ units = cc in
            inr (same.1, inl (p.2 ∙ ap (λ u. Num (pos u)) one_units))
        | inr q ↦ inl (omega (arith, leb-false (length after) (length rest) q))
      ];
}

pub number_in_one_pass_best : (d : DialectMeaning) → IsLawful d → (text : List ℕ) → FindsBest (OfKind is_number d) ComesAfter text (number_in_one_pass d text)
number_in_one_pass_best d n text = pass_best d n text (unsigned_amount d.decimal (amount_front d.decimal text)) refl
