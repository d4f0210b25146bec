-- What is shown of a day is typed as it.
use Rattle.std.proofs.Common.{◌≡◌, ℕ, pos, ◌+◌, ◌/◌, ◌%◌, ◌<◌, ◌≤◌, List, ◌++◌, true, false, ◌⊎◌, bytes_eq, length, Some, refl, ap, ◌∙◌, inl, inr, arith}
use Rattle.std.specs.Char.{digit_value}
use Rattle.std.specs.Fmt.{decimal}
use Rattle.std.specs.Str.{all_ascii_digits}
use Rattle.std.specs.Str.Parse.{digits_value}
use Rattle.std.proofs.lemmas.Bool.{and_from, cases_Bool}
use Rattle.std.proofs.lemmas.Bool.Decides.{nat_tests}
use Rattle.std.proofs.lemmas.Fmt.{digits_decimal, digits_value-decimal, length-decimal-le}
use Rattle.jiff_core.proofs.CalendarLemmas.{days_in_month_bounds}
use Rattle.ic_laws.specs.Scan.{is_digit}
use Rattle.ic_laws.proofs.AmountLemmas.{digit_value-is, numerals}
use Rattle.ic_tables.specs.Formats.{is_american_date}
use Rattle.ic_tables.specs.declared.language.Language.{Language}
use Rattle.ic_tables.specs.declared.locale.Locale.{Locale}
use Rattle.ic_input.specs.Convention.{short_date}
use Rattle.ic_input.specs.Date.{IsDay, IsShownDay, IsTypedDate, date_text, four_digits, iso_date, laid_out, two_digits}
use Rattle.ic_input.specs.Typed.{amount_of_day, typed}
use Rattle.ic_input.specs.declared.input.Typed.TheVariants as kinds
use Rattle.ic_input.proofs.DateSteps.{day-parts}
use Rattle.ic_input.proofs.DayLemmas.{year_bound}
use Rattle.ic_input.proofs.GroupLemmas.{nonempty}
use Rattle.ic_input.proofs.TypedLaws.{number_is_typed}
use Rattle.ic_input.proofs.TypedSteps.{TellsTexts}
use Rattle.ic_laws.proofs.AmountReading.{digits_both as digits-append}

-- What digits write a number.
record Writes (digits : List ℕ) (n : ℕ) : Type 0 where
  all : all_ascii_digits digits ≡ true
  value : digits_value 10 digits ≡ n

digit : (d : ℕ) → d < 10 → (is_digit (48 + d) ≡ true) × (digit_value (48 + d) ≡ d)
digit d h = let e : is_digit (48 + d) ≡ true = grind (arith, nat_tests) in (e, digit_value-is (48 + d) e ∙ omega arith)

two : (n : ℕ) → n < 100 → Writes (two_digits n) n
two n h =
    let a = digit (n / 10) (omega arith) in
    let b = digit (n % 10) (omega arith) in
    record { all = and_from _ _ a.0 (and_from _ _ b.0 refl); value = rw (a.1, b.1) (omega arith) }

four : (n : ℕ) → n < 10000 → Writes (four_digits n) n
four n h =
    let a = digit (n / 100 / 10) (omega arith) in
    let b = digit (n / 100 % 10) (omega arith) in
    let c = digit (n % 100 / 10) (omega arith) in
    let d = digit (n % 100 % 10) (omega arith) in
    record { all = and_from _ _ a.0 (and_from _ _ b.0 (and_from _ _ c.0 (and_from _ _ d.0 refl))); value = rw (a.1, b.1, c.1, d.1) (omega arith) }

-- What is shown of a month or a day: one or two digits.
record ShowsFew (digits : List ℕ) (n : ℕ) : Type 0 where
  writes : Writes digits n
  some : 1 ≤ length digits
  few : length digits ≤ 2

two_few : (n : ℕ) → n < 100 → ShowsFew (two_digits n) n
two_few n h = record { writes = two n h; some = omega arith; few = omega arith }

decimal_few : (n : ℕ) → n < 100 → ShowsFew (decimal n) n
decimal_few n h =
    record {
      writes = record { all = digits_decimal numerals n (omega arith); value = digits_value-decimal numerals n (omega arith) };
      some = nonempty n (omega arith);
      few = length-decimal-le 2 n (omega arith) h (omega arith);
    }

again : (l : Locale) (text : List ℕ) (n : ℕ) (code : List ℕ) (y m d : ℕ) (month day : List ℕ) → IsDay y m d n → Writes month m → Writes day d → ((code ≡ iso_date) × (length month ≡ 2) × (length day ≡ 2)) ⊎ ((code ≡ short_date l) × (1 ≤ length month) × (length month ≤ 2) × (1 ≤ length day) × (length day ≤ 2)) → text ≡ laid_out code (four_digits y) month day → IsTypedDate l text n code
again l text n code y m d month day there wm wd form e =
    let wy = four y (year_bound y m d n there) in
    record {
      year = four_digits y;
      month = month;
      day = day;
      digits = digits-append (four_digits y) (month ++ day) wy.all (digits-append month day wm.all wd.all);
      year_length = refl;
      form = form;
      spelled = e;
      there = rw (wy.value, wm.value, wd.value) there;
    }

iso_again : (l : Locale) (text : List ℕ) (n y m d : ℕ) → IsDay y m d n → m < 100 → d < 100 → text ≡ date_text iso_date y m d → IsTypedDate l text n iso_date
iso_again l text n y m d there hm hd e =
    again l text n iso_date y m d (two_digits m) (two_digits d) there (two m hm) (two d hd) (inl (refl, refl, refl)) e

short_again : (l : Locale) → bytes_eq (short_date l) iso_date ≡ false → (text : List ℕ) (n y m d : ℕ) → IsDay y m d n → m < 100 → d < 100 → text ≡ date_text (short_date l) y m d → IsTypedDate l text n (short_date l)
short_again l other text n y m d there hm hd e =
    elim (cases_Bool (is_american_date (short_date l))) [
      | inl a ↦
          let fm = decimal_few m hm in
          let fd = decimal_few d hd in
          again l text n (short_date l) y m d (decimal m) (decimal d) there fm.writes fd.writes (inr (refl, fm.some, fm.few, fd.some, fd.few)) (e ∙ rw (other, a) refl)
      | inr a ↦
          let fm = two_few m hm in
          let fd = two_few d hd in
          again l text n (short_date l) y m d (two_digits m) (two_digits d) there fm.writes fd.writes (inr (refl, fm.some, fm.few, fd.some, fd.few)) (e ∙ rw (other, a) refl)
    ]

date_is_typed : (l : Locale) → TellsTexts l → (code text : List ℕ) (n : ℕ) → (code ≡ iso_date) ⊎ (code ≡ short_date l) → IsShownDay code n text → IsTypedDate l text n code
date_is_typed l tells code text n which h = go which
  where
    month : h.month < 100
    month = omega (arith, (day-parts h.year h.month h.day h.there.there).1)

    day : h.day < 100
    day = omega (arith, (day-parts h.year h.month h.day h.there.there).3, (days_in_month_bounds (pos h.year) h.month).0)

    go : (code ≡ iso_date) ⊎ (code ≡ short_date l) → IsTypedDate l text n code
    go (inl e) = rw e (iso_again l text n h.year h.month h.day h.there month day (h.spelled ∙ ap (λ c. date_text c h.year h.month h.day) e))
    go (inr e) = rw e (short_again l tells.short text n h.year h.month h.day h.there month day (h.spelled ∙ ap (λ c. date_text c h.year h.month h.day) e))

pub date_again : (l : Locale) → TellsTexts l → (language english : Language) (code text : List ℕ) (n : ℕ) → (code ≡ iso_date) ⊎ (code ≡ short_date l) → IsShownDay code n text → typed l language english text ≡ kinds.Number (amount_of_day n) (Some code)
date_again l tells language english code text n which h =
    number_is_typed l tells language english text (amount_of_day n) (Some code) (inr (inr (inr (n, (code, (date_is_typed l tells code text n which h, refl, refl))))))
