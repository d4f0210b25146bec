-- What is shown of an amount by a code is what the machine's function gives, and so is the date of a day number.
use Rattle.std.proofs.Common.{◌≡◌, ℕ, zero, suc, ℤ, pos, negsuc, ◌+◌, ◌-◌, ◌*◌, ◌/◌, ◌%◌, ◌<◌, ◌≤◌, List, true, false, ◌&&◌, ◌⊎◌, ◌==◌, nat_le, nat_lt, Option, Some, None, inl, inr, if◌then◌else◌, refl, sym, ap, subst, ◌∙◌, arith, rules}
use Rattle.std.proofs.lemmas.Bool.{and_parts, cases_Bool, le-leb, leb-true}
use Rattle.jiff_core.specs.Calendar.{day_count, days_from_civil, days_in_month, days_in_year, days_of_months, days_of_years}
use Rattle.jiff_core.proofs.CalendarLemmas.{day_count-day, day_count-end, day_count-later_year, day_count-next_month, days_from_civil-day_count}
use Rattle.jiff_core.proofs.SignedLemmas.{signed_arith}
use Rattle.ic_laws.specs.Amount.{amount_text, units_of_one}
use Rattle.ic_tables.specs.Formats.{decimal_separator}
use Rattle.ic_tables.specs.declared.locale.Locale.{Locale}
use Rattle.ic_input.proofs.CodeLaws.{code_complete, code_sound, code_none as no_parts}
use Rattle.ic_input.proofs.CountedLemmas.{before, next_year, not_less, number_of_count, numbered_counted, year_end}
use Rattle.ic_input.proofs.DateSteps.{day-from_parts, from_epoch}
use Rattle.ic_input.proofs.DayLemmas.{same_day}
use Rattle.ic_input.specs.Code.{CodeParts, IsNumberCode, is_date_code, number_code}
use Rattle.ic_input.specs.Date.{IsDay, last_day}
use Rattle.ic_input.specs.Formatted.{IsDateShown, IsFormatted, IsNoDate, IsWholeDay, number_text}
use Rattle.ic_machine.specs.FormattedLaws.{DateIsCounted, FormattedIsRuled, RuledIsFormatted}
use Rattle.ic_machine.specs.Format.{date_in, date_of_day, formatted, month_of, shown_as_date, shown_by, whole_day, year_of}
use Rattle.ic_laws.proofs.SmallestLaws.{below_from_true as less}

-- The date of a day number. ----

-- What the year of some days is: as many days lie before them, and the rest lies in it.
record IsYearOf (year days : ℕ) (r : ℕ × ℕ) : Type 0 where
  pub same : before r.0 + r.1 ≡ before year + days
  pub within : r.1 < days_in_year (pos r.0)

year_so : (more year days : ℕ) → before year + days < before (year + more) → IsYearOf year days (year_of more year days)
year_so zero year days h = let same : year + 0 ≡ year = omega arith in absurd (let less = rw same at h in omega (arith, less))
year_so (suc more) year days h =
    elim (nat_lt days (days_in_year (pos year))) as (λ b. nat_lt days (days_in_year (pos year)) ≡ b → IsYearOf year days (if b then (year, days) else year_of more (year + 1) (days - days_in_year (pos year)))) [
      | true ↦ λ e. record { same = refl; within = less days (days_in_year (pos year)) e }
      | false ↦ λ e.
          let long : days_in_year (pos year) ≤ days = not_less days (days_in_year (pos year)) e in
          let later : year + 1 + more ≡ year + suc more = omega arith in
          let rest = year_so more (year + 1) (days - days_in_year (pos year)) (subst (λ k. before (year + 1) + (days - days_in_year (pos year)) < before k) (sym later) (omega (arith, next_year year, long, h))) in
          record { same = omega (arith, rest.same, next_year year, long); within = rest.within }
    ] refl

-- What the month and the day of some days after a month's first are.
record IsMonthOf (year month days : ℕ) (r : ℕ × ℕ) : Type 0 where
  pub first : 1 ≤ r.0
  pub last : r.0 ≤ 12
  pub some : 1 ≤ r.1
  pub few : r.1 ≤ days_in_month (pos year) r.0
  pub same : day_count (pos year) r.0 r.1 ≡ day_count (pos year) month 1 + days

month_so : (more year month days : ℕ) → month + more ≡ 13 → 1 ≤ month → day_count (pos year) month 1 + days < day_count (pos year) 13 1 → IsMonthOf year month days (month_of more year month days)
month_so zero year month days e low h = let at : month ≡ 13 = omega (arith, e) in absurd (let less = rw at at h in omega (arith, less))
month_so (suc more) year month days e low h =
    elim (nat_lt days (days_in_month (pos year) month)) as (λ b. nat_lt days (days_in_month (pos year) month) ≡ b → IsMonthOf year month days (if b then (month, days + 1) else month_of more year (month + 1) (days - days_in_month (pos year) month))) [
      | true ↦ λ t.
          let inside : days < days_in_month (pos year) month = less days (days_in_month (pos year) month) t in
          record {
            first = low;
            last = omega (arith, e);
            some = omega arith;
            few = omega (arith, inside);
            same = omega (arith, day_count-day (pos year) month (days + 1) 1 (omega arith) (omega arith));
          }
      | false ↦ λ t.
          let long : days_in_month (pos year) month ≤ days = not_less days (days_in_month (pos year) month) t in
          let after = day_count-next_month (pos year) month low in
          let rest = month_so more year (month + 1) (days - days_in_month (pos year) month) (omega (arith, e)) (omega arith) (omega (arith, after, long, h)) in
          record { first = rest.first; last = rest.last; some = rest.some; few = rest.few; same = omega (arith, rest.same, after, long) }
    ] refl

-- the days before 1899, and those before the years by which the search ends
first_of_1899 : before 1899 ≡ 4346021
unfolding day_count days_of_years days_of_months
first_of_1899 = refl

far : 7304850 < before 10099
far = omega (arith, day_count-end, day_count-later_year (pos 10000) (pos 10099) (omega (arith, signed_arith)) (omega (arith, signed_arith)), long)
  where
    long : 0 < days_in_year (pos 10000)
    long = omega arith

day_in : (n : ℕ) → 1 ≤ n → n ≤ last_day → (r : ℕ × ℕ) → IsYearOf 1899 (n + 363) r → IsDay (date_in r).year (date_in r).month (date_in r).day n
day_in n low high r h =
    let m = month_so 12 r.0 1 r.1 refl (omega arith) (omega (arith, year_end r.0, h.within)) in
    record {
      there = day-from_parts r.0 (month_of 12 r.0 1 r.1).0 (month_of 12 r.0 1 r.1).1 m.first m.last m.some m.few;
      number = sym (from_epoch r.0 (month_of 12 r.0 1 r.1).0 (month_of 12 r.0 1 r.1).1) ∙ number_of_count (days_from_civil (pos r.0) (month_of 12 r.0 1 r.1).0 (month_of 12 r.0 1 r.1).1) (day_count (pos r.0) (month_of 12 r.0 1 r.1).0 (month_of 12 r.0 1 r.1).1) n (days_from_civil-day_count (pos r.0) (month_of 12 r.0 1 r.1).0 (month_of 12 r.0 1 r.1).1) (omega (arith, m.same, h.same, first_of_1899));
      first = low;
      last = high;
    }

date_right : (n : ℕ) → 1 ≤ n → n ≤ last_day → IsDay (date_of_day n).year (date_of_day n).month (date_of_day n).day n
unfolding date_of_day
date_right n low high = day_in n low high (year_of 8200 1899 (n + 363)) (year_so 8200 1899 (n + 363) (omega (arith, first_of_1899, far, high)))

-- The day number that an amount is. ----

whole_right : (v : ℤ) (n : ℕ) → IsWholeDay v n → whole_day v ≡ Some n
whole_right v n h = subst (λ v. whole_day v ≡ Some n) (sym h.0) (at n h.1 h.2)
  where
    at : (n : ℕ) → 1 ≤ n → n ≤ last_day → whole_day (pos (n * units_of_one)) ≡ Some n
    at n low high =
        let none : (n * units_of_one) % units_of_one ≡ 0 = omega arith in
        let whole : (n * units_of_one) / units_of_one ≡ n = omega arith in
        rw (none, whole, le-leb 1 n low, le-leb n last_day high) refl

whole_sound : (v : ℤ) (n : ℕ) → whole_day v ≡ Some n → IsWholeDay v n
whole_sound (pos units) n e =
    elim (cases_Bool (units % units_of_one == 0 && nat_le 1 (units / units_of_one) && nat_le (units / units_of_one) last_day)) [
      | inl t ↦
          let p = and_parts (units % units_of_one == 0 && nat_le 1 (units / units_of_one)) (nat_le (units / units_of_one) last_day) t in
          let q = and_parts (units % units_of_one == 0) (nat_le 1 (units / units_of_one)) p.0 in
          let made : Some (units / units_of_one) ≡ Some n = sym (rw t refl) ∙ e in
          let is : units / units_of_one ≡ n = cc in
          let none : units % units_of_one ≡ 0 = none_left (units % units_of_one) q.0 in
          (ap pos (omega (arith, is, none)), omega (arith, is, leb-true _ _ q.1), omega (arith, is, leb-true _ _ p.1))
      | inr f ↦ absurd (let made : None ≡ Some n = sym (rw f refl) ∙ e in cc)
    ]
  where
    none_left : (k : ℕ) → (k == 0) ≡ true → k ≡ 0
    none_left k e = search (rules, arith)
whole_sound (negsuc k) n e = cc

-- What is shown of an amount. ----

by_function : (l : Locale) (code : List ℕ) (v : ℤ) (o : Option CodeParts) → number_code code ≡ o → formatted l code v ≡ shown_by l code v o
unfolding formatted
by_function l code v o e = ap (shown_by l code v) e

no_code : (code : List ℕ) → ((c : CodeParts) → ¬ (IsNumberCode code c)) → number_code code ≡ None
no_code code none = at (number_code code) refl
  where
    at : (o : Option CodeParts) → number_code code ≡ o → number_code code ≡ None
    at None e = e
    at (Some c) e = absurd (none c (code_sound code c e))

date_shown : (l : Locale) (code text : List ℕ) (v : ℤ) → IsDateShown code v text → text ≡ shown_by l code v None
date_shown l code text v h =
    let n = h.1.0 in
    let shown = h.1.1.1 in
    let s = same_day shown.year shown.month shown.day (date_of_day n).year (date_of_day n).month (date_of_day n).day n shown.there (date_right n h.1.1.0.1 h.1.1.0.2) in
    shown.spelled ∙ rw (s.year, s.month, s.day) refl
    ∙ sym (ap (λ b. if b then shown_as_date l code v (whole_day v) else amount_text (decimal_separator l) v) h.0 ∙ ap (shown_as_date l code v) (whole_right v n h.1.1.0))

not_shown : (l : Locale) (code : List ℕ) (v : ℤ) → IsNoDate code v → amount_text (decimal_separator l) v ≡ shown_by l code v None
not_shown l code v (inl e) = sym (ap (λ b. if b then shown_as_date l code v (whole_day v) else amount_text (decimal_separator l) v) e)
not_shown l code v (inr none) =
    elim (is_date_code code) as (λ b. amount_text (decimal_separator l) v ≡ (if b then shown_as_date l code v (whole_day v) else amount_text (decimal_separator l) v)) [
      | true ↦ at (whole_day v) refl
      | false ↦ refl
    ]
  where
    at : (o : Option ℕ) → whole_day v ≡ o → amount_text (decimal_separator l) v ≡ shown_as_date l code v o
    at None e = refl
    at (Some n) e = absurd (none n (whole_sound v n e))

pub formatted_is : (l : Locale) (code : List ℕ) (v : ℤ) (text : List ℕ) → IsFormatted l code v text → text ≡ formatted l code v
formatted_is l code v text (inl h) = h.1.1 ∙ sym (by_function l code v (Some h.0) (code_complete code h.0 h.1.0))
formatted_is l code v text (inr (none, inl date)) = date_shown l code text v date ∙ sym (by_function l code v None (no_code code none))
formatted_is l code v text (inr (none, inr other)) = other.1 ∙ not_shown l code v other.0 ∙ sym (by_function l code v None (no_code code none))

-- and the other way round
numbers : (l : Locale) (code : List ℕ) (v : ℤ) (c : CodeParts) → number_code code ≡ Some c → IsFormatted l code v (number_text l c v)
numbers l code v c e = inl (c, (code_sound code c e, refl))

others : (l : Locale) (code : List ℕ) (v : ℤ) → number_code code ≡ None → (IsDateShown code v (shown_by l code v None)) ⊎ ((IsNoDate code v) × (shown_by l code v None ≡ amount_text (decimal_separator l) v))
others l code v none =
    elim (is_date_code code) as (λ b. is_date_code code ≡ b → (IsDateShown code v (if b then shown_as_date l code v (whole_day v) else amount_text (decimal_separator l) v)) ⊎ ((IsNoDate code v) × ((if b then shown_as_date l code v (whole_day v) else amount_text (decimal_separator l) v) ≡ amount_text (decimal_separator l) v))) [
      | true ↦ λ e. dates e (whole_day v) refl
      | false ↦ λ e. inr (inl e, refl)
    ] refl
  where
    no_day : whole_day v ≡ None → (n : ℕ) → ¬ (IsWholeDay v n)
    no_day w n h = let some = whole_right v n h in cc

    dates : is_date_code code ≡ true → (o : Option ℕ) → whole_day v ≡ o → (IsDateShown code v (shown_as_date l code v o)) ⊎ ((IsNoDate code v) × (shown_as_date l code v o ≡ amount_text (decimal_separator l) v))
    dates e None w = inr (inr (no_day w), refl)
    dates e (Some n) w =
        let whole = whole_sound v n w in
        let d = date_of_day n in
        inl (e, (n, (whole, record { year = d.year; month = d.month; day = d.day; there = date_right n whole.1 whole.2; spelled = refl })))

formatted_so : (l : Locale) (code : List ℕ) (v : ℤ) → IsFormatted l code v (formatted l code v)
formatted_so l code v = at (number_code code) refl
  where
    at : (o : Option CodeParts) → number_code code ≡ o → IsFormatted l code v (formatted l code v)
    at (Some c) e = subst (IsFormatted l code v) (sym (by_function l code v (Some c) e)) (numbers l code v c e)
    at None e = subst (IsFormatted l code v) (sym (by_function l code v None e)) (inr (no_parts code e, others l code v e))

pub ruled_formatted : RuledIsFormatted
ruled_formatted l code v text h = sym (formatted_is l code v text h)

pub formatted_ruled : FormattedIsRuled
formatted_ruled l code v text e = subst (IsFormatted l code v) e (formatted_so l code v)

pub date_counted : DateIsCounted
date_counted n low high =
    let d = date_of_day n in
    numbered_counted d.year d.month d.day n (date_right n low high)
