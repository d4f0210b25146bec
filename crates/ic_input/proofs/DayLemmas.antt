-- A day number is that of one day, and what is shown of a day is typed as it.
use Rattle.std.proofs.Common.{◌≡◌, ℕ, ℤ, pos, ◌*◌, ◌<◌, ◌≤◌, ◌+ℤ◌, List, ◌⊎◌, sym, ap, subst, ◌∙◌, inl, inr, arith}
use Rattle.std.proofs.lemmas.Bool.Decides.{leb_tells}
use Rattle.jiff_core.specs.Calendar.{IsCivilDate, day_count, days_from_civil}
use Rattle.jiff_core.proofs.CalendarLemmas.{day_count-day, day_count-lt_month, day_count-lt_year, days_from_civil-day_count}
use Rattle.jiff_core.proofs.DateLemmas.{days_from_civil-max}
use Rattle.jiff_core.proofs.SignedLemmas.{signed_arith}
use Rattle.ic_laws.specs.Amount.{amount_text, units_of_one}
use Rattle.ic_tables.specs.declared.locale.Locale.{Locale}
use Rattle.ic_tables.specs.Formats.{decimal_separator}
use Rattle.ic_input.specs.Date.{IsDay, IsShownDay}
use Rattle.ic_input.specs.Formatted.{IsDateShown, IsFormatted, IsNoDate, number_text}
use Rattle.ic_input.proofs.CodeLaws.{code_complete}
use Rattle.ic_input.proofs.DateSteps.{day-parts, from_epoch}

-- the number of a day by the calendar's library
counted : (y m d n : ℕ) → IsDay y m d n → days_from_civil (pos y) m d +ℤ pos 25569 ≡ pos n
counted y m d n h = from_epoch y m d ∙ h.number

last_civil : IsCivilDate (pos 9999) 12 31
last_civil = ((omega (arith, signed_arith), omega (arith, signed_arith)), (omega arith, omega arith), (omega arith, omega arith))

-- no day with a number lies after the year 9999
pub year_bound : (y m d n : ℕ) → IsDay y m d n → y < 10000
year_bound y m d n h =
    elim (leb_tells y 9999) [
      | inl p ↦ omega (arith, p.1)
      | inr p ↦
          let later = day_count-lt_year (pos 9999) 12 31 (pos y) m d last_civil (day-parts y m d h.there).2 (omega (arith, signed_arith, p.1)) in
          absurd (omega (arith, signed_arith, later, counted y m d n h, h.last, days_from_civil-day_count (pos y) m d, days_from_civil-day_count (pos 9999) 12 31, days_from_civil-max))
    ]

pub civil_day : (y m d n : ℕ) → IsDay y m d n → IsCivilDate (pos y) m d
civil_day y m d n h =
    let p = day-parts y m d h.there in
    let b = year_bound y m d n h in
    ((omega (arith, signed_arith), omega (arith, signed_arith)), (p.0, p.1), (p.2, p.3))

same_count : (y m d y₂ m₂ d₂ n : ℕ) → IsDay y m d n → IsDay y₂ m₂ d₂ n → day_count (pos y) m d ≡ day_count (pos y₂) m₂ d₂
same_count y m d y₂ m₂ d₂ n h k =
    omega (arith, signed_arith, counted y m d n h, counted y₂ m₂ d₂ n k, days_from_civil-day_count (pos y) m d, days_from_civil-day_count (pos y₂) m₂ d₂)

not_earlier : (y m d y₂ m₂ d₂ n : ℕ) → IsDay y m d n → IsDay y₂ m₂ d₂ n → y₂ ≤ y
not_earlier y m d y₂ m₂ d₂ n h k =
    elim (leb_tells y₂ y) [
      | inl p ↦ p.1
      | inr p ↦
          let less = day_count-lt_year (pos y) m d (pos y₂) m₂ d₂ (civil_day y m d n h) (day-parts y₂ m₂ d₂ k.there).2 (omega (arith, signed_arith, p.1)) in
          absurd (omega (arith, less, same_count y m d y₂ m₂ d₂ n h k))
    ]

not_earlier_month : (y m d m₂ d₂ n : ℕ) → IsDay y m d n → IsDay y m₂ d₂ n → m₂ ≤ m
not_earlier_month y m d m₂ d₂ n h k =
    elim (leb_tells m₂ m) [
      | inl p ↦ p.1
      | inr p ↦
          let less = day_count-lt_month (pos y) m d m₂ d₂ (civil_day y m d n h) (day-parts y m₂ d₂ k.there).2 p.1 in
          absurd (omega (arith, less, same_count y m d y m₂ d₂ n h k))
    ]

-- Two days with one number are one.
pub record IsSameDay (y m d y₂ m₂ d₂ : ℕ) : Type 0 where
  pub year : y ≡ y₂
  pub month : m ≡ m₂
  pub day : d ≡ d₂

same_month : (y m d d₂ n : ℕ) → IsDay y m d n → IsDay y m d₂ n → d ≡ d₂
same_month y m d d₂ n h k =
    omega (arith, day_count-day (pos y) m d d₂ (day-parts y m d h.there).2 (day-parts y m d₂ k.there).2, same_count y m d y m d₂ n h k)

same_year : (y m d m₂ d₂ n : ℕ) → IsDay y m d n → IsDay y m₂ d₂ n → (m ≡ m₂) × (d ≡ d₂)
same_year y m d m₂ d₂ n h k =
    let month : m ≡ m₂ = omega (arith, not_earlier_month y m d m₂ d₂ n h k, not_earlier_month y m₂ d₂ m d n k h) in
    (month, same_month y m d d₂ n h (subst (λ x. IsDay y x d₂ n) (sym month) k))

pub same_day : (y m d y₂ m₂ d₂ n : ℕ) → IsDay y m d n → IsDay y₂ m₂ d₂ n → IsSameDay y m d y₂ m₂ d₂
same_day y m d y₂ m₂ d₂ n h k =
    let year : y ≡ y₂ = omega (arith, not_earlier y m d y₂ m₂ d₂ n h k, not_earlier y₂ m₂ d₂ y m d n k h) in
    let rest = same_year y m d m₂ d₂ n h (subst (λ x. IsDay x m₂ d₂ n) (sym year) k) in
    record { year = year; month = rest.0; day = rest.1 }

-- an amount is shown by a code in one way
shown_once : (code : List ℕ) (n : ℕ) (t u : List ℕ) → IsShownDay code n t → IsShownDay code n u → t ≡ u
shown_once code n t u h k =
    let s = same_day h.year h.month h.day k.year k.month k.day n h.there k.there in
    h.spelled ∙ rw (s.year, s.month, s.day) (sym k.spelled)

whole_once : (n k : ℕ) → n * units_of_one ≡ k * units_of_one → n ≡ k
whole_once n k e = omega arith

date_once : (code : List ℕ) (v : ℤ) (t u : List ℕ) → IsDateShown code v t → IsDateShown code v u → t ≡ u
date_once code v t u h k =
    let e : pos (h.1.0 * units_of_one) ≡ pos (k.1.0 * units_of_one) = sym h.1.1.0.0 ∙ k.1.1.0.0 in
    let units : h.1.0 * units_of_one ≡ k.1.0 * units_of_one = cc in
    let n : h.1.0 ≡ k.1.0 = whole_once h.1.0 k.1.0 units in
    shown_once code k.1.0 t u (subst (λ x. IsShownDay code x t) n h.1.1.1) k.1.1.1

no_date : (code : List ℕ) (v : ℤ) (t : List ℕ) → IsDateShown code v t → IsNoDate code v → ⊥
no_date code v t h (inl e) = let d = h.0 in cc
no_date code v t h (inr none) = none h.1.0 h.1.1.0

pub formatted_once : (l : Locale) (code : List ℕ) (v : ℤ) (t u : List ℕ) → IsFormatted l code v t → IsFormatted l code v u → t ≡ u
formatted_once l code v t u (inl h) (inl k) =
    let a = code_complete code h.0 h.1.0 in
    let b = code_complete code k.0 k.1.0 in
    let same : h.0 ≡ k.0 = cc in
    h.1.1 ∙ ap (λ c. number_text l c v) same ∙ sym k.1.1
formatted_once l code v t u (inl h) (inr k) = absurd (k.0 h.0 h.1.0)
formatted_once l code v t u (inr h) (inl k) = absurd (h.0 k.0 k.1.0)
formatted_once l code v t u (inr h) (inr k) = other h.1 k.1
  where
    other : (IsDateShown code v t) ⊎ ((IsNoDate code v) × (t ≡ amount_text (decimal_separator l) v)) → (IsDateShown code v u) ⊎ ((IsNoDate code v) × (u ≡ amount_text (decimal_separator l) v)) → t ≡ u
    other (inl a) (inl b) = date_once code v t u a b
    other (inl a) (inr b) = absurd (no_date code v t a b.0)
    other (inr a) (inl b) = absurd (no_date code v u b a.0)
    other (inr a) (inr b) = a.1 ∙ sym b.1
