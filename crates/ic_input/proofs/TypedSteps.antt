-- Which texts are no numbers: what begins with a mark, and dates.
use Rattle.std.proofs.Common.{◌≡◌, ℕ, ◌≤◌, List, [], ◌∷◌, ◌++◌, Bool, true, false, ◌&&◌, ◌==◌, ◌⊎◌, bytes_eq, codes, length, None, refl, sym, ap, ◌∙◌, inl, inr, arith}
use Rattle.std.specs.List.{list_all}
use Rattle.std.specs.Str.{all_ascii_digits}
use Rattle.std.proofs.lemmas.Bool.{and_parts, and_right, cases_Bool, true≢false}
use Rattle.std.proofs.lemmas.Slice.Eq.{bytes_eq-Decides}
use Rattle.ic_laws.specs.Character.{equals, minus, quote}
use Rattle.ic_laws.specs.Scan.{first_is, is_digit}
use Rattle.ic_laws.proofs.AmountTexts.{run_of-front}
use Rattle.ic_tables.specs.Formats.{has_dates, is_american_date, is_short_date, may_stand_in_symbol}
use Rattle.ic_tables.specs.Tables.{HasGoodFormats, TableSet}
use Rattle.ic_tables.specs.declared.locale.Locale.{Locale}
use Rattle.ic_input.specs.Code.{stands_beside}
use Rattle.ic_input.specs.Convention.{group_of, is_currency, is_nothing, plus, short_date, slash}
use Rattle.ic_tables.specs.Formats.{decimal_separator}
use Rattle.ic_input.specs.Date.{IsTypedDate, iso_date, joined}
use Rattle.ic_input.specs.Group.{past_threes, threes}
use Rattle.ic_input.specs.Number.{IsUnsigned, fraction_text, stands_before, from_digits, unsigned_number}
use Rattle.ic_input.specs.declared.number.Number.{Number}
use Rattle.ic_input.proofs.LocaleLemmas.{TellsSigns, currency_all, decimal_cases, tells_signs}
use Rattle.ic_input.proofs.NumberComplete.{body_first, unsigned_complete}
use Rattle.ic_input.proofs.RunSteps.{can_stand, run_until}
use Rattle.ic_laws.proofs.AmountReading.{digits_apart as digits-split}

-- What a locale of tables tells of typed texts.
pub record TellsTexts (l : Locale) : Type 0 where
  pub signs : TellsSigns l
  pub short : bytes_eq (short_date l) iso_date ≡ false

short_apart : (code : List ℕ) → is_short_date code ≡ true → bytes_eq code iso_date ≡ false
short_apart code h =
    elim (cases_Bool (is_american_date code)) [
      | inl e ↦ rw ((bytes_eq-Decides code (codes "m/d/yyyy")).0 e) refl
      | inr e ↦ let is : bytes_eq code (codes "dd/mm/yyyy") ≡ true = rw e at h in rw ((bytes_eq-Decides code (codes "dd/mm/yyyy")).0 is) refl
    ]

pub tells_texts : (t : TableSet) (l : Locale) → HasGoodFormats t l → TellsTexts l
unfolding has_dates
tells_texts t l h = record { signs = tells_signs t l h; short = short_apart (short_date l) (and_parts (is_short_date (short_date l)) _ h.dates).0 }

-- A mark, with which no number and no date begins.
pub record IsMark (l : Locale) (c : ℕ) : Type 0 where
  pub before : stands_before (decimal_separator l) c ≡ true
  pub symbol : may_stand_in_symbol c ≡ false
  pub digit : is_digit c ≡ false

pub equals_mark : (l : Locale) → IsMark l equals
equals_mark l = record { before = decimal_cases l (λ d. stands_before d equals ≡ true) refl refl; symbol = refl; digit = refl }

pub plus_mark : (l : Locale) → IsMark l plus
plus_mark l = record { before = decimal_cases l (λ d. stands_before d plus ≡ true) refl refl; symbol = refl; digit = refl }

pub minus_mark : (l : Locale) → IsMark l minus
minus_mark l = record { before = decimal_cases l (λ d. stands_before d minus ≡ true) refl refl; symbol = refl; digit = refl }

pub quote_mark : (l : Locale) → IsMark l quote
quote_mark l = record { before = decimal_cases l (λ d. stands_before d quote ≡ true) refl refl; symbol = refl; digit = refl }

-- what begins no symbol begins no symbol of a currency
pub mark_no_currency : (l : Locale) → TellsSigns l → (c : ℕ) (cs : List ℕ) → may_stand_in_symbol c ≡ false → is_currency l (c ∷ cs) ≡ false
mark_no_currency l signs c cs h =
    elim (cases_Bool (is_currency l (c ∷ cs))) [
      | inr e ↦ e
      | inl e ↦ absurd (true≢false (sym (and_parts (may_stand_in_symbol c) _ (currency_all l signs (c ∷ cs) e)).0 ∙ h))
    ]

-- no number begins with what begins neither digits nor the symbol of a currency
pub front_no_number : (l : Locale) (c : ℕ) (cs : List ℕ) (n : Number) → stands_before (decimal_separator l) c ≡ true → ((ds : List ℕ) → is_currency l (c ∷ ds) ≡ false) → IsUnsigned l (c ∷ cs) n → ⊥
front_no_number l c cs n stands no_currency h = go h.before h.beside h.spelled
  where
    tail : List ℕ
    tail = fraction_text (decimal_separator l) h.fraction ++ h.after

    first-of : (text : List ℕ) → c ∷ cs ≡ text → first_is (stands_before (decimal_separator l)) text ≡ true
    first-of text e = rw (← e) stands

    go : (before : List ℕ) → stands_beside (is_currency l) before h.after ≡ true → c ∷ cs ≡ before ++ (h.whole_text ++ tail) → ⊥
    go [] b e = true≢false (sym (first-of (h.whole_text ++ tail) e) ∙ body_first l h.grouped h.whole h.whole_text h.fraction h.after h.whole_digits h.written h.some)
    go (d ∷ ds) b e =
        let same : c ≡ d = cc in
        let is : is_currency l (d ∷ ds) ≡ true = (and_parts (is_nothing h.after) (is_currency l (d ∷ ds)) b).1 in
        true≢false (sym is ∙ ap (λ (x : ℕ). is_currency l (x ∷ ds)) (sym same) ∙ no_currency ds)

pub mark_no_number : (l : Locale) → TellsSigns l → (c : ℕ) (cs : List ℕ) (n : Number) → IsMark l c → IsUnsigned l (c ∷ cs) n → ⊥
mark_no_number l signs c cs n m h = front_no_number l c cs n m.before (λ ds. mark_no_currency l signs c ds m.symbol) h

-- nothing is no number
pub nothing_no_number : (l : Locale) → TellsSigns l → (n : Number) → IsUnsigned l [] n → ⊥
unfolding unsigned_number from_digits
nothing_no_number l signs n h =
    let some = unsigned_complete l signs [] n h in
    let none : unsigned_number l [] ≡ None = refl in cc

first_digit : (digits rest : List ℕ) → 1 ≤ length digits → all_ascii_digits digits ≡ true → first_is is_digit (digits ++ rest) ≡ true
first_digit [] rest some h = absurd (omega arith)
first_digit (c ∷ cs) rest some h = (and_parts (is_digit c) _ h).0

-- What the fields of a date are, in the order in which they are typed.
record HasFields (l : Locale) (text : List ℕ) : Type 0 where
  mark : ℕ
  a : List ℕ
  b : List ℕ
  c : List ℕ
  spelled : text ≡ joined mark a b c
  is : (mark ≡ minus) ⊎ (mark ≡ slash)
  digits_a : all_ascii_digits a ≡ true
  digits_b : all_ascii_digits b ≡ true
  some_a : 1 ≤ length a
  some_b : 1 ≤ length b
  few_b : length b ≤ 2

fields_of : (l : Locale) (text : List ℕ) (n : ℕ) (code : List ℕ) → IsTypedDate l text n code → HasFields l text
fields_of l text n code h =
    let p = digits-split h.year (h.month ++ h.day) h.digits in
    let q = digits-split h.month h.day p.1 in
    elim (cases_Bool (bytes_eq code iso_date)) [
      | inl e ↦ record { mark = minus; a = h.year; b = h.month; c = h.day; spelled = h.spelled ∙ rw e refl; is = inl refl; digits_a = p.0; digits_b = q.0; some_a = omega (arith, h.year_length); some_b = (months h.form).0; few_b = (months h.form).1 }
      | inr e ↦ elim (cases_Bool (is_american_date code)) [
        | inl f ↦ record { mark = slash; a = h.month; b = h.day; c = h.year; spelled = h.spelled ∙ rw (e, f) refl; is = inr refl; digits_a = q.0; digits_b = q.1; some_a = (months h.form).0; some_b = (months h.form).2; few_b = (months h.form).3 }
        | inr f ↦ record { mark = slash; a = h.day; b = h.month; c = h.year; spelled = h.spelled ∙ rw (e, f) refl; is = inr refl; digits_a = q.1; digits_b = q.0; some_a = (months h.form).2; some_b = (months h.form).0; few_b = (months h.form).1 }
      ]
    ]
  where
    months : ((code ≡ iso_date) × (length h.month ≡ 2) × (length h.day ≡ 2)) ⊎ ((code ≡ short_date l) × (1 ≤ length h.month) × (length h.month ≤ 2) × (1 ≤ length h.day) × (length h.day ≤ 2)) → (1 ≤ length h.month) × (length h.month ≤ 2) × (1 ≤ length h.day) × (length h.day ≤ 2)
    months (inl f) = (omega (arith, f.1), omega (arith, f.1), omega (arith, f.2), omega (arith, f.2))
    months (inr f) = (f.1, f.2, f.3, f.4)

-- a date begins with a digit
pub date_first : (l : Locale) (text : List ℕ) (n : ℕ) (code : List ℕ) → IsTypedDate l text n code → first_is is_digit text ≡ true
date_first l text n code h =
    let f = fields_of l text n code h in rw f.spelled (first_digit f.a (f.mark ∷ (f.b ++ f.mark ∷ f.c)) f.some_a f.digits_a)

-- What the marks of dates are.
record IsDateMark (l : Locale) (mark : ℕ) : Type 0 where
  digit : is_digit mark ≡ false
  decimal : (mark == decimal_separator l) ≡ false
  percent : (mark == 37) ≡ false

date_mark : (l : Locale) (mark : ℕ) → (mark ≡ minus) ⊎ (mark ≡ slash) → IsDateMark l mark
date_mark l mark (inl e) = rw e (record { digit = refl; decimal = decimal_cases l (λ d. (minus == d) ≡ false) refl refl; percent = refl })
date_mark l mark (inr e) = rw e (record { digit = refl; decimal = decimal_cases l (λ d. (slash == d) ≡ false) refl refl; percent = refl })

-- no group is read of one or two digits between marks
no_date_groups : (group mark : ℕ) (b c : List ℕ) → is_digit mark ≡ false → 1 ≤ length b → length b ≤ 2 → (threes group (mark ∷ (b ++ mark ∷ c)) ≡ []) × (past_threes group (mark ∷ (b ++ mark ∷ c)) ≡ mark ∷ (b ++ mark ∷ c))
no_date_groups group mark [] c m some few = absurd (omega arith)
no_date_groups group mark (x ∷ []) [] m some few = (refl, refl)
no_date_groups group mark (x ∷ []) (y ∷ ys) m some few =
    let test : (mark == group && is_digit x && is_digit mark && is_digit y) ≡ false = rw m (third (mark == group) (is_digit x) (is_digit y)) in (rw test refl, rw test refl)
  where
    third : (x y z : Bool) → (x && y && false && z) ≡ false
    third true true z = refl
    third true false z = refl
    third false y z = refl
no_date_groups group mark (x ∷ y ∷ []) c m some few =
    let test : (mark == group && is_digit x && is_digit y && is_digit mark) ≡ false = rw m (and_right _ false refl) in (rw test refl, rw test refl)
no_date_groups group mark (x ∷ y ∷ z ∷ zs) c m some few = absurd (omega arith)

-- and it is no currency
no_date_symbol : (l : Locale) → TellsSigns l → (mark : ℕ) (b c : List ℕ) → 1 ≤ length b → all_ascii_digits b ≡ true → is_currency l (mark ∷ (b ++ mark ∷ c)) ≡ false
no_date_symbol l signs mark [] c some d = absurd (omega arith)
no_date_symbol l signs mark (x ∷ xs) c some d =
    elim (cases_Bool (is_currency l (mark ∷ ((x ∷ xs) ++ mark ∷ c)))) [
      | inr e ↦ e
      | inl e ↦
          let all = currency_all l signs (mark ∷ ((x ∷ xs) ++ mark ∷ c)) e in
          let p = and_parts (may_stand_in_symbol mark) (may_stand_in_symbol x && list_all may_stand_in_symbol (xs ++ mark ∷ c)) all in
          let q = and_parts (may_stand_in_symbol x) (list_all may_stand_in_symbol (xs ++ mark ∷ c)) p.1 in
          let digit = (and_parts (is_digit x) (all_ascii_digits xs) d).0 in
          absurd (true≢false (sym digit ∙ (can_stand x q.0).digit))
    ]

pub date_no_number : (l : Locale) → TellsSigns l → (text : List ℕ) (n : ℕ) (code : List ℕ) → IsTypedDate l text n code → unsigned_number l text ≡ None
unfolding unsigned_number from_digits
date_no_number l signs text n code h =
    let f = fields_of l text n code h in
    let m = date_mark l f.mark f.is in
    let rest = f.b ++ f.mark ∷ f.c in
    let digit = first_digit f.a (f.mark ∷ rest) f.some_a f.digits_a in
    let start = run_until (stands_before (decimal_separator l)) [] (f.a ++ f.mark ∷ rest) refl (no_start l (f.a ++ f.mark ∷ rest) digit) in
    let run = run_of-front f.a (f.mark ∷ rest) f.digits_a m.digit in
    let groups = no_date_groups (group_of l) f.mark f.b f.c m.digit f.some_b f.few_b in
    let symbol = no_date_symbol l signs f.mark f.b f.c f.some_b f.digits_b in
    rw (f.spelled, start.0, start.1, run.0, run.1, groups.0, groups.1, m.decimal, m.percent, symbol) refl
  where
    no_start : (l : Locale) (text : List ℕ) → first_is is_digit text ≡ true → first_is (stands_before (decimal_separator l)) text ≡ false
    no_start l [] e = refl
    no_start l (c ∷ cs) e = rw e refl

pub mark_no_date : (l : Locale) (c : ℕ) (cs : List ℕ) (n : ℕ) (code : List ℕ) → IsMark l c → IsTypedDate l (c ∷ cs) n code → ⊥
mark_no_date l c cs n code m h = true≢false (sym (date_first l (c ∷ cs) n code h) ∙ m.digit)
