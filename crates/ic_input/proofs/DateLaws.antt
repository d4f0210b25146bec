-- What the function of typed dates answers is in the relation, and what is in the relation it answers.
use Rattle.std.proofs.Common.{◌≡◌, ℕ, zero, suc, ℤ, pos, negsuc, ◌≤◌, List, [], ◌∷◌, ◌++◌, true, false, ◌&&◌, ◌==◌, ◌⊎◌, nat_le, length, bytes_eq, Option, Some, None, refl, sym, ap, subst, ◌∙◌, append-nil, inl, inr, arith}
use Rattle.std.specs.Str.{all_ascii_digits}
use Rattle.std.specs.Str.Parse.{digits_value}
use Rattle.std.proofs.lemmas.Bool.{and_from, and_parts, cases_Bool, eqb-true, le-leb, leb-true}
use Rattle.std.proofs.lemmas.Bool.Decides.{nat_tests}
use Rattle.ic_laws.specs.AmountFront.{past_some, some_digits}
use Rattle.ic_laws.specs.Character.{minus}
use Rattle.ic_laws.specs.Scan.{first_is, is_digit}
use Rattle.ic_tables.specs.Formats.{is_american_date}
use Rattle.ic_tables.specs.declared.locale.Locale.{Locale}
use Rattle.ic_input.specs.Convention.{is_nothing, short_date, slash}
use Rattle.ic_input.specs.Date.{IsDay, IsTypedDate, day_number, day_of, field_at, in_range, is_day, iso_date, iso_day, iso_number, joined, laid_out, last_day, past_mark, second_field, short_day, short_number, third_field, three_fields}
use Rattle.ic_input.specs.declared.date.Field.{Field}
use Rattle.ic_input.specs.declared.date.Fields.{Fields}
use Rattle.ic_input.proofs.LocaleLemmas.{nothing-is}
use Rattle.ic_laws.proofs.AmountReading.{digits_both as digits-append, digits_apart as digits-split}

-- What is read of up to so many digits.
record ReadsField (most : ℕ) (digits tail : List ℕ) : Type 0 where
  front : some_digits most (digits ++ tail) ≡ digits
  rest : past_some most (digits ++ tail) ≡ tail

field_read : (most : ℕ) (digits tail : List ℕ) → all_ascii_digits digits ≡ true → length digits ≤ most → first_is is_digit tail ≡ false → ReadsField most digits tail
field_read zero [] tail d few t = record { front = refl; rest = refl }
field_read zero (c ∷ cs) tail d few t = absurd (omega arith)
field_read (suc k) [] [] d few t = record { front = refl; rest = refl }
field_read (suc k) [] (c ∷ cs) d few t = record { front = rw t refl; rest = rw t refl }
field_read (suc k) (c ∷ cs) tail d few t =
    let p = and_parts (is_digit c) _ d in
    let rest = field_read k cs tail p.1 (omega arith) t in
    record { front = rw p.0 (ap (λ ds. c ∷ ds) rest.front); rest = rw p.0 rest.rest }

-- What the digits at the front of a text are.
record IsField (most : ℕ) (text : List ℕ) : Type 0 where
  whole : text ≡ some_digits most text ++ past_some most text
  digits : all_ascii_digits (some_digits most text) ≡ true
  few : length (some_digits most text) ≤ most

is_field : (most : ℕ) (text : List ℕ) → IsField most text
is_field zero text = record { whole = refl; digits = refl; few = omega arith }
is_field (suc k) [] = record { whole = refl; digits = refl; few = omega arith }
is_field (suc k) (c ∷ cs) =
    let rest = is_field k cs in
    elim (cases_Bool (is_digit c)) [
      | inl e ↦ record { whole = rw e (ap (λ t. c ∷ t) rest.whole); digits = rw e (and_from _ _ e rest.digits); few = rw e (omega (arith, rest.few)) }
      | inr e ↦ record { whole = rw e refl; digits = rw e refl; few = rw e (omega arith) }
    ]

-- the mark at the front
marked : (mark : ℕ) (text rest : List ℕ) → past_mark mark text ≡ Some rest → text ≡ mark ∷ rest
marked mark [] rest h = absurd (cc)
marked mark (c ∷ cs) rest h =
    elim (cases_Bool (c == mark)) [
      | inl e ↦
          let same : Some cs ≡ Some rest = rw e at h in
          let tail : cs ≡ rest = cc in
          rw (eqb-true c mark e, tail) refl
      | inr e ↦ let none : None ≡ Some rest = rw e at h in absurd (cc)
    ]

-- Three fields of digits with marks between them.
record AreFields (mark most last : ℕ) (text : List ℕ) (f : Fields) : Type 0 where
  a : List ℕ
  b : List ℕ
  c : List ℕ
  spelled : text ≡ joined mark a b c
  digits_a : all_ascii_digits a ≡ true
  digits_b : all_ascii_digits b ≡ true
  digits_c : all_ascii_digits c ≡ true
  few_a : length a ≤ most
  few_b : length b ≤ 2
  few_c : length c ≤ last
  first : f.first ≡ record { value = digits_value 10 a; count = length a }
  second : f.second ≡ record { value = digits_value 10 b; count = length b }
  third : f.third ≡ record { value = digits_value 10 c; count = length c }

fields_sound : (mark most last : ℕ) (text : List ℕ) (f : Fields) → three_fields mark most last text ≡ Some f → AreFields mark most last text f
fields_sound mark most last text f h = after_first (past_mark mark (past_some most text)) refl h
  where
    a : List ℕ
    a = some_digits most text

    after_second : (text₂ text₃ : List ℕ) (o : Option (List ℕ)) → past_mark mark (past_some most text) ≡ Some text₂ → past_mark mark (past_some 2 text₂) ≡ o → third_field last (field_at most text) (field_at 2 text₂) o ≡ Some f → AreFields mark most last text f
    after_second text₂ text₃ None e g k = absurd (cc)
    after_second text₂ text₃ (Some t) e g k =
        elim (cases_Bool (is_nothing (past_some last t))) [
          | inr no_end ↦ let none : None ≡ Some f = rw no_end at k in absurd (cc)
          | inl at_end ↦
              let one = is_field most text in
              let two = is_field 2 text₂ in
              let three = is_field last t in
              let some : Some (record { first = field_at most text; second = field_at 2 text₂; third = field_at last t }) ≡ Some f = rw at_end at k in
              let same : record { first = field_at most text; second = field_at 2 text₂; third = field_at last t } ≡ f = cc in
              let end : t ≡ some_digits last t = three.whole ∙ ap (λ r. some_digits last t ++ r) (nothing-is (past_some last t) at_end) ∙ append-nil (some_digits last t) in
              let tail₂ : text₂ ≡ some_digits 2 text₂ ++ mark ∷ some_digits last t = two.whole ∙ ap (λ r. some_digits 2 text₂ ++ r) (marked mark (past_some 2 text₂) t g ∙ ap (λ r. mark ∷ r) end) in
              record {
                a = some_digits most text;
                b = some_digits 2 text₂;
                c = some_digits last t;
                spelled = one.whole ∙ ap (λ r. some_digits most text ++ r) (marked mark (past_some most text) text₂ e ∙ ap (λ r. mark ∷ r) tail₂);
                digits_a = one.digits;
                digits_b = two.digits;
                digits_c = three.digits;
                few_a = one.few;
                few_b = two.few;
                few_c = three.few;
                first = sym (ap (λ (x : Fields). x.first) same);
                second = sym (ap (λ (x : Fields). x.second) same);
                third = sym (ap (λ (x : Fields). x.third) same);
              }
        ]

    after_first : (o : Option (List ℕ)) → past_mark mark (past_some most text) ≡ o → second_field mark 2 last (field_at most text) o ≡ Some f → AreFields mark most last text f
    after_first None e k = absurd (cc)
    after_first (Some text₂) e k = after_second text₂ text₂ (past_mark mark (past_some 2 text₂)) e refl k

-- the same from the fields
past_the_mark : (mark : ℕ) (text : List ℕ) → past_mark mark (mark ∷ text) ≡ Some text
past_the_mark mark text = let same : (mark == mark) ≡ true = grind (arith, nat_tests) in rw same refl

fields_complete : (mark most last : ℕ) (a b c : List ℕ) → is_digit mark ≡ false → all_ascii_digits a ≡ true → all_ascii_digits b ≡ true → all_ascii_digits c ≡ true → length a ≤ most → length b ≤ 2 → length c ≤ last → three_fields mark most last (joined mark a b c) ≡ Some (record { first = record { value = digits_value 10 a; count = length a }; second = record { value = digits_value 10 b; count = length b }; third = record { value = digits_value 10 c; count = length c } })
fields_complete mark most last a b c m da db dc fa fb fc =
    let one = field_read most a (mark ∷ (b ++ mark ∷ c)) da fa m in
    let two = field_read 2 b (mark ∷ c) db fb m in
    let three = field_read last c [] dc fc refl in
    let front : some_digits last c ≡ c = ap (some_digits last) (sym (append-nil c)) ∙ three.front in
    let rest : past_some last c ≡ [] = ap (past_some last) (sym (append-nil c)) ∙ three.rest in
    rw (one.front, one.rest, past_the_mark mark (b ++ mark ∷ c), two.front, two.rest, past_the_mark mark c, rest, front) refl

-- a day that has a number, both ways
in_range-some : (z : ℤ) (n : ℕ) → in_range z ≡ Some n → (z ≡ pos n) × (1 ≤ n) × (n ≤ last_day)
in_range-some (negsuc k) n h = absurd (cc)
in_range-some (pos k) n h =
    elim (cases_Bool (nat_le 1 k && nat_le k last_day)) [
      | inl e ↦
          let p = and_parts (nat_le 1 k) (nat_le k last_day) e in
          let some : Some k ≡ Some n = rw e at h in
          let same : k ≡ n = cc in
          let low : 1 ≤ k = leb-true _ _ p.0 in
          let high : k ≤ last_day = leb-true _ _ p.1 in
          (ap pos same, omega arith, omega arith)
      | inr e ↦ let none : None ≡ Some n = rw e at h in absurd (cc)
    ]

pub day_sound : (y m d n : ℕ) → day_of y m d ≡ Some n → IsDay y m d n
unfolding day_of
day_sound y m d n h =
    elim (cases_Bool (is_day y m d)) [
      | inl e ↦ let r = in_range-some (day_number y m d) n (rw e at h) in record { there = e; number = r.0; first = r.1; last = r.2 }
      | inr e ↦ let none : None ≡ Some n = rw e at h in absurd (cc)
    ]

pub day_complete : (y m d n : ℕ) → IsDay y m d n → day_of y m d ≡ Some n
unfolding day_of
day_complete y m d n h = rw (h.there, h.number, le-leb _ _ h.first, le-leb _ _ h.last) refl

digits_all : (a b c : List ℕ) → all_ascii_digits a ≡ true → all_ascii_digits b ≡ true → all_ascii_digits c ≡ true → all_ascii_digits (a ++ (b ++ c)) ≡ true
digits_all a b c ha hb hc = digits-append a (b ++ c) ha (digits-append b c hb hc)

-- dates as `2026-01-15`
iso_from : (l : Locale) (text : List ℕ) (n : ℕ) (o : Option Fields) → three_fields minus 4 2 text ≡ o → iso_day o ≡ Some n → IsTypedDate l text n iso_date
iso_from l text n None e h = absurd (cc)
iso_from l text n (Some f) e h =
    let p = fields_sound minus 4 2 text f e in
    elim (cases_Bool (f.first.count == 4 && f.second.count == 2 && f.third.count == 2)) [
      | inr no_form ↦ let none : None ≡ Some n = rw no_form at h in absurd (cc)
      | inl form ↦
          let q = and_parts (f.first.count == 4 && f.second.count == 2) (f.third.count == 2) form in
          let r = and_parts (f.first.count == 4) (f.second.count == 2) q.0 in
          let number : day_of f.first.value f.second.value f.third.value ≡ Some n = rw form at h in
          record {
            year = p.a;
            month = p.b;
            day = p.c;
            digits = digits_all p.a p.b p.c p.digits_a p.digits_b p.digits_c;
            year_length = sym (ap (λ (x : Field). x.count) p.first) ∙ eqb-true _ _ r.0;
            form = inl (refl, sym (ap (λ (x : Field). x.count) p.second) ∙ eqb-true _ _ r.1, sym (ap (λ (x : Field). x.count) p.third) ∙ eqb-true _ _ q.1);
            spelled = p.spelled;
            there = subst (λ (x : Field). IsDay x.value (digits_value 10 p.b) (digits_value 10 p.c) n) p.first (subst (λ (x : Field). IsDay f.first.value x.value (digits_value 10 p.c) n) p.second (subst (λ (x : Field). IsDay f.first.value f.second.value x.value n) p.third (day_sound _ _ _ n number)));
          }
    ]

pub iso_sound : (l : Locale) (text : List ℕ) (n : ℕ) → iso_number text ≡ Some n → IsTypedDate l text n iso_date
iso_sound l text n h = iso_from l text n (three_fields minus 4 2 text) refl h

-- dates by the locale's short dates
short_from : (l : Locale) (text : List ℕ) (n : ℕ) (o : Option Fields) → bytes_eq (short_date l) iso_date ≡ false → three_fields slash 2 4 text ≡ o → short_day (short_date l) o ≡ Some n → IsTypedDate l text n (short_date l)
short_from l text n None other e h = absurd (cc)
short_from l text n (Some f) other e h =
    let p = fields_sound slash 2 4 text f e in
    elim (cases_Bool (nat_le 1 f.first.count && nat_le 1 f.second.count && f.third.count == 4)) [
      | inr no_form ↦ let none : None ≡ Some n = rw no_form at h in absurd (cc)
      | inl form ↦
          let q = and_parts (nat_le 1 f.first.count && nat_le 1 f.second.count) (f.third.count == 4) form in
          let r = and_parts (nat_le 1 f.first.count) (nat_le 1 f.second.count) q.0 in
          let one : 1 ≤ length p.a = subst (λ (x : Field). 1 ≤ x.count) p.first (leb-true _ _ r.0) in
          let two : 1 ≤ length p.b = subst (λ (x : Field). 1 ≤ x.count) p.second (leb-true _ _ r.1) in
          let four : length p.c ≡ 4 = sym (ap (λ (x : Field). x.count) p.third) ∙ eqb-true _ _ q.1 in
          elim (cases_Bool (is_american_date (short_date l))) [
            | inl american ↦
                let number : day_of f.third.value f.first.value f.second.value ≡ Some n = rw (form, american) at h in
                record {
                  year = p.c;
                  month = p.a;
                  day = p.b;
                  digits = digits_all p.c p.a p.b p.digits_c p.digits_a p.digits_b;
                  year_length = four;
                  form = inr (refl, one, p.few_a, two, p.few_b);
                  spelled = rw (other, american) p.spelled;
                  there = subst (λ (x : Field). IsDay x.value (digits_value 10 p.a) (digits_value 10 p.b) n) p.third (subst (λ (x : Field). IsDay f.third.value x.value (digits_value 10 p.b) n) p.first (subst (λ (x : Field). IsDay f.third.value f.first.value x.value n) p.second (day_sound _ _ _ n number)));
                }
            | inr day_first ↦
                let number : day_of f.third.value f.second.value f.first.value ≡ Some n = rw (form, day_first) at h in
                record {
                  year = p.c;
                  month = p.b;
                  day = p.a;
                  digits = digits_all p.c p.b p.a p.digits_c p.digits_b p.digits_a;
                  year_length = four;
                  form = inr (refl, two, p.few_b, one, p.few_a);
                  spelled = rw (other, day_first) p.spelled;
                  there = subst (λ (x : Field). IsDay x.value (digits_value 10 p.b) (digits_value 10 p.a) n) p.third (subst (λ (x : Field). IsDay f.third.value x.value (digits_value 10 p.a) n) p.second (subst (λ (x : Field). IsDay f.third.value f.second.value x.value n) p.first (day_sound _ _ _ n number)));
                }
          ]
    ]

pub short_sound : (l : Locale) (text : List ℕ) (n : ℕ) → bytes_eq (short_date l) iso_date ≡ false → short_number (short_date l) text ≡ Some n → IsTypedDate l text n (short_date l)
short_sound l text n other h = short_from l text n (three_fields slash 2 4 text) other refl h

-- a date with the marks of short dates is none with those of `yyyy-mm-dd`
other_mark : (a rest : List ℕ) → all_ascii_digits a ≡ true → length a ≤ 4 → iso_number (a ++ slash ∷ rest) ≡ None
other_mark a rest d few =
    let one = field_read 4 a (slash ∷ rest) d few refl in rw (one.front, one.rest) refl

-- What the functions of dates answer of a typed date: the one, or the other where the one answers nothing.
abbrev pub IsRead : Locale → List ℕ → ℕ → List ℕ → Type 0
IsRead l text n code =
    ((code ≡ iso_date) × (iso_number text ≡ Some n))
    ⊎ ((code ≡ short_date l) × (iso_number text ≡ None) × (short_number (short_date l) text ≡ Some n))

iso_complete : (y m d : List ℕ) (n : ℕ) → all_ascii_digits (y ++ (m ++ d)) ≡ true → length y ≡ 4 → length m ≡ 2 → length d ≡ 2 → IsDay (digits_value 10 y) (digits_value 10 m) (digits_value 10 d) n → iso_number (joined minus y m d) ≡ Some n
iso_complete y m d n digits ly lm ld there =
    let p = digits-split y (m ++ d) digits in
    let q = digits-split m d p.1 in
    rw (fields_complete minus 4 2 y m d refl p.0 q.0 q.1 (omega arith) (omega arith) (omega arith), ly, lm, ld) (day_complete _ _ _ n there)

short_complete : (l : Locale) (y m d : List ℕ) (n : ℕ) → all_ascii_digits (y ++ (m ++ d)) ≡ true → length y ≡ 4 → 1 ≤ length m → length m ≤ 2 → 1 ≤ length d → length d ≤ 2 → IsDay (digits_value 10 y) (digits_value 10 m) (digits_value 10 d) n → bytes_eq (short_date l) iso_date ≡ false → (iso_number (laid_out (short_date l) y m d) ≡ None) × (short_number (short_date l) (laid_out (short_date l) y m d) ≡ Some n)
short_complete l y m d n digits ly m1 m2 d1 d2 there other =
    let p = digits-split y (m ++ d) digits in
    let q = digits-split m d p.1 in
    let tm : nat_le 1 (length m) ≡ true = le-leb _ _ m1 in
    let td : nat_le 1 (length d) ≡ true = le-leb _ _ d1 in
    elim (cases_Bool (is_american_date (short_date l))) [
      | inl e ↦ (rw (other, e) (other_mark m (d ++ slash ∷ y) q.0 (omega arith)), rw (other, e, fields_complete slash 2 4 m d y refl q.0 q.1 p.0 m2 d2 (omega arith), tm, td, ly, e) (day_complete _ _ _ n there))
      | inr e ↦ (rw (other, e) (other_mark d (m ++ slash ∷ y) q.1 (omega arith)), rw (other, e, fields_complete slash 2 4 d m y refl q.1 q.0 p.0 d2 m2 (omega arith), td, tm, ly, e) (day_complete _ _ _ n there))
    ]

pub date_complete : (l : Locale) (text : List ℕ) (n : ℕ) (code : List ℕ) → bytes_eq (short_date l) iso_date ≡ false → IsTypedDate l text n code → IsRead l text n code
date_complete l text n code other h = go h.form
  where
    go : ((code ≡ iso_date) × (length h.month ≡ 2) × (length h.day ≡ 2)) ⊎ ((code ≡ short_date l) × (1 ≤ length h.month) × (length h.month ≤ 2) × (1 ≤ length h.day) × (length h.day ≤ 2)) → IsRead l text n code
    go (inl f) = inl (f.0, rw (h.spelled, f.0) (iso_complete h.year h.month h.day n h.digits h.year_length f.1 f.2 h.there))
    go (inr f) =
        let c = short_complete l h.year h.month h.day n h.digits h.year_length f.1 f.2 f.3 f.4 h.there other in
        inr (f.0, rw (h.spelled, f.0) c.0, rw (h.spelled, f.0) c.1)
