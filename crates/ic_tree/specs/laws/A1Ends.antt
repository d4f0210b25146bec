-- The places of the A1 form: how they begin, where they stop, and what is none of them.
use Rattle.std.proofs.Common.{◌≡◌, ℕ, ℤ, List, [], ◌∷◌, ◌++◌, Bool, true, false, ◌&&◌, ◌||◌, ◌==◌, nat_lt, nat_le, length, append_assoc, codes, refl, sym, subst, ◌∙◌, ap, ap₂, inl, inr, arith, eqb}
use Rattle.std.specs.List.{list_all, list_any}
use Rattle.std.specs.Str.{all_ascii_digits}
use Rattle.std.specs.Str.Parse.{digits_value}
use Rattle.std.proofs.lemmas.Bool.{and_parts, and_from, or_left, or_right, or_cases, cases_Bool, both_ways, eqb-true}
use Rattle.std.proofs.lemmas.Bool.Decides.{nat_tests}
use Rattle.std.proofs.lemmas.List.Folds.{list_all-append}
use Rattle.ucd_derived.proofs.Computing.{ucd_derived}
use Rattle.ic_laws.specs.Dialect.{begins_reference}
use Rattle.ic_laws.specs.Name.{is_a1_cell, names_row}
use Rattle.ic_laws.specs.Position.{column_count, letters_number, names_column, row_count}
use Rattle.ic_laws.specs.Scan.{first_is, is_ascii_letter, is_digit, is_letter, is_plain, is_word_character, joins, past_dollar, past_run, run_of}
use Rattle.ic_laws.specs.declared.reference.Position.{Position}
use Rattle.ic_laws.specs.declared.reference.Position.TheVariants as at
use Rattle.ic_laws.specs.declared.reference.RefPart.{RefPart}
use Rattle.ic_laws.specs.declared.reference.Place.{Place}
use Rattle.ic_laws.specs.declared.reference.Place.TheVariants as places
use Rattle.ic_laws.proofs.AmountTexts.{run_of-front}
use Rattle.ic_laws.proofs.tokens.Characters.{past_run_all, run_of_all}
use Rattle.ic_refs.specs.A1.{SpellsCell, SpellsColumn, SpellsPlace, SpellsRow, dollar_of}
use Rattle.ic_refs.proofs.MarkLemmas.{ascii_letter_plain, is_place_character, place_is_text}
use Rattle.ic_tree.specs.laws.EndLaws.{Stops}
use Rattle.ic_tree.specs.laws.ReferenceLaws.{Begins}

-- ---- each character of a place goes on with a reference

letter_joins : (c : ℕ) → is_letter c ≡ true → joins c ≡ true
letter_joins c h = rw h refl

digit_joins : (c : ℕ) → is_digit c ≡ true → joins c ≡ true
digit_joins c h =
    let plain : is_plain c ≡ true = or_left (is_letter c || is_digit c || eqb c 95) (eqb c 46) (or_left (is_letter c || is_digit c) (eqb c 95) (or_right (is_letter c) (is_digit c) h)) in
    let word : is_word_character c ≡ true = or_left (is_plain c) (eqb c 92) plain in
    or_left (is_word_character c || eqb c 33 || eqb c 58 || eqb c 36) (eqb c 91)
    (or_left (is_word_character c || eqb c 33 || eqb c 58) (eqb c 36) (or_left (is_word_character c || eqb c 33) (eqb c 58) (or_left (is_word_character c) (eqb c 33) word)))

dollar_joins : joins 36 ≡ true
unfolding ucd_derived
dollar_joins = refl

colon_joins : joins 58 ≡ true
unfolding ucd_derived
colon_joins = refl

place_joins : (c : ℕ) → is_place_character c ≡ true → joins c ≡ true
place_joins c h =
    elim (or_cases (is_ascii_letter c || is_digit c || c == 36) (c == 58) h) [
      | inr colon ↦ ap joins (eqb-true c 58 colon) ∙ colon_joins
      | inl a ↦ elim (or_cases (is_ascii_letter c || is_digit c) (c == 36) a) [
        | inr money ↦ ap joins (eqb-true c 36 money) ∙ dollar_joins
        | inl b ↦ elim (or_cases (is_ascii_letter c) (is_digit c) b) [
          | inl letter ↦ letter_joins c (ascii_letter_plain c letter)
          | inr digit ↦ digit_joins c digit
        ]
      ]
    ]

all_stop : (p : ℕ → Bool) (text : List ℕ) → list_all is_place_character text ≡ true → Stops (past_run p text)
all_stop p [] h = inl refl
all_stop p (c ∷ cs) h =
    let q = and_parts (is_place_character c) (list_all is_place_character cs) h in
    elim (cases_Bool (p c)) [
      | inl t ↦ rw t (all_stop p cs q.1)
      | inr f ↦ rw f (inr (place_joins c q.0))
    ]

pub a1_stops : (row column : ℤ) (text : List ℕ) (p : Place) → SpellsPlace row column text p → Stops (past_run is_word_character text)
a1_stops row column text p s = all_stop is_word_character text (place_is_text row column text p s).all

-- ---- how it begins

letter_begins : (c : ℕ) → is_ascii_letter c ≡ true → begins_reference c ≡ true
letter_begins c h =
    or_left (is_letter c || is_digit c) (list_any (λ x. c == x) (codes "_$'")) (or_left (is_letter c) (is_digit c) (ascii_letter_plain c h))

digit_begins : (c : ℕ) → is_digit c ≡ true → begins_reference c ≡ true
digit_begins c h = or_left (is_letter c || is_digit c) (list_any (λ x. c == x) (codes "_$'")) (or_right (is_letter c) (is_digit c) h)

dollar_begins : begins_reference 36 ≡ true
unfolding ucd_derived
dollar_begins = refl

-- letters of a column, and digits of a row
record Letters (cs : List ℕ) : Type 0 where
  pub first : ℕ
  pub more : List ℕ
  pub whole : cs ≡ first ∷ more
  pub letter : is_ascii_letter first ≡ true
  pub all : list_all is_ascii_letter cs ≡ true

letters_of : (cs : List ℕ) → names_column cs ≡ true → Letters cs
letters_of [] h = absurd (cc)
letters_of (c ∷ cs) h =
    let a = and_parts (nat_lt 0 (length (c ∷ cs)) && list_all is_ascii_letter (c ∷ cs)) (nat_le (letters_number (c ∷ cs)) column_count) h in
    let b = and_parts (nat_lt 0 (length (c ∷ cs))) (list_all is_ascii_letter (c ∷ cs)) a.0 in
    record { first = c; more = cs; whole = refl; letter = (and_parts (is_ascii_letter c) (list_all is_ascii_letter cs) b.1).0; all = b.1 }

record Digits (cs : List ℕ) : Type 0 where
  pub first : ℕ
  pub more : List ℕ
  pub whole : cs ≡ first ∷ more
  pub digit : is_digit first ≡ true
  pub all : all_ascii_digits cs ≡ true

digits_of : (cs : List ℕ) → names_row cs ≡ true → Digits cs
digits_of [] h = absurd (cc)
digits_of (c ∷ cs) h =
    let a = and_parts (all_ascii_digits (c ∷ cs) && nat_lt 0 (digits_value 10 (c ∷ cs))) (nat_le (digits_value 10 (c ∷ cs)) row_count) h in
    let b = and_parts (all_ascii_digits (c ∷ cs)) (nat_lt 0 (digits_value 10 (c ∷ cs))) a.0 in
    record { first = c; more = cs; whole = refl; digit = (and_parts (is_digit c) (all_ascii_digits cs) b.0).0; all = b.0 }

after_dollar : (position : Position) (text more : List ℕ) → text ≡ dollar_of position ++ more → Begins more → Begins text
after_dollar (at.Abs n) text more e b = (36, more, e, dollar_begins)
after_dollar (at.Rel k) text more e b = subst Begins (sym e) b

column_begins : (origin : ℤ) (text : List ℕ) (position : Position) → SpellsColumn origin text position → Begins text
column_begins origin text position s =
    let l = letters_of s.letters s.named in after_dollar position text s.letters s.whole (l.first, l.more, l.whole, letter_begins l.first l.letter)

row_begins : (origin : ℤ) (text : List ℕ) (position : Position) → SpellsRow origin text position → Begins text
row_begins origin text position s =
    let d = digits_of s.digits s.named in after_dollar position text s.digits s.whole (d.first, d.more, d.whole, digit_begins d.first d.digit)

begins_more : (text a b : List ℕ) → text ≡ a ++ b → Begins a → Begins text
begins_more text a b e h = (h.0, h.1 ++ b, e ∙ ap (λ t. t ++ b) h.2, h.3)

cell_begins : (row column : ℤ) (text : List ℕ) (part : RefPart) → SpellsCell row column text part → Begins text
cell_begins row column text part s = begins_more text s.column_text s.row_text s.whole (column_begins column s.column_text part.column s.column)

pub a1_begins : (row column : ℤ) (text : List ℕ) (p : Place) → SpellsPlace row column text p → Begins text
a1_begins row column text (places.Cell part) s = cell_begins row column text part s
a1_begins row column text (places.Range first last) s =
    begins_more text s.0 (58 ∷ s.1) s.2
    (elim s.3 [
      | inl p ↦ cell_begins row column s.0 first p.0
      | inr p ↦ elim p [
        | inl q ↦ column_begins column s.0 first.column q.1
        | inr q ↦ row_begins row s.0 first.row q.1
      ]
    ])

-- ---- a place of word characters alone is a cell

dollar_no_word : is_word_character 36 ≡ false
unfolding ucd_derived
dollar_no_word = refl

colon_no_word : is_word_character 58 ≡ false
unfolding ucd_derived
colon_no_word = refl

all_split : (p : ℕ → Bool) (a b : List ℕ) → list_all p (a ++ b) ≡ true → (list_all p a ≡ true) × (list_all p b ≡ true)
all_split p a b h = and_parts (list_all p a) (list_all p b) (sym (list_all-append p a b) ∙ h)

no_dollar : (position : Position) (text more : List ℕ) → text ≡ dollar_of position ++ more → list_all is_word_character text ≡ true → text ≡ more
no_dollar (at.Abs n) text more e w =
    absurd (both_ways (is_word_character 36) dollar_no_word (and_parts (is_word_character 36) (list_all is_word_character more) (sym (ap (list_all is_word_character) e) ∙ w)).0)
no_dollar (at.Rel k) text more e w = e

letter_no_dollar : (c : ℕ) → is_ascii_letter c ≡ true → (c == 36) ≡ false
letter_no_dollar c h = grind (arith, nat_tests)

digit_no_dollar : (c : ℕ) → is_digit c ≡ true → (c == 36) ≡ false
digit_no_dollar c h = grind (arith, nat_tests)

digit_no_letter : (c : ℕ) → is_digit c ≡ true → is_ascii_letter c ≡ false
digit_no_letter c h = grind (arith, nat_tests)

past_no_dollar : (c : ℕ) (cs : List ℕ) → (c == 36) ≡ false → past_dollar (c ∷ cs) ≡ c ∷ cs
past_no_dollar c cs h = rw h refl

cell_of : (letters digits : List ℕ) → names_column letters ≡ true → names_row digits ≡ true → is_a1_cell (letters ++ digits) ≡ true
cell_of letters digits c r =
    let l = letters_of letters c in
    let d = digits_of digits r in
    let front : past_dollar (letters ++ digits) ≡ letters ++ digits =
    ap (λ t. past_dollar (t ++ digits)) l.whole ∙ past_no_dollar l.first (l.more ++ digits) (letter_no_dollar l.first l.letter) ∙ ap (λ t. t ++ digits) (sym l.whole) in
    let apart : first_is is_ascii_letter digits ≡ false = ap (first_is is_ascii_letter) d.whole ∙ digit_no_letter d.first d.digit in
    let run = run_of_all is_ascii_letter letters digits l.all apart in
    let past = past_run_all is_ascii_letter letters digits l.all apart in
    let back : past_dollar digits ≡ digits = ap past_dollar d.whole ∙ past_no_dollar d.first d.more (digit_no_dollar d.first d.digit) ∙ sym d.whole in
    and_from (names_column (run_of is_ascii_letter (past_dollar (letters ++ digits)))) (names_row (past_dollar (past_run is_ascii_letter (past_dollar (letters ++ digits)))))
    (ap (λ t. names_column (run_of is_ascii_letter t)) front ∙ ap names_column run ∙ c)
    (ap (λ t. names_row (past_dollar (past_run is_ascii_letter t))) front ∙ ap (λ t. names_row (past_dollar t)) past ∙ ap names_row back ∙ r)

pub a1_form : (row column : ℤ) (text : List ℕ) (p : Place) → SpellsPlace row column text p → list_all is_word_character text ≡ true → is_a1_cell text ≡ true
a1_form row column text (places.Cell part) s w =
    let both = all_split is_word_character s.column_text s.row_text (sym (ap (list_all is_word_character) s.whole) ∙ w) in
    let a = no_dollar part.column s.column_text s.column.letters s.column.whole both.0 in
    let b = no_dollar part.row s.row_text s.row.digits s.row.whole both.1 in
    ap is_a1_cell (s.whole ∙ ap₂ ◌++◌ a b) ∙ cell_of s.column.letters s.row.digits s.column.named s.row.named
a1_form row column text (places.Range first last) s w =
    let both = all_split is_word_character s.0 (58 ∷ s.1) (sym (ap (list_all is_word_character) s.2) ∙ w) in
    absurd (both_ways (is_word_character 58) colon_no_word (and_parts (is_word_character 58) (list_all is_word_character s.1) both.1).0)

-- ---- a place that begins with a digit is a range of rows

dollar_no_digit : is_digit 36 ≡ false
dollar_no_digit = refl

letter_no_digit : (c : ℕ) → is_ascii_letter c ≡ true → is_digit c ≡ false
letter_no_digit c h = grind (arith, nat_tests)

column_no_digit : (origin : ℤ) (position : Position) (text more : List ℕ) → SpellsColumn origin text position → first_is is_digit (text ++ more) ≡ false
column_no_digit origin (at.Abs n) text more s = ap (λ t. first_is is_digit (t ++ more)) s.whole ∙ dollar_no_digit
column_no_digit origin (at.Rel k) text more s =
    let l = letters_of s.letters s.named in ap (λ t. first_is is_digit (t ++ more)) (s.whole ∙ l.whole) ∙ letter_no_digit l.first l.letter

cell_no_digit : (row column : ℤ) (part : RefPart) (text more : List ℕ) → SpellsCell row column text part → first_is is_digit (text ++ more) ≡ false
cell_no_digit row column part text more s =
    ap (λ t. first_is is_digit (t ++ more)) s.whole ∙ ap (first_is is_digit) (append_assoc s.column_text s.row_text more) ∙ column_no_digit column part.column s.column_text (s.row_text ++ more) s.column

row_digits : (origin : ℤ) (position : Position) (text more : List ℕ) → SpellsRow origin text position → first_is is_digit (text ++ more) ≡ true → (all_ascii_digits text ≡ true)
row_digits origin (at.Abs n) text more s d = absurd (both_ways (is_digit 36) dollar_no_digit (sym (ap (λ t. first_is is_digit (t ++ more)) s.whole) ∙ d))
row_digits origin (at.Rel k) text more s d = ap all_ascii_digits s.whole ∙ (digits_of s.digits s.named).all

pub rows_at_digit : (row column : ℤ) (front after : List ℕ) (p : Place) → SpellsPlace row column front p → first_is is_digit (front ++ after) ≡ true → (ds : List ℕ) × (more : List ℕ) × (front ++ after ≡ ds ++ 58 ∷ more) × (all_ascii_digits ds ≡ true)
rows_at_digit row column front after (places.Cell part) s d = absurd (both_ways _ (cell_no_digit row column part front after s) d)
rows_at_digit row column front after (places.Range first last) s d =
    let whole : front ++ after ≡ s.0 ++ (58 ∷ s.1 ++ after) = ap (λ t. t ++ after) s.2 ∙ append_assoc s.0 (58 ∷ s.1) after in
    let digit : first_is is_digit (s.0 ++ (58 ∷ s.1 ++ after)) ≡ true = sym (ap (first_is is_digit) whole) ∙ d in
    elim s.3 [
      | inl p ↦ absurd (both_ways _ (cell_no_digit row column first s.0 (58 ∷ s.1 ++ after) p.0) digit)
      | inr p ↦ elim p [
        | inl q ↦ absurd (both_ways _ (column_no_digit column first.column s.0 (58 ∷ s.1 ++ after) q.1) digit)
        | inr q ↦ (s.0, s.1 ++ after, whole, row_digits row first.row s.0 (58 ∷ s.1 ++ after) q.1 digit)
      ]
    ]

-- so digits with no colon after them begin no place
pub no_rows : (row column : ℤ) (ds tail front after : List ℕ) (p : Place) → all_ascii_digits ds ≡ true → first_is is_digit (ds ++ tail) ≡ true → first_is is_digit tail ≡ false → first_is (λ c. c == 58) tail ≡ false → ds ++ tail ≡ front ++ after → SpellsPlace row column front p → ⊥
no_rows row column ds tail front after p h d apart colon e s =
    let q = rows_at_digit row column front after p s (sym (ap (first_is is_digit) e) ∙ d) in
    let mine = (run_of-front ds tail h apart).1 in
    let other = (run_of-front q.0 (58 ∷ q.1) q.3 refl).1 in
    let same : tail ≡ 58 ∷ q.1 = sym mine ∙ ap (past_run is_digit) (e ∙ q.2) ∙ other in
    both_ways (first_is (λ c. c == 58) tail) colon (ap (first_is (λ c. c == 58)) same)
