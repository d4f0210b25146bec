-- The shown form meets the laws of a dialect, in any cell; what it reads it can spell.
use Rattle.std.proofs.Common.{◌≡◌, ◌≢◌, ℕ, ℤ, ◌<◌, ◌≤◌, ◌/◌, ◌%◌, ◌^◌, List, [], ◌∷◌, ◌++◌, Bool, true, false, ◌&&◌, ◌==◌, length, append_assoc, codes, Option, Some, None, refl, sym, subst, ◌∙◌, ap, inl, inr, arith, cond}
use Rattle.std.specs.Fmt.{decimal}
use Rattle.std.specs.Str.{all_ascii_digits}
use Rattle.std.specs.List.{list_all, slice_get}
use Rattle.std.specs.Option.{IfSome}
use Rattle.std.proofs.lemmas.Bool.{and_from, and_parts, cases_Bool, both_ways}
use Rattle.std.proofs.lemmas.Fmt.{digits_decimal}
use Rattle.std.proofs.lemmas.Option.{none-some}
use Rattle.ic_laws.specs.Amount.{fraction_digits, units_of_one, unsigned_text}
use Rattle.ic_laws.specs.Dialect.{IsLawful, IsWordOrAmount, begins_reference}
use Rattle.ic_laws.specs.Name.{is_a1_cell, is_identifier, is_sheet_name, is_variable_form}
use Rattle.ic_laws.specs.Position.{is_column, is_inside, is_row}
use Rattle.ic_laws.specs.Scan.{IsEnd, begins_word, first_is, is_digit, is_letter, is_word_character}
use Rattle.ic_laws.specs.Tree.{is_written_sheet}
use Rattle.ic_laws.specs.declared.dialect.WordKind.{WordKind}
use Rattle.ic_laws.specs.declared.dialect.WordKind.TheVariants as kinds
use Rattle.ic_laws.specs.declared.reference.Place.{Place}
use Rattle.ic_laws.specs.declared.reference.RefToken.{RefToken}
use Rattle.ic_laws.proofs.AmountLemmas.{numerals}
use Rattle.ic_refs.specs.A1.{SpellsA1, SpellsPlace, a1_at, a1_place_at, is_shown_spellable, is_spellable, place_text}
use Rattle.ic_refs.specs.Longest.{FindsLongest, IsLongest}
use Rattle.ic_laws.specs.SheetText.{local_text, read_local, sheet_at, sheet_text}
use Rattle.ic_refs.specs.Sheet.{reference_at}
use Rattle.ic_refs.proofs.A1PlaceLemmas.{finds_longest_place}
use Rattle.ic_refs.proofs.A1ReferenceLemmas.{a1_again, finds_a1}
use Rattle.ic_refs.proofs.FormulaFormLemmas.{place_inside}
use Rattle.ic_refs.proofs.MarkLemmas.{place_is_text, place_no_bang, place_no_sheet}
use Rattle.ic_laws.proofs.tokens.SheetTexts.{sheet_named}
use Rattle.ic_refs.proofs.StoredTextLemmas.{end_colon, end_digit}
use Rattle.ic_tables.specs.declared.language.Language.{Language}
use Rattle.ic_tables.proofs.WellFormed.{language_among}
use Rattle.ic_tables.specs.Tables.{HasGoodWords, TableSet, error_words_in, language_of}
use Rattle.ic_tables.specs.Words.{first_agreeing, tells_errors, words_of}
use Rattle.ic_tree.specs.Shown.{AreSeparators, CanBeShown, SpeaksBeside, decimal_of, found_in, list_of, shown_meaning}
use Rattle.ic_tree.specs.Spelling.{SpellsWhatItReads}
use Rattle.ic_tree.specs.Stored.{SpeaksWell}
use Rattle.ic_tree.specs.laws.A1Ends.{a1_begins, a1_form, a1_stops, no_rows}
use Rattle.ic_tree.specs.laws.EitherLaws.{law_error_shape_either, law_errors_apart_either, law_finds_agreeing_either, law_finds_word_either, or_else_cases}
use Rattle.ic_tree.specs.laws.EndLaws.{more_after, no_less_after}
use Rattle.ic_tree.specs.laws.LanguageLaws.{found_below, law_boolean_shape, law_booleans, law_differ, law_errors, law_function_shape, law_special, size_of, some_at}
use Rattle.ic_tree.specs.laws.NameLaws.{amount_first, form_parts, letter_begins_word, variable_form}
use Rattle.ic_tree.specs.laws.ReferenceLaws.{at_local, at_word, law_begins, law_front, local_short, no_sheet_at_digit, place_alone}
use Rattle.ic_tree.specs.laws.StoredLaws.{speaks_well, written_sheet}

only : {X : Type 0} (b : Bool) (o : Option X) (x : X) → cond b o None ≡ Some x → o ≡ Some x
only true o x e = e
only false o x e = absurd (none-some x e)

neither : {X : Type 0} (b : Bool) (o : Option X) → o ≡ None → cond b o None ≡ None
neither true o e = e
neither false o e = refl

-- what stands after the digits of an amount before an end is no digit and no colon
separator_apart : (list decimal : ℕ) → AreSeparators list decimal → (is_digit decimal ≡ false) × ((decimal == 58) ≡ false)
separator_apart list decimal (inl s) = (ap is_digit s.1, ap (λ c. c == 58) s.1)
separator_apart list decimal (inr s) = (ap is_digit s.1, ap (λ c. c == 58) s.1)

-- the text of an amount with an end after it: digits, and what is no digit and no colon
record Parts (text : List ℕ) : Type 0 where
  pub digits : List ℕ
  pub tail : List ℕ
  pub whole : text ≡ digits ++ tail
  pub all : all_ascii_digits digits ≡ true
  pub no_digit : first_is is_digit tail ≡ false
  pub no_colon : first_is (λ c. c == 58) tail ≡ false

amount_parts : (separator units : ℕ) (rest : List ℕ) → units < 10 ^ 27 → is_digit separator ≡ false → (separator == 58) ≡ false → IsEnd rest → Parts (unsigned_text separator units ++ rest)
amount_parts separator units rest small digit colon e =
    let large : units / units_of_one < 2 ^ 64 = omega arith in
    let all : all_ascii_digits (decimal (units / units_of_one)) ≡ true = digits_decimal numerals (units / units_of_one) large in
    elim (cases_Bool (units % units_of_one == 0)) [
      | inl z ↦ record {
        digits = decimal (units / units_of_one);
        tail = rest;
        whole = rw z (append_assoc (decimal (units / units_of_one)) [] rest);
        all = all;
        no_digit = end_digit rest e;
        no_colon = end_colon rest e;
      }
      | inr f ↦ record {
        digits = decimal (units / units_of_one);
        tail = separator ∷ fraction_digits 9 (units % units_of_one) ++ rest;
        whole = rw f (append_assoc (decimal (units / units_of_one)) (separator ∷ fraction_digits 9 (units % units_of_one)) rest);
        all = all;
        no_digit = digit;
        no_colon = colon;
      }
    ]

module _ (row column : ℤ) where
  abbrev read : List ℕ → Option (RefToken × List ℕ)
  read text = reference_at (a1_place_at row column) text

  -- what is read in a cell is read in any
  in_cell : (text rest : List ℕ) (r : RefToken) → a1_at row column text ≡ Some (r, rest) → read text ≡ Some (r, rest)
  in_cell text rest r e = only (is_row row && is_column column) (read text) (r, rest) e

  shown_front : (text rest : List ℕ) (r : RefToken) → a1_at row column text ≡ Some (r, rest) → (front : List ℕ) × (front ≢ []) × (text ≡ front ++ rest)
  shown_front text rest r e =
      law_front (a1_place_at row column) (SpellsPlace row column) (finds_longest_place row column) (place_no_bang row column) (a1_begins row column) (a1_stops row column) text rest r (in_cell text rest r e)

  shown_begins : (text : List ℕ) → first_is begins_reference text ≡ false → a1_at row column text ≡ None
  shown_begins text h =
      neither (is_row row && is_column column) (read text)
      (law_begins (a1_place_at row column) (SpellsPlace row column) (finds_longest_place row column) (place_no_bang row column) (a1_begins row column) (a1_stops row column) text h)

  shown_at_word : (word rest after : List ℕ) (r : RefToken) → first_is begins_word word ≡ true → list_all is_word_character word ≡ true → IsEnd rest → a1_at row column (word ++ rest) ≡ Some (r, after)
      → (p : Place) × (front : List ℕ) × (word ++ rest ≡ front ++ after) × SpellsPlace row column front p × (length front ≤ length word)
  shown_at_word word rest after r b w e h =
      at_word (a1_place_at row column) (SpellsPlace row column) (finds_longest_place row column) (place_no_bang row column) (a1_begins row column) (a1_stops row column) word rest after r b w e (in_cell (word ++ rest) after r h)

  shown_reads_spelled : (r : RefToken) (rest : List ℕ) → is_shown_spellable row column r ≡ true → IsEnd rest → a1_at row column ((sheet_text r.sheet ++ place_text row column r.place) ++ rest) ≡ Some (r, rest)
  shown_reads_spelled r rest h e = let p = and_parts (is_spellable row column r) (is_written_sheet r.sheet) h in a1_again row column r rest p.0 (sheet_named r.sheet p.1) e

  variable_shorter : (name rest after : List ℕ) (r : RefToken) → is_variable_form name ≡ true → IsEnd rest → a1_at row column (name ++ rest) ≡ Some (r, after) → length rest < length after
  variable_shorter name rest after r v e h =
      let f = form_parts name v in
      let q = shown_at_word name rest after r f.begins f.all e h in
      more_after name q.1 rest after q.2 q.4
      (λ same.
      let s : SpellsPlace row column name q.0 = subst (λ t. SpellsPlace row column t q.0) same q.3 in
      both_ways (is_a1_cell name) f.no_cell (a1_form row column name q.0 s f.all))

  -- beside words with their sheets
  no_variable : (word : List ℕ) (p : Place) → is_variable_form word ≡ true → SpellsPlace row column word p → ⊥
  no_variable word p v s = let f = form_parts word v in both_ways (is_a1_cell word) f.no_cell (a1_form row column word p s f.all)

  no_sheet : (text : List ℕ) (p : Place) (rest : List ℕ) → SpellsPlace row column text p → IsEnd rest → sheet_at (text ++ rest) ≡ None
  no_sheet text p rest s e = place_no_sheet text rest (place_is_text row column text p s) e

  shown_within_local : (sheet word rest after : List ℕ) (r : RefToken) → is_sheet_name sheet ≡ true → is_identifier word ≡ true → IsEnd rest → a1_at row column (local_text sheet word ++ rest) ≡ Some (r, after) → length rest < length after
  shown_within_local sheet word rest after r s w e h =
      at_local (a1_place_at row column) (SpellsPlace row column) (finds_longest_place row column) (place_no_bang row column) (a1_begins row column) (a1_stops row column) no_variable sheet word rest after r s w e (in_cell (local_text sheet word ++ rest) after r h)

  shown_local_within : (r : RefToken) (sheet word rest after : List ℕ) → is_shown_spellable row column r ≡ true → IsEnd rest → read_local ((sheet_text r.sheet ++ place_text row column r.place) ++ rest) ≡ Some ((sheet, word), after) → length rest < length after
  shown_local_within r sheet word rest after can e h =
      let text = (sheet_text r.sheet ++ place_text row column r.place) ++ rest in
      local_short (a1_place_at row column) (SpellsPlace row column) (finds_longest_place row column) (place_no_bang row column) (a1_begins row column) (a1_stops row column) no_variable no_sheet text sheet word rest after r e (in_cell text rest r (shown_reads_spelled r rest can e)) h

  amount_none : (separator units : ℕ) (rest after : List ℕ) (r : RefToken) → units < 10 ^ 27 → is_digit separator ≡ false → (separator == 58) ≡ false → IsEnd rest → a1_at row column (unsigned_text separator units ++ rest) ≡ Some (r, after) → ⊥
  amount_none separator units rest after r small digit colon e h =
      let text = unsigned_text separator units ++ rest in
      let first = amount_first separator units rest small in
      let parts = amount_parts separator units rest small digit colon e in
      let q = place_alone (a1_place_at row column) (SpellsPlace row column) (finds_longest_place row column) (place_no_bang row column) (a1_begins row column) (a1_stops row column) text after r (no_sheet_at_digit text first) (in_cell text after r h) in
      let l = q.1 in
      no_rows row column parts.digits parts.tail l.front after q.0 parts.all (sym (ap (first_is is_digit) parts.whole) ∙ first) parts.no_digit parts.no_colon (sym parts.whole ∙ l.whole) l.spelled

shorter : (l english : Language) (list decimal : ℕ) (row column : ℤ) → SpeaksWell l → AreSeparators list decimal → (text rest after : List ℕ) (r : RefToken) → IsWordOrAmount (shown_meaning l english list decimal row column) text → IsEnd rest → a1_at row column (text ++ rest) ≡ Some (r, after) → length rest < length after
shorter l english list decimal row column w s _ rest after r (IsWordOrAmount.OfAmount units small) e h =
    let apart = separator_apart list decimal s in absurd (amount_none row column decimal units rest after r small apart.0 apart.1 e h)
shorter l english list decimal row column w s text rest after r (IsWordOrAmount.OfBoolean n word found) e h = variable_shorter row column text rest after r (law_boolean_shape l w n text found) e h
shorter l english list decimal row column w s text rest after r (IsWordOrAmount.OfVariable name v) e h = variable_shorter row column text rest after r (variable_form text v) e h

within : (l : Language) (row column : ℤ) → SpeaksWell l → (n : ℕ) (word rest after : List ℕ) (r : RefToken) → slice_get (words_of l kinds.Function) n ≡ Some word → IsEnd rest → a1_at row column (word ++ rest) ≡ Some (r, after) → length rest ≤ length after
within l row column w n word rest after r found e h =
    let p = and_parts (first_is is_letter word) (list_all is_word_character word) (law_function_shape l w n word found) in
    let q = shown_at_word row column word rest after r (letter_begins_word word p.0) p.1 e h in
    no_less_after word q.1 rest after q.2 q.4

pub shown_laws : (l english : Language) (list decimal : ℕ) (row column : ℤ) → SpeaksBeside l english → AreSeparators list decimal → IsLawful (shown_meaning l english list decimal row column)
shown_laws l english list decimal row column w s = record {
  separators = s;
  booleans = law_booleans l;
  errors = law_errors l;
  special = law_special l w.words;
  special_differ = law_differ l w.words;
  finds_word = law_finds_word_either l english w.words;
  finds_agreeing = law_finds_agreeing_either l english;
  boolean_shape = law_boolean_shape l w.words;
  function_shape = law_function_shape l w.words;
  error_shape = law_error_shape_either l english w;
  errors_apart = law_errors_apart_either l english w;
  reference_front = shown_front row column;
  reads_spelled = shown_reads_spelled row column;
  reference_begins = shown_begins row column;
  shorter_than = shorter l english list decimal row column w.words s;
  within_function = within l row column w.words;
  within_local = shown_within_local row column;
  local_within = shown_local_within row column;
}

-- ---- what is read can be spelled, and what can be spelled lies in the sheet

shown_written : (row column : ℤ) (text : List ℕ) (r : RefToken) → SpellsA1 row column text r → is_shown_spellable row column r ≡ true
shown_written row column text r s =
    let x = s.reference in
    and_from (is_spellable row column r) (is_written_sheet r.sheet)
    (and_from (is_row row && is_column column) (is_inside r.place row column) (and_from (is_row row) (is_column column) s.in_row s.in_column) (place_inside row column x.place_text r.place x.place))
    (written_sheet x.sheet_text r.sheet x.sheet)

shown_reads : (row column : ℤ) (text rest : List ℕ) (r : RefToken) → a1_at row column text ≡ Some (r, rest) → is_shown_spellable row column r ≡ true
shown_reads row column text rest r e =
    let l : IsLongest (SpellsA1 row column) text r rest = subst (λ f. FindsLongest (SpellsA1 row column) text f) e (finds_a1 row column text) in
    shown_written row column l.front r l.spelled

-- as many words of a kind as in English
same_count : (l english : Language) → SpeaksBeside l english → (kind : WordKind) → length (words_of english kind) ≡ length (words_of l kind)
same_count l english w kinds.Boolean = refl
same_count l english w kinds.Error = refl
same_count l english w kinds.Function = w.counted

pub found_below_either : (l english : Language) → SpeaksBeside l english → (kind : WordKind) (text : List ℕ) (n : ℕ) → found_in l english kind text ≡ Some n → n < length (words_of l kind)
found_below_either l english w kind text n e =
    elim (or_else_cases (first_agreeing (words_of l kind) text) (first_agreeing (words_of english kind) text) n e) [
      | inl a ↦ found_below l kind text n a
      | inr b ↦ subst (λ m. n < m) (same_count l english w kind) (found_below english kind text n b)
    ]

pub shown_spells : (l english : Language) (list decimal : ℕ) (row column : ℤ) → SpeaksBeside l english → SpellsWhatItReads (shown_meaning l english list decimal row column)
shown_spells l english list decimal row column w = record {
  references = shown_reads row column;
  words = λ kind text n e. some_at (words_of l kind) n (found_below_either l english w kind text n e);
}

-- the shown form can spell exactly what lies in the sheet at its cell
pub can_spell_inside : (l english : Language) (list decimal : ℕ) (row column : ℤ) (r : RefToken) → (shown_meaning l english list decimal row column).can_spell r ≡ true → CanBeShown row column r
can_spell_inside l english list decimal row column r h =
    let a = and_parts (is_spellable row column r) (is_written_sheet r.sheet) h in
    let b = and_parts (is_row row && is_column column) (is_inside r.place row column) a.0 in
    let c = and_parts (is_row row) (is_column column) b.0 in
    record { in_row = c.0; in_column = c.1; inside = b.1; sheet = sheet_named r.sheet a.1 }

pub inside_can_spell : (l english : Language) (list decimal : ℕ) (row column : ℤ) (r : RefToken) → CanBeShown row column r → (shown_meaning l english list decimal row column).can_spell r ≡ true
inside_can_spell l english list decimal row column r s =
    and_from (is_spellable row column r) (is_written_sheet r.sheet)
    (and_from (is_row row && is_column column) (is_inside r.place row column) (and_from (is_row row) (is_column column) s.in_row s.in_column) s.inside)
    (named_sheet r.sheet s.sheet)
  where
    named_sheet : (sheet : Option (List ℕ)) → IfSome sheet (λ name. is_sheet_name name ≡ true) → is_written_sheet sheet ≡ true
    named_sheet None h = refl
    named_sheet (Some name) h = h

-- ---- the facts from those on tables

-- a language of tables that meet their conditions, beside their English
pub speaks_beside : (t : TableSet) (l e : Language) → HasGoodWords t l → HasGoodWords t e → language_of t (codes "en") ≡ Some e → SpeaksBeside l e
speaks_beside t l e g h found = record {
  words = speaks_well t l g;
  english_errors = h.errors;
  told = subst (λ ws. tells_errors ws l ≡ true) (ap error_words_in found) g.errors_told;
  counted = size_of e (length t.kinds) h.numbers ∙ sym (size_of l (length t.kinds) g.numbers);
}

-- a language that the tables gave under some code is found by its own
pub found_by_its_code : (t : TableSet) (code : List ℕ) (l : Language) → language_of t code ≡ Some l → language_of t l.code ≡ Some l
found_by_its_code t code l found = ap (language_of t) (language_among t code l found).1 ∙ found

-- the two pairs of separators
pub separators_of : (comma : Bool) → AreSeparators (list_of comma) (decimal_of comma)
separators_of true = inr (refl, refl)
separators_of false = inl (refl, refl)
