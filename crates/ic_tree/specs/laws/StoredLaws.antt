-- The stored form meets the laws of a notation.
use Rattle.std.proofs.Common.{◌≡◌, ◌≢◌, ℕ, ◌<◌, ◌≤◌, List, [], ◌∷◌, ◌++◌, Bool, true, false, not, ◌||◌, length, Option, Some, None, refl, sym, subst, ◌∙◌, ap, inl}
use Rattle.std.specs.List.{list_all, slice_get}
use Rattle.std.proofs.lemmas.Bool.{and_from, and_parts, both_ways}
use Rattle.ucd_derived.proofs.Computing.{ucd_derived}
use Rattle.ic_laws.specs.Amount.{unsigned_text}
use Rattle.ic_laws.specs.Scan.{IsEnd, begins_word, first_is, is_digit, is_letter, is_word_character}
use Rattle.ic_laws.specs.Name.{has_row_column_form, is_identifier, is_lone, is_sheet_name, is_variable_form}
use Rattle.ic_laws.specs.Dialect.{IsLawful, IsWordOrAmount, begins_reference}
use Rattle.ic_laws.specs.Position.{is_part_within, is_place_within}
use Rattle.ic_laws.specs.Tree.{is_written_sheet}
use Rattle.ic_laws.specs.declared.dialect.WordKind.TheVariants as kinds
use Rattle.ic_laws.specs.declared.reference.Place.{Place}
use Rattle.ic_laws.specs.declared.reference.Place.TheVariants as places
use Rattle.ic_laws.specs.declared.reference.RefToken.{RefToken}
use Rattle.ic_refs.specs.Longest.{FindsLongest, IsLongest}
use Rattle.ic_laws.specs.SheetText.{SpellsSheet, local_text, read_local}
use Rattle.ic_refs.specs.Sheet.{SpellsReference, reference_at}
use Rattle.ic_refs.specs.Stored.{SpellsPlace, is_stored_spellable, stored_place_at, stored_text}
use Rattle.ic_refs.proofs.ReferenceLemmas.{finds_reference}
use Rattle.ic_refs.proofs.StoredReachLemmas.{finds_longest_place}
use Rattle.ic_refs.proofs.StoredReferenceLemmas.{no_sheet_at_place, stored_spelled}
use Rattle.ic_refs.proofs.StoredTextLemmas.{no_bang_in_place, place_begins}
use Rattle.ic_tables.specs.Words.{words_of}
use Rattle.ic_tables.specs.Tables.{HasGoodWords, TableSet, english, error_words_in}
use Rattle.ic_tables.specs.declared.language.Language.{Language}
use Rattle.ic_tree.specs.Spelling.{SpellsWhatItReads}
use Rattle.ic_tree.specs.Stored.{SpeaksWell, stored_meaning}
use Rattle.ic_tree.specs.laws.EndLaws.{more_after, no_less_after}
use Rattle.ic_tree.specs.laws.StoredPlaces.{place_form, place_stops}
use Rattle.ic_tree.specs.laws.LanguageLaws.{found_is_word, law_boolean_shape, law_booleans, law_differ, law_error_shape, law_errors, law_errors_apart, law_finds_agreeing, law_finds_word, law_function_shape, law_special, numbers_own, told_alone}
use Rattle.ic_tree.specs.laws.NameLaws.{amount_first, form_parts, letter_begins_word, variable_form}
use Rattle.ic_tree.specs.laws.ReferenceLaws.{Begins, at_local, at_word, law_begins, law_front, local_short, no_sheet_at_digit, place_alone}

row_begins : begins_reference 82 ≡ true
unfolding ucd_derived
row_begins = refl

stored_begins : (text : List ℕ) (p : Place) → SpellsPlace text p → Begins text
stored_begins text p s = let b = place_begins text p s in (82, b.0, b.1, row_begins)

abbrev read : List ℕ → Option (RefToken × List ℕ)
read text = reference_at stored_place_at text

stored_front : (text rest : List ℕ) (r : RefToken) → read text ≡ Some (r, rest) → (front : List ℕ) × (front ≢ []) × (text ≡ front ++ rest)
stored_front = law_front stored_place_at SpellsPlace finds_longest_place no_bang_in_place stored_begins place_stops

stored_reference_begins : (text : List ℕ) → first_is begins_reference text ≡ false → read text ≡ None
stored_reference_begins = law_begins stored_place_at SpellsPlace finds_longest_place no_bang_in_place stored_begins place_stops

stored_at_word : (word rest after : List ℕ) (r : RefToken) → first_is begins_word word ≡ true → list_all is_word_character word ≡ true → IsEnd rest → read (word ++ rest) ≡ Some (r, after)
    → (p : Place) × (front : List ℕ) × (word ++ rest ≡ front ++ after) × SpellsPlace front p × (length front ≤ length word)
stored_at_word = at_word stored_place_at SpellsPlace finds_longest_place no_bang_in_place stored_begins place_stops

not_both : (lone form : Bool) → (lone || not form) ≡ true → form ≡ true → lone ≡ false → ⊥
not_both true form h f l = cc
not_both false true h f l = cc
not_both false false h f l = cc

-- before an end, a reference is shorter than a variable
variable_shorter : (name rest after : List ℕ) (r : RefToken) → is_variable_form name ≡ true → IsEnd rest → read (name ++ rest) ≡ Some (r, after) → length rest < length after
variable_shorter name rest after r v e h =
    let f = form_parts name v in
    let q = stored_at_word name rest after r f.begins f.all e h in
    more_after name q.1 rest after q.2 q.4
    (λ same.
    let s : SpellsPlace name q.0 = subst (λ t. SpellsPlace t q.0) same q.3 in
    let k = place_form name q.0 s f.all in
    not_both (is_lone name) (has_row_column_form name) f.no_row k.0 k.1)

-- beside words with their sheets
no_variable : (word : List ℕ) (p : Place) → is_variable_form word ≡ true → SpellsPlace word p → ⊥
no_variable word p v s = let f = form_parts word v in let k = place_form word p s f.all in not_both (is_lone word) (has_row_column_form word) f.no_row k.0 k.1

within_local : (sheet word rest after : List ℕ) (r : RefToken) → is_sheet_name sheet ≡ true → is_identifier word ≡ true → IsEnd rest → read (local_text sheet word ++ rest) ≡ Some (r, after) → length rest < length after
within_local = at_local stored_place_at SpellsPlace finds_longest_place no_bang_in_place stored_begins place_stops no_variable

local_within : (r : RefToken) (sheet word rest after : List ℕ) → is_stored_spellable r ≡ true → IsEnd rest → read_local (stored_text r ++ rest) ≡ Some ((sheet, word), after) → length rest < length after
local_within r sheet word rest after can e h =
    local_short stored_place_at SpellsPlace finds_longest_place no_bang_in_place stored_begins place_stops no_variable no_sheet_at_place (stored_text r ++ rest) sheet word rest after r e (stored_spelled r rest can e) h

-- where no reference begins with a digit
no_digit : is_digit 82 ≡ false
no_digit = refl

digit_none : (text after : List ℕ) (r : RefToken) → first_is is_digit text ≡ true → read text ≡ Some (r, after) → ⊥
digit_none text after r d e =
    let q = place_alone stored_place_at SpellsPlace finds_longest_place no_bang_in_place stored_begins place_stops text after r (no_sheet_at_digit text d) e in
    let l = q.1 in
    let b = place_begins l.front q.0 l.spelled in
    let here : text ≡ 82 ∷ b.0 ++ after = l.whole ∙ ap (λ t. t ++ after) b.1 in
    both_ways (is_digit 82) no_digit (sym (ap (first_is is_digit) here) ∙ d)

shorter : (l : Language) → SpeaksWell l → (text rest after : List ℕ) (r : RefToken) → IsWordOrAmount (stored_meaning l) text → IsEnd rest → read (text ++ rest) ≡ Some (r, after) → length rest < length after
shorter l w _ rest after r (IsWordOrAmount.OfAmount units small) e h = absurd (digit_none (unsigned_text 46 units ++ rest) after r (amount_first 46 units rest small) h)
shorter l w text rest after r (IsWordOrAmount.OfBoolean n word found) e h = variable_shorter text rest after r (law_boolean_shape l w n text found) e h
shorter l w text rest after r (IsWordOrAmount.OfVariable name v) e h = variable_shorter text rest after r (variable_form text v) e h

within : (l : Language) → SpeaksWell l → (n : ℕ) (word rest after : List ℕ) (r : RefToken) → slice_get (words_of l kinds.Function) n ≡ Some word → IsEnd rest → read (word ++ rest) ≡ Some (r, after) → length rest ≤ length after
within l w n word rest after r found e h =
    let p = and_parts (first_is is_letter word) (list_all is_word_character word) (law_function_shape l w n word found) in
    let q = stored_at_word word rest after r (letter_begins_word word p.0) p.1 e h in
    no_less_after word q.1 rest after q.2 q.4

pub stored_laws : (l : Language) → SpeaksWell l → IsLawful (stored_meaning l)
stored_laws l w = record {
  separators = inl (refl, refl);
  booleans = law_booleans l;
  errors = law_errors l;
  special = law_special l w;
  special_differ = law_differ l w;
  finds_word = law_finds_word l w;
  finds_agreeing = law_finds_agreeing l;
  boolean_shape = law_boolean_shape l w;
  function_shape = law_function_shape l w;
  error_shape = law_error_shape l w;
  errors_apart = law_errors_apart l w;
  reference_front = stored_front;
  reads_spelled = stored_spelled;
  reference_begins = stored_reference_begins;
  shorter_than = shorter l w;
  within_function = within l w;
  within_local = within_local;
  local_within = local_within;
}

-- ---- what is read can be spelled

cell_within : (text : List ℕ) (p : Place) → SpellsPlace text p → is_place_within p ≡ true
cell_within text (places.Cell part) s = s.within
cell_within text (places.Range first last) s = and_from (is_part_within first) (is_part_within last) s.3.within s.4.within

pub written_sheet : (text : List ℕ) (sheet : Option (List ℕ)) → SpellsSheet text sheet → is_written_sheet sheet ≡ true
written_sheet text None s = refl
written_sheet text (Some name) s = s.0

reads_spellable : (text rest : List ℕ) (r : RefToken) → read text ≡ Some (r, rest) → is_stored_spellable r ≡ true
reads_spellable text rest r e =
    let l : IsLongest (SpellsReference SpellsPlace) text r rest = subst (λ f. FindsLongest (SpellsReference SpellsPlace) text f) e (finds_reference stored_place_at SpellsPlace finds_longest_place no_bang_in_place text) in
    and_from (is_place_within r.place) (is_written_sheet r.sheet) (cell_within l.spelled.place_text r.place l.spelled.place) (written_sheet l.spelled.sheet_text r.sheet l.spelled.sheet)

pub stored_spells : (l : Language) → SpellsWhatItReads (stored_meaning l)
stored_spells l = record { references = reads_spellable; words = found_is_word l }

-- each language of tables that meet their conditions
pub speaks_well : (t : TableSet) (l : Language) → HasGoodWords t l → SpeaksWell l
speaks_well t l g = record {
  numbers = numbers_own l (length t.kinds) g.numbers;
  booleans = g.booleans;
  booleans_told = g.booleans_told;
  functions = g.functions;
  errors = g.errors;
  errors_told = told_alone l (error_words_in (english t.languages)) g.errors_told;
}
