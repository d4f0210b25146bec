-- Columns by their letters and rows by their digits.
use Rattle.std.proofs.Common.{◌≡◌, ℕ, ℤ, pos, ◌+◌, ◌*◌, ◌^◌, ◌≤◌, ◌<◌, List, [], ◌∷◌, ◌++◌, true, false, ◌&&◌, nat_lt, nat_le, length, Some, refl, sym, ◌∙◌, ap, arith}
use Rattle.std.specs.List.{list_all}
use Rattle.std.specs.Str.{all_ascii_digits}
use Rattle.std.specs.Str.Parse.{digits_value}
use Rattle.std.proofs.Math.Nat.{pow-suc}
use Rattle.std.proofs.lemmas.Bool.{and_parts, and_from, ltb-true, lt-ltb, leb-true, le-leb}
use Rattle.std.proofs.lemmas.Bool.Decides.{nat_tests}
use Rattle.ic_laws.specs.Scan.{is_digit, first_is, is_ascii_letter}
use Rattle.ic_laws.specs.Position.{letter_digit, letters_number}
use Rattle.ic_laws.specs.declared.reference.Position.{Position}
use Rattle.ic_refs.specs.A1.{SpellsColumn, SpellsRow, column_at, row_at}
use Rattle.ic_refs.specs.Digits.{digit_number, number_value}
use Rattle.ic_refs.proofs.DigitsDecimalLemmas.{all_digits, digits_value_on}
use Rattle.ic_refs.proofs.DigitsLemmas.{number_grows}
use Rattle.ic_refs.proofs.A1PositionLemmas.{SpellsCounted, number_at-spelled, number_at-longest, number_at-exact}
use Rattle.ic_refs.proofs.LongestLemmas.{IsTaken}

regrouped : (n d p l : ℕ) → (n * 26 + d) * p + l ≡ n * (p * 26) + (d * p + l)
regrouped n d p l = omega arith

-- letters count as in base 26
letters_value_after : (n : ℕ) (cs : List ℕ) → number_value letter_digit 26 n cs ≡ n * 26 ^ length cs + letters_number cs
letters_value_after n [] = omega arith
letters_value_after n (c ∷ cs) =
    letters_value_after (n * 26 + letter_digit c) cs ∙ rw (pow-suc 26 (length cs)) (regrouped n (letter_digit c) (26 ^ length cs) (letters_number cs))

pub letters_value : (cs : List ℕ) → number_value letter_digit 26 0 cs ≡ letters_number cs
letters_value cs = letters_value_after 0 cs ∙ omega arith

-- each letter counts
pub letter_counts : (c : ℕ) → is_ascii_letter c ≡ true → 0 < letter_digit c
letter_counts c h = grind (arith, nat_tests)

pub letters_positive : (cs : List ℕ) → 0 < length cs → list_all is_ascii_letter cs ≡ true → 0 < number_value letter_digit 26 0 cs
letters_positive [] h a = omega arith
letters_positive (c ∷ cs) h a =
    omega (arith, number_grows letter_digit 26 (0 * 26 + letter_digit c) cs (omega arith), letter_counts c (and_parts (is_ascii_letter c) (list_all is_ascii_letter cs) a).0)

pub some_digits : (value : ℕ → ℕ) (base : ℕ) (cs : List ℕ) → 0 < number_value value base 0 cs → 0 < length cs
some_digits value base [] h = absurd (omega arith)
some_digits value base (c ∷ cs) h = omega arith

-- A column is spelled as its letters' number is.
pub column_as_number : (origin : ℤ) (text : List ℕ) (position : Position) → SpellsColumn origin text position → SpellsCounted is_ascii_letter letter_digit 26 16384 origin text position
column_as_number origin text position s =
    let named = and_parts (nat_lt 0 (length s.letters) && list_all is_ascii_letter s.letters) (nat_le (letters_number s.letters) 16384) s.named in
    let parts = and_parts (nat_lt 0 (length s.letters)) (list_all is_ascii_letter s.letters) named.0 in
    record {
      digits = s.letters;
      whole = s.whole;
      all = parts.1;
      positive = letters_positive s.letters (ltb-true 0 (length s.letters) parts.0) parts.1;
      within = omega (arith, letters_value s.letters, leb-true (letters_number s.letters) 16384 named.1);
      place = s.place ∙ ap pos (sym (letters_value s.letters));
    }

pub number_as_column : (origin : ℤ) (text : List ℕ) (position : Position) → SpellsCounted is_ascii_letter letter_digit 26 16384 origin text position → SpellsColumn origin text position
number_as_column origin text position s = record {
  letters = s.digits;
  whole = s.whole;
  named = and_from (nat_lt 0 (length s.digits) && list_all is_ascii_letter s.digits) (nat_le (letters_number s.digits) 16384)
      (and_from (nat_lt 0 (length s.digits)) (list_all is_ascii_letter s.digits) (lt-ltb 0 (length s.digits) (some_digits letter_digit 26 s.digits s.positive)) s.all)
      (le-leb (letters_number s.digits) 16384 (omega (arith, letters_value s.digits, s.within)));
  place = s.place ∙ ap pos (letters_value s.digits);
}

-- A row is spelled as its digits' number is.
pub row_as_number : (origin : ℤ) (text : List ℕ) (position : Position) → SpellsRow origin text position → SpellsCounted is_digit digit_number 10 1048576 origin text position
row_as_number origin text position s =
    let n = digits_value 10 s.digits in
    let named = and_parts (all_ascii_digits s.digits && nat_lt 0 n) (nat_le n 1048576) s.named in
    let parts = and_parts (all_ascii_digits s.digits) (nat_lt 0 n) named.0 in
    let all : list_all is_digit s.digits ≡ true = sym (all_digits s.digits) ∙ parts.0 in
    let same : number_value digit_number 10 0 s.digits ≡ n = digits_value_on 0 s.digits all in
    record {
      digits = s.digits;
      whole = s.whole;
      all = all;
      positive = omega (arith, same, ltb-true 0 n parts.1);
      within = omega (arith, same, leb-true n 1048576 named.1);
      place = s.place ∙ ap pos (sym same);
    }

pub number_as_row : (origin : ℤ) (text : List ℕ) (position : Position) → SpellsCounted is_digit digit_number 10 1048576 origin text position → SpellsRow origin text position
number_as_row origin text position s =
    let n = digits_value 10 s.digits in
    let same : number_value digit_number 10 0 s.digits ≡ n = digits_value_on 0 s.digits s.all in
    record {
      digits = s.digits;
      whole = s.whole;
      named = and_from (all_ascii_digits s.digits && nat_lt 0 n) (nat_le n 1048576)
          (and_from (all_ascii_digits s.digits) (nat_lt 0 n) (all_digits s.digits ∙ s.all) (lt-ltb 0 n (omega (arith, same, s.positive))))
          (le-leb n 1048576 (omega (arith, same, s.within)));
      place = s.place ∙ ap pos same;
    }

-- what is read at the front is spelled so
pub column_at-spelled : (column : ℤ) (text : List ℕ) (found : Position × List ℕ) → column_at column text ≡ Some found → IsTaken (SpellsColumn column) text found
column_at-spelled column text found e =
    let t = number_at-spelled is_ascii_letter letter_digit 26 16384 column text found e in
    record { front = t.front; whole = t.whole; spelled = number_as_column column t.front found.0 t.spelled }

pub row_at-spelled : (row : ℤ) (text : List ℕ) (found : Position × List ℕ) → row_at row text ≡ Some found → IsTaken (SpellsRow row) text found
row_at-spelled row text found e =
    let t = number_at-spelled is_digit digit_number 10 1048576 row text found e in
    record { front = t.front; whole = t.whole; spelled = number_as_row row t.front found.0 t.spelled }

-- what is spelled is read, or more
pub column_at-longest : (column : ℤ) (front rest : List ℕ) (position : Position) → SpellsColumn column front position
    → (found : Position × List ℕ) × (column_at column (front ++ rest) ≡ Some found) × (length found.1 ≤ length rest)
column_at-longest column front rest position s =
    number_at-longest is_ascii_letter letter_digit 26 16384 column front rest position (omega arith) refl (column_as_number column front position s)

pub row_at-longest : (row : ℤ) (front rest : List ℕ) (position : Position) → SpellsRow row front position
    → (found : Position × List ℕ) × (row_at row (front ++ rest) ≡ Some found) × (length found.1 ≤ length rest)
row_at-longest row front rest position s =
    number_at-longest is_digit digit_number 10 1048576 row front rest position (omega arith) refl (row_as_number row front position s)

-- just it where no letter, and no digit, stands after it
pub column_at-exact : (column : ℤ) (front rest : List ℕ) (position : Position) → SpellsColumn column front position → first_is is_ascii_letter rest ≡ false
    → column_at column (front ++ rest) ≡ Some (position, rest)
column_at-exact column front rest position s stops =
    number_at-exact is_ascii_letter letter_digit 26 16384 column front rest position (omega arith) refl (column_as_number column front position s) stops

pub row_at-exact : (row : ℤ) (front rest : List ℕ) (position : Position) → SpellsRow row front position → first_is is_digit rest ≡ false
    → row_at row (front ++ rest) ≡ Some (position, rest)
row_at-exact row front rest position s stops =
    number_at-exact is_digit digit_number 10 1048576 row front rest position (omega arith) refl (row_as_number row front position s) stops
