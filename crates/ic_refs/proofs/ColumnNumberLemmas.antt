-- The column that a text names, by its tests one after the other.
use Rattle.std.proofs.Common.{◌≡◌, ◌≢◌, ℕ, pos, ◌≤◌, List, [], ◌∷◌, ◌++◌, true, nat_lt, nat_le, chars, encode_utf8_all, IsUtf8, length, Ok, Err, refl, sym, ◌∙◌, ap, arith}
use Rattle.std.specs.List.{list_all}
use Rattle.std.proofs.lemmas.Bool.{le-leb, leb-true, false_from_ne_true}
use Rattle.std.proofs.lemmas.List.{append-nil, nil_from_length}
use Rattle.std.proofs.lemmas.Str.{encodes-chars, chars-nil}
use Rattle.ic_laws.specs.Position.{letter_digit, letters_number}
use Rattle.ic_laws.specs.Scan.{is_upper, is_ascii_letter}
use Rattle.ic_refs.specs.Digits.{letters_from}
use Rattle.ic_refs.specs.Column.{column_number}
use Rattle.ic_refs.specs.Digits.{number_value}
use Rattle.ic_refs.specs.declared.error.ColumnError.TheVariants as errors
use Rattle.ic_refs.proofs.DigitsLemmas.{read_past, number_taken}
use Rattle.ic_refs.proofs.A1NumberLemmas.{letters_value}
use Rattle.ic_refs.proofs.ColumnLemmas.{upper_letters}

-- a text without bytes has no characters, and one with bytes has some
pub empty_chars : (bytes : List ℕ) → length bytes ≡ 0 → chars bytes ≡ []
empty_chars bytes e = ap chars (nil_from_length bytes e) ∙ chars-nil

pub some_chars : (bytes : List ℕ) → IsUtf8 bytes → length bytes ≢ 0 → chars bytes ≢ []
some_chars bytes u n e = n (ap length (sym (encodes-chars bytes u) ∙ ap encode_utf8_all e))

pub number_empty : (cs : List ℕ) → cs ≡ [] → column_number cs ≡ Err errors.Empty
number_empty cs e = ap column_number e

-- all letters are read where the column is one of the sheet, and else not all of them
all_read : (cs : List ℕ) (n : ℕ) → letters_from 0 cs ≡ (n, []) → (letters_number cs ≡ n) × (n ≤ 16384)
all_read cs n r =
    let t = number_taken is_ascii_letter letter_digit 26 16384 0 cs in
    let none : (letters_from 0 cs).1 ≡ [] = ap (λ (f : ℕ × List ℕ). f.1) r in
    let number : (letters_from 0 cs).0 ≡ n = ap (λ (f : ℕ × List ℕ). f.0) r in
    let whole : cs ≡ t.front = t.whole ∙ ap (λ v. t.front ++ v) none ∙ append-nil t.front in
    (ap letters_number whole ∙ sym (letters_value t.front) ∙ sym t.number ∙ number, omega (arith, number, t.within (omega arith)))

not_all_read : (cs : List ℕ) (n d : ℕ) (ds : List ℕ) → list_all is_ascii_letter cs ≡ true → letters_from 0 cs ≡ (n, d ∷ ds) → letters_number cs ≤ 16384 → ⊥
not_all_read cs n d ds a r h =
    let whole : letters_from 0 (cs ++ []) ≡ (number_value letter_digit 26 0 cs, []) =
    read_past is_ascii_letter letter_digit 26 16384 0 cs [] (omega arith) a (omega (arith, letters_value cs, h)) in
    let none : [] ≡ d ∷ ds = ap (λ (f : ℕ × List ℕ). f.1) (sym whole ∙ ap (letters_from 0) (append-nil cs) ∙ r) in
    absurd (cc)

pub number_read : (cs rest : List ℕ) (n : ℕ) → cs ≢ [] → list_all (λ c. nat_lt c 128) cs ≡ true → list_all is_upper cs ≡ true → (n, rest) ≡ letters_from 0 cs → rest ≡ [] → Ok (pos n) ≡ column_number cs
number_read [] rest n e a u r nothing = absurd (e refl)
number_read (c ∷ cs) rest n e a u r nothing =
    let all = all_read (c ∷ cs) n (sym r ∙ ap (λ (v : List ℕ). (n, v)) nothing) in
    rw (a, u, le-leb (letters_number (c ∷ cs)) 16384 (omega (arith, all.0, all.1))) (ap (λ k. Ok (pos k)) (sym all.0))

pub number_over : (cs rest : List ℕ) (n d : ℕ) (ds : List ℕ) → cs ≢ [] → list_all (λ c. nat_lt c 128) cs ≡ true → list_all is_upper cs ≡ true → (n, rest) ≡ letters_from 0 cs → rest ≡ d ∷ ds
    → Err errors.NotValid ≡ column_number cs
number_over [] rest n d ds e a u r some = absurd (e refl)
number_over (c ∷ cs) rest n d ds e a u r some =
    rw (
      a,
      u,
      false_from_ne_true (nat_le (letters_number (c ∷ cs)) 16384)
          (λ low. not_all_read (c ∷ cs) n d ds (upper_letters (c ∷ cs) u) (sym r ∙ ap (λ (v : List ℕ). (n, v)) some) (leb-true (letters_number (c ∷ cs)) 16384 low)),
    ) refl
