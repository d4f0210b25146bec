-- Words that are numbers, by their bytes and by their characters.
use Rattle.std.proofs.Common.{◌≡◌, ◌≢◌, ℕ, ◌<◌, ◌≤◌, ◌^◌, List, [], ◌∷◌, ◌++◌, length, drop, get_or, true, false, Option, Some, None, Result, Ok, Err, OkIff, chars, IsUtf8, encode_utf8, encode_utf8_all, lit<, ℤ, pos, neg_ℤ, option_map, option_and_then, refl, ap, sym, ◌∙◌, arith, inl, inr}
use Rattle.std.specs.Int.{w32}
use Rattle.std.specs.Result.{result_ok}
use Rattle.std.specs.Str.{all_ascii_digits}
use Rattle.std.specs.Str.Parse.{ParsesSigned, ParsesUnsigned, digits_value}
use Rattle.std.proofs.lemmas.Bool.{cases_Bool}
use Rattle.std.proofs.lemmas.Bool.Decides.{eqb_tells, leb_tells}
use Rattle.std.proofs.lemmas.Str.{chars-IsAscii, IsUtf8-past_char, chars_past_char, encode_ascii, encodes-IsAscii, encodes-chars}
use Rattle.std.proofs.lemmas.Str.Parse.{parse_plain, parse_signed_minus, parse_signed_plain}
use Rattle.ic_laws.specs.Command.{at_most, index_said, number_said, position_said}
use Rattle.ic_laws.proofs.AmountLemmas.{numerals}
use Rattle.ic_laws.proofs.General.{digits_ascii, no_number as without_digits}

-- a number is the same by its bytes
same_number : (bytes : List ℕ) → IsUtf8 bytes → number_said (chars bytes) ≡ number_said bytes
same_number bytes u =
    elim (cases_Bool (all_ascii_digits bytes)) [
      | inl e ↦ ap number_said (chars-IsAscii bytes (digits_ascii bytes e))
      | inr e ↦ elim (cases_Bool (all_ascii_digits (chars bytes))) [
        | inl f ↦
            let same : chars bytes ≡ bytes = sym (encodes-IsAscii (chars bytes) (digits_ascii (chars bytes) f)) ∙ encodes-chars bytes u in
            let no : all_ascii_digits (chars bytes) ≡ false = ap all_ascii_digits same ∙ e in
            absurd (cc)
        | inr f ↦ without_digits (chars bytes) f ∙ sym (without_digits bytes e)
      ]
    ]

pub same_index : (bytes : List ℕ) → IsUtf8 bytes → index_said (chars bytes) ≡ index_said bytes
same_index bytes u = ap (option_and_then (at_most 4294967295)) (same_number bytes u)

abbrev below_zero : Option ℕ → Option ℤ
below_zero number = option_map (λ n. neg_ℤ (pos n)) (option_and_then (at_most 2147483648) number)

abbrev from_zero : Option ℕ → Option ℤ
from_zero number = option_map pos (option_and_then (at_most 2147483647) number)

plain_position : (cs : List ℕ) → get_or cs 0 0 ≢ 45 → position_said cs ≡ from_zero (number_said cs)
plain_position [] h = refl
plain_position (c ∷ cs) h = elim (eqb_tells c 45) [ inl p ↦ absurd (h p.1) | inr p ↦ rw p.0 refl ]

minus_first : (cs : List ℕ) → get_or cs 0 0 ≡ 45 → cs ≡ 45 ∷ drop 1 cs
minus_first [] h = absurd (omega (arith, h))
minus_first (c ∷ cs) h = ap (λ x. x ∷ cs) h

minus_byte : (cs : List ℕ) (bytes : List ℕ) → encode_utf8_all cs ≡ bytes → get_or cs 0 0 ≡ 45 → get_or bytes 0 0 ≡ 45
minus_byte cs bytes e h =
    ap (λ b. get_or b 0 0) (sym e ∙ ap encode_utf8_all (minus_first cs h) ∙ ap (λ front. front ++ encode_utf8_all (drop 1 cs)) (encode_ascii 45 (lit< tt)))

pub same_position : (bytes : List ℕ) → IsUtf8 bytes → position_said (chars bytes) ≡ position_said bytes
same_position bytes u =
    elim (eqb_tells (get_or bytes 0 0) 45) [
      | inl p ↦
          let cut : bytes ≡ 45 ∷ drop 1 bytes = minus_first bytes p.1 in
          let spelled : bytes ≡ encode_utf8 45 ++ drop 1 bytes = cut ∙ ap (λ front. front ++ drop 1 bytes) (sym (encode_ascii 45 (lit< tt))) in
          ap position_said (chars_past_char bytes (drop 1 bytes) 45 u spelled)
          ∙ ap below_zero (same_number (drop 1 bytes) (IsUtf8-past_char bytes (drop 1 bytes) 45 u spelled)) ∙ ap position_said (sym cut)
      | inr p ↦
          plain_position (chars bytes) (λ h. p.1 (minus_byte (chars bytes) bytes (encodes-chars bytes u) h))
          ∙ ap from_zero (same_number bytes u) ∙ sym (plain_position bytes p.1)
    ]

-- what is read of digits, up to a number
abbrev IsUpTo : ℕ → List ℕ → Type 0
IsUpTo most ds = (all_ascii_digits ds ≡ true) × (0 < length ds) × (digits_value 10 ds ≤ most)

read_up_to : {T E : Type 0} (f : ℕ → T) (most : ℕ) (ds : List ℕ) (r : Result T E) → OkIff r (IsUpTo most ds) (f (digits_value 10 ds)) → result_ok r ≡ option_map f (option_and_then (at_most most) (number_said ds))
read_up_to f most [] (Ok x) h = absurd (omega (arith, h.0.1))
read_up_to f most [] (Err e) h = refl
read_up_to f most (c ∷ cs) (Ok x) h =
    elim (leb_tells (digits_value 10 (c ∷ cs)) most) [
      | inl p ↦ rw (h.0.0, p.0, h.1) refl
      | inr p ↦ absurd (omega (arith, h.0.2, p.1))
    ]
read_up_to f most (c ∷ cs) (Err e) h =
    elim (cases_Bool (all_ascii_digits (c ∷ cs))) [
      | inl d ↦ elim (leb_tells (digits_value 10 (c ∷ cs)) most) [
        | inl p ↦ absurd (h (d, omega arith, p.1))
        | inr p ↦ rw (d, p.0) refl
      ]
      | inr d ↦ rw d refl
    ]

same_cause : {T E : Type 0} (r : Result T E) (P Q : Type 0) (v : T) → (P → Q) → (Q → P) → OkIff r P v → OkIff r Q v
same_cause (Ok x) P Q v f g h = (f h.0, h.1)
same_cause (Err e) P Q v f g h = λ q. h (g q)

itself : (o : Option ℕ) → option_map (λ n. n) o ≡ o
itself None = refl
itself (Some n) = refl

-- what an index is read as
pub index_parsed : {E : Type 0} (bytes : List ℕ) (r : Result ℕ E) → get_or bytes 0 0 ≢ 43 → ParsesUnsigned 32 10 bytes r → result_ok r ≡ index_said bytes
index_parsed bytes r plus parsed =
    read_up_to (λ n. n) 4294967295 bytes r
    (same_cause r ((all_ascii_digits bytes ≡ true) × (0 < length bytes) × (digits_value 10 bytes < 2 ^ 32)) (IsUpTo 4294967295 bytes) (digits_value 10 bytes)
    (λ h. (h.0, h.1, omega (arith, h.2))) (λ h. (h.0, h.1, omega (arith, h.2))) (parse_plain numerals 32 bytes r parsed plus))
    ∙ itself (index_said bytes)

pub index_plus : (bytes : List ℕ) → get_or bytes 0 0 ≡ 43 → index_said bytes ≡ None
index_plus [] h = refl
index_plus (c ∷ cs) h = ap (λ x. index_said (x ∷ cs)) h

-- what a position is read as
pub position_parsed : {E : Type 0} (bytes : List ℕ) (r : Result ℤ E) → get_or bytes 0 0 ≢ 43 → ParsesSigned w32 10 bytes r → result_ok r ≡ position_said bytes
position_parsed bytes r plus parsed =
    elim (eqb_tells (get_or bytes 0 0) 45) [
      | inl p ↦
          let ds : List ℕ = drop 1 bytes in
          read_up_to (λ n. neg_ℤ (pos n)) 2147483648 ds r
          (same_cause r ((all_ascii_digits ds ≡ true) × (0 < length ds) × (digits_value 10 ds ≤ 2 ^ 31)) (IsUpTo 2147483648 ds) (neg_ℤ (pos (digits_value 10 ds)))
          (λ h. (h.0, h.1, omega (arith, h.2))) (λ h. (h.0, h.1, omega (arith, h.2))) (parse_signed_minus numerals w32 bytes r parsed p.1))
          ∙ ap position_said (sym (minus_first bytes p.1))
      | inr p ↦
          read_up_to pos 2147483647 bytes r
          (same_cause r ((all_ascii_digits bytes ≡ true) × (0 < length bytes) × (digits_value 10 bytes < 2 ^ 31)) (IsUpTo 2147483647 bytes) (pos (digits_value 10 bytes))
          (λ h. (h.0, h.1, omega (arith, h.2))) (λ h. (h.0, h.1, omega (arith, h.2))) (parse_signed_plain numerals w32 bytes r parsed plus p.1))
          ∙ sym (plain_position bytes p.1)
    ]

pub position_plus : (bytes : List ℕ) → get_or bytes 0 0 ≡ 43 → position_said bytes ≡ None
position_plus [] h = refl
position_plus (c ∷ cs) h = ap (λ x. position_said (x ∷ cs)) h
