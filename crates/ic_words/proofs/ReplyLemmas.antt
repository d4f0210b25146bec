-- The bytes and the characters of replies.
use Rattle.std.proofs.Common.{◌≡◌, ℕ, ℤ, pos, negsuc, zero, suc, ◌<◌, ◌+◌, ◌/◌, ◌%◌, ◌==◌, nat_lt, List, [], ◌∷◌, ◌++◌, Bool, true, false, ltb, not, ◌&&◌, Option, Some, None, Result, Ok, Err, OnOk, IsUtf8, IsAscii, chars, codes, encode_utf8_all, flat_map, slice_get, unwrap_or, append_assoc, inl, inr, refl, ap, sym, subst, ◌∙◌, arith}
use lib.Utf8.{encode, scalar, scalars}
use Rattle.std.specs.Char.{is_ascii_digit}
use Rattle.std.specs.Fmt.{decimal, digit_glyph, digits, digits_onto, signed_decimal}
use Rattle.std.specs.List.{list_all}
use Rattle.std.specs.Str.{all_ascii_digits}
use Rattle.std.proofs.lemmas.Bool.{and_parts, cases_Bool, ltb-true}
use Rattle.std.proofs.lemmas.Bool.Decides.{eqb_tells, nat_tests}
use Rattle.std.proofs.lemmas.Grind.{flat_map-append}
use Rattle.std.proofs.lemmas.Str.{IsUtf8-from_ascii, chars-IsAscii, chars-encodes, encodes-IsAscii, encodes-append, encodes-chars, scalars-chars}
use Rattle.std.proofs.lemmas.Str.Ascii.{IsAscii-cons, IsAscii-nil}
use Rattle.ic_laws.specs.Character.{tab}
use Rattle.ic_laws.specs.Lines.{escape_of, escaped}
use Rattle.ic_laws.specs.Refusal as core
use Rattle.ic_lines.specs.Reading.{has_line_feed}
use Rattle.ic_machine.specs.Refusal.{OfCore, Refusal, refusal_name}
use Rattle.ic_machine.specs.Reply.{Field, NumberField, PositionField, field_text, field_word, position_text, reply_bytes, reply_text}
use Rattle.ic_words.specs.Reply.{AreTexts, IsLineText}
use Rattle.ic_laws.proofs.General.{digits_ascii}

abbrev pub are_ascii : List ℕ → Bool
are_ascii bytes = list_all (λ b. ltb b 128) bytes

pub tested_ascii : (bytes : List ℕ) → are_ascii bytes ≡ true → IsAscii bytes
tested_ascii [] h = IsAscii-nil
tested_ascii (b ∷ bs) h =
    let p = and_parts (ltb b 128) (are_ascii bs) h in IsAscii-cons b bs (ltb-true b 128 p.0) (tested_ascii bs p.1)

-- a reply with fields
pub fields_reply : (old first second new : List ℕ) (fields : List Field) → IsUtf8 first → IsUtf8 second → first ≡ old ++ codes "ok" → chars second ≡ chars first ++ flat_map field_word fields → new ≡ second ++ 10 ∷ [] → new ≡ old ++ reply_bytes (Ok fields)
unfolding encode
fields_reply old first second new fields u v is_first is_second is_new =
    let words = flat_map field_word fields in
    let grown : second ≡ (old ++ codes "ok") ++ encode_utf8_all words =
    sym (encodes-chars second v) ∙ ap encode_utf8_all is_second ∙ encodes-append (chars first) words
    ∙ ap (λ front. front ++ encode_utf8_all words) (encodes-chars first u ∙ is_first) in
    is_new ∙ ap (λ front. front ++ 10 ∷ []) (grown ∙ append_assoc old (codes "ok") (encode_utf8_all words))
    ∙ append_assoc old (codes "ok" ++ encode_utf8_all words) (10 ∷ [])

-- fields, and others after them
pub more_fields : (old between new : List ℕ) (front back : List Field) → between ≡ old ++ flat_map field_word front → new ≡ between ++ flat_map field_word back → new ≡ old ++ flat_map field_word (front ++ back)
more_fields old between new front back first then =
    then ∙ ap (λ (t : List ℕ). t ++ flat_map field_word back) first ∙ append_assoc old (flat_map field_word front) (flat_map field_word back)
    ∙ ap (λ (t : List ℕ). old ++ t) (sym (flat_map-append field_word front back))

-- Digits need no escape ----

digit_first : (d : ℕ) (acc : List ℕ) → d < 10 → all_ascii_digits acc ≡ true → all_ascii_digits (digit_glyph false d ∷ acc) ≡ true
digit_first d acc small h =
    let low : nat_lt d 10 ≡ true = grind (arith, nat_tests) in
    let digit : is_ascii_digit (48 + d) ≡ true = grind (arith, nat_tests) in rw (low, digit, h) refl

digits_onto_digits : (k n : ℕ) (acc : List ℕ) → all_ascii_digits acc ≡ true → all_ascii_digits (digits_onto k 10 false n acc) ≡ true
digits_onto_digits zero n acc h = h
digits_onto_digits (suc k) n acc h =
    let more = digit_first (n % 10) acc (omega arith) h in
    elim (cases_Bool (n / 10 == 0)) [ inl e ↦ rw e more | inr e ↦ rw e (digits_onto_digits k (n / 10) (digit_glyph false (n % 10) ∷ acc) more) ]

decimal_digits : (n : ℕ) → all_ascii_digits (decimal n) ≡ true
unfolding digits
decimal_digits n = digits_onto_digits 64 n [] refl

pub IsAscii-digits : (n : ℕ) → IsAscii (decimal n)
IsAscii-digits n = digits_ascii (decimal n) (decimal_digits n)

pub chars-decimal : (n : ℕ) → chars (decimal n) ≡ decimal n
chars-decimal n = chars-IsAscii (decimal n) (IsAscii-digits n)

other_character : (c k : ℕ) → is_ascii_digit c ≡ true → is_ascii_digit k ≡ false → (c == k) ≡ false
other_character c k h differs = elim (eqb_tells c k) [ inl p ↦ let yes = ap is_ascii_digit (sym p.1) ∙ h in absurd (cc) | inr p ↦ p.0 ]

escaped_digits : (cs : List ℕ) → all_ascii_digits cs ≡ true → escaped cs ≡ cs
escaped_digits [] h = refl
escaped_digits (c ∷ cs) h =
    let p = and_parts (is_ascii_digit c) (all_ascii_digits cs) h in
    rw (other_character c 92 p.0 refl, other_character c 9 p.0 refl, other_character c 10 p.0 refl, other_character c 13 p.0 refl) (ap (λ t. c ∷ t) (escaped_digits cs p.1))

-- what is written of a number
pub number_word : (number : Option ℕ) (n : ℕ) → number ≡ Some n → tab ∷ decimal n ≡ field_word (NumberField number)
number_word number n is = rw is (ap (λ t. tab ∷ t) (sym (escaped_digits (decimal n) (decimal_digits n))))

-- a word behind a tab
pushed_behind : {T E : Type 0} (r : Result T E) (old first new text word : List ℕ) → tab ∷ text ≡ word → first ≡ old ++ tab ∷ [] → OnOk r (new ≡ first ++ text) → OnOk r (new ≡ old ++ word)
pushed_behind (Ok x) old first new text word is e pushed =
    pushed ∙ ap (λ front. front ++ text) e ∙ append_assoc old (tab ∷ []) text ∙ ap (λ word. old ++ word) is
pushed_behind (Err x) old first new text word is e pushed = pushed

pub number_pushed : {T E : Type 0} (r : Result T E) (old first new : List ℕ) (number : Option ℕ) (n : ℕ) → number ≡ Some n → first ≡ old ++ tab ∷ [] → OnOk r (new ≡ first ++ decimal n) → OnOk r (new ≡ old ++ field_word (NumberField number))
number_pushed r old first new number n is e pushed = pushed_behind r old first new (decimal n) (field_word (NumberField number)) (number_word number n is) e pushed

-- what is written of a number that may be below 0
pub position_written : (z : ℤ) → signed_decimal z ≡ position_text z
position_written (pos n) = refl
position_written (negsuc n) = refl

escaped_position : (z : ℤ) → escaped (position_text z) ≡ position_text z
escaped_position (pos n) = escaped_digits (decimal n) (decimal_digits n)
escaped_position (negsuc n) = ap (λ t. 45 ∷ t) (escaped_digits (decimal (suc n)) (decimal_digits (suc n)))

pub position_pushed : {T E : Type 0} (r : Result T E) (old first new : List ℕ) (z : ℤ) → first ≡ old ++ tab ∷ [] → OnOk r (new ≡ first ++ position_text z) → OnOk r (new ≡ old ++ field_word (PositionField z))
position_pushed r old first new z e pushed = pushed_behind r old first new (position_text z) (field_word (PositionField z)) (ap (λ t. tab ∷ t) (sym (escaped_position z))) e pushed

-- replies are one line ----

-- characters without a line feed
abbrev pub IsPlain : List ℕ → Type 0
IsPlain cs = (scalars cs ≡ true) × (has_line_feed cs ≡ false)

plain_more : (c : ℕ) (rest : List ℕ) → scalar c ≡ true → (c == 10) ≡ false → IsPlain rest → IsPlain (c ∷ rest)
plain_more c rest s other plain = (rw s plain.0, rw other plain.1)

-- a character as it is written in a word has no line feed
plain_escape : (c : ℕ) (rest : List ℕ) → scalar c ≡ true → IsPlain rest → IsPlain (escape_of c ++ rest)
plain_escape c rest s plain =
    elim (eqb_tells c 92) [
      | inl p ↦ rw p.1 plain
      | inr p ↦ elim (eqb_tells c 9) [
        | inl q ↦ rw q.1 plain
        | inr q ↦ elim (eqb_tells c 10) [
          | inl r ↦ rw r.1 plain
          | inr r ↦ elim (eqb_tells c 13) [
            | inl t ↦ rw t.1 plain
            | inr t ↦ let e : escape_of c ≡ c ∷ [] = rw (p.0, q.0, r.0, t.0) refl in
                subst (λ front. IsPlain (front ++ rest)) (sym e) (plain_more c rest s r.0 plain)
          ]
        ]
      ]
    ]

plain_escaped : (cs rest : List ℕ) → scalars cs ≡ true → IsPlain rest → IsPlain (escaped cs ++ rest)
plain_escaped [] rest s plain = plain
plain_escaped (c ∷ cs) rest s plain =
    let both = and_parts (scalar c) (scalars cs) s in
    subst IsPlain (sym (append_assoc (escape_of c) (escaped cs) rest)) (plain_escape c (escaped cs ++ rest) both.0 (plain_escaped cs rest both.1 plain))

plain_fields : (fields : List Field) → AreTexts fields → IsPlain (flat_map field_word fields)
plain_fields [] h = (refl, refl)
plain_fields (field ∷ fields) h =
    let p = plain_escaped (field_text field) (flat_map field_word fields) h.0 (plain_fields fields h.1) in (p.0, p.1)

-- a reply without an error is one line
pub fields_line : (fields : List Field) → AreTexts fields → IsLineText (reply_text (Ok fields))
fields_line fields h =
    let p = plain_fields fields h in (chars-encodes (codes "ok" ++ flat_map field_word fields) p.0, p.1)

-- The fields that the book gives ----

pub number_characters : (number : Option ℕ) → scalars (field_text (NumberField number)) ≡ true
number_characters None = refl
number_characters (Some n) = ap scalars (sym (chars-decimal n)) ∙ scalars-chars (decimal n) (IsUtf8-from_ascii (decimal n) (IsAscii-digits n))

pub position_characters : (z : ℤ) → scalars (field_text (PositionField z)) ≡ true
position_characters (pos n) = number_characters (Some n)
position_characters (negsuc n) = number_characters (Some (suc n))

-- a reply that tells a refusal is ASCII, and one line ----

-- a name without a line feed
abbrev is_name : List ℕ → Bool
is_name name = list_all (λ b. ltb b 128 && not (b == 10)) name

name_at : (names : List (List ℕ)) (place : ℕ) → list_all is_name names ≡ true → is_name (unwrap_or (slice_get names place) []) ≡ true
name_at [] place h = refl
name_at (name ∷ names) zero h = (and_parts (is_name name) (list_all is_name names) h).0
name_at (name ∷ names) (suc place) h = name_at names place (and_parts (is_name name) (list_all is_name names) h).1

refusal_named : (r : Refusal) → is_name (refusal_name r) ≡ true
refusal_named (OfCore refusal) = name_at core.refusal_names refusal.place refl
refusal_named r = refl

name_ascii : (name : List ℕ) → is_name name ≡ true → are_ascii name ≡ true
name_ascii [] h = refl
name_ascii (b ∷ bs) h =
    let p = and_parts (ltb b 128 && not (b == 10)) (is_name bs) h in
    let q = and_parts (ltb b 128) (not (b == 10)) p.0 in rw (q.0, name_ascii bs p.1) refl

name_one_line : (name : List ℕ) → is_name name ≡ true → has_line_feed name ≡ false
name_one_line [] h = refl
name_one_line (b ∷ bs) h =
    let p = and_parts (ltb b 128 && not (b == 10)) (is_name bs) h in
    let q = and_parts (ltb b 128) (not (b == 10)) p.0 in
    elim (cases_Bool (b == 10)) [ inl e ↦ let no = ap not (sym e) ∙ q.1 in absurd (cc) | inr e ↦ rw (e, name_one_line bs p.1) refl ]

pub refusal_line : (r : Refusal) → IsLineText (reply_text (Err r))
refusal_line r =
    let ascii : are_ascii (reply_text (Err r)) ≡ true = name_ascii (refusal_name r) (refusal_named r) in
    let text = tested_ascii (reply_text (Err r)) ascii in
    (ap chars (encodes-IsAscii (reply_text (Err r)) text) ∙ chars-IsAscii (reply_text (Err r)) text, name_one_line (refusal_name r) (refusal_named r))

pub refusal_reply : (old new name : List ℕ) (refusal : Refusal) → new ≡ old ++ codes "error\t" ++ name ++ 10 ∷ [] → name ≡ refusal_name refusal → new ≡ old ++ reply_bytes (Err refusal)
refusal_reply old new name refusal e is =
    e ∙ append_assoc (old ++ codes "error\t") name (10 ∷ []) ∙ append_assoc old (codes "error\t") (name ++ 10 ∷ []) ∙ ap (λ name. old ++ (codes "error\t" ++ (name ++ 10 ∷ []))) is
    ∙ ap (λ text. old ++ (text ++ 10 ∷ [])) (sym (encodes-IsAscii (reply_text (Err refusal)) (tested_ascii (reply_text (Err refusal)) (name_ascii (refusal_name refusal) (refusal_named refusal)))))

-- The characters of strings ----
