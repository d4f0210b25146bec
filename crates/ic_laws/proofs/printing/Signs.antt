-- Signs and texts between quotes in their canonical spelling are read back.
use Rattle.std.proofs.Common.{if◌then◌else◌, ◌≡◌, ℕ, ◌<◌, List, [], ◌∷◌, ◌++◌, Bool, true, false, not, ◌&&◌, ◌||◌, ◌==◌, Option, Some, None, option_and_then, option_map, refl, length, nat_le, flat_map, sym, ◌∙◌, ap, inl, inr, arith, codes}
use Rattle.std.specs.List.{list_any}
use Rattle.std.proofs.lemmas.Bool.{and_parts, le-leb}
use Rattle.std.proofs.lemmas.Bool.Decides.{nat_tests}
use Rattle.ucd_derived.proofs.Computing.{ucd_derived}
use Rattle.ic_laws.specs.Scan.{begins_word, first_is, is_blank, is_digit, is_plain}
use Rattle.ic_laws.specs.Dialect.{DialectMeaning, IsLawful, begins_reference, error_number, has_error_shape, is_sign}
use Rattle.ic_laws.specs.Token.{Token, Str, Err, Separator, Operator, At, Percent, Hash, Open, Close, OpenBrace, CloseBrace, Semicolon, string_text, token_text}
use Rattle.ic_laws.specs.declared.dialect.WordKind.TheVariants as kinds
use Rattle.ic_laws.specs.declared.tree.BinarySign.{BinarySign}
use Rattle.ic_laws.specs.declared.tree.BinarySign.TheVariants as signs
use Rattle.ic_laws.specs.TokenKinds.{error_at, error_of, local_at, one_at, text_at, two_at}
use Rattle.ic_laws.specs.NextToken.{all_errors, numbered, token_at}
use Rattle.ic_laws.specs.AmountFront.{number_in_one_pass}
use Rattle.ic_laws.specs.Following.{CanSpell, MayFollow}
use Rattle.ic_laws.specs.Split.{longer}
use Rattle.ic_laws.proofs.tokens.Characters.{all_below, at_below, not_true}
use Rattle.ic_laws.proofs.tokens.Kinds.{by_kinds}
use Rattle.ic_laws.proofs.tokens.Locals.{no_local_other}
use Rattle.ic_laws.proofs.tokens.Quoted.{text_complete}
use Rattle.ic_laws.proofs.tokens.SignTables.{one_semicolon}
use Rattle.ic_laws.proofs.tokens.Splits.{none_some, split_sound}
use Rattle.ic_laws.proofs.parsing.ListFuelLemmas.{option_cases as none_or_some}

-- the characters of signs, and the quote
abbrev pub is_mark : ℕ → Bool
is_mark c = list_any (λ x. c == x) (codes "=<>&+-*/^@%#(){};,\"")

marks_begin_none : all_below (λ c. not (is_mark c) || (not (begins_reference c) && not (begins_word c))) 128 ≡ true
unfolding ucd_derived
marks_begin_none = refl

pub mark_begins_none : (c : ℕ) → c < 128 → is_mark c ≡ true → (begins_reference c ≡ false) × (begins_word c ≡ false)
mark_begins_none c lt h =
    let all : (not (is_mark c) || (not (begins_reference c) && not (begins_word c))) ≡ true = at_below (λ c. not (is_mark c) || (not (begins_reference c) && not (begins_word c))) 128 c marks_begin_none lt in
    let both : (not (begins_reference c) && not (begins_word c)) ≡ true = rw h at all in
    let parts = and_parts _ _ both in
    (not_true _ parts.0, not_true _ parts.1)

-- no word with its sheet
marks_no_plain : all_below (λ c. not (is_mark c) || (not (is_plain c) && not (c == 39))) 128 ≡ true
unfolding ucd_derived
marks_no_plain = refl

pub mark_no_local : (c : ℕ) (cs : List ℕ) → c < 128 → is_mark c ≡ true → local_at (c ∷ cs) ≡ None
mark_no_local c cs lt h =
    let all : (not (is_mark c) || (not (is_plain c) && not (c == 39))) ≡ true = at_below (λ c. not (is_mark c) || (not (is_plain c) && not (c == 39))) 128 c marks_no_plain lt in
    let both : (not (is_plain c) && not (c == 39)) ≡ true = rw h at all in
    let parts = and_parts _ _ both in
    no_local_other (c ∷ cs) (not_true _ parts.1) (not_true _ parts.0)

-- no number
pub no_number : (d : DialectMeaning) (c : ℕ) (cs : List ℕ) → is_digit c ≡ false → (c == d.decimal) ≡ false → number_in_one_pass d (c ∷ cs) ≡ None
no_number d c cs h k = rw (h, k) refl

-- no error word
found_number : (found : Option ℕ) (v : Token) → option_and_then (λ n. option_map Err (numbered error_number all_errors n)) found ≡ Some v → (k : ℕ) × (found ≡ Some k)
found_number None v e = absurd (none_some v e)
found_number (Some k) v e = (k, refl)

pub no_error : (d : DialectMeaning) (text : List ℕ) → ((front rest : List ℕ) (k : ℕ) → text ≡ front ++ rest → d.find kinds.Error front ≡ Some k → ⊥) → error_at d text ≡ None
no_error d text none =
    elim (none_or_some (error_at d text)) [
      | inl p ↦ p
      | inr p ↦ let there = split_sound (error_of d) [] text p.0 p.1 in
          let q = found_number (d.find kinds.Error there.front_is) p.0.0 there.read_there in
          absurd (none there.front_is p.0.1 q.0 (sym there.whole) q.1)
    ]

first_shape : (c : ℕ) (cs front rest : List ℕ) → c ∷ cs ≡ front ++ rest → has_error_shape front ≡ true → (c == 35) ≡ true
first_shape c cs [] rest e h = absurd (cc)
first_shape c cs (a ∷ []) rest e h = absurd (cc)
first_shape c cs (a ∷ b ∷ bs) rest e h = let same : c ≡ a = cc in ap (λ x. x == 35) same ∙ (and_parts _ _ (and_parts _ _ h).0).0

pub no_error_first : (d : DialectMeaning) → IsLawful d → (c : ℕ) (cs : List ℕ) → (c == 35) ≡ false → error_at d (c ∷ cs) ≡ None
no_error_first d n c cs h = no_error d (c ∷ cs) (λ front rest k e f. let yes : (c == 35) ≡ true = first_shape c cs front rest e (n.error_shape front k f) in absurd (cc))

-- what is no word, number, text or error is a sign
pub only_signs : (d : DialectMeaning) → IsLawful d → (c : ℕ) (cs : List ℕ) → c < 128 → is_mark c ≡ true → is_digit c ≡ false → (c == d.decimal) ≡ false → (c == 34) ≡ false → error_at d (c ∷ cs) ≡ None
    → token_at d (c ∷ cs) ≡ longer (two_at (c ∷ cs)) (one_at d (c ∷ cs))
only_signs d n c cs lt mark digit decimal quote error =
    let begins = mark_begins_none c lt mark in
    sym (by_kinds d n (c ∷ cs)) ∙ rw (n.reference_begins (c ∷ cs) begins.0, mark_no_local c cs lt mark, begins.1, no_number d c cs digit decimal, quote, error) refl

pub not_decimal : (d : DialectMeaning) → IsLawful d → (c : ℕ) → (c == 46) ≡ false → (c == 44) ≡ false → (c == d.decimal) ≡ false
not_decimal d n c h k = elim n.separators [ inl s ↦ rw (s.1) h | inr s ↦ rw (s.1) k ]

-- tests
pub or_neither : (a b : Bool) → (a || b) ≡ false → (a ≡ false) × (b ≡ false)
or_neither true b h = absurd (cc)
or_neither false b h = (refl, h)

pub eqb_swap : (a b : ℕ) → (b == a) ≡ false → (a == b) ≡ false
eqb_swap a b h = grind (arith, nat_tests, h)

-- one sign
pub two_none : (c : ℕ) (cs : List ℕ) → (60 == c) ≡ false → (62 == c) ≡ false → two_at (c ∷ cs) ≡ None
two_none c [] h k = refl
two_none c (e ∷ cs) h k = rw (h, k) refl

abbrev pub IsRead : DialectMeaning → Token → List ℕ → Type 0
IsRead d t rest = token_at d (token_text d t ++ rest) ≡ Some (t, rest)

one_sign : (d : DialectMeaning) → IsLawful d → (c : ℕ) (rest : List ℕ) (t : Token) → c < 128 → is_mark c ≡ true → is_digit c ≡ false → (c == d.decimal) ≡ false → (c == 34) ≡ false → error_at d (c ∷ rest) ≡ None
    → two_at (c ∷ rest) ≡ None → one_at d (c ∷ rest) ≡ Some (t, rest) → token_at d (c ∷ rest) ≡ Some (t, rest)
one_sign d n c rest t lt mark digit decimal quote error two one = only_signs d n c rest lt mark digit decimal quote error ∙ rw (two, one) refl

plain_sign : (d : DialectMeaning) → IsLawful d → (c : ℕ) (rest : List ℕ) (t : Token) → c < 128 → is_mark c ≡ true → is_digit c ≡ false → (c == 46) ≡ false → (c == 44) ≡ false → (c == 34) ≡ false → (c == 35) ≡ false
    → (60 == c) ≡ false → (62 == c) ≡ false → one_at d (c ∷ rest) ≡ Some (t, rest) → token_at d (c ∷ rest) ≡ Some (t, rest)
plain_sign d n c rest t lt mark digit dot comma quote hash less greater one =
    one_sign d n c rest t lt mark digit (not_decimal d n c dot comma) quote (no_error_first d n c rest hash) (two_none c rest less greater) one

two_signs : (d : DialectMeaning) → IsLawful d → (c e : ℕ) (rest : List ℕ) (t u : Token) → c < 128 → is_mark c ≡ true → is_digit c ≡ false → (c == 46) ≡ false → (c == 44) ≡ false → (c == 34) ≡ false → (c == 35) ≡ false
    → two_at (c ∷ e ∷ rest) ≡ Some (t, rest) → one_at d (c ∷ e ∷ rest) ≡ Some (u, e ∷ rest) → token_at d (c ∷ e ∷ rest) ≡ Some (t, rest)
two_signs d n c e rest t u lt mark digit dot comma quote hash two one =
    only_signs d n c (e ∷ rest) lt mark digit (not_decimal d n c dot comma) quote (no_error_first d n c (e ∷ rest) hash) ∙ rw (two, one) (shorter (t, rest) u e)
  where
    shorter : (f : Token × List ℕ) (u : Token) (e : ℕ) → longer (Some f) (Some (u, e ∷ f.1)) ≡ Some f
    shorter f u e = let le : nat_le (length f.1) (length (e ∷ f.1)) ≡ true = le-leb (length f.1) (length (e ∷ f.1)) (omega arith) in rw le refl

-- `<` and `>`, which may be the first of two
less_alone : (rest : List ℕ) → first_is (λ c. c == 61 || c == 62) rest ≡ false → two_at (60 ∷ rest) ≡ None
less_alone [] h = refl
less_alone (c ∷ cs) h = let p = or_neither (c == 61) (c == 62) h in rw (eqb_swap 61 c p.0, eqb_swap 62 c p.1) refl

greater_alone : (rest : List ℕ) → first_is (λ c. c == 61) rest ≡ false → two_at (62 ∷ rest) ≡ None
greater_alone [] h = refl
greater_alone (c ∷ cs) h = rw (eqb_swap 61 c h) refl

-- an error word has no sign after its `#`
second_shape : (rest front after : List ℕ) → 35 ∷ rest ≡ front ++ after → has_error_shape front ≡ true → first_is (λ c. not (is_sign c || is_blank c)) rest ≡ true
second_shape rest [] after e h = absurd (cc)
second_shape rest (a ∷ []) after e h = absurd (cc)
second_shape rest (a ∷ b ∷ bs) after e h =
    let rest_is : rest ≡ b ∷ (bs ++ after) = cc in
    let p = and_parts _ _ h in
    let q = and_parts _ _ p.0 in
    let both : not (is_sign b || is_blank b) ≡ true = rw (not_true (is_sign b) q.1, not_true (is_blank b) p.1) refl in
    ap (first_is (λ c. not (is_sign c || is_blank c))) rest_is ∙ both

hash_alone : (d : DialectMeaning) → IsLawful d → (rest : List ℕ) → first_is (λ c. not (is_sign c || is_blank c)) rest ≡ false → error_at d (35 ∷ rest) ≡ None
hash_alone d n rest h = no_error d (35 ∷ rest) (λ front after k e f. let yes = second_shape rest front after e (n.error_shape front k f) in absurd (cc))

pub sign_read : (d : DialectMeaning) → IsLawful d → (sign : BinarySign) (rest : List ℕ) → MayFollow d (Operator sign) rest → IsRead d (Operator sign) rest
sign_read d n signs.Equal rest h = plain_sign d n 61 rest (Operator signs.Equal) (omega arith) refl refl refl refl refl refl refl refl refl
sign_read d n signs.Unequal rest h = two_signs d n 60 62 rest (Operator signs.Unequal) (Operator signs.Less) (omega arith) refl refl refl refl refl refl refl refl
sign_read d n signs.Less rest h = one_sign d n 60 rest (Operator signs.Less) (omega arith) refl refl (not_decimal d n 60 refl refl) refl (no_error_first d n 60 rest refl) (less_alone rest h) refl
sign_read d n signs.Greater rest h = one_sign d n 62 rest (Operator signs.Greater) (omega arith) refl refl (not_decimal d n 62 refl refl) refl (no_error_first d n 62 rest refl) (greater_alone rest h) refl
sign_read d n signs.AtMost rest h = two_signs d n 60 61 rest (Operator signs.AtMost) (Operator signs.Less) (omega arith) refl refl refl refl refl refl refl refl
sign_read d n signs.AtLeast rest h = two_signs d n 62 61 rest (Operator signs.AtLeast) (Operator signs.Greater) (omega arith) refl refl refl refl refl refl refl refl
sign_read d n signs.Join rest h = plain_sign d n 38 rest (Operator signs.Join) (omega arith) refl refl refl refl refl refl refl refl refl
sign_read d n signs.Plus rest h = plain_sign d n 43 rest (Operator signs.Plus) (omega arith) refl refl refl refl refl refl refl refl refl
sign_read d n signs.Minus rest h = plain_sign d n 45 rest (Operator signs.Minus) (omega arith) refl refl refl refl refl refl refl refl refl
sign_read d n signs.Times rest h = plain_sign d n 42 rest (Operator signs.Times) (omega arith) refl refl refl refl refl refl refl refl refl
sign_read d n signs.Over rest h = plain_sign d n 47 rest (Operator signs.Over) (omega arith) refl refl refl refl refl refl refl refl refl
sign_read d n signs.Power rest h = plain_sign d n 94 rest (Operator signs.Power) (omega arith) refl refl refl refl refl refl refl refl refl

pub at_read : (d : DialectMeaning) → IsLawful d → (rest : List ℕ) → IsRead d At rest
at_read d n rest = plain_sign d n 64 rest At (omega arith) refl refl refl refl refl refl refl refl refl

pub percent_read : (d : DialectMeaning) → IsLawful d → (rest : List ℕ) → IsRead d Percent rest
percent_read d n rest = plain_sign d n 37 rest Percent (omega arith) refl refl refl refl refl refl refl refl refl

pub open_read : (d : DialectMeaning) → IsLawful d → (rest : List ℕ) → IsRead d Open rest
open_read d n rest = plain_sign d n 40 rest Open (omega arith) refl refl refl refl refl refl refl refl refl

pub close_read : (d : DialectMeaning) → IsLawful d → (rest : List ℕ) → IsRead d Close rest
close_read d n rest = plain_sign d n 41 rest Close (omega arith) refl refl refl refl refl refl refl refl refl

pub open_brace_read : (d : DialectMeaning) → IsLawful d → (rest : List ℕ) → IsRead d OpenBrace rest
open_brace_read d n rest = plain_sign d n 123 rest OpenBrace (omega arith) refl refl refl refl refl refl refl refl refl

pub close_brace_read : (d : DialectMeaning) → IsLawful d → (rest : List ℕ) → IsRead d CloseBrace rest
close_brace_read d n rest = plain_sign d n 125 rest CloseBrace (omega arith) refl refl refl refl refl refl refl refl refl

pub semicolon_read : (d : DialectMeaning) → IsLawful d → (rest : List ℕ) → CanSpell d Semicolon → IsRead d Semicolon rest
semicolon_read d n rest other = plain_sign d n 59 rest Semicolon (omega arith) refl refl refl refl refl refl refl refl (one_semicolon d n rest other)

pub hash_read : (d : DialectMeaning) → IsLawful d → (rest : List ℕ) → MayFollow d Hash rest → IsRead d Hash rest
hash_read d n rest h = one_sign d n 35 rest Hash (omega arith) refl refl (not_decimal d n 35 refl refl) refl (hash_alone d n rest h) (two_none 35 rest refl refl) refl

pub separator_read : (d : DialectMeaning) → IsLawful d → (rest : List ℕ) → IsRead d Separator rest
separator_read d n rest =
    elim n.separators [
      | inl s ↦ ap (λ c. token_at d (c ∷ rest)) s.0 ∙ one_sign d n 44 rest Separator (omega arith) refl refl (rw (s.1) refl) refl (no_error_first d n 44 rest refl) (two_none 44 rest refl refl) (rw (s.0) refl)
      | inr s ↦ ap (λ c. token_at d (c ∷ rest)) s.0 ∙ one_sign d n 59 rest Separator (omega arith) refl refl (rw (s.1) refl) refl (no_error_first d n 59 rest refl) (two_none 59 rest refl refl) (rw (s.0) refl)
    ]

-- texts between quotes
quote_alone : (d : DialectMeaning) → IsLawful d → (cs : List ℕ) → (two_at (34 ∷ cs) ≡ None) × (one_at d (34 ∷ cs) ≡ None)
quote_alone d n cs = (two_none 34 cs refl refl, elim n.separators [ inl s ↦ rw (s.0) refl | inr s ↦ rw (s.0) refl ])

pub text_read : (d : DialectMeaning) → IsLawful d → (text rest : List ℕ) → MayFollow d (Str text) rest → IsRead d (Str text) rest
text_read d n text rest h =
    let begins = mark_begins_none 34 (omega arith) refl in
    let cs : List ℕ = (flat_map (λ c. if c == 34 then 34 ∷ 34 ∷ [] else c ∷ []) text ++ 34 ∷ []) ++ rest in
    let found : text_at (34 ∷ cs) ≡ Some (Str text, rest) = text_complete d (string_text text) rest (Str text) (refl, (refl, h)) in
    sym (by_kinds d n (34 ∷ cs)) ∙ rw (n.reference_begins (34 ∷ cs) begins.0, mark_no_local 34 cs (omega arith) refl, begins.1, no_number d 34 cs refl (not_decimal d n 34 refl refl), found, no_error_first d n 34 cs refl, (quote_alone d n cs).0, (quote_alone d n cs).1) refl
