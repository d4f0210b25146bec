-- What a tree's tokens begin with, and what stands after them.
use Rattle.std.proofs.Common.{if◌then◌else◌, ◌≡◌, ℕ, pos, ◌/◌, ◌%◌, ◌^◌, ◌<◌, List, [], ◌∷◌, ◌++◌, Bool, true, false, not, ◌&&◌, ◌||◌, ◌==◌, refl, sym, ◌∙◌, ap, subst, inl, inr, arith, append-nil, codes}
use Rattle.std.specs.Fmt.{decimal}
use Rattle.std.specs.List.{list_any}
use Rattle.std.proofs.lemmas.Bool.{and_parts}
use Rattle.std.proofs.lemmas.Fmt.{digits_decimal, decimal_nonempty}
use Rattle.ucd_derived.proofs.Computing.{ucd_derived}
use Rattle.ic_laws.proofs.AmountLemmas.{numerals}
use Rattle.ic_laws.specs.Amount.{units_of_one, fraction_digits}
use Rattle.ic_laws.specs.Scan.{IsEnd, joins, begins_word, first_is, is_blank}
use Rattle.ic_laws.specs.Name.{is_sheet_name, is_variable, is_variable_form}
use Rattle.ic_laws.specs.Dialect.{DialectMeaning, IsLawful, boolean_number, error_number, is_sign, reference_text}
use Rattle.ic_laws.specs.Token.{Token, Num, Boolean, Err, Ref, Local, Word, FunHead, NameHead, Separator, Operator, Percent, Hash, Close, CloseBrace, Semicolon, token_text, is_double_quote}
use Rattle.ic_laws.specs.declared.dialect.WordKind.TheVariants as kinds
use Rattle.ic_laws.specs.declared.reference.RefToken.{RefToken}
use Rattle.ic_laws.specs.declared.tree.BinarySign.TheVariants as signs
use Rattle.ic_laws.specs.declared.tree.Error.{Error}
use Rattle.ic_laws.specs.Following.{CanSpell, IsNotCalled, NoDecimal, spelled_out}
use Rattle.ic_laws.proofs.tokens.Characters.{all_below, at_below, not_true}
use Rattle.ic_laws.proofs.printing.Operands.{first_local, first_reference, digits_first, digit_starts}
use Rattle.ic_laws.proofs.printing.Signs.{not_decimal}
use Rattle.ic_laws.proofs.printing.Words.{has_word, error_begins, error_number_small, boolean_small, letter_begins, begins_starts, starts, starts_other}

-- the tokens that may stand after an operand
abbrev pub is_after : Token → Bool
is_after (Operator sign) = true
is_after Percent = true
is_after Hash = true
is_after Separator = true
is_after Close = true
is_after CloseBrace = true
is_after Semicolon = true
is_after t = false

abbrev pub follows : List Token → Bool
follows [] = true
follows (t ∷ ts) = is_after t

-- a text that ends what stands before it
pub record Ends (d : DialectMeaning) (rest : List ℕ) : Type 0 where
  pub end : IsEnd rest
  pub apart : NoDecimal d rest
  pub closed : IsNotCalled rest
  pub unquoted : first_is is_double_quote rest ≡ false
  pub sign : first_is (λ c. not (is_sign c || is_blank c)) rest ≡ false

abbrev is_end_char : ℕ → Bool
is_end_char c = list_any (λ x. c == x) (codes "=<>&+-*/^%#),;}")

abbrev ends_all : ℕ → Bool
ends_all c = not (joins c) && not (c == 40) && not (is_blank c) && not (is_double_quote c) && is_sign c

end_chars : all_below (λ c. not (is_end_char c) || ends_all c) 128 ≡ true
unfolding ucd_derived
end_chars = refl

char_ends : (d : DialectMeaning) (c : ℕ) (cs : List ℕ) → c < 128 → is_end_char c ≡ true → (c == d.decimal) ≡ false → Ends d (c ∷ cs)
char_ends d c cs lt h k =
    let all : (not (is_end_char c) || ends_all c) ≡ true = at_below (λ c. not (is_end_char c) || ends_all c) 128 c end_chars lt in
    let both : ends_all c ≡ true = rw h at all in
    let p1 = and_parts _ _ both in
    let p2 = and_parts _ _ p1.0 in
    let p3 = and_parts _ _ p2.0 in
    let p4 = and_parts _ _ p3.0 in
    record {
      end = not_true (joins c) p4.0;
      apart = k;
      closed = rw (not_true (is_blank c) p3.1) (not_true (c == 40) p4.1);
      unquoted = not_true (is_double_quote c) p2.1;
      sign = rw (p1.1) refl;
    }

plain_ends : (d : DialectMeaning) → IsLawful d → (c : ℕ) (cs : List ℕ) → c < 128 → is_end_char c ≡ true → (c == 46) ≡ false → (c == 44) ≡ false → Ends d (c ∷ cs)
plain_ends d n c cs lt h k l = char_ends d c cs lt h (not_decimal d n c k l)

pub follows_ends : (d : DialectMeaning) → IsLawful d → (ts : List Token) → follows ts ≡ true → Ends d (spelled_out d ts)
follows_ends d n [] h = record { end = refl; apart = refl; closed = refl; unquoted = refl; sign = refl }
follows_ends d n (Operator signs.Equal ∷ ts) h = plain_ends d n 61 _ (omega arith) refl refl refl
follows_ends d n (Operator signs.Unequal ∷ ts) h = plain_ends d n 60 _ (omega arith) refl refl refl
follows_ends d n (Operator signs.Less ∷ ts) h = plain_ends d n 60 _ (omega arith) refl refl refl
follows_ends d n (Operator signs.Greater ∷ ts) h = plain_ends d n 62 _ (omega arith) refl refl refl
follows_ends d n (Operator signs.AtMost ∷ ts) h = plain_ends d n 60 _ (omega arith) refl refl refl
follows_ends d n (Operator signs.AtLeast ∷ ts) h = plain_ends d n 62 _ (omega arith) refl refl refl
follows_ends d n (Operator signs.Join ∷ ts) h = plain_ends d n 38 _ (omega arith) refl refl refl
follows_ends d n (Operator signs.Plus ∷ ts) h = plain_ends d n 43 _ (omega arith) refl refl refl
follows_ends d n (Operator signs.Minus ∷ ts) h = plain_ends d n 45 _ (omega arith) refl refl refl
follows_ends d n (Operator signs.Times ∷ ts) h = plain_ends d n 42 _ (omega arith) refl refl refl
follows_ends d n (Operator signs.Over ∷ ts) h = plain_ends d n 47 _ (omega arith) refl refl refl
follows_ends d n (Operator signs.Power ∷ ts) h = plain_ends d n 94 _ (omega arith) refl refl refl
follows_ends d n (Percent ∷ ts) h = plain_ends d n 37 _ (omega arith) refl refl refl
follows_ends d n (Hash ∷ ts) h = plain_ends d n 35 _ (omega arith) refl refl refl
follows_ends d n (Separator ∷ ts) h =
    elim n.separators [
      | inl s ↦ subst (λ c. Ends d (c ∷ spelled_out d ts)) (sym s.0) (char_ends d 44 (spelled_out d ts) (omega arith) refl (rw (s.1) refl))
      | inr s ↦ subst (λ c. Ends d (c ∷ spelled_out d ts)) (sym s.0) (char_ends d 59 (spelled_out d ts) (omega arith) refl (rw (s.1) refl))
    ]
follows_ends d n (Close ∷ ts) h = plain_ends d n 41 _ (omega arith) refl refl refl
follows_ends d n (CloseBrace ∷ ts) h = plain_ends d n 125 _ (omega arith) refl refl refl
follows_ends d n (Semicolon ∷ ts) h = plain_ends d n 59 _ (omega arith) refl refl refl
follows_ends d n (t ∷ ts) h = absurd (cc)

-- the first character is neither `=` nor `>`
abbrev pub NoComparison : DialectMeaning → List Token → Type 0
NoComparison d ts = first_is (λ c. c == 61 || c == 62) (spelled_out d ts) ≡ false

start_no_sign : (d : DialectMeaning) (t : Token) (ts : List Token) (c : ℕ) (cs : List ℕ) → token_text d t ≡ c ∷ cs → starts c ≡ true → NoComparison d (t ∷ ts)
start_no_sign d t ts c cs e s =
    ap (λ x. first_is (λ c. c == 61 || c == 62) (x ++ spelled_out d ts)) e ∙ rw (starts_other c 61 s (omega arith) refl, starts_other c 62 s (omega arith) refl) refl

word_first : (w : List ℕ) → first_is begins_word w ≡ true → (c : ℕ) × (cs : List ℕ) × (w ≡ c ∷ cs) × (starts c ≡ true)
word_first [] h = absurd (cc)
word_first (c ∷ cs) h = (c, cs, refl, begins_starts c h)

variable_first : (w : List ℕ) → is_variable_form w ≡ true → first_is begins_word w ≡ true
variable_first w h = (and_parts _ _ (and_parts _ _ (and_parts _ _ h).0).0).0

pub number_no_sign : (d : DialectMeaning) (units : ℕ) (ts : List Token) → units < 10 ^ 27 → NoComparison d (Num (pos units) ∷ ts)
number_no_sign d units ts small =
    let w : ℕ = units / units_of_one in
    let large : w < 2 ^ 64 = omega arith in
    let a = digits_first (decimal w) (if units % units_of_one == 0 then [] else d.decimal ∷ fraction_digits 9 (units % units_of_one)) (digits_decimal numerals w large) (decimal_nonempty w large) in
    start_no_sign d (Num (pos units)) ts a.0 a.1 a.2 (digit_starts a.0 a.3)

pub word_no_sign : (d : DialectMeaning) (text : List ℕ) (ts : List Token) → is_variable text ≡ true → NoComparison d (Word text ∷ ts)
word_no_sign d text ts h = let a = word_first text (variable_first text (and_parts _ _ (and_parts _ _ h).0).0) in start_no_sign d (Word text) ts a.0 a.1 a.2 a.3

pub boolean_no_sign : (d : DialectMeaning) → IsLawful d → (value : Bool) (ts : List Token) → NoComparison d (Boolean value ∷ ts)
boolean_no_sign d n value ts =
    let w = has_word d kinds.Boolean (boolean_number value) (n.booleans (boolean_number value) (boolean_small value)) in
    let a = word_first w.0 (variable_first w.0 (n.boolean_shape (boolean_number value) w.0 w.1)) in
    start_no_sign d (Boolean value) ts a.0 a.1 (w.2 ∙ a.2) a.3

pub error_no_sign : (d : DialectMeaning) → IsLawful d → (e : Error) (ts : List Token) → NoComparison d (Err e ∷ ts)
error_no_sign d n e ts =
    let w = has_word d kinds.Error (error_number e) (n.errors (error_number e) (error_number_small e)) in
    let b = error_begins w.0 (n.error_shape w.0 (error_number e) (n.finds_word kinds.Error (error_number e) w.0 w.1)) in
    ap (λ x. first_is (λ c. c == 61 || c == 62) (x ++ spelled_out d ts)) (w.2 ∙ b.1)

pub reference_no_sign : (d : DialectMeaning) → IsLawful d → (r : RefToken) (ts : List Token) → d.can_spell r ≡ true → NoComparison d (Ref r ∷ ts)
reference_no_sign d n r ts can =
    let text : reference_text d r ≡ d.spell_ref r = rw can refl in
    let a = first_reference d n (d.spell_ref r ++ []) [] r (n.reads_spelled r [] can refl) in
    start_no_sign d (Ref r) ts a.0 a.1 (text ∙ sym (append-nil (d.spell_ref r)) ∙ a.2) a.3

pub local_no_sign : (d : DialectMeaning) (sheet word : List ℕ) (ts : List Token) → is_sheet_name sheet ≡ true → NoComparison d (Local sheet word ∷ ts)
local_no_sign d sheet word ts h = let a = first_local sheet word h in start_no_sign d (Local sheet word) ts a.0 a.1 a.2 a.3

pub fun_head_no_sign : (d : DialectMeaning) → IsLawful d → (number : ℕ) (ts : List Token) → CanSpell d (FunHead number) → NoComparison d (FunHead number ∷ ts)
fun_head_no_sign d n number ts can =
    let w = has_word d kinds.Function number can in
    let a = word_first w.0 (letter_begins w.0 (and_parts _ _ (n.function_shape number w.0 w.1)).0) in
    start_no_sign d (FunHead number) ts a.0 (a.1 ++ codes "(") (ap (λ x. x ++ codes "(") (w.2 ∙ a.2)) a.3

pub name_head_no_sign : (d : DialectMeaning) (name : List ℕ) (ts : List Token) → is_variable name ≡ true → NoComparison d (NameHead name ∷ ts)
name_head_no_sign d name ts h =
    let a = word_first name (variable_first name (and_parts _ _ (and_parts _ _ h).0).0) in
    start_no_sign d (NameHead name) ts a.0 (a.1 ++ codes "(") (ap (λ x. x ++ codes "(") a.2) a.3
