-- A whole number in its canonical spelling, before an end, is the longest token at the front of a text.
use Rattle.std.proofs.Common.{◌≡◌, ℕ, ℤ, pos, ◌+◌, ◌*◌, ◌/◌, ◌%◌, ◌^◌, ◌<◌, ◌≤◌, List, [], ◌∷◌, ◌++◌, true, false, ◌&&◌, ◌||◌, ◌==◌, nat_le, get_or, length, Some, None, option_map, refl, sym, ◌∙◌, ap, inl, inr, arith}
use Rattle.std.specs.Char.{digit_value}
use Rattle.std.specs.Fmt.{decimal}
use Rattle.std.specs.Str.Parse.{digits_value}
use Rattle.std.proofs.lemmas.Bool.{cases_Bool, or_parts}
use Rattle.std.proofs.lemmas.Bool.Decides.{nat_tests}
use Rattle.std.proofs.lemmas.Fmt.{decimal-digits_value}
use Rattle.std.proofs.lemmas.List.{append-nil}
use Rattle.ic_laws.specs.Amount.{unsigned_amount, unsigned_text, units_of_one}
use Rattle.ic_laws.specs.AmountFront.{amount_front, digits_to, fraction_front, last_whole, number_in_one_pass, past_amount, past_fraction, past_to}
use Rattle.ic_laws.specs.Dialect.{DialectMeaning, IsLawful, OfAmount}
use Rattle.ic_laws.specs.Scan.{IsEnd, first_is, is_digit, joins}
use Rattle.ic_laws.specs.Split.{longer}
use Rattle.ic_laws.specs.Token.{Token, Num}
use Rattle.ic_laws.specs.TokenKinds.{local_at, reference_at}
use Rattle.ic_laws.proofs.AmountLemmas.{numerals}
use Rattle.ic_laws.proofs.AmountTexts.{unsigned_amount-text}
use Rattle.ic_laws.proofs.printing.Words.{gives_way}
use Rattle.ic_laws.proofs.tokens.Characters.{digit_begins_none}
use Rattle.ic_laws.proofs.tokens.Locals.{no_local_digit}
use Rattle.ic_laws.proofs.tokens.Numbers.{separator_apart, digits_all as all_whole}
use Rattle.ic_tree.specs.Lexing.{IsWholeNumber, found, named_at}

-- of a head, a word and a number it is the number, and no reference is as long
pub number_first : (d : DialectMeaning) → IsLawful d → (text cs : List ℕ) (c : ℕ) (token : Token) (rest : List ℕ) → text ≡ c ∷ cs → is_digit c ≡ true → IsWholeNumber d text token rest
    → Some (found token rest) ≡ longer (reference_at d text) (longer (local_at text) (named_at d text))
number_first d n text cs c token rest is digit w =
    let none = digit_begins_none c digit in
    let local : local_at text ≡ None = ap local_at is ∙ no_local_digit c cs digit in
    let number : number_in_one_pass d (c ∷ cs) ≡ Some (token, rest) = ap (number_in_one_pass d) (sym is) ∙ w.reads in
    let named : named_at d text ≡ Some (found token rest) = ap (named_at d) is ∙ rw none number in
    let way = gives_way d text rest token (d.read_ref text) (λ r after e. n.shorter_than (unsigned_text d.decimal w.units) rest after r (OfAmount w.units w.small) w.end (ap d.read_ref (sym w.whole) ∙ e)) in
    sym (ap (λ l. longer (reference_at d text) (longer l (named_at d text))) local ∙ ap (longer (reference_at d text)) named ∙ way)

-- the digits at the front, and what stands after them
digits_split : (most n : ℕ) (text : List ℕ) → digits_to most n text ++ past_to most n text ≡ text
digits_split most n [] = refl
digits_split most n (c ∷ cs) =
    elim (cases_Bool (is_digit c && nat_le (n * 10 + digit_value c) most)) [
      | inl p ↦ rw p (ap (λ t. c ∷ t) (digits_split most (n * 10 + digit_value c) cs))
      | inr p ↦ rw p refl
    ]

-- they begin as the text does
zero_first : (digits rest text : List ℕ) → digits ++ rest ≡ text → 0 < length digits → get_or digits 0 0 ≡ 48 → first_is (λ c. c == 48) text ≡ true
zero_first [] rest text e some zero = absurd (omega (arith, some))
zero_first (c ∷ cs) rest text e some zero = ap (first_is (λ c. c == 48)) (sym e) ∙ grind (arith, nat_tests, zero)

-- what doesn't go on is an end, and no separator
ends : (separator : ℕ) (rest : List ℕ) → first_is (λ c. joins c || c == separator) rest ≡ false → IsEnd rest × (fraction_front separator rest ≡ []) × (past_fraction separator rest ≡ rest)
ends separator [] h = (refl, refl, refl)
ends separator (c ∷ cs) h = let p = or_parts (joins c) (c == separator) h in (p.0, rw p.1 refl, rw p.1 refl)

-- so many whole units are spelled by their digits
whole_text : (separator : ℕ) (digits : List ℕ) (value units : ℕ) → decimal value ≡ digits → units ≡ value * units_of_one → unsigned_text separator units ≡ digits
whole_text separator digits value units e is =
    let whole : units / units_of_one ≡ value = omega (arith, is) in
    let none : units % units_of_one ≡ 0 = omega (arith, is) in
    rw (whole, none) (append-nil (decimal value) ∙ e)

pub whole_number_is : (d : DialectMeaning) → IsLawful d → (separator : ℕ) (text rest : List ℕ) (value count : ℕ) (amount : ℤ) → separator ≡ d.decimal
    → value ≡ digits_value 10 (digits_to last_whole 0 text) → count ≡ length (digits_to last_whole 0 text) → rest ≡ past_to last_whole 0 text → value ≤ last_whole
    → 0 < count → (1 < count → first_is (λ c. c == 48) text ≡ false) → first_is (λ c. joins c || c == separator) rest ≡ false → amount ≡ pos (value * units_of_one)
    → IsWholeNumber d text (Num amount) rest
whole_number_is d n separator text rest value count amount is_decimal of_value of_count of_rest small some lead end of_amount =
    let D = digits_to last_whole 0 text in
    let units : ℕ = value * units_of_one in
    let split : D ++ rest ≡ text = ap (λ r. D ++ r) of_rest ∙ digits_split last_whole 0 text in
    let many : 0 < length D = omega (arith, of_count, some) in
    let first : get_or D 0 0 ≡ 48 → length D ≡ 1 = λ zero. not_more (zero_first D rest text split many zero) many in
    let spelled : decimal value ≡ D = ap decimal of_value ∙ decimal-digits_value numerals D (all_whole last_whole 0 text) many first (omega (arith, of_value, small)) in
    let canonical : unsigned_text d.decimal units ≡ D = whole_text d.decimal D value units spelled refl in
    let fits : units < 10 ^ 27 = omega (arith, small) in
    let stop = ends d.decimal rest (ap (λ s. first_is (λ c. joins c || c == s) rest) (sym is_decimal) ∙ end) in
    let front : amount_front d.decimal text ≡ unsigned_text d.decimal units =
    ap (λ r. D ++ fraction_front d.decimal r) (sym of_rest) ∙ ap (λ f. D ++ f) stop.1 ∙ append-nil D ∙ sym canonical in
    let past : past_amount d.decimal text ≡ rest = ap (past_fraction d.decimal) (sym of_rest) ∙ stop.2 in
    let read : unsigned_amount d.decimal (amount_front d.decimal text) ≡ Some units = ap (unsigned_amount d.decimal) front ∙ unsigned_amount-text d.decimal units fits (separator_apart d n) in
    record {
      units = units;
      whole = sym split ∙ ap (λ w. w ++ rest) (sym canonical);
      small = fits;
      end = stop.0;
      reads =
          ap (option_map (λ units. let g : Token × List ℕ = (Num (pos units), past_amount d.decimal text) in g)) read
          ∙ ap (λ r. Some (let g : Token × List ℕ = (Num (pos units), r) in g)) past ∙ ap (λ a. Some (let g : Token × List ℕ = (Num a, rest) in g)) (sym of_amount);
    }
  where
    not_more : first_is (λ c. c == 48) text ≡ true → 0 < length (digits_to last_whole 0 text) → length (digits_to last_whole 0 text) ≡ 1
    not_more zero many =
        elim (cases_Bool (nat_le (length (digits_to last_whole 0 text)) 1)) [
          | inl p ↦ grind (arith, nat_tests, p, many)
          | inr p ↦ absurd (let no : true ≡ false = sym zero ∙ lead (grind (arith, nat_tests, of_count, p)) in cc)
        ]
