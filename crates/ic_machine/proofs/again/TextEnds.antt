-- What is printed of a tree begins with no blank and no equals sign and ends with no blank, if no word of an error value ends
-- with one.
use Rattle.std.proofs.Common.{◌≡◌, ℕ, zero, suc, ◌+◌, ◌<◌, ◌^◌, ◌/◌, ◌%◌, pos, negsuc, List, [], ◌∷◌, ◌++◌, Bool, true, false, not, ◌==◌, cond, Option, Some, None, reverse, length, flat_map, option_map, refl, sym, ap, subst, ◌∙◌, arith, inl, inr, add-one}
use Rattle.std.proofs.lemmas.Bool.{and_from, and_parts, cases_Bool, true≢false, not-true as not_blank}
use Rattle.std.proofs.lemmas.Bool.Decides.{eqb_tells, nat_tests}
use Rattle.std.proofs.lemmas.Fmt.{digits_decimal, decimal_nonempty}
use Rattle.std.proofs.lemmas.List.{append-nil, reverse-append, reverse-reverse}
use Rattle.std.proofs.lemmas.List.Folds.{list_all-append}
use Rattle.std.specs.Fmt.{decimal}
use Rattle.std.specs.List.{list_all}
use Rattle.std.specs.Prelude.{option_and_then}
use Rattle.ic_laws.proofs.AmountLemmas.{numerals}
use Rattle.ic_laws.proofs.printing.Operands.{reads_back}
use Rattle.ic_laws.proofs.printing.Signs.{sign_read}
use Rattle.ic_laws.proofs.printing.Trees.{fits_chain}
use Rattle.ic_laws.proofs.printing.Words.{boolean_small, error_begins, error_number_small, has_word}
use Rattle.ic_laws.proofs.tokens.Characters.{blank_no_word}
use Rattle.ic_laws.proofs.tokens.Lexing.{Begins, spelled_begins}
use Rattle.ic_laws.proofs.tokens.Next.{token_at_sound}
use Rattle.ic_laws.specs.Amount.{fraction_digits, units_of_one, unsigned_text}
use Rattle.ic_laws.specs.Character.{double_quote, equals}
use Rattle.ic_laws.specs.Dialect.{DialectMeaning, IsLawful, boolean_number, error_number, reference_text, word_text}
use Rattle.ic_laws.specs.Following.{CanSpell, IsChain, spelled_out}
use Rattle.ic_laws.specs.FormulaReading.{trimmed, without_equals}
use Rattle.ic_laws.specs.Name.{is_variable, is_variable_form}
use Rattle.ic_laws.specs.NextToken.{after_token, tokens_by}
use Rattle.ic_laws.specs.Parse.{expression, operand, parsed, prefix_sign, primary, reader}
use Rattle.ic_laws.specs.ReadAs.{read_as}
use Rattle.ic_laws.specs.Reading.{Fits, printed}
use Rattle.ic_laws.specs.Scan.{first_is, is_blank, is_digit, is_word_character, past_run}
use Rattle.ic_laws.specs.SheetText.{sheet_text}
use Rattle.ic_laws.specs.Token.{At, Boolean, Close, CloseBrace, Err, FunHead, Hash, Local, NameHead, Num, Open, OpenBrace, Operator, Percent, Ref, Semicolon, Separator, Str, Token, Word, token_text}
use Rattle.ic_laws.specs.Tree.{Spelled}
use Rattle.ic_laws.specs.Yield.{yield}
use Rattle.ic_laws.specs.declared.dialect.WordKind.TheVariants as kinds
use Rattle.ic_laws.specs.declared.reference.RefToken.{RefToken}
use Rattle.ic_laws.specs.declared.tree.BinarySign.TheVariants as signs
use Rattle.ic_laws.specs.declared.tree.Error.{Error}
use Rattle.ic_machine.proofs.valid.RetypedLemmas.{empty_reads}
use Rattle.ic_input.proofs.RunSteps.{all_weaker as all_of}
use Rattle.ic_laws.proofs.tokens.Plain.{first_front as first_joined}

-- Texts without blanks at their ends. ----

abbrev pub is_solid : ℕ → Bool
is_solid c = not (is_blank c)

pub record IsTight (text : List ℕ) : Type 0 where
  pub first : first_is is_solid text ≡ true
  pub last : first_is is_solid (reverse text) ≡ true

past_solid : (text : List ℕ) → first_is is_solid text ≡ true → past_run is_blank text ≡ text
past_solid [] h = refl
past_solid (c ∷ cs) h = ap (λ (b : Bool). cond b (past_run is_blank cs) (c ∷ cs)) (not_blank (is_blank c) h)

pub trimmed_tight : (text : List ℕ) → IsTight text → trimmed text ≡ text
trimmed_tight text h =
    ap (λ (t : List ℕ). reverse (past_run is_blank (reverse t))) (past_solid text h.first) ∙ ap reverse (past_solid (reverse text) h.last) ∙ reverse-reverse text

pub last_joined : (a b : List ℕ) → first_is is_solid (reverse b) ≡ true → first_is is_solid (reverse (a ++ b)) ≡ true
last_joined a b h = ap (first_is is_solid) (reverse-append a b) ∙ first_joined is_solid (reverse b) (reverse a) h

pub tight_joined : (a b : List ℕ) → IsTight a → IsTight b → IsTight (a ++ b)
tight_joined a b h k = record { first = first_joined is_solid a b h.first; last = last_joined a b k.last }

-- a text that has no blank at all
all_reversed : (p : ℕ → Bool) (cs : List ℕ) → list_all p cs ≡ true → list_all p (reverse cs) ≡ true
all_reversed p [] h = refl
all_reversed p (c ∷ cs) h =
    let parts = and_parts (p c) (list_all p cs) h in
    ap (list_all p) (reverse-append (c ∷ []) cs) ∙ list_all-append p (reverse cs) (c ∷ [])
    ∙ and_from (list_all p (reverse cs)) (list_all p (c ∷ [])) (all_reversed p cs parts.1) (and_from (p c) true parts.0 refl)

solid_last : (c : ℕ) (cs : List ℕ) → list_all is_solid (c ∷ cs) ≡ true → first_is is_solid (reverse (c ∷ cs)) ≡ true
solid_last c cs h =
    let parts = and_parts (is_solid c) (list_all is_solid cs) h in
    ap (first_is is_solid) (reverse-append (c ∷ []) cs) ∙ go (reverse cs) (all_reversed is_solid cs parts.1) parts.0
  where
    go : (ds : List ℕ) → list_all is_solid ds ≡ true → is_solid c ≡ true → first_is is_solid (ds ++ c ∷ []) ≡ true
    go [] all here = here
    go (d ∷ ds) all here = (and_parts (is_solid d) (list_all is_solid ds) all).0

solid_tight : (c : ℕ) (cs : List ℕ) → list_all is_solid (c ∷ cs) ≡ true → IsTight (c ∷ cs)
solid_tight c cs h = record { first = (and_parts (is_solid c) (list_all is_solid cs) h).0; last = solid_last c cs h }

-- one of at least one character
pub all_tight : (text : List ℕ) → 0 < length text → list_all is_solid text ≡ true → IsTight text
all_tight [] some h = absurd (omega arith)
all_tight (c ∷ cs) some h = solid_tight c cs h

-- Characters that are no blanks. ----

word_solid : (c : ℕ) → is_word_character c ≡ true → is_solid c ≡ true
word_solid c h = elim (cases_Bool (is_blank c)) [
  | inl t ↦ let no : is_word_character c ≡ false = blank_no_word c t in absurd (true≢false (sym h ∙ no))
  | inr f ↦ ap not f
]

-- a number that is more than that of a blank
pub high_solid : (c : ℕ) → 32 < c → is_solid c ≡ true
high_solid c h = grind (arith, nat_tests)

word_some : (p : ℕ → Bool) (text : List ℕ) → first_is p text ≡ true → 0 < length text
word_some p [] h = absurd (true≢false (sym h))
word_some p (c ∷ cs) h = omega arith

words_tight : (p : ℕ → Bool) (text : List ℕ) → first_is p text ≡ true → list_all is_word_character text ≡ true → IsTight text
words_tight p text h all = all_tight text (word_some p text h) (all_of is_word_character is_solid word_solid text all)

form_tight : (text : List ℕ) → is_variable_form text ≡ true → IsTight text
form_tight text h = let run = and_parts _ _ (and_parts _ _ (and_parts _ _ h).0).0 in words_tight _ text run.0 run.1

variable_tight : (text : List ℕ) → is_variable text ≡ true → IsTight text
variable_tight text h = form_tight text (and_parts _ _ (and_parts _ _ h).0).0

-- digits
digit_solid : (c : ℕ) → is_digit c ≡ true → is_solid c ≡ true
digit_solid c h = grind (arith, nat_tests)

fraction_step : (none : Bool) (first : ℕ) (others : List ℕ) → 32 < first → list_all is_solid others ≡ true → list_all is_solid (cond none [] (first ∷ others)) ≡ true
fraction_step true first others h all = refl
fraction_step false first others h all = and_from (is_solid first) (list_all is_solid others) (high_solid first h) all

fraction_solid : (places fraction : ℕ) → list_all is_solid (fraction_digits places fraction) ≡ true
unfolding fraction_digits
fraction_solid zero fraction = refl
fraction_solid (suc places) fraction =
    fraction_step (fraction == 0) (48 + fraction / 10 ^ places) (fraction_digits places (fraction % 10 ^ places)) (omega arith) (fraction_solid places (fraction % 10 ^ places))

decimal_solid : (w : ℕ) → w < 2 ^ 64 → list_all is_solid (decimal w) ≡ true
decimal_solid w large = all_of is_digit is_solid digit_solid (decimal w) (digits_decimal numerals w large)

-- the text of an amount
amount_tight : (separator units : ℕ) → is_solid separator ≡ true → units < 10 ^ 27 → IsTight (unsigned_text separator units)
amount_tight separator units solid small =
    let w : ℕ = units / units_of_one in
    let large : w < 2 ^ 64 = omega arith in
    let some : 0 < length (decimal w) = decimal_nonempty w large in
    go w (units % units_of_one) (units % units_of_one == 0) some (decimal_solid w large)
  where
    go : (w rest : ℕ) (none : Bool) → 0 < length (decimal w) → list_all is_solid (decimal w) ≡ true → IsTight (decimal w ++ cond none [] (separator ∷ fraction_digits 9 rest))
    go w rest true some all = subst IsTight (sym (append-nil (decimal w))) (all_tight (decimal w) some all)
    go w rest false some all =
        tight_joined (decimal w) (separator ∷ fraction_digits 9 rest) (all_tight (decimal w) some all)
        (solid_tight separator (fraction_digits 9 rest) (and_from (is_solid separator) (list_all is_solid (fraction_digits 9 rest)) solid (fraction_solid 9 rest)))

-- what ends with one more character
pub pushed_last : (front : List ℕ) (c : ℕ) → is_solid c ≡ true → first_is is_solid (reverse (front ++ c ∷ [])) ≡ true
pushed_last front c h = last_joined front (c ∷ []) h

-- Tokens. ----

-- no word of an error value ends with a blank, and no reference does
pub record EndsSolid (d : DialectMeaning) : Type 0 where
  pub errors : (e : Error) → first_is is_blank (reverse (word_text d kinds.Error (error_number e))) ≡ false
  pub references : (r : RefToken) → d.can_spell r ≡ true → first_is is_solid (reverse (d.spell_ref r)) ≡ true

module _ (d : DialectMeaning) (lawful : IsLawful d) where
  abbrev EndSolid : List ℕ → Type 0
  EndSolid text = first_is is_solid (reverse text) ≡ true

  separators_solid : (is_solid d.list ≡ true) × (is_solid d.decimal ≡ true)
  separators_solid = elim lawful.separators [ inl s ↦ rw (s.0, s.1) (refl, refl) | inr s ↦ rw (s.0, s.1) (refl, refl) ]

  boolean_solid : (value : Bool) → EndSolid (word_text d kinds.Boolean (boolean_number value))
  boolean_solid value =
      let w = has_word d kinds.Boolean (boolean_number value) (lawful.booleans (boolean_number value) (boolean_small value)) in
      subst EndSolid (sym w.2) (form_tight w.0 (lawful.boolean_shape (boolean_number value) w.0 w.1)).last

  marked_solid : (w : List ℕ) → first_is is_blank (reverse (35 ∷ w)) ≡ false → EndSolid (35 ∷ w)
  marked_solid w h = ap (first_is is_solid) (reverse-append (35 ∷ []) w) ∙ go (reverse w) (sym (ap (first_is is_blank) (reverse-append (35 ∷ []) w)) ∙ h)
    where
      go : (front : List ℕ) → first_is is_blank (front ++ 35 ∷ []) ≡ false → first_is is_solid (front ++ 35 ∷ []) ≡ true
      go [] k = refl
      go (c ∷ cs) k = ap not k

  error_solid : (e : Error) → first_is is_blank (reverse (word_text d kinds.Error (error_number e))) ≡ false → EndSolid (word_text d kinds.Error (error_number e))
  error_solid e h =
      let w = has_word d kinds.Error (error_number e) (lawful.errors (error_number e) (error_number_small e)) in
      let mark = error_begins w.0 (lawful.error_shape w.0 (error_number e) (lawful.finds_word kinds.Error (error_number e) w.0 w.1)) in
      let is : word_text d kinds.Error (error_number e) ≡ 35 ∷ mark.0 = w.2 ∙ mark.1 in
      subst EndSolid (sym is) (marked_solid mark.0 (sym (ap (λ (text : List ℕ). first_is is_blank (reverse text)) is) ∙ h))

  -- a token that can be spelled ends with no blank, where this holds of those two
  pub token_solid : EndsSolid d → (token : Token) → CanSpell d token → EndSolid (token_text d token)
  token_solid ends (Num (pos units)) can = (amount_tight d.decimal units separators_solid.1 can).last
  token_solid ends (Num (negsuc units)) can = absurd can
  token_solid ends (Str text) can = pushed_last (double_quote ∷ flat_map (λ c. cond (c == double_quote) (double_quote ∷ double_quote ∷ []) (c ∷ [])) text) double_quote refl
  token_solid ends (Boolean value) can = boolean_solid value
  token_solid ends (Err e) can = error_solid e (ends.errors e)
  token_solid ends (Ref r) can = let text : reference_text d r ≡ d.spell_ref r = rw can refl in subst EndSolid (sym text) (ends.references r can)
  token_solid ends (Local sheet word) can = last_joined (sheet_text (Some sheet)) word (variable_tight word (and_parts _ _ (and_parts _ _ (and_parts _ _ can.1).0).0).0).last
  token_solid ends (Word text) can = (variable_tight text can.0).last
  token_solid ends (FunHead number) can = pushed_last (word_text d kinds.Function number) 40 refl
  token_solid ends (NameHead name) can = pushed_last name 40 refl
  token_solid ends Separator can = separators_solid.0
  token_solid ends (Operator signs.Equal) can = refl
  token_solid ends (Operator signs.Unequal) can = refl
  token_solid ends (Operator signs.Less) can = refl
  token_solid ends (Operator signs.Greater) can = refl
  token_solid ends (Operator signs.AtMost) can = refl
  token_solid ends (Operator signs.AtLeast) can = refl
  token_solid ends (Operator signs.Join) can = refl
  token_solid ends (Operator signs.Plus) can = refl
  token_solid ends (Operator signs.Minus) can = refl
  token_solid ends (Operator signs.Times) can = refl
  token_solid ends (Operator signs.Over) can = refl
  token_solid ends (Operator signs.Power) can = refl
  token_solid ends At can = refl
  token_solid ends Percent can = refl
  token_solid ends Hash can = refl
  token_solid ends Open can = refl
  token_solid ends Close can = refl
  token_solid ends OpenBrace can = refl
  token_solid ends CloseBrace can = refl
  token_solid ends Semicolon can = refl

  -- so a chain of them ends with none
  chain_solid : EndsSolid d → (t : Token) (ts : List Token) → IsChain d (t ∷ ts) → EndSolid (spelled_out d (t ∷ ts))
  chain_solid ends t [] h = subst EndSolid (sym (append-nil (token_text d t))) (token_solid ends t h.0)
  chain_solid ends t (u ∷ ts) h = last_joined (token_text d t) (spelled_out d (u ∷ ts)) (chain_solid ends u ts h.2)

  -- and begins with none
  chain_begins : (t : Token) (ts : List Token) → IsChain d (t ∷ ts) → first_is is_solid (spelled_out d (t ∷ ts)) ≡ true
  chain_begins t ts h =
      let takes = token_at_sound d lawful (spelled_out d (t ∷ ts)) (spelled_out d ts) t (reads_back d lawful t (spelled_out d ts) h.0 h.1) in
      ap (first_is is_solid) takes.whole ∙ go takes.front (spelled_out d ts) (spelled_begins d lawful takes.front (spelled_out d ts) t takes.spelled)
    where
      go : (front rest : List ℕ) → Begins front → first_is is_solid (front ++ rest) ≡ true
      go [] rest begins = absurd begins
      go (c ∷ cs) rest begins = ap not begins

  -- what begins with an equals sign doesn't read
  no_expression : (ts : List Token) → parsed d (Operator signs.Equal ∷ ts) ≡ None
  unfolding parsed reader expression operand prefix_sign primary
  no_expression ts = refl

  equals_unread : (cs : List ℕ) → read_as d (equals ∷ cs) ≡ None
  unfolding tokens_by
  equals_unread cs =
      ap (λ (fuel : ℕ). option_and_then (parsed d) (tokens_by d fuel (equals ∷ cs))) (add-one (suc (length cs)))
      ∙ ap (λ (found : Option (Token × List ℕ)). option_and_then (parsed d) (after_token (tokens_by d (suc (length cs))) found)) (sign_read d lawful signs.Equal cs tt)
      ∙ go (tokens_by d (suc (length cs)) cs)
    where
      go : (o : Option (List Token)) → option_and_then (parsed d) (option_map (λ ts. Operator signs.Equal ∷ ts) o) ≡ None
      go None = refl
      go (Some ts) = no_expression ts

  -- Texts of trees that read back. ----

  module _ (t : Spelled) (fits : Fits d t) (reads : read_as d (printed d t) ≡ Some t) where
    pub no_equals : first_is (λ c. c == equals) (printed d t) ≡ false
    no_equals = go (printed d t) reads
      where
        go : (text : List ℕ) → read_as d text ≡ Some t → first_is (λ c. c == equals) text ≡ false
        go [] h = refl
        go (c ∷ cs) h = elim (eqb_tells c equals) [
          | inl e ↦ let none : None ≡ Some t = sym (equals_unread cs) ∙ ap (λ (x : ℕ). read_as d (x ∷ cs)) (sym e.1) ∙ h in absurd (cc)
          | inr e ↦ e.0
        ]

    pub printed_begins : first_is is_solid (printed d t) ≡ true
    printed_begins = go (yield d t) (fits_chain d lawful t fits) reads
      where
        go : (ts : List Token) → IsChain d ts → read_as d (spelled_out d ts) ≡ Some t → first_is is_solid (spelled_out d ts) ≡ true
        go [] h read = let none : None ≡ Some t = sym (empty_reads d) ∙ read in absurd (cc)
        go (u ∷ ts) h read = chain_begins u ts h

    pub printed_tight : EndsSolid d → IsTight (printed d t)
    printed_tight ends = record { first = printed_begins; last = go (yield d t) (fits_chain d lawful t fits) reads }
      where
        go : (ts : List Token) → IsChain d ts → read_as d (spelled_out d ts) ≡ Some t → EndSolid (spelled_out d ts)
        go [] h read = let none : None ≡ Some t = sym (empty_reads d) ∙ read in absurd (cc)
        go (u ∷ ts) h read = chain_solid ends u ts h

-- one with an equals sign before it, and one without
pub without_equals_front : (has : Bool) (text : List ℕ) → first_is (λ c. c == equals) text ≡ false → without_equals (cond has (equals ∷ []) [] ++ text) ≡ text
without_equals_front true text h = refl
without_equals_front false [] h = refl
without_equals_front false (c ∷ cs) h = ap (λ (b : Bool). cond b cs (c ∷ cs)) h

pub equals_front : (has : Bool) (text : List ℕ) → first_is (λ c. c == equals) text ≡ false → first_is (λ c. c == equals) (cond has (equals ∷ []) [] ++ text) ≡ has
equals_front true text h = refl
equals_front false text h = h

pub tight_front : (has : Bool) (text : List ℕ) → IsTight text → IsTight (cond has (equals ∷ []) [] ++ text)
tight_front true text h = record { first = refl; last = last_joined (equals ∷ []) text h.last }
tight_front false text h = h
