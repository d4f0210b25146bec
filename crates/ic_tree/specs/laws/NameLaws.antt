-- What variables, words of functions and amounts look like: shared by every dialect.
use Rattle.std.proofs.Common.{◌≡◌, ℕ, ◌<◌, ◌/◌, ◌^◌, List, [], ◌∷◌, ◌++◌, true, false, not, ◌&&◌, ◌||◌, length, append_assoc, sym, subst, arith, eqb}
use Rattle.std.specs.Fmt.{decimal}
use Rattle.std.specs.Str.{all_ascii_digits}
use Rattle.std.specs.List.{list_all}
use Rattle.std.proofs.lemmas.Bool.{and_parts, or_left, not-true}
use Rattle.std.proofs.lemmas.Fmt.{digits_decimal, decimal_nonempty}
use Rattle.ic_laws.specs.Amount.{units_of_one, unsigned_text}
use Rattle.ic_laws.specs.Scan.{begins_word, first_is, is_digit, is_letter, is_word_character}
use Rattle.ic_laws.specs.Name.{agrees, has_row_column_form, is_a1_cell, is_lone, is_variable, is_variable_form}
use Rattle.ic_laws.proofs.AmountLemmas.{numerals}

pub letter_begins_word : (word : List ℕ) → first_is is_letter word ≡ true → first_is begins_word word ≡ true
letter_begins_word [] h = absurd (cc)
letter_begins_word (c ∷ cs) h = or_left (is_letter c || eqb c 95) (eqb c 92) (or_left (is_letter c) (eqb c 95) h)

-- a variable's form, in its parts
pub record FormParts (name : List ℕ) : Type 0 where
  pub begins : first_is begins_word name ≡ true
  pub all : list_all is_word_character name ≡ true
  pub no_cell : is_a1_cell name ≡ false
  pub no_row : (is_lone name || not (has_row_column_form name)) ≡ true

pub form_parts : (name : List ℕ) → is_variable_form name ≡ true → FormParts name
form_parts name h =
    let a = and_parts (first_is begins_word name && list_all is_word_character name && not (is_a1_cell name)) (is_lone name || not (has_row_column_form name)) h in
    let b = and_parts (first_is begins_word name && list_all is_word_character name) (not (is_a1_cell name)) a.0 in
    let c = and_parts (first_is begins_word name) (list_all is_word_character name) b.0 in
    record { begins = c.0; all = c.1; no_cell = not-true _ b.1; no_row = a.1 }

pub variable_form : (name : List ℕ) → is_variable name ≡ true → is_variable_form name ≡ true
variable_form name h =
    (and_parts (is_variable_form name) (not (agrees name _)) (and_parts (is_variable_form name && not (agrees name _)) (not (agrees name _)) h).0).0

-- the text of an amount begins with a digit
digits_first : (ds more : List ℕ) → all_ascii_digits ds ≡ true → 0 < length ds → first_is is_digit (ds ++ more) ≡ true
digits_first [] more h l = absurd (omega arith)
digits_first (d ∷ ds) more h l = (and_parts (is_digit d) (all_ascii_digits ds) h).0

pub amount_first : (separator units : ℕ) (rest : List ℕ) → units < 10 ^ 27 → first_is is_digit (unsigned_text separator units ++ rest) ≡ true
amount_first separator units rest small =
    let large : units / units_of_one < 2 ^ 64 = omega arith in
    let digits : all_ascii_digits (decimal (units / units_of_one)) ≡ true = digits_decimal numerals (units / units_of_one) large in
    let some : 0 < length (decimal (units / units_of_one)) = omega (arith, decimal_nonempty (units / units_of_one) large) in
    subst (λ t. first_is is_digit t ≡ true) (sym (append_assoc (decimal (units / units_of_one)) _ rest)) (digits_first (decimal (units / units_of_one)) _ digits some)
