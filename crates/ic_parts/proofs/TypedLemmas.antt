-- A text that needs no quote is typed as a text, unless it is empty.
use Rattle.std.proofs.Common.{◌≡◌, ℕ, suc, List, [], ◌∷◌, Bool, true, false, not, ◌||◌, ◌==◌, Option, Some, None, if◌then◌else◌, length, nat_eq, refl, sym, ap, ◌∙◌, arith, rules}
use Rattle.ic_laws.specs.Character.{equals, quote}
use Rattle.ic_laws.specs.declared.tree.Error.{Error}
use Rattle.ic_tables.specs.declared.language.Language.{Language}
use Rattle.ic_tables.specs.declared.locale.Locale.{Locale}
use Rattle.ic_input.specs.Convention.{is_nothing, is_sign, short_date}
use Rattle.ic_input.specs.Date.{iso_number, short_number}
use Rattle.ic_input.specs.Number.{unsigned_number}
use Rattle.ic_input.specs.Typed as input
use Rattle.ic_input.specs.Typed.{as_boolean, as_date, as_error, as_short_date, as_signed, as_unsigned, as_word, begins_formula, boolean_word, error_in, error_word, needs_quoting, sign_of, typed, typed_from}
use Rattle.ic_input.specs.declared.input.Typed.{Typed}
use Rattle.ic_input.specs.declared.input.Typed.TheVariants as kinds
use Rattle.ic_machine.specs.InForce.{InForce, by_notation, is_text, typed_in}
use Rattle.ic_parts.specs.Book.{Book, IsValidBook}
use Rattle.ic_parts.specs.Whole.{whole_of}
use Rattle.ic_parts.proofs.WholeWritten.{in_force_there}

-- it is a text where it is a text or nothing
abbrev IsSame : Typed → Type 0
IsSame t = input.is_text t ≡ is_text t

module _ (l : Locale) (language beside : Language) where
  of_error : (text : List ℕ) (o : Option Error) → IsSame (as_error text o)
  of_error text None = refl
  of_error text (Some e) = refl

  of_boolean : (text : List ℕ) (o : Option ℕ) → IsSame (as_boolean language beside text o)
  of_boolean text None = of_error text (error_in (error_word language beside text))
  of_boolean text (Some n) = refl

  of_word : (text : List ℕ) → IsSame (as_word language beside text)
  unfolding as_word
  of_word text = of_boolean text (boolean_word language beside text)

  of_short : (text : List ℕ) (o : Option ℕ) → IsSame (as_short_date l language beside text o)
  of_short text None = of_word text
  of_short text (Some n) = refl

  of_date : (text : List ℕ) (o : Option ℕ) → IsSame (as_date l language beside text o)
  of_date text None = of_short text (short_number (short_date l) text)
  of_date text (Some n) = refl

  of_unsigned : (text : List ℕ) → IsSame (as_unsigned l language beside text (unsigned_number l text))
  of_unsigned text =
      elim (unsigned_number l text) as (λ o. IsSame (as_unsigned l language beside text o)) [ None ↦ of_date text (iso_number text) | Some n ↦ refl ]

  of_signed : (c : ℕ) (text rest : List ℕ) → IsSame (as_signed text (sign_of c) (unsigned_number l rest))
  of_signed c text rest = elim (unsigned_number l rest) as (λ o. IsSame (as_signed text (sign_of c) o)) [ None ↦ refl | Some n ↦ refl ]

  of_front : (c : ℕ) (rest : List ℕ) → IsSame (typed_from l language beside c rest)
  of_front c rest =
      elim (is_nothing rest) as (λ b. IsSame (if b then as_unsigned l language beside (c ∷ rest) (unsigned_number l (c ∷ rest))
      else (if c == equals then kinds.Formula rest
      else (if is_sign c then as_signed (c ∷ rest) (sign_of c) (unsigned_number l rest) else as_unsigned l language beside (c ∷ rest) (unsigned_number l (c ∷ rest)))))) [
        | true ↦ of_unsigned (c ∷ rest)
        | false ↦ elim (c == equals) as (λ b. IsSame (if b then kinds.Formula rest
            else (if is_sign c then as_signed (c ∷ rest) (sign_of c) (unsigned_number l rest) else as_unsigned l language beside (c ∷ rest) (unsigned_number l (c ∷ rest))))) [
              | true ↦ refl
              | false ↦ elim (is_sign c) as (λ b. IsSame (if b then as_signed (c ∷ rest) (sign_of c) (unsigned_number l rest) else as_unsigned l language beside (c ∷ rest) (unsigned_number l (c ∷ rest)))) [
                | true ↦ of_signed c (c ∷ rest) rest
                | false ↦ of_unsigned (c ∷ rest)
              ]
            ]
      ]

  of_text : (c : ℕ) (rest : List ℕ) → IsSame (typed l language beside (c ∷ rest))
  unfolding typed
  of_text c rest = elim (c == quote) as (λ b. IsSame (if b then kinds.Quoted rest else typed_from l language beside c rest)) [ true ↦ refl | false ↦ of_front c rest ]

  of_nothing : is_text (typed l language beside []) ≡ false
  unfolding typed
  of_nothing = refl

unquoted : (begins text : Bool) → (begins || not text) ≡ false → text ≡ true
unquoted true text h = cc
unquoted false true h = refl
unquoted false false h = cc

not_zero : (n : ℕ) → not (nat_eq (suc n) 0) ≡ true
not_zero n = search (rules, arith)

pub plain_text : (book : Book) → IsValidBook book → (text : List ℕ) → needs_quoting text (typed_in (whole_of book) text) ≡ false → not (nat_eq (length text) 0) ≡ is_text (typed_in (whole_of book) text)
plain_text book valid [] h =
    let there = in_force_there book valid in
    sym (ap (λ (o : Option InForce). is_text (by_notation (kinds.Text []) (λ f. typed f.locale f.language f.beside []) o)) there.1 ∙ of_nothing there.0.locale there.0.language there.0.beside)
plain_text book valid (c ∷ cs) h =
    let there = in_force_there book valid in
    not_zero (length cs)
    ∙ sym (ap (λ (o : Option InForce). is_text (by_notation (kinds.Text (c ∷ cs)) (λ f. typed f.locale f.language f.beside (c ∷ cs)) o)) there.1
    ∙ sym (of_text there.0.locale there.0.language there.0.beside c cs)
    ∙ ap (λ (o : Option InForce). input.is_text (by_notation (kinds.Text (c ∷ cs)) (λ f. typed f.locale f.language f.beside (c ∷ cs)) o)) (sym there.1)
    ∙ unquoted (begins_formula c) (input.is_text (typed_in (whole_of book) (c ∷ cs))) h)
