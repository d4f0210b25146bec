-- The locale and the languages by which a book's texts are read and shown, and what they make of texts and values.
use Rattle.std.specs.Prelude.{ℕ, ℤ, List, [], ◌∷◌, Bool, true, false, ◌&&◌, Option, Some, None, if◌then◌else◌}
use Rattle.std.specs.Ordering.{int_eq}
use Rattle.ic_laws.specs.Amount.{amount_text}
use Rattle.ic_laws.specs.Character.{dot, quote}
use Rattle.ic_laws.specs.Notations.{english}
use Rattle.ic_laws.specs.declared.tree.Error.{Error}
use Rattle.ic_tables.specs.Tables.{language_of, locale_of}
use Rattle.ic_tables.specs.declared.language.Language.{Language}
use Rattle.ic_tables.specs.declared.locale.Locale.{Locale}
use Rattle.ic_tables.specs.declared.locale.NamedLocale.{NamedLocale}
use Rattle.ic_cells.specs.Value.{boolean_word, error_word}
use Rattle.ic_cells.specs.declared.value.CellValue.{CellValue}
use Rattle.ic_cells.specs.declared.value.CellValue.TheVariants as values
use Rattle.ic_input.specs.Code.{is_date_code}
use Rattle.ic_tables.specs.Formats.{decimal_separator}
use Rattle.ic_input.specs.Typed.{formula_of, typed}
use Rattle.ic_input.specs.declared.input.Typed.{Typed}
use Rattle.ic_input.specs.declared.input.Typed.TheVariants as kinds
use Rattle.ic_machine.specs.Book.{Book}
use Rattle.ic_machine.specs.Content.{Content, value_of}
use Rattle.ic_machine.specs.Format.{formatted}

-- the locale and the language in force, and English
pub record InForce : Type 0 where
  pub locale : Locale
  pub language : Language
  pub beside : Language

abbrev pub all_there : Option NamedLocale → Option Language → Option Language → Option InForce
all_there (Some l) (Some language) (Some beside) = Some (record { locale = l.locale; language = language; beside = beside })
all_there l language beside = None

abbrev pub in_force : Book → Option InForce
in_force book = all_there (locale_of book.tables book.locale) (language_of book.tables book.language) (language_of book.tables english)

-- what the notation in force makes of something; each valid book has one, and nothing is asked of another
abbrev pub by_notation : {A : Type 0} → A → (InForce → A) → Option InForce → A
by_notation otherwise make None = otherwise
by_notation otherwise make (Some f) = make f

-- what a typed text is, and its formula, if it has one
abbrev pub typed_in : Book → List ℕ → Typed
typed_in book text = by_notation (kinds.Text text) (λ f. typed f.locale f.language f.beside text) (in_force book)

abbrev pub formula_typed : Book → List ℕ → Option (List ℕ)
formula_typed book text = by_notation None (λ f. formula_of f.locale text) (in_force book)

-- the decimal separator
abbrev pub decimal_in : Book → ℕ
decimal_in book = by_notation dot (λ f. decimal_separator f.locale) (in_force book)

-- the words of a boolean and of an error value
abbrev pub boolean_in : Book → Bool → List ℕ
boolean_in book truth = by_notation [] (λ f. boolean_word f.language truth) (in_force book)

abbrev pub error_in : Book → Error → List ℕ
error_in book e = by_notation [] (λ f. error_word f.language e) (in_force book)

-- an amount by a code
abbrev pub formatted_in : Book → List ℕ → ℤ → List ℕ
formatted_in book code v = by_notation [] (λ f. formatted f.locale code v) (in_force book)

-- the value of a content
abbrev pub value_in : Book → Content → CellValue
value_in book content = by_notation values.None (λ f. value_of f.language content) (in_force book)

-- Shown content, so that it can be typed again. ----

abbrev pub is_number : ℤ → Typed → Bool
is_number v (kinds.Number typed code) = int_eq typed v
is_number v typed = false

abbrev pub is_text : Typed → Bool
is_text (kinds.Text text) = true
is_text typed = false

-- a number is its amount's text; its date, where its code is one of dates and that date, typed, is the number
abbrev pub shown_number : Book → List ℕ → ℤ → List ℕ
shown_number book code v =
    if is_date_code code && is_number v (typed_in book (formatted_in book code v)) then formatted_in book code v else amount_text (decimal_in book) v

-- a text has a quote before it, where without one it would be something else
abbrev pub shown_words : Book → List ℕ → List ℕ
shown_words book text = if is_text (typed_in book text) then text else quote ∷ text
