-- What is shown of a boolean, an error value, a text or a formula is typed as it again.
use Rattle.std.specs.Prelude.{◌≡◌, ◌≢◌, ℕ, List, [], ◌∷◌, Bool, Some}
use Rattle.std.specs.List.{slice_get}
use Rattle.ic_laws.specs.Character.{equals, quote}
use Rattle.ic_laws.specs.Dialect.{boolean_number, error_number}
use Rattle.ic_laws.specs.declared.tree.Error.{Error}
use Rattle.ic_tables.specs.Tables.{HasGoodFormats, IsWellFormed, TableSet, language_of}
use Rattle.ic_tables.specs.Words.{boolean_words, error_words}
use Rattle.ic_tables.specs.declared.language.Language.{Language}
use Rattle.ic_tables.specs.declared.locale.Locale.{Locale}
use Rattle.ic_input.specs.Typed.{typed}
use Rattle.ic_input.specs.declared.input.Typed.TheVariants as kinds

-- a locale, a language and one beside it, which is asked after it, are of the same well-formed tables
pub record AreOfTables (tables : TableSet) (l : Locale) (language beside : Language) : Type 0 where
  pub well : IsWellFormed tables
  pub formats : HasGoodFormats tables l
  pub code : List ℕ
  pub found : language_of tables code ≡ Some language
  pub code_beside : List ℕ
  pub found_beside : language_of tables code_beside ≡ Some beside

-- the word of a boolean in a language is typed as the boolean
abbrev pub BooleansTypedAgain : Type 0
BooleansTypedAgain =
    (tables : TableSet) (l : Locale) (language beside : Language) (b : Bool) (word : List ℕ) → AreOfTables tables l language beside
    → slice_get (boolean_words language) (boolean_number b) ≡ Some word → typed l language beside word ≡ kinds.Boolean b

-- that of an error value as the error value
abbrev pub ErrorsTypedAgain : Type 0
ErrorsTypedAgain =
    (tables : TableSet) (l : Locale) (language beside : Language) (e : Error) (word : List ℕ) → AreOfTables tables l language beside
    → slice_get (error_words language) (error_number e) ≡ Some word → typed l language beside word ≡ kinds.Error e

-- what is typed as a text is that text
abbrev pub TextsTypedAgain : Type 0
TextsTypedAgain =
    (tables : TableSet) (l : Locale) (language beside : Language) (typed_text text : List ℕ) → HasGoodFormats tables l
    → typed l language beside typed_text ≡ kinds.Text text → text ≡ typed_text

-- any text after a quote is that text, quoted
abbrev pub QuotedTypedAgain : Type 0
QuotedTypedAgain = (l : Locale) (language beside : Language) (text : List ℕ) → typed l language beside (quote ∷ text) ≡ kinds.Quoted text

-- and something after an equals sign is the formula that it is
abbrev pub FormulasTypedAgain : Type 0
FormulasTypedAgain =
    (l : Locale) (language beside : Language) (formula : List ℕ) → formula ≢ [] → typed l language beside (equals ∷ formula) ≡ kinds.Formula formula
