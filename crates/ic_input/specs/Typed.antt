-- What a typed text is.
use Rattle.std.specs.Prelude.{◌≡◌, ◌≢◌, ℕ, ℤ, pos, neg_ℤ, ◌*◌, List, [], ◌∷◌, Bool, true, false, not, ◌||◌, ◌⊎◌, ◌==◌, Option, Some, None, chars, option_map, if◌then◌else◌}
use Rattle.std.specs.List.{slice_get}
use Rattle.std.specs.Option.{option_or}
use Rattle.ic_laws.specs.Amount.{units_of_one}
use Rattle.ic_laws.specs.Character.{equals, minus, quote}
use Rattle.ic_laws.specs.Dialect.{boolean_number, error_number}
use Rattle.ic_laws.specs.Scan.{first_is}
use Rattle.ic_laws.specs.declared.tree.Error.{Error}
use Rattle.ic_laws.specs.declared.tree.Error.TheVariants as errors
use Rattle.ic_tables.specs.Words.{boolean_words, error_words, first_agreeing}
use Rattle.ic_tables.specs.declared.language.Language.{Language}
use Rattle.ic_tables.specs.declared.locale.Locale.{Locale}
use Rattle.ic_input.specs.Code.{code_text}
use Rattle.ic_input.specs.Convention.{is_nothing, is_sign, plus, short_date}
use Rattle.ic_input.specs.Date.{IsTypedDate, iso_date, iso_number, short_number}
use Rattle.ic_input.specs.Number.{IsUnsigned, unsigned_number}
use Rattle.ic_input.specs.declared.number.Number.{Number}
use Rattle.ic_input.specs.declared.input.Typed.{Typed}
use Rattle.ic_input.specs.declared.input.Typed.TheVariants as kinds
use Rattle.ic_input.specs.declared.kind.Kind.{Kind}
use Rattle.ic_input.specs.declared.kind.Kind.TheVariants as parts

-- The formula of a typed text: what stands after `=`, if anything does; or the whole text, where a sign begins it and
-- something other than a number follows.
abbrev pub IsFormula : Locale → List ℕ → List ℕ → Type 0
IsFormula l text formula =
    ((text ≡ equals ∷ formula) × (formula ≢ []))
    ⊎ ((text ≡ formula) × ((c : ℕ) × ((rest : List ℕ) × ((text ≡ c ∷ rest) × (is_sign c ≡ true) × (rest ≢ []) × ((n : Number) → ¬ (IsUnsigned l rest n))))))

-- the amount with a plus or no sign, and with a minus
abbrev pub same : ℤ → ℤ
same v = v

abbrev pub opposite : ℤ → ℤ
opposite v = neg_ℤ v

-- a text without its sign is a number, which gives this amount with its sign, and this code
abbrev pub Writes : Locale → (ℤ → ℤ) → List ℕ → ℤ → Option (List ℕ) → Type 0
Writes l signed text v code = (n : Number) × ((IsUnsigned l text n) × (v ≡ signed n.amount) × (code ≡ option_map code_text n.code))

-- the amount of a day
abbrev pub amount_of_day : ℕ → ℤ
amount_of_day n = pos (n * units_of_one)

-- a typed number: with a plus, a minus or no sign, or a date
abbrev pub IsNumber : Locale → List ℕ → ℤ → Option (List ℕ) → Type 0
IsNumber l text v code =
    Writes l same text v code
    ⊎ ((rest : List ℕ) × ((text ≡ plus ∷ rest) × Writes l same rest v code))
    ⊎ ((rest : List ℕ) × ((text ≡ minus ∷ rest) × Writes l opposite rest v code))
    ⊎ ((n : ℕ) × ((c : List ℕ) × ((IsTypedDate l text n c) × (v ≡ amount_of_day n) × (code ≡ Some c))))

abbrev pub IsNoNumber : Locale → List ℕ → Type 0
IsNoNumber l text = (v : ℤ) (code : Option (List ℕ)) → ¬ (IsNumber l text v code)

-- the text isn't empty, not quoted, and no formula
pub record IsBare (l : Locale) (text : List ℕ) : Type 0 where
  pub some : text ≢ []
  pub unquoted : first_is (λ c. c == quote) text ≡ false
  pub no_formula : (formula : List ℕ) → ¬ (IsFormula l text formula)

-- the number of the word that agrees with a text: one of the language, or else an English one
abbrev pub word_of : List (List ℕ) → List (List ℕ) → List ℕ → Option ℕ
word_of local english text = option_or (first_agreeing local text) (first_agreeing english text)

abbrev pub boolean_word : Language → Language → List ℕ → Option ℕ
boolean_word language english text = word_of (boolean_words language) (boolean_words english) text

abbrev pub error_word : Language → Language → List ℕ → Option ℕ
error_word language english text = word_of (error_words language) (error_words english) text

-- A text is typed as the first of these that holds: nothing; a text after a quote; a formula; a number; a boolean; an
-- error value; a text.
abbrev pub IsTyped : Locale → Language → Language → List ℕ → Typed → Type 0
IsTyped l language english text kinds.Empty = text ≡ []
IsTyped l language english text (kinds.Quoted quoted) = text ≡ quote ∷ quoted
IsTyped l language english text (kinds.Formula formula) = IsFormula l text formula
IsTyped l language english text (kinds.Number v code) = (IsBare l text) × (IsNumber l text v code)
IsTyped l language english text (kinds.Boolean b) =
    (IsBare l text) × (IsNoNumber l text) × (boolean_word language english text ≡ Some (boolean_number b))
IsTyped l language english text (kinds.Error e) =
    (IsBare l text) × (IsNoNumber l text) × (boolean_word language english text ≡ None) × (error_word language english text ≡ Some (error_number e))
IsTyped l language english text (kinds.Text t) =
    (IsBare l text) × (IsNoNumber l text) × (boolean_word language english text ≡ None) × (error_word language english text ≡ None) × (t ≡ text)

-- the same as a function

-- the error value of a number
abbrev pub error_at : ℕ → Option Error
error_at n =
    slice_get
    (errors.REF ∷ errors.NAME ∷ errors.VALUE ∷ errors.DIV ∷ errors.NA ∷ errors.NUM ∷ errors.NIMPL ∷ errors.SPILL ∷ errors.CALC ∷ errors.CIRC ∷ errors.ERROR ∷ errors.NULL ∷ [])
    n

abbrev pub error_in : Option ℕ → Option Error
error_in None = None
error_in (Some n) = error_at n

abbrev pub as_error : List ℕ → Option Error → Typed
as_error text (Some e) = kinds.Error e
as_error text None = kinds.Text text

abbrev pub as_boolean : Language → Language → List ℕ → Option ℕ → Typed
as_boolean language english text (Some n) = kinds.Boolean (n == 0)
as_boolean language english text None = as_error text (error_in (error_word language english text))

unfoldable pub as_word : Language → Language → List ℕ → Typed
as_word language english text = as_boolean language english text (boolean_word language english text)

abbrev pub as_number : (ℤ → ℤ) → Number → Typed
as_number signed n = kinds.Number (signed n.amount) (option_map code_text n.code)

abbrev pub as_short_date : Locale → Language → Language → List ℕ → Option ℕ → Typed
as_short_date l language english text (Some n) = kinds.Number (amount_of_day n) (Some (short_date l))
as_short_date l language english text None = as_word language english text

abbrev pub as_date : Locale → Language → Language → List ℕ → Option ℕ → Typed
as_date l language english text (Some n) = kinds.Number (amount_of_day n) (Some iso_date)
as_date l language english text None = as_short_date l language english text (short_number (short_date l) text)

abbrev pub as_unsigned : Locale → Language → Language → List ℕ → Option Number → Typed
as_unsigned l language english text (Some n) = as_number same n
as_unsigned l language english text None = as_date l language english text (iso_number text)

-- a text without a sign and without a quote, and one that a sign begins
abbrev pub typed_unsigned : Locale → Language → Language → List ℕ → Typed
typed_unsigned l language english text = as_unsigned l language english text (unsigned_number l text)

abbrev pub as_signed : List ℕ → (ℤ → ℤ) → Option Number → Typed
as_signed text signed (Some n) = as_number signed n
as_signed text signed None = kinds.Formula text

abbrev pub sign_of : ℕ → ℤ → ℤ
sign_of c v = if c == minus then opposite v else v

abbrev pub typed_from : Locale → Language → Language → ℕ → List ℕ → Typed
typed_from l language english c rest =
    if is_nothing rest then typed_unsigned l language english (c ∷ rest)
    else (if c == equals then kinds.Formula rest
    else (if is_sign c then as_signed (c ∷ rest) (sign_of c) (unsigned_number l rest) else typed_unsigned l language english (c ∷ rest)))

unfoldable pub typed : Locale → Language → Language → List ℕ → Typed
typed l language english [] = kinds.Empty
typed l language english (c ∷ rest) = if c == quote then kinds.Quoted rest else typed_from l language english c rest

-- the formula of a typed text, as a function
abbrev pub unless_number : List ℕ → Option Number → Option (List ℕ)
unless_number text None = Some text
unless_number text (Some n) = None

abbrev pub formula_from : Locale → ℕ → List ℕ → Option (List ℕ)
formula_from l c rest =
    if is_nothing rest then None
    else (if c == equals then Some rest else (if is_sign c then unless_number (c ∷ rest) (unsigned_number l rest) else None))

unfoldable pub formula_of : Locale → List ℕ → Option (List ℕ)
formula_of l [] = None
formula_of l (c ∷ rest) = formula_from l c rest

-- A text has to be typed after a quote to stay a text: it begins with `=` or a sign, or is typed as something else.
abbrev pub is_text : Typed → Bool
is_text kinds.Empty = true
is_text (kinds.Text text) = true
is_text t = false

abbrev pub begins_formula : ℕ → Bool
begins_formula c = c == equals || is_sign c

abbrev pub needs_quoting : List ℕ → Typed → Bool
needs_quoting text t = first_is begins_formula text || not (is_text t)

-- what a kind of text gives, as parts of the text
abbrev pub typed_as : Kind → Typed
typed_as parts.Empty = kinds.Empty
typed_as (parts.Quoted text) = kinds.Quoted (chars text.now)
typed_as (parts.Formula text) = kinds.Formula (chars text.now)
typed_as (parts.Number v code) = kinds.Number v (option_map code_text code)
typed_as (parts.Date v code) = kinds.Number v (Some (chars code.now))
typed_as (parts.Boolean b) = kinds.Boolean b
typed_as (parts.Error e) = kinds.Error e
typed_as (parts.Text text) = kinds.Text (chars text.now)
