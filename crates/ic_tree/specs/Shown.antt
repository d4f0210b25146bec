-- What the shown form means: the words of a language, and English ones where it has none; the separators of a locale;
-- and references in the A1 form in a cell.
use Rattle.std.specs.Prelude.{◌≡◌, ℕ, ℤ, List, [], ◌∷◌, ◌++◌, Bool, true, ◌⊎◌, Option, length, if◌then◌else◌}
use Rattle.std.specs.List.{slice_get}
use Rattle.std.specs.Option.{IfSome}
use Rattle.ic_laws.specs.Character.{comma, dot, semicolon}
use Rattle.ic_laws.specs.Dialect.{DialectMeaning}
use Rattle.ic_laws.specs.Name.{is_sheet_name}
use Rattle.ic_laws.specs.Position.{is_column, is_inside, is_row}
use Rattle.ic_laws.specs.declared.dialect.WordKind.{WordKind}
use Rattle.ic_laws.specs.declared.reference.RefToken.{RefToken}
use Rattle.ic_refs.specs.A1.{a1_at, is_shown_spellable, place_text}
use Rattle.ic_laws.specs.SheetText.{sheet_text}
use Rattle.ic_refs.specs.Sheet.{or_else}
use Rattle.ic_tables.specs.Words.{error_words, first_agreeing, has_error_words, tells_errors, words_of}
use Rattle.ic_tables.specs.declared.language.Language.{Language}
use Rattle.ic_tables.specs.declared.locale.Locale.{Locale}
use Rattle.ic_tree.specs.Stored.{SpeaksWell}

-- arguments are parted by `,` where decimals are by `.`, and by `;` where decimals are by `,`
abbrev pub AreSeparators : ℕ → ℕ → Type 0
AreSeparators list decimal = ((list ≡ comma) × (decimal ≡ dot)) ⊎ ((list ≡ semicolon) × (decimal ≡ comma))

-- the number of a word of the language, or else of an English one
abbrev pub found_in : Language → Language → WordKind → List ℕ → Option ℕ
found_in l english kind text = or_else (first_agreeing (words_of l kind) text) (first_agreeing (words_of english kind) text)

-- what is asked of a language beside English: no error's word of either begins another, and both have as many words
-- of functions
pub record SpeaksBeside (l english : Language) : Type 0 where
  pub words : SpeaksWell l
  pub english_errors : has_error_words english ≡ true
  pub told : tells_errors (error_words english) l ≡ true
  pub counted : length english.functions.words ≡ length l.functions.words

-- the text of a reference in the cell at a row and a column
abbrev pub shown_text : ℤ → ℤ → RefToken → List ℕ
shown_text row column r = sheet_text r.sheet ++ place_text row column r.place

-- a reference can be written there: the cell lies in the sheet, so does each corner at it, and the name of its sheet, if
-- it has one, is one that a sheet may have
pub record CanBeShown (row column : ℤ) (r : RefToken) : Type 0 where
  pub in_row : is_row row ≡ true
  pub in_column : is_column column ≡ true
  pub inside : is_inside r.place row column ≡ true
  pub sheet : IfSome r.sheet (λ name. is_sheet_name name ≡ true)

-- The shown form in a language with these separators, in the cell at a row and a column: words are those of the
-- language, and a text is the first of them that it agrees with, or else the first English one; references are in the
-- A1 form, and those can be spelled that lie in the sheet.
abbrev pub shown_meaning : Language → Language → ℕ → ℕ → ℤ → ℤ → DialectMeaning
shown_meaning l english list decimal row column = record {
  list = list;
  decimal = decimal;
  word = λ kind n. slice_get (words_of l kind) n;
  find = found_in l english;
  let_fn = l.functions.let_fn;
  lambda_fn = l.functions.lambda_fn;
  read_ref = a1_at row column;
  can_spell = is_shown_spellable row column;
  spell_ref = shown_text row column;
}

-- the separators by whether the decimal one is a comma
abbrev pub list_of : Bool → ℕ
list_of is_comma = if is_comma then semicolon else comma

abbrev pub decimal_of : Bool → ℕ
decimal_of is_comma = if is_comma then comma else dot

-- a text that is one character
abbrev pub only_character : List ℕ → ℕ
only_character [] = 0
only_character (c ∷ cs) = c

-- the separator of arguments of a locale
abbrev pub list_separator : Locale → ℕ
list_separator locale = only_character locale.numbers.symbols.list
