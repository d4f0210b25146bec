-- What the machine is told of languages and locales. A notation is a locale with a language.
use Rattle.std.specs.Prelude.{◌≡◌, ◌↔◌, ℕ, ℤ, List, Bool, true, false, ◌&&◌, Option, Some, IsSome, codes}
use Rattle.ic_laws.specs.Dialect.{DialectMeaning, IsLawful}
use Rattle.ic_laws.specs.Name.{agrees, is_variable}
use Rattle.ic_laws.specs.Position.{is_column, is_inside, is_place_within, is_row}
use Rattle.ic_laws.specs.Tree.{is_written_sheet}
use Rattle.ic_laws.specs.declared.dialect.WordKind.TheVariants as kinds
use Rattle.ic_laws.specs.declared.reference.RefToken.{RefToken}

-- which ids are those of locales and of languages; how formulas are written in a locale and a language, in the cell at a
-- row and a column; and the form that is the same in every cell and every notation
pub record Notations : Type 0 where
  pub knows_locale : List ℕ → Bool
  pub knows_language : List ℕ → Bool
  pub shown : (locale language : List ℕ) → (row column : ℤ) → DialectMeaning
  pub stored : DialectMeaning

-- the id of the locale and of the language that are always there
abbrev pub english : List ℕ
english = codes "en"

-- the function that a called word means in every notation: an English function word
abbrev pub english_function : Notations → List ℕ → Option ℕ
english_function n word = n.stored.find kinds.Function word

-- there is a function of this number
abbrev pub HasFunction : Notations → ℕ → Type 0
HasFunction n number = IsSome (n.stored.word kinds.Function number)

-- a cell that lies in the sheet
abbrev pub is_cell : ℤ → ℤ → Bool
is_cell row column = is_row row && is_column column

-- what holds of the form that is shown in a cell, beside the laws of each dialect: LET and LAMBDA have the numbers that
-- they have everywhere, and each function a word; the references that lie in the sheet can be written, and only those
-- are read
pub record IsShownForm (n : Notations) (d : DialectMeaning) (row column : ℤ) : Type 0 where
  pub lawful : IsLawful d
  pub let_same : d.let_fn ≡ n.stored.let_fn
  pub lambda_same : d.lambda_fn ≡ n.stored.lambda_fn
  pub functions : (number : ℕ) → HasFunction n number ↔ IsSome (d.word kinds.Function number)
  pub finds_functions : (word : List ℕ) (number : ℕ) → d.find kinds.Function word ≡ Some number → HasFunction n number
  pub writes_inside : (r : RefToken) → is_cell row column ≡ true → is_inside r.place row column ≡ true → is_written_sheet r.sheet ≡ true → d.can_spell r ≡ true
  pub reads_inside : (text rest : List ℕ) (r : RefToken) → d.read_ref text ≡ Some (r, rest) → (is_inside r.place row column ≡ true) × (is_place_within r.place ≡ true) × (is_written_sheet r.sheet ≡ true)

-- What always holds of notations. English is there. The stored form writes each reference within its limits; its words
-- for true and false are no variables, and those of LET and LAMBDA are these.
pub record AreNotations (n : Notations) : Type 0 where
  pub english_locale : n.knows_locale english ≡ true
  pub english_language : n.knows_language english ≡ true
  pub shown : (locale language : List ℕ) (row column : ℤ) → n.knows_locale locale ≡ true → n.knows_language language ≡ true → IsShownForm n (n.shown locale language row column) row column
  pub stored : IsLawful n.stored
  pub stored_finds : (word : List ℕ) (number : ℕ) → n.stored.find kinds.Function word ≡ Some number → HasFunction n number
  pub stored_writes : (r : RefToken) → is_place_within r.place ≡ true → is_written_sheet r.sheet ≡ true → n.stored.can_spell r ≡ true
  pub stored_booleans : (word : List ℕ) (number : ℕ) → n.stored.find kinds.Boolean word ≡ Some number → is_variable word ≡ false
  pub stored_let : (word : List ℕ) → n.stored.find kinds.Function word ≡ Some n.stored.let_fn → agrees word (codes "LET") ≡ true
  pub stored_lambda : (word : List ℕ) → n.stored.find kinds.Function word ≡ Some n.stored.lambda_fn → agrees word (codes "LAMBDA") ≡ true
