-- A workbook that is handed in as plain records: the whole book that the records stand for, and the twelve conditions that
-- they must meet. Texts that are numbered stand in the book as themselves.
use Rattle.std.specs.Prelude.{◌≡◌, ◌<◌, ℕ, ℤ, pos, List, [], ◌∷◌, map, length, true, not, Option, Some, None, is_none, option_map, option_and_then, codes, bytes_eq, if◌then◌else◌, ◌==◌}
use Rattle.std.specs.FinMap as finite
use Rattle.std.specs.List.{AllByRecursion}
use Rattle.std.specs.Option.{option_or, unwrap_or}
use Rattle.ic_laws.specs.Binding.{bound}
use Rattle.ic_laws.specs.Character.{equals}
use Rattle.ic_laws.specs.CoreBook.{CellPlace, Definition}
use Rattle.ic_laws.specs.Dialect.{DialectMeaning}
use Rattle.ic_laws.specs.FormulaReading.{without_equals}
use Rattle.ic_laws.specs.Notations.{english_function}
use Rattle.ic_laws.specs.Position.{is_inside}
use Rattle.ic_laws.specs.ReadAs.{read_as}
use Rattle.ic_laws.specs.Refusal.{Refusal, InvalidLocale, InvalidLanguage, InvalidTimezone, first_refusal}
use Rattle.ic_laws.specs.Scan.{first_is}
use Rattle.ic_laws.specs.Scene.{past_front}
use Rattle.ic_laws.specs.Tree.{Kind}
use Rattle.ic_laws.specs.declared.scene.Scene.{Scene}
use Rattle.ic_laws.specs.declared.tree.Formula.{Formula}
use Rattle.ic_laws.specs.declared.tree.Formula.TheVariants as formulas
use Rattle.ic_laws.specs.declared.tree.NameMention.{NameMention}
use Rattle.ic_laws.specs.declared.tree.SheetMention.{SheetMention}
use Rattle.ic_laws.specs.declared.tree.Tree.{every-Tree}
use Rattle.ic_laws.specs.declared.tree.Tree.TheOpen as one
use Rattle.ic_tables.specs.Tables.{TableSet, language_of, lists_zone, locale_of}
use Rattle.ic_cells.specs.declared.cell.Cell.{Cell}
use Rattle.ic_cells.specs.declared.sheet.Worksheet.{Worksheet}
use Rattle.ic_cells.specs.declared.workbook.DefinedName.{DefinedName}
use Rattle.ic_cells.specs.declared.workbook.Workbook.{Workbook}
use Rattle.ic_tree.specs.Notations.{in_english, notations_of}
use Rattle.ic_machine.specs.Alike.{seen_by}
use Rattle.ic_machine.specs.Book as machine
use Rattle.ic_machine.specs.Content.{Content, content_of, formula_in, formula_index}
use Rattle.ic_machine.specs.Valid as valid
use Rattle.ic_parts.specs.Book.{HasString}
use Rattle.ic_workbooks.specs.Workbook.{text_in}

-- Formulas by their texts. ----

-- The formula that a text stands for in a form: a text that didn't read, after a closing bracket; else the tree that it
-- reads as, bound for the sheet with this id or for none.
abbrev pub formula_read : DialectMeaning → (List ℕ → Option ℕ) → Scene → Option ℕ → List ℕ → Option Formula
formula_read d english scene scope text =
    option_or (option_map formulas.Raw (past_front (codes ")") text)) (option_map (λ t. formulas.Tree (bound english scene scope t)) (read_as d text))

-- the same of a text that is the formula's own in that form
abbrev pub if_own : DialectMeaning → Scene → List ℕ → Formula → Option Formula
if_own d scene text formula = if bytes_eq (text_in d scene formula) text then Some formula else None

abbrev pub formula_of : DialectMeaning → (List ℕ → Option ℕ) → Scene → Option ℕ → List ℕ → Option Formula
formula_of d english scene scope text = option_and_then (if_own d scene text) (formula_read d english scene scope text)

-- what the formulas of a workbook can mention
abbrev pub scene_of : Workbook → Scene
scene_of w = record {
  sheets = map (λ s. record { id = s.sheet_id; name = s.name }) w.worksheets;
  names = map (λ d. record { name = d.name; scope = d.sheet_id }) w.defined_names;
}

module _ (w : Workbook) (tables : TableSet) where
  -- a formula of the sheet with this id, by its text in the stored form
  abbrev pub sheet_formula : ℕ → List ℕ → Option Formula
  sheet_formula id text = formula_of (notations_of tables).stored (english_function (notations_of tables)) (scene_of w) (Some id) text

  -- the body of a definition, by its text in English for the cell at row 1 and column 1, after one `=` at most
  abbrev pub body_formula : Option ℕ → List ℕ → Option Formula
  body_formula scope text = formula_of (in_english tables (pos 1) (pos 1)) (english_function (notations_of tables)) (scene_of w) scope (without_equals text)

-- a formula where there is one, and else a text without characters
abbrev pub formula_or_none : Option Formula → Formula
formula_or_none formula = unwrap_or formula (formulas.Raw [])

-- The book that the records stand for. ----

module _ (w : Workbook) (tables : TableSet) where
  abbrev pub definition_of : DefinedName → Definition
  definition_of name = record {
    name = name.name;
    scope = name.sheet_id;
    has_equals = first_is (λ c. c == equals) name.formula;
    body = formula_or_none (body_formula w tables name.sheet_id name.formula);
  }

  abbrev pub grid_of : Worksheet → machine.Grid
  grid_of s = record {
    contents = seen_by (content_of w.shared_strings) s.cells;
    rows = s.rows;
    columns = s.columns;
    merges = s.merged_cells;
  }

  abbrev pub tab_of : Worksheet → machine.Tab
  tab_of s = record {
    state = s.state;
    color = s.color;
    frozen_rows = s.frozen_rows;
    frozen_columns = s.frozen_columns;
    shows_grid_lines = s.show_grid_lines;
  }

  abbrev pub sheet_of : Worksheet → machine.Sheet
  sheet_of s = record {
    id = s.sheet_id;
    name = s.name;
    pool = map (λ text. formula_or_none (sheet_formula w tables s.sheet_id text)) s.shared_formulas;
    grid = grid_of s;
    tab = tab_of s;
  }

-- in a language
abbrev pub book_of : Workbook → List ℕ → TableSet → machine.Book
book_of w language tables = record {
  sheets = map (sheet_of w tables) w.worksheets;
  definitions = map (definition_of w tables) w.defined_names;
  locale = w.settings.locale;
  language = language;
  zone = w.settings.tz;
  styles = w.styles;
  theme = w.theme.name;
  name = w.name;
  metadata = w.metadata;
  tables = tables;
}

-- What is asked of them. ----

-- what refuses a workbook before any condition is asked for: its locale, its zone, or the language that it is to be in
abbrev pub notation_refusal : Workbook → List ℕ → TableSet → Option Refusal
notation_refusal w language tables =
    first_refusal
    ((is_none (locale_of tables w.settings.locale), InvalidLocale) ∷ (not (lists_zone tables w.settings.tz), InvalidTimezone)
    ∷ (is_none (language_of tables language), InvalidLanguage) ∷ [])

-- there is a formula
abbrev pub IsFormula : Option Formula → Type 0
IsFormula None = ⊥
IsFormula (Some formula) = Unit {0}

-- each text of a formula reads and is the formula's own
pub record HasTexts (w : Workbook) (tables : TableSet) : Type 0 where
  pub sheets : AllByRecursion (λ (s : Worksheet). AllByRecursion (λ text. IsFormula (sheet_formula w tables s.sheet_id text)) s.shared_formulas) w.worksheets
  pub bodies : AllByRecursion (λ (name : DefinedName). IsFormula (body_formula w tables name.sheet_id name.formula)) w.defined_names

-- each reference of a formula lies in the sheet, at the cell at a row and a column
abbrev pub IsReferenceInside : ℤ → ℤ → Kind SheetMention NameMention → Type 0
IsReferenceInside row column (one.Reference sheet place) = is_inside place row column ≡ true
IsReferenceInside row column kind = Unit {0}

abbrev pub RefersInside : ℤ → ℤ → Formula → Type 0
RefersInside row column (formulas.Tree t) = every-Tree SheetMention NameMention (IsReferenceInside row column) (λ pair. Unit {0}) t
RefersInside row column (formulas.Raw text) = Unit {0}

-- the formula of what stands at a place is one of the sheet's, and refers inside there
abbrev pub HasFormulaAt : List Formula → CellPlace → Option ℕ → Type 0
HasFormulaAt pool place None = Unit {0}
HasFormulaAt pool place (Some index) = (index < length pool) × RefersInside place.0 place.1 (formula_in pool index)

abbrev pub HasFormulas : machine.Sheet → Type 0
HasFormulas sheet = (place : CellPlace) (content : Content) → finite.get sheet.grid.contents place ≡ Some content → HasFormulaAt sheet.pool place (formula_index content)

-- the shared string of each cell that is one is among so many, and each number is an amount
abbrev pub HasStrings : ℕ → Worksheet → Type 0
HasStrings count s = (place : CellPlace) (cell : Cell) → finite.get s.cells place ≡ Some cell → HasString count cell

-- The conditions in the order in which they are asked for: how many sheets there are; their names; their ids; the names and
-- the scopes of definitions; the texts of formulas; the places of cells; the formulas, the shared strings and the styles
-- that are told by their indexes; arrays; merged cells; what stays in sight, and which rows and columns something was set
-- for. That no style stands twice is asked of no workbook, since it always holds of its list of styles, and that a number
-- is an amount of none, since it always holds of a cell.
pub data Condition : Type 0 where
  SheetCount : Condition
  SheetNames : Condition
  SheetIds : Condition
  Definitions : Condition
  Texts : Condition
  Places : Condition
  Formulas : Condition
  Strings : Condition
  Styles : Condition
  Arrays : Condition
  Merges : Condition
  Layout : Condition

-- they are numbered from 1
abbrev pub number_of : Condition → ℕ
number_of SheetCount = 1
number_of SheetNames = 2
number_of SheetIds = 3
number_of Definitions = 4
number_of Texts = 5
number_of Places = 6
number_of Formulas = 7
number_of Strings = 8
number_of Styles = 9
number_of Arrays = 10
number_of Merges = 11
number_of Layout = 12

module _ (w : Workbook) (language : List ℕ) (tables : TableSet) where
  abbrev pub Meets : Condition → Type 0
  Meets SheetCount = valid.HasSheets (book_of w language tables)
  Meets SheetNames = valid.HasSheetNames (book_of w language tables)
  Meets SheetIds = valid.HasSheetIds (book_of w language tables)
  Meets Definitions = valid.HasDefinitions (book_of w language tables)
  Meets Texts = HasTexts w tables
  Meets Places = valid.HoldsInSheet (book_of w language tables)
  Meets Formulas = AllByRecursion HasFormulas (map (sheet_of w tables) w.worksheets)
  Meets Strings = AllByRecursion (HasStrings (length w.shared_strings)) w.worksheets
  Meets Styles = valid.HasStyles (book_of w language tables)
  Meets Arrays = valid.HasArrays (book_of w language tables)
  Meets Merges = valid.HasMerges (book_of w language tables)
  Meets Layout = AllByRecursion valid.HasLayout (map (sheet_of w tables) w.worksheets)

  -- it meets all of them
  abbrev pub MeetsAll : Type 0
  MeetsAll = (condition : Condition) → Meets condition

  -- this is the number of the first that it doesn't meet
  pub record IsFirstBroken (number : ℕ) : Type 0 where
    pub condition : Condition
    pub numbered : number_of condition ≡ number
    pub broken : Meets condition → ⊥
    pub before : (other : Condition) → number_of other < number → Meets other

-- Two workbooks have the same texts of formulas, those of sheets in their order and those of definitions with their names
-- and scopes.
pub record HaveSameTexts (one other : Workbook) : Type 0 where
  pub sheets : map (λ (s : Worksheet). s.shared_formulas) one.worksheets ≡ map (λ (s : Worksheet). s.shared_formulas) other.worksheets
  pub definitions : one.defined_names ≡ other.defined_names
