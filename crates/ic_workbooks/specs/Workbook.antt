-- What a book holds as the plain records of a workbook.
use Rattle.std.specs.Prelude.{ℕ, pos, List, [], ◌∷◌, ◌++◌, map, Bool, codes, if◌then◌else◌}
use Rattle.ic_laws.specs.Binding.{spelled}
use Rattle.ic_laws.specs.Character.{equals}
use Rattle.ic_laws.specs.CoreBook.{Definition}
use Rattle.ic_laws.specs.Dialect.{DialectMeaning}
use Rattle.ic_laws.specs.Reading.{printed}
use Rattle.ic_laws.specs.declared.scene.Scene.{Scene}
use Rattle.ic_laws.specs.declared.tree.Formula.{Formula}
use Rattle.ic_laws.specs.declared.tree.Formula.TheVariants as formulas
use Rattle.ic_cells.specs.declared.sheet.Worksheet.{Worksheet}
use Rattle.ic_cells.specs.declared.workbook.DefinedName.{DefinedName}
use Rattle.ic_cells.specs.declared.workbook.Workbook.{Workbook}
use Rattle.ic_tree.specs.Notations.{in_english}
use Rattle.ic_tree.specs.StoredText.{stored_formula}
use Rattle.ic_sheets.specs.Sheet.{Sheet}
use Rattle.ic_parts.specs.Book.{Book, notations_in, scene_in}

-- the text of a formula in a form: a tree as it is spelled, a text that didn't read after a closing bracket
abbrev pub text_in : DialectMeaning → Scene → Formula → List ℕ
text_in d scene (formulas.Tree t) = printed d (spelled scene t)
text_in d scene (formulas.Raw text) = codes ")" ++ text

-- the text of a sheet's formula: that of the stored form
abbrev pub stored_text : Book → Formula → List ℕ
stored_text book formula = stored_formula (notations_in book) (scene_in book) formula

-- the text of a definition's body: in English, for the cell at row 1 and column 1; and with the `=` that it was typed with
abbrev pub body_in_english : Book → Formula → List ℕ
body_in_english book body = text_in (in_english book.tables (pos 1) (pos 1)) (scene_in book) body

abbrev pub sign_of : Bool → List ℕ
sign_of has_equals = if has_equals then equals ∷ [] else []

abbrev pub body_text : Book → Bool → Formula → List ℕ
body_text book has_equals body = sign_of has_equals ++ body_in_english book body

abbrev pub defined_name_of : Book → Definition → DefinedName
defined_name_of book definition = record { name = definition.name; formula = body_text book definition.has_equals definition.body; sheet_id = definition.scope }

abbrev pub worksheet_of : Book → Sheet → Worksheet
worksheet_of book sheet = record {
  name = sheet.name;
  sheet_id = sheet.id;
  state = sheet.tab.state;
  color = sheet.tab.color;
  frozen_rows = sheet.tab.frozen_rows;
  frozen_columns = sheet.tab.frozen_columns;
  show_grid_lines = sheet.tab.shows_grid_lines;
  shared_formulas = map (stored_text book) sheet.pool;
  cells = sheet.grid.cells;
  rows = sheet.grid.rows;
  columns = sheet.grid.columns;
  merged_cells = sheet.grid.merged_cells;
}

-- the language in force is no part of it
abbrev pub workbook_of : Book → Workbook
workbook_of book = record {
  name = book.name;
  shared_strings = book.strings;
  defined_names = map (defined_name_of book) book.definitions;
  worksheets = map (worksheet_of book) book.sheets;
  styles = book.styles;
  settings = record { tz = book.zone; locale = book.locale };
  metadata = book.metadata;
  theme = record { name = book.theme };
}
