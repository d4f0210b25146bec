-- The whole book: what it holds, how its core is seen, and how a step on a part of it is one on the whole.
use Rattle.std.specs.Prelude.{ℕ, ℤ, pos, List, [], flat_map, map, Bool, true, not, Option, Some, None, option_map, option_to_list, Result, Ok, Err, nat_lt, length, slice_get}
use Rattle.std.specs.FinMap as finite
use Rattle.ic_laws.specs.CoreBook as core
use Rattle.ic_laws.specs.CoreBook.{CellPlace, CoreBook, Definition, scene_of}
use Rattle.ic_laws.specs.CoreStep.{Outcome, updated_at}
use Rattle.ic_laws.specs.Notations.{Notations}
use Rattle.ic_laws.specs.declared.scene.Scene.{Scene}
use Rattle.ic_laws.specs.declared.tree.Formula.{Formula}
use Rattle.ic_tables.specs.Tables.{TableSet}
use Rattle.ic_tree.specs.Notations.{notations_of}
use Rattle.ic_cells.specs.declared.layout.Merge.{Merge}
use Rattle.ic_cells.specs.declared.sheet.SheetState.{SheetState}
use Rattle.ic_cells.specs.declared.sheet.SheetState.TheVariants as states
use Rattle.ic_cells.specs.declared.style.Color.{Color}
use Rattle.ic_cells.specs.declared.style.Color.TheVariants as colors
use Rattle.ic_cells.specs.declared.style.Style.{Style}
use Rattle.ic_cells.specs.declared.workbook.Metadata.{Metadata}
use Rattle.ic_grid.specs.Contents.{Contents}
use Rattle.ic_grid.specs.Style.{Columns, Rows, style_at}
use Rattle.ic_machine.specs.Content.{Content, formula_in, formula_index, held}
use Rattle.ic_machine.specs.Refusal.{Causes, InvalidSheet, OfCore, Refusal, first_refusal}
use Rattle.ic_machine.specs.Reply.{Field, of_core_fields}

-- the places of a sheet that hold something, what was set for its rows and columns, and its merged cells
pub record Grid : Type 0 where
  pub contents : Contents Content
  pub rows : Rows
  pub columns : Columns
  pub merges : List Merge

-- how a sheet is presented: whether its tab is seen, the color of that, how many rows and columns stay in sight, and
-- whether lines part its cells
pub record Tab : Type 0 where
  pub state : SheetState
  pub color : Color
  pub frozen_rows : ℤ
  pub frozen_columns : ℤ
  pub shows_grid_lines : Bool

-- a sheet: its id, which it keeps, its name, the pool of formulas that its cells share, its cells, and its tab
pub record Sheet : Type 0 where
  pub id : ℕ
  pub name : List ℕ
  pub pool : List Formula
  pub grid : Grid
  pub tab : Tab

-- the sheets and the definitions in their order, the ids of the locale and the language in force, the zone, the list of
-- styles, the theme's name, the workbook's name, who made it and when, and the tables by which all is read and shown
pub record Book : Type 0 where
  pub sheets : List Sheet
  pub definitions : List Definition
  pub locale : List ℕ
  pub language : List ℕ
  pub zone : List ℕ
  pub styles : List Style
  pub theme : List ℕ
  pub name : List ℕ
  pub metadata : Metadata
  pub tables : TableSet

-- a place, and what it holds
abbrev pub Entry : Type 0
Entry = CellPlace × Content

-- The core of a book. ----

-- what the core of a sheet has of a place: its formula, if it has one
abbrev pub core_entry : List Formula → Entry → List (CellPlace × Formula)
core_entry pool entry = option_to_list (option_map (λ index. (entry.0, formula_in pool index)) (formula_index entry.1))

abbrev pub core_cells : List Formula → List Entry → core.Cells
core_cells pool entries = flat_map (core_entry pool) entries

abbrev pub core_sheet : Sheet → core.Sheet
core_sheet sheet = record { id = sheet.id; name = sheet.name; cells = core_cells sheet.pool (finite.entries sheet.grid.contents) }

abbrev pub core_of : Book → CoreBook
core_of book = record { sheets = map core_sheet book.sheets; definitions = book.definitions; locale = book.locale; language = book.language }

-- what the machine is told of the tables of a book
abbrev pub notations_in : Book → Notations
notations_in book = notations_of book.tables

-- what the formulas of a book can mention
abbrev pub scene_in : Book → Scene
scene_in book = scene_of (core_of book)

-- what a place of a sheet holds, the formula of what it holds, and the number of the style that it shows ----

abbrev pub content_at : Sheet → ℤ → ℤ → Option Content
content_at sheet row column = finite.get sheet.grid.contents (row, column)

abbrev pub formula_held : Sheet → Content → Option Formula
formula_held sheet content = option_map (formula_in sheet.pool) (formula_index content)

abbrev pub style_number_at : Grid → ℤ → ℤ → ℕ
style_number_at grid row column = style_at held grid.contents grid.rows grid.columns (row, column)

-- a new sheet holds nothing, is seen, has no color and nothing that stays in sight, and shows lines ----

abbrev pub empty_grid : Grid
empty_grid = record { contents = finite.empty; rows = finite.empty; columns = finite.empty; merges = [] }

abbrev pub plain_tab : Tab
plain_tab = record { state = states.Visible; color = colors.None; frozen_rows = pos 0; frozen_columns = pos 0; shows_grid_lines = true }

abbrev pub empty_sheet : ℕ → List ℕ → Sheet
empty_sheet id name = record { id = id; name = name; pool = []; grid = empty_grid; tab = plain_tab }

-- Steps. ----

-- what a step leaves of a thing and the fields of its reply, or its refusal
abbrev pub Stepped : Type 0 → Type 0
Stepped A = Result (A × List Field) Refusal

abbrev pub unless : {A : Type 0} → Option Refusal → A → List Field → Stepped A
unless (Some refusal) left fields = Err refusal
unless None left fields = Ok (left, fields)

-- what is left and replied where none of the causes holds
abbrev pub unless_refused : {A : Type 0} → Causes → A → List Field → Stepped A
unless_refused causes left fields = unless (first_refusal causes) left fields

-- a step on a part of a thing is one on the thing
abbrev pub put_in : {A B : Type 0} → (A → B) → Stepped A → Stepped B
put_in put (Err refusal) = Err refusal
put_in put (Ok done) = Ok (put done.0, done.1)

abbrev pub with_sheet : Book → ℕ → Sheet → Book
with_sheet book index sheet = record book { sheets = updated_at (λ old. sheet) index book.sheets }

-- a step on the sheet at an index, which may need the book and change it; refused where there is no such sheet
abbrev pub found_or : {A : Type 0} → Refusal → Option (Stepped A) → Stepped A
found_or refusal None = Err refusal
found_or refusal (Some step) = step

abbrev pub at_sheet : Book → ℕ → (Sheet → Stepped Book) → Stepped Book
at_sheet book index step = found_or InvalidSheet (option_map step (slice_get book.sheets index))

-- a step on the sheet alone, on its grid, and on its tab
abbrev pub on_sheet : Book → ℕ → (Sheet → Stepped Sheet) → Stepped Book
on_sheet book index step = at_sheet book index (λ sheet. put_in (with_sheet book index) (step sheet))

unfoldable pub on_grid : Book → ℕ → (Grid → Stepped Grid) → Stepped Book
on_grid book index step = on_sheet book index (λ sheet. put_in (λ grid. record sheet { grid = grid }) (step sheet.grid))

unfoldable pub on_tab : Book → ℕ → (Tab → Stepped Tab) → Stepped Book
on_tab book index step = on_sheet book index (λ sheet. put_in (λ tab. record sheet { tab = tab }) (step sheet.tab))

-- no sheet stands at this index
abbrev pub lacks_sheet : Book → ℕ → Bool
lacks_sheet book index = not (nat_lt index (length book.sheets))

-- a step of the identity machine on the core of a book, as one of the whole machine that leaves this
abbrev pub as_core : Outcome → Book → Stepped Book
as_core (Err refusal) left = Err (OfCore refusal)
as_core (Ok done) left = Ok (left, of_core_fields done.1)
