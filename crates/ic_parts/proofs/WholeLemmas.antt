-- The whole book of a model's book: its core is that book's, and it is changed as the book is.
use Rattle.std.proofs.Common.{◌≡◌, ℕ, ◌+◌, List, [], ◌∷◌, ◌++◌, map, Option, Some, None, refl, sym, ap, ap₂, ◌∙◌}
use Rattle.std.specs.FinMap as finite
use Rattle.std.specs.Prelude.{insert, option_map}
use Rattle.std.specs.Option.{option_to_list}
use Rattle.std.proofs.lemmas.List.{map-append}
use Rattle.ic_laws.proofs.core.Lists.{removed_seen, updated_seen}
use Rattle.ic_laws.specs.CoreBook.{CellPlace, Cells, CoreBook, Definition, Sheet as CoreSheet, greatest_id, scene_of}
use Rattle.ic_laws.specs.Keeping.{kept_in_body, same_keys}
use Rattle.ic_laws.specs.Notations.{Notations}
use Rattle.ic_laws.specs.declared.scene.Scene.{Scene}
use Rattle.ic_laws.specs.declared.tree.Formula.{Formula}
use Rattle.ic_cells.specs.Cell.{cell_formula_index}
use Rattle.ic_cells.specs.declared.cell.Cell.{Cell}
use Rattle.ic_cells.specs.declared.cell.Cell.TheVariants as cells
use Rattle.ic_grid.specs.Contents.{Contents}
use Rattle.ic_machine.proofs.contents.AlikeGrid.{empty-seen, entries-seen}
use Rattle.ic_machine.specs.Book as machine
use Rattle.ic_machine.specs.Book.{Entry, core_cells, core_sheet, empty_sheet}
use Rattle.ic_machine.specs.Changed as changed
use Rattle.ic_machine.specs.Changed.{with_kept_formulas, with_kept_pool}
use Rattle.ic_machine.specs.Content.{Content, content_of, formula_in, formula_index}
use Rattle.ic_machine.specs.Valid.{HasAmount}
use Rattle.ic_machine.specs.subjects.Sheets as sheets
use Rattle.ic_machine.specs.subjects.Sheets.{with_new_sheet}
use Rattle.ic_sheets.specs.Sheet.{Sheet, cells_of, empty_grid, kept_pool, plain_tab, sheet_core}
use Rattle.ic_parts.specs.Book.{Book, HasString, core_of, notations_in, scene_in, whole_of, whole_sheet}
use Rattle.ic_parts.specs.Change.{book_changed_by, with_added_definition, with_added_sheet, with_inserted_sheet, with_kept_pools, with_moved_sheet, with_removed_definition, with_removed_sheet, with_renamed_sheet}
use Rattle.ic_parts.proofs.BookLemmas.{moved-map}
use Rattle.ic_laws.proofs.General.{insert-map}

-- the core ----

-- a cell's content has its formula
pub index_seen : (strings : List (List ℕ)) (cell : Cell) → formula_index (content_of strings cell) ≡ cell_formula_index cell
index_seen strings (cells.EmptyCell s) = refl
index_seen strings (cells.BooleanCell v s) = refl
index_seen strings (cells.NumberCell v s) = refl
index_seen strings (cells.ErrorCell e s) = refl
index_seen strings (cells.SharedString i s) = refl
index_seen strings (cells.CellFormula f s v) = refl
index_seen strings (cells.ArrayFormula kind f s r v) = refl
index_seen strings (cells.SpillCell s a v) = refl

-- and its number is an amount
pub amount_seen : (strings : List (List ℕ)) (count : ℕ) (cell : Cell) → HasString count cell → HasAmount (content_of strings cell)
amount_seen strings count (cells.EmptyCell s) h = tt
amount_seen strings count (cells.BooleanCell v s) h = tt
amount_seen strings count (cells.NumberCell v s) h = h
amount_seen strings count (cells.ErrorCell e s) h = tt
amount_seen strings count (cells.SharedString i s) h = tt
amount_seen strings count (cells.CellFormula f s v) h = tt
amount_seen strings count (cells.ArrayFormula kind f s r v) h = tt
amount_seen strings count (cells.SpillCell s a v) h = tt

cells_seen : (strings : List (List ℕ)) (pool : List Formula) (es : List (CellPlace × Cell))
    → core_cells pool (map (λ (e : CellPlace × Cell). let read : Entry = (e.0, content_of strings e.1) in read) es) ≡ cells_of pool es
cells_seen strings pool [] = refl
cells_seen strings pool (e ∷ es) =
    ap₂ (λ (o : Option ℕ) (rest : Cells). let all : Cells = option_to_list (option_map (λ index. (e.0, formula_in pool index)) o) ++ rest in all)
    (index_seen strings e.1) (cells_seen strings pool es)

sheet_seen : (strings : List (List ℕ)) (sheet : Sheet) → core_sheet (whole_sheet strings sheet) ≡ sheet_core sheet
sheet_seen strings sheet =
    ap (λ (cells : Cells). let s : CoreSheet = record { id = sheet.id; name = sheet.name; cells = cells } in s)
    (ap (core_cells sheet.pool) (entries-seen (content_of strings) sheet.grid.cells) ∙ cells_seen strings sheet.pool (finite.entries sheet.grid.cells))

sheets_seen : (strings : List (List ℕ)) (sheets : List Sheet) → map core_sheet (map (whole_sheet strings) sheets) ≡ map sheet_core sheets
sheets_seen strings [] = refl
sheets_seen strings (s ∷ sheets) = ap₂ ◌∷◌ (sheet_seen strings s) (sheets_seen strings sheets)

-- the core of the whole book of a book is that one's; so are what formulas can mention and the greatest id
pub whole_core : (book : Book) → machine.core_of (whole_of book) ≡ core_of book
whole_core book =
    ap (λ (sheets : List CoreSheet). let core : CoreBook = record { sheets = sheets; definitions = book.definitions; locale = book.locale; language = book.language } in core)
    (sheets_seen book.strings book.sheets)

pub whole_scene : (book : Book) → machine.scene_in (whole_of book) ≡ scene_in book
whole_scene book = ap scene_of (whole_core book)

-- all formulas kept ----

sheets_kept : (strings : List (List ℕ)) (n : Notations) (before after : Scene) (sheets : List Sheet)
    → map (whole_sheet strings) (map (kept_pool n before after) sheets) ≡ map (with_kept_pool n before after same_keys) (map (whole_sheet strings) sheets)
sheets_kept strings n before after [] = refl
sheets_kept strings n before after (s ∷ sheets) = ap (λ rest. with_kept_pool n before after same_keys (whole_sheet strings s) ∷ rest) (sheets_kept strings n before after sheets)

-- a whole book with other sheets and definitions
abbrev with_both : Book → List machine.Sheet → List Definition → machine.Book
with_both book sheets definitions = record (whole_of book) { sheets = sheets; definitions = definitions }

pub whole_kept : (n : Notations) (before after : Scene) (book : Book) → whole_of (with_kept_pools n before after book) ≡ with_kept_formulas n before after same_keys (whole_of book)
whole_kept n before after book =
    ap (λ sheets. with_both book sheets (map (kept_in_body n before after same_keys) book.definitions)) (sheets_kept book.strings n before after book.sheets)

-- a change of a book that is seen as one of the whole book
pub whole_changed : (change : Book → Book) (whole : machine.Book → machine.Book) → ((book : Book) → whole_of (change book) ≡ whole (whole_of book)) → (book : Book) → whole_of (book_changed_by change book) ≡ changed.changed_by whole (whole_of book)
whole_changed change whole same book =
    let n : Notations = notations_in book in
    same (with_kept_pools n (scene_in book) (scene_in (change book)) book)
    ∙ ap whole (whole_kept n (scene_in book) (scene_in (change book)) book)
    ∙ ap₂ (λ (before after : Scene). whole (with_kept_formulas n before after same_keys (whole_of book))) (sym (whole_scene book)) (sym (whole_scene (change book)) ∙ ap machine.scene_in (same book))

-- the changes ----

abbrev with_sheets : Book → List machine.Sheet → machine.Book
with_sheets book sheets = record (whole_of book) { sheets = sheets }

-- a new sheet holds nothing
pub whole_empty : (strings : List (List ℕ)) (id : ℕ) (name : List ℕ) → whole_sheet strings (record { id = id; name = name; pool = []; grid = empty_grid; tab = plain_tab }) ≡ empty_sheet id name
whole_empty strings id name =
    ap (λ (m : Contents Content). let s : machine.Sheet = record (empty_sheet id name) { grid = record machine.empty_grid { contents = m } } in s) (empty-seen (content_of strings))

pub whole_added : (name : List ℕ) (book : Book) → whole_of (with_added_sheet name book) ≡ with_new_sheet name (whole_of book)
whole_added name book =
    let id : ℕ = greatest_id (core_of book) in
    ap (with_sheets book)
    (map-append (whole_sheet book.strings) book.sheets (record { id = id + 1; name = name; pool = []; grid = empty_grid; tab = plain_tab } ∷ [])
    ∙ ap (λ (s : machine.Sheet). map (whole_sheet book.strings) book.sheets ++ s ∷ []) (whole_empty book.strings (id + 1) name)
    ∙ ap (λ (c : CoreBook). map (whole_sheet book.strings) book.sheets ++ empty_sheet (greatest_id c + 1) name ∷ []) (sym (whole_core book)))

pub whole_inserted : (index id : ℕ) (name : List ℕ) (book : Book) → whole_of (with_inserted_sheet index id name book) ≡ sheets.with_inserted_sheet index id name (whole_of book)
whole_inserted index id name book =
    ap (with_sheets book)
    (insert-map (whole_sheet book.strings) book.sheets index (record { id = id; name = name; pool = []; grid = empty_grid; tab = plain_tab })
    ∙ ap (λ (s : machine.Sheet). insert (map (whole_sheet book.strings) book.sheets) index s) (whole_empty book.strings id name))

pub whole_renamed : (index : ℕ) (name : List ℕ) (book : Book) → whole_of (with_renamed_sheet index name book) ≡ changed.with_renamed_sheet index name (whole_of book)
whole_renamed index name book =
    ap (with_sheets book) (updated_seen (whole_sheet book.strings) (λ s. record s { name = name }) (λ s. record s { name = name }) (λ s. refl) index book.sheets)

pub whole_removed : (index : ℕ) (book : Book) → whole_of (with_removed_sheet index book) ≡ changed.with_removed_sheet index (whole_of book)
whole_removed index book = ap (with_sheets book) (removed_seen (whole_sheet book.strings) book.sheets index)

pub whole_moved : (from to : ℕ) (book : Book) → whole_of (with_moved_sheet from to book) ≡ changed.with_moved_sheet from to (whole_of book)
whole_moved from to book = ap (with_sheets book) (moved-map (whole_sheet book.strings) from to book.sheets)

pub whole_defined : (new : Definition) (book : Book) → whole_of (with_added_definition new book) ≡ changed.with_definition new (whole_of book)
whole_defined new book = refl

pub whole_undefined : (index : Option ℕ) (book : Book) → whole_of (with_removed_definition index book) ≡ changed.without_definition index (whole_of book)
whole_undefined None book = refl
whole_undefined (Some index) book = refl
