-- What always holds of a book: twelve conditions, in the order in which a workbook that is handed in is asked for them, that
-- each number in a cell is an amount, and that its notation and its zone are of its tables. Of the eighth, that each cell's
-- text is among the shared strings, nothing is left here: a text stands in its content as itself.
use Rattle.std.specs.Prelude.{◌≡◌, ℕ, ℤ, pos, ◌<◌, ◌≤◌, ◌≤ℤ◌, ◌<ℤ◌, map, length, true, Option, Some, None, nat_eq}
use Rattle.std.specs.FinMap as finite
use Rattle.std.specs.List.{AllByRecursion, IsDistinct}
use Rattle.ic_laws.specs.Amount.{is_amount}
use Rattle.ic_laws.specs.CoreBook.{Definition, IsId, last_id, spelling_of}
use Rattle.ic_laws.specs.Name.{agrees, is_identifier, is_sheet_name}
use Rattle.ic_laws.specs.Notations.{Notations}
use Rattle.ic_laws.specs.Position.{is_column, is_row}
use Rattle.ic_laws.specs.Scene.{key_of, same_key}
use Rattle.ic_laws.specs.ValidCore.{IsKeptBody, IsKeptFormula, IsPooled, IsScope}
use Rattle.ic_laws.specs.declared.reference.TheConstants.{LAST_COLUMN, LAST_ROW}
use Rattle.ic_laws.specs.declared.scene.Scene.{Scene}
use Rattle.ic_tables.specs.Tables.{IsWellFormed, lists_zone}
use Rattle.ic_cells.specs.Style.{AreStyles}
use Rattle.ic_cells.specs.declared.layout.ColumnProps.{ColumnProps}
use Rattle.ic_cells.specs.declared.layout.RowProps.{RowProps}
use Rattle.ic_grid.specs.Block.{Place}
use Rattle.ic_grid.specs.Conditions.{AreArrays, AreInSheet, AreMerges}
use Rattle.ic_machine.specs.Book.{Book, Grid, Sheet, Tab, notations_in, scene_in}
use Rattle.ic_machine.specs.Content.{Content, NumContent, formula_in, formula_index, held, style_of}

-- 1: there is a sheet, and there are no more than ids
pub record HasSheets (book : Book) : Type 0 where
  pub some : 0 < length book.sheets
  pub few : length book.sheets ≤ last_id

-- 2: each sheet's name is one, and no two agree
pub record HasSheetNames (book : Book) : Type 0 where
  pub names : AllByRecursion (λ (sheet : Sheet). is_sheet_name sheet.name ≡ true) book.sheets
  pub differ : IsDistinct agrees (map (λ (sheet : Sheet). sheet.name) book.sheets)

-- 3: each sheet has an id, and no two the same
pub record HasSheetIds (book : Book) : Type 0 where
  pub ids : AllByRecursion (λ (sheet : Sheet). IsId sheet.id) book.sheets
  pub differ : IsDistinct nat_eq (map (λ (sheet : Sheet). sheet.id) book.sheets)

-- 4: each definition's name is an identifier, its scope an id, though the sheet may be gone; no two have one key
pub record HasDefinitions (book : Book) : Type 0 where
  pub names : AllByRecursion (λ (d : Definition). is_identifier d.name ≡ true) book.definitions
  pub scopes : AllByRecursion (λ (d : Definition). IsScope d.scope) book.definitions
  pub differ : IsDistinct same_key (map (λ d. key_of (spelling_of d)) book.definitions)

-- 5: each formula of a pool and of a definition's body is kept: it is well-formed, has functions of the tables, and stays
-- the same when it is written out and bound again; a body's references lie in the sheet, counted from the first cell
abbrev pub IsKeptPool : Notations → Scene → Sheet → Type 0
IsKeptPool n scene sheet = AllByRecursion (IsPooled n scene (Some sheet.id)) sheet.pool

pub record KeepsFormulas (book : Book) : Type 0 where
  pub pools : AllByRecursion (IsKeptPool (notations_in book) (scene_in book)) book.sheets
  pub bodies : AllByRecursion (IsKeptBody (notations_in book) (scene_in book)) book.definitions

-- 6: what a place of a sheet holds, it holds in the sheet
abbrev pub HoldsInSheet : Book → Type 0
HoldsInSheet book = AllByRecursion (λ (sheet : Sheet). AreInSheet held sheet.grid.contents) book.sheets

-- 7: each cell's formula is one of the pool, and its references lie in the sheet at that cell
abbrev pub HasFormula : Notations → Scene → Sheet → Place → Option ℕ → Type 0
HasFormula n scene sheet place None = Unit {0}
HasFormula n scene sheet place (Some index) = (index < length sheet.pool) × IsKeptFormula n scene (Some sheet.id) place.0 place.1 (formula_in sheet.pool index)

abbrev pub HasCellFormulas : Notations → Scene → Sheet → Type 0
HasCellFormulas n scene sheet =
    (place : Place) (content : Content) → finite.get sheet.grid.contents place ≡ Some content → HasFormula n scene sheet place (formula_index content)

abbrev pub HasFormulas : Book → Type 0
HasFormulas book = AllByRecursion (HasCellFormulas (notations_in book) (scene_in book)) book.sheets

-- 9: the first style is the default, no two are the same, and each style's number is below their number
abbrev pub IsStyleNumber : ℕ → Option ℕ → Type 0
IsStyleNumber count None = Unit {0}
IsStyleNumber count (Some n) = n < count

pub record HasGridStyles (count : ℕ) (grid : Grid) : Type 0 where
  pub contents : (place : Place) (content : Content) → finite.get grid.contents place ≡ Some content → style_of content < count
  pub rows : (row : ℤ) (props : RowProps) → finite.get grid.rows row ≡ Some props → IsStyleNumber count props.style
  pub columns : (column : ℤ) (props : ColumnProps) → finite.get grid.columns column ≡ Some props → IsStyleNumber count props.style

pub record HasStyles (book : Book) : Type 0 where
  pub styles : AreStyles book.styles
  pub numbers : AllByRecursion (λ (sheet : Sheet). HasGridStyles (length book.styles) sheet.grid) book.sheets

-- 10: arrays lie in their sheet and own their spills
abbrev pub HasArrays : Book → Type 0
HasArrays book = AllByRecursion (λ (sheet : Sheet). AreArrays held sheet.grid.contents) book.sheets

-- 11: merged cells lie in their sheet, apart from each other and from arrays of several cells
abbrev pub HasMerges : Book → Type 0
HasMerges book = AllByRecursion (λ (sheet : Sheet). AreMerges held sheet.grid.contents sheet.grid.merges) book.sheets

-- 12: fewer rows and columns stay in sight than there are, and rows and columns for which something was set are the
-- sheet's
pub record IsFrozen (tab : Tab) : Type 0 where
  pub some_rows : pos 0 ≤ℤ tab.frozen_rows
  pub few_rows : tab.frozen_rows <ℤ LAST_ROW
  pub some_columns : pos 0 ≤ℤ tab.frozen_columns
  pub few_columns : tab.frozen_columns <ℤ LAST_COLUMN

pub record HasLines (grid : Grid) : Type 0 where
  pub rows : (row : ℤ) (props : RowProps) → finite.get grid.rows row ≡ Some props → is_row row ≡ true
  pub columns : (column : ℤ) (props : ColumnProps) → finite.get grid.columns column ≡ Some props → is_column column ≡ true

pub record HasLayout (sheet : Sheet) : Type 0 where
  pub frozen : IsFrozen sheet.tab
  pub lines : HasLines sheet.grid

-- the number that a place holds is an amount
abbrev pub HasAmount : Content → Type 0
HasAmount (NumContent amount style) = is_amount amount ≡ true
HasAmount content = Unit {0}

abbrev pub HasAmounts : Sheet → Type 0
HasAmounts sheet = (place : Place) (content : Content) → finite.get sheet.grid.contents place ≡ Some content → HasAmount content

-- all of them, and the amounts, the notation, the zone and the tables
pub record IsValidBook (book : Book) : Type 0 where
  pub sheets : HasSheets book
  pub sheet_names : HasSheetNames book
  pub sheet_ids : HasSheetIds book
  pub definitions : HasDefinitions book
  pub kept : KeepsFormulas book
  pub inside : HoldsInSheet book
  pub formulas : HasFormulas book
  pub styles : HasStyles book
  pub arrays : HasArrays book
  pub merges : HasMerges book
  pub layout : AllByRecursion HasLayout book.sheets
  pub amounts : AllByRecursion HasAmounts book.sheets
  pub locale : (notations_in book).knows_locale book.locale ≡ true
  pub language : (notations_in book).knows_language book.language ≡ true
  pub zone : lists_zone book.tables book.zone ≡ true
  pub tables : IsWellFormed book.tables
