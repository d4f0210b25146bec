-- What always holds of the core of a book.
use Rattle.std.specs.Prelude.{◌≡◌, ℕ, ℤ, pos, ◌<◌, ◌≤◌, map, length, true, Option, Some, None, nat_eq}
use Rattle.std.specs.List.{AllByRecursion, IsDistinct}
use Rattle.std.specs.List.Sorted.{IsStrictlySortedBy}
use Rattle.ic_laws.specs.Binding.{IsSettled}
use Rattle.ic_laws.specs.CoreBook.{CellPlace, CoreBook, Definition, IsId, Sheet, ids_of, last_id, names_of, place_cmp, scene_of, spelling_of}
use Rattle.ic_laws.specs.Name.{agrees, is_identifier, is_sheet_name}
use Rattle.ic_laws.specs.Notations.{HasFunction, Notations, english_function, is_cell}
use Rattle.ic_laws.specs.Position.{is_inside}
use Rattle.ic_laws.specs.Scene.{key_of, same_key}
use Rattle.ic_laws.specs.Tree.{Bound, IsWellFormed, Kind, bound_names}
use Rattle.ic_laws.specs.declared.reference.Place.{Place}
use Rattle.ic_laws.specs.declared.scene.Scene.{Scene}
use Rattle.ic_laws.specs.declared.tree.Formula.{Formula}
use Rattle.ic_laws.specs.declared.tree.Formula.TheVariants as formulas
use Rattle.ic_laws.specs.declared.tree.NameMention.{NameMention}
use Rattle.ic_laws.specs.declared.tree.SheetMention.{SheetMention}
use Rattle.ic_laws.specs.declared.tree.Tree.{every-Tree}
use Rattle.ic_laws.specs.declared.tree.Tree.TheOpen as one

-- a place lies in the sheet, counted from the cell at a row and a column
abbrev pub IsPlaceInside : ℤ → ℤ → Place → Type 0
IsPlaceInside row column place = is_inside place row column ≡ true

-- the functions of a formula are there, and of the places of its references this holds
abbrev pub LiesWhere : Notations → (Place → Type 0) → Kind SheetMention NameMention → Type 0
LiesWhere n Inside (one.Reference sheet place) = Inside place
LiesWhere n Inside (one.Fun number arguments) = HasFunction n number
LiesWhere n Inside kind = Unit {0}

-- What holds of each tree that a book keeps, for the sheet that its words are looked up from: it is well-formed, written
-- out and bound again it is the same, its functions are there, and of the places of its references this holds.
pub record IsKeptWhere (n : Notations) (Inside : Place → Type 0) (scene : Scene) (scope : Option ℕ) (t : Bound) : Type 0 where
  pub well : IsWellFormed bound_names n.stored.let_fn n.stored.lambda_fn t
  pub settled : IsSettled (english_function n) scene scope t
  pub parts : every-Tree SheetMention NameMention (LiesWhere n Inside) (λ pair. Unit {0}) t

-- in a cell its references lie in the sheet
abbrev pub IsKept : Notations → Scene → Option ℕ → ℤ → ℤ → Bound → Type 0
IsKept n scene scope row column t = IsKeptWhere n (IsPlaceInside row column) scene scope t

-- beside the cells, where the formulas of a sheet are kept for all of them, nothing is asked of places
abbrev pub IsPooled : Notations → Scene → Option ℕ → Formula → Type 0
IsPooled n scene scope (formulas.Tree t) = IsKeptWhere n (λ place. Unit {0}) scene scope t
IsPooled n scene scope (formulas.Raw text) = Unit {0}

-- nothing is asked of a text that doesn't read
abbrev pub IsKeptFormula : Notations → Scene → Option ℕ → ℤ → ℤ → Formula → Type 0
IsKeptFormula n scene scope row column (formulas.Tree t) = IsKept n scene scope row column t
IsKeptFormula n scene scope row column (formulas.Raw text) = Unit {0}

-- the formula of a cell of the sheet with this id, and the body of a definition, which counts from the first cell
pub record IsKeptCell (n : Notations) (scene : Scene) (id : ℕ) (cell : CellPlace × Formula) : Type 0 where
  pub inside : is_cell cell.0.0 cell.0.1 ≡ true
  pub formula : IsKeptFormula n scene (Some id) cell.0.0 cell.0.1 cell.1

abbrev pub IsKeptBody : Notations → Scene → Definition → Type 0
IsKeptBody n scene definition = IsKeptFormula n scene definition.scope (pos 1) (pos 1) definition.body

-- a sheet's id and name, and its cells, which stand in order
pub record IsValidSheet (n : Notations) (scene : Scene) (sheet : Sheet) : Type 0 where
  pub id : IsId sheet.id
  pub name : is_sheet_name sheet.name ≡ true
  pub ordered : IsStrictlySortedBy place_cmp (map (λ cell. cell.0) sheet.cells)
  pub cells : AllByRecursion (IsKeptCell n scene sheet.id) sheet.cells

-- a definition may be local to a sheet that is gone
abbrev pub IsScope : Option ℕ → Type 0
IsScope None = Unit {0}
IsScope (Some id) = IsId id

pub record IsValidDefinition (n : Notations) (scene : Scene) (definition : Definition) : Type 0 where
  pub name : is_identifier definition.name ≡ true
  pub scope : IsScope definition.scope
  pub body : IsKeptBody n scene definition

-- What always holds of a book: a sheet at least; each sheet and each definition as above; no two sheets with one id or
-- with names that agree, no two definitions with one key; a locale and a language of the tables.
pub record IsValidCore (n : Notations) (book : CoreBook) : Type 0 where
  pub some_sheet : 0 < length book.sheets
  pub few : length book.sheets ≤ last_id
  pub sheets : AllByRecursion (IsValidSheet n (scene_of book)) book.sheets
  pub definitions : AllByRecursion (IsValidDefinition n (scene_of book)) book.definitions
  pub ids_differ : IsDistinct nat_eq (ids_of book)
  pub names_differ : IsDistinct agrees (names_of book)
  pub keys_differ : IsDistinct same_key (map (λ d. key_of (spelling_of d)) book.definitions)
  pub locale : n.knows_locale book.locale ≡ true
  pub language : n.knows_language book.language ≡ true
