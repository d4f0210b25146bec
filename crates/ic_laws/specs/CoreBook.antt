-- The core of a book: its sheets with their formulas, its definitions, and the notation in force.
use Rattle.std.specs.Prelude.{ℕ, ℤ, ◌+◌, ◌<◌, ◌≤◌, ◌++◌, List, map, flat_map, Bool, Option, Some, None, nat_lt, if◌then◌else◌}
use Rattle.std.specs.BTreeMap.{insert_entry, is_at}
use Rattle.std.specs.List.{list_any}
use Rattle.std.specs.Map.{lookup}
use Rattle.std.specs.Option.{option_to_list}
use Rattle.std.specs.Ordering.{int_cmp, ordering_then}
use Rattle.std.specs.declared.cmp.Ordering.{Ordering}
use Rattle.ic_laws.specs.Greatest.{greatest}
use Rattle.ic_laws.specs.Name.{agrees}
use Rattle.ic_laws.specs.declared.scene.NameSpelling.{NameSpelling}
use Rattle.ic_laws.specs.declared.scene.Scene.{Scene}
use Rattle.ic_laws.specs.declared.tree.Formula.{Formula}

-- a row and a column
abbrev pub CellPlace : Type 0
CellPlace = ℤ × ℤ

-- cells stand by rows, and in a row by columns
abbrev pub place_cmp : CellPlace → CellPlace → Ordering
place_cmp a b = ordering_then (int_cmp a.0 b.0) (int_cmp a.1 b.1)

-- the formulas of a sheet, each with its cell: a finite map, as its entries in order
abbrev pub Cells : Type 0
Cells = List (CellPlace × Formula)

-- the formula of the cell at a row and a column, if it has one
abbrev pub formula_at : Cells → ℤ → ℤ → Option Formula
formula_at cells row column = lookup (is_at (place_cmp (row, column))) cells

-- the cells with this formula at a row and a column, in place of the one that was there
abbrev pub with_formula_at : Cells → ℤ → ℤ → Formula → Cells
with_formula_at cells row column formula = insert_entry place_cmp cells (row, column) formula

-- a sheet keeps its id while it is renamed and moved
pub record Sheet : Type 0 where
  pub id : ℕ
  pub name : List ℕ
  pub cells : Cells

-- a definition: its name as it was spelled, the id of the sheet that it is local to, if there is one, whether its body was
-- typed with an equals sign, and the body
pub record Definition : Type 0 where
  pub name : List ℕ
  pub scope : Option ℕ
  pub has_equals : Bool
  pub body : Formula

-- the sheets and the definitions in their order, and the ids of the locale and the language in force
pub record CoreBook : Type 0 where
  pub sheets : List Sheet
  pub definitions : List Definition
  pub locale : List ℕ
  pub language : List ℕ

-- the names of the sheets
abbrev pub names_of : CoreBook → List (List ℕ)
names_of book = map (λ s. s.name) book.sheets

-- their ids
abbrev pub ids_of : CoreBook → List ℕ
ids_of book = map (λ s. s.id) book.sheets

-- some sheet's name agrees with this one
abbrev pub has_sheet : CoreBook → List ℕ → Bool
has_sheet book name = list_any (agrees name) (names_of book)

-- what formulas can mention: the sheets with their ids, the definitions with their scopes
abbrev pub spelling_of : Definition → NameSpelling
spelling_of definition = record { name = definition.name; scope = definition.scope }

abbrev pub scene_of : CoreBook → Scene
scene_of book = record { sheets = map (λ s. record { id = s.id; name = s.name }) book.sheets; names = map spelling_of book.definitions }

-- the ids in use: those of the sheets, and those that definitions are local to, also where that sheet is gone
abbrev pub used_ids : CoreBook → List ℕ
used_ids book = ids_of book ++ flat_map (λ d. option_to_list d.scope) book.definitions

-- the greatest id in use
abbrev pub greatest_id : CoreBook → ℕ
greatest_id book = greatest (used_ids book)

-- the greatest id that there is
abbrev pub last_id : ℕ
last_id = 4294967295

abbrev pub IsId : ℕ → Type 0
IsId id = (0 < id) × (id ≤ last_id)

-- the id of the next new sheet: one more than the greatest in use, and none where that is the last
abbrev pub fresh_id : CoreBook → Option ℕ
fresh_id book = if nat_lt (greatest_id book) last_id then Some (greatest_id book + 1) else None
