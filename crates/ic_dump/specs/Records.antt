-- How the records of a book tell what its lines are made of, and what finds sheets and names.
use Rattle.std.specs.Prelude.{◌≡◌, ◌++◌, ℕ, List, map, nat_eq, position}
use Rattle.std.specs.BTreeMap.{BTreeMap, get}
use Rattle.std.specs.BTreeSet.{BTreeSet, contains}
use Rattle.std.specs.List.{list_any}
use Rattle.std.specs.Ordering.{nat_cmp}
use Rattle.ic_cells.specs.declared.workbook.DefinedName.{DefinedName}
use Rattle.ic_laws.specs.CoreBook.{Sheet}
use Rattle.ic_laws.specs.declared.scene.NameSpelling.{NameSpelling}
use Rattle.ic_laws.specs.declared.scene.SheetName.{SheetName}
use Rattle.ic_parts.specs.Lent.{placed}
use Rattle.ic_dump.specs.Passing.{other_ids}
use Rattle.ic_dump.specs.declared.sheets.SheetSeen.{SheetSeen}

-- a sheet with the formulas of its cells
abbrev pub core_seen : SheetSeen → Sheet
core_seen sheet = record { id = sheet.name.now.id; name = sheet.name.now.name; cells = map placed sheet.cells.items }

-- a definition as formulas see it
abbrev pub name_seen : DefinedName → NameSpelling
name_seen definition = record { name = definition.name; scope = definition.sheet_id }

-- each sheet is found at its index by its id, the first where several have it
abbrev pub AreFound : BTreeMap ℕ ℕ → List SheetName → Type 0
AreFound indexes sheets = (id : ℕ) → get nat_cmp indexes id ≡ position (λ (s : SheetName). nat_eq s.id id) sheets

-- a set has these ids
abbrev pub FindsIds : BTreeSet ℕ → List ℕ → Type 0
FindsIds seen ids = (id : ℕ) → contains nat_cmp seen id ≡ list_any (nat_eq id) ids

-- the others among some ids have been listed, each once, and all that were looked at are seen
pub record AreOthers (seen : BTreeSet ℕ) (ids own past : List ℕ) : Type 0 where
  pub finds : FindsIds seen (own ++ past)
  pub listed : ids ≡ other_ids own past
