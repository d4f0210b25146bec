-- The plain search for a sheet, by its folded name or by its id.
use Rattle.std.specs.Prelude.{ℕ, suc, List, [], ◌∷◌, Option, Some, None, bytes_eq, nat_eq, option_map, if◌then◌else◌}
use Rattle.ic_laws.specs.Name.{fold}
use Rattle.ic_sheets.specs.declared.sheet.Sheet.{Sheet}

-- the id of the first sheet whose folded name is this key
abbrev pub id_of : List ℕ → List Sheet → Option ℕ
id_of key [] = None
id_of key (s ∷ sheets) = if bytes_eq key (fold s.name) then Some s.id else id_of key sheets

-- the index of the first sheet with this id, from 0
abbrev pub index_with_id : ℕ → List Sheet → Option ℕ
index_with_id id [] = None
index_with_id id (s ∷ sheets) = if nat_eq s.id id then Some 0 else option_map suc (index_with_id id sheets)
