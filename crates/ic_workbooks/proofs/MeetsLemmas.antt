-- The first four conditions, by the records of a workbook and by the book that they stand for.
use Rattle.std.proofs.Common.{◌≡◌, ℕ, List, [], ◌∷◌, true, map, nat_eq, refl, sym, ap, subst, arith}
use Rattle.std.proofs.lemmas.List.{length-map}
use Rattle.std.specs.List.{AllByRecursion, IsDistinct}
use Rattle.ic_laws.specs.CoreBook.{Definition, IsId, spelling_of}
use Rattle.ic_laws.specs.Name.{agrees, is_identifier, is_sheet_name}
use Rattle.ic_laws.specs.Scene.{key_of, same_key}
use Rattle.ic_laws.specs.ValidCore.{IsScope}
use Rattle.ic_laws.specs.declared.scene.NameSpelling.{NameSpelling}
use Rattle.ic_laws.specs.declared.scene.SheetName.{SheetName}
use Rattle.ic_tables.specs.Tables.{TableSet}
use Rattle.ic_cells.specs.declared.sheet.Worksheet.{Worksheet}
use Rattle.ic_cells.specs.declared.workbook.DefinedName.{DefinedName}
use Rattle.ic_cells.specs.declared.workbook.Workbook.{Workbook}
use Rattle.ic_machine.specs.Book as machine
use Rattle.ic_sheets.specs.Records.{HasIds, started}
use Rattle.ic_workbooks.specs.Asked.{AreDefined, HasCount, HasNames, IsDefined, key_in, unread}
use Rattle.ic_workbooks.specs.HandedIn.{Definitions, Meets, SheetCount, SheetIds, SheetNames, definition_of, scene_of, sheet_of}
use Rattle.ic_parts.specs.Scene.{named, scene_of_parts}
use Rattle.ic_workbooks.proofs.HandedInLemmas.{all_mapped}

all_unmapped : {X Y : Type 0} (P : Y → Type 0) (f : X → Y) (xs : List X) → AllByRecursion P (map f xs) → AllByRecursion (λ x. P (f x)) xs
all_unmapped P f [] h = tt
all_unmapped P f (x ∷ xs) h = (h.0, all_unmapped P f xs h.1)

all_changed : {X : Type 0} (P Q : X → Type 0) → ((x : X) → P x → Q x) → (xs : List X) → AllByRecursion P xs → AllByRecursion Q xs
all_changed P Q so [] h = tt
all_changed P Q so (x ∷ xs) h = (so x h.0, all_changed P Q so xs h.1)

module _ (w : Workbook) (language : List ℕ) (tables : TableSet) where
  names_there : (ws : List Worksheet) → map (λ (s : machine.Sheet). s.name) (map (sheet_of w tables) ws) ≡ map (λ (s : Worksheet). s.name) ws
  names_there [] = refl
  names_there (s ∷ ws) = ap (λ ns. s.name ∷ ns) (names_there ws)

  ids_there : (ws : List Worksheet) → map (λ (s : machine.Sheet). s.id) (map (sheet_of w tables) ws) ≡ map (λ (s : Worksheet). s.sheet_id) ws
  ids_there [] = refl
  ids_there (s ∷ ws) = ap (λ ns. s.sheet_id ∷ ns) (ids_there ws)

  keys_there : (ds : List DefinedName) → map (λ d. key_of (spelling_of d)) (map (definition_of w tables) ds) ≡ map key_in ds
  keys_there [] = refl
  keys_there (d ∷ ds) = ap (λ ks. key_in d ∷ ks) (keys_there ds)

  pub count_met : HasCount w.worksheets → Meets w language tables SheetCount
  count_met h = let e = length-map w.worksheets (sheet_of w tables) in let some = h.some in let few = h.few in record { some = omega (arith, e, some); few = omega (arith, e, few) }

  pub count_asked : Meets w language tables SheetCount → HasCount w.worksheets
  count_asked h = let e = length-map w.worksheets (sheet_of w tables) in let some = h.some in let few = h.few in record { some = omega (arith, e, some); few = omega (arith, e, few) }

  pub names_met : HasNames w.worksheets → Meets w language tables SheetNames
  names_met h = record {
    names = all_mapped (λ (s : machine.Sheet). is_sheet_name s.name ≡ true) (sheet_of w tables) w.worksheets h.each;
    differ = subst (IsDistinct agrees) (sym (names_there w.worksheets)) h.differ;
  }

  pub names_asked : Meets w language tables SheetNames → HasNames w.worksheets
  names_asked h = record {
    each = all_unmapped (λ (s : machine.Sheet). is_sheet_name s.name ≡ true) (sheet_of w tables) w.worksheets h.names;
    differ = subst (IsDistinct agrees) (names_there w.worksheets) h.differ;
  }

  pub ids_met : HasIds w.worksheets → Meets w language tables SheetIds
  ids_met h = record {
    ids = all_mapped (λ (s : machine.Sheet). IsId s.id) (sheet_of w tables) w.worksheets h.each;
    differ = subst (IsDistinct nat_eq) (sym (ids_there w.worksheets)) h.differ;
  }

  pub ids_asked : Meets w language tables SheetIds → HasIds w.worksheets
  ids_asked h = record {
    each = all_unmapped (λ (s : machine.Sheet). IsId s.id) (sheet_of w tables) w.worksheets h.ids;
    differ = subst (IsDistinct nat_eq) (ids_there w.worksheets) h.differ;
  }

  pub definitions_met : AreDefined w.defined_names → Meets w language tables Definitions
  definitions_met h = record {
    names = all_mapped (λ (d : Definition). is_identifier d.name ≡ true) (definition_of w tables) w.defined_names (all_changed IsDefined (λ d. is_identifier d.name ≡ true) (λ d one. one.name) w.defined_names h.each);
    scopes = all_mapped (λ (d : Definition). IsScope d.scope) (definition_of w tables) w.defined_names (all_changed IsDefined (λ d. IsScope d.sheet_id) (λ d one. one.scope) w.defined_names h.each);
    differ = subst (IsDistinct same_key) (sym (keys_there w.defined_names)) h.differ;
  }

  defined_each : (ds : List DefinedName) → AllByRecursion (λ (d : DefinedName). is_identifier d.name ≡ true) ds → AllByRecursion (λ (d : DefinedName). IsScope d.sheet_id) ds → AllByRecursion IsDefined ds
  defined_each [] h k = tt
  defined_each (d ∷ ds) h k = (record { name = h.0; scope = k.0 }, defined_each ds h.1 k.1)

  pub definitions_asked : Meets w language tables Definitions → AreDefined w.defined_names
  definitions_asked h = record {
    each = defined_each w.defined_names (all_unmapped (λ (d : Definition). is_identifier d.name ≡ true) (definition_of w tables) w.defined_names h.names)
        (all_unmapped (λ (d : Definition). IsScope d.scope) (definition_of w tables) w.defined_names h.scopes);
    differ = subst (IsDistinct same_key) (keys_there w.defined_names) h.differ;
  }

-- ---- what formulas can mention before any of them is read

named_started : (ws : List Worksheet) → map named (map started ws) ≡ map (λ (s : Worksheet). let called : SheetName = record { id = s.sheet_id; name = s.name } in called) ws
named_started [] = refl
named_started (s ∷ ws) = ap (λ (rest : List SheetName). named (started s) ∷ rest) (named_started ws)

spelled_unread : (ds : List DefinedName) → map spelling_of (map unread ds) ≡ map (λ (d : DefinedName). let spelling : NameSpelling = record { name = d.name; scope = d.sheet_id } in spelling) ds
spelled_unread [] = refl
spelled_unread (d ∷ ds) = ap (λ (rest : List NameSpelling). spelling_of (unread d) ∷ rest) (spelled_unread ds)

-- the sheets and the definitions that hold nothing yet are what the formulas of the workbook can mention
pub started_scene : (w : Workbook) → scene_of_parts (map started w.worksheets) (map unread w.defined_names) ≡ scene_of w
started_scene w = λ i. record { sheets = named_started w.worksheets i; names = spelled_unread w.defined_names i }
