-- What the records of a book tell of its sheets and definitions.
use Rattle.std.proofs.Common.{◌≡◌, ◌++◌, ◌∷◌, [], ◌∙◌, ℕ, List, ap, ap₂, append-nil, map, refl, sym, zip, length}
use Rattle.std.specs.Option.{option_to_list}
use Rattle.std.specs.Prelude.{flat_map}
use Rattle.ic_laws.specs.CoreBook.{Definition, Sheet, ids_of, names_of, scene_of}
use Rattle.ic_laws.specs.declared.scene.SheetName.{SheetName}
use Rattle.ic_cells.specs.declared.workbook.DefinedName.{DefinedName}
use Rattle.ic_parts.specs.Book.{Book, core_of}
use Rattle.ic_workbooks.specs.Workbook.{defined_name_of}
use Rattle.ic_dump.specs.Passing.{free_numerals, other_ids, passing_ids, sheet_named, standing_sheets, taken_names}
use Rattle.ic_dump.specs.Records.{core_seen}
use Rattle.ic_dump.specs.declared.sheets.SheetSeen.{SheetSeen}

each_scope : (b : Book) (ds : List Definition) → flat_map (λ (d : DefinedName). option_to_list d.sheet_id) (map (defined_name_of b) ds) ≡ flat_map (λ (d : Definition). option_to_list d.scope) ds
each_scope b [] = refl
each_scope b (d ∷ ds) = ap (λ rest. option_to_list d.scope ++ rest) (each_scope b ds)

map_twice : {X Y Z : Type 0} (g : Y → Z) (f : X → Y) (h : X → Z) → ((x : X) → h x ≡ g (f x)) → (xs : List X) → map h xs ≡ map g (map f xs)
map_twice g f h same [] = refl
map_twice g f h same (x ∷ xs) = ap₂ (λ z zs. z ∷ zs) (same x) (map_twice g f h same xs)

module _ (b : Book) (sheets : List SheetSeen) (sheets_are : map core_seen sheets ≡ (core_of b).sheets) where
  pub own_names : map (λ (s : SheetSeen). s.name.now.name) sheets ≡ names_of (core_of b)
  own_names = map_twice (λ (c : Sheet). c.name) core_seen _ (λ s. refl) sheets ∙ ap (map (λ (c : Sheet). c.name)) sheets_are

  pub own_ids : map (λ (s : SheetSeen). s.name.now.id) sheets ≡ ids_of (core_of b)
  own_ids = map_twice (λ (c : Sheet). c.id) core_seen _ (λ s. refl) sheets ∙ ap (map (λ (c : Sheet). c.id)) sheets_are

  pub own_sheets : map (λ (s : SheetSeen). s.name.now) sheets ≡ (scene_of (core_of b)).sheets
  own_sheets =
      map_twice (λ (c : Sheet). let n : SheetName = record { id = c.id; name = c.name } in n) core_seen _ (λ s. refl) sheets
      ∙ ap (map (λ (c : Sheet). let n : SheetName = record { id = c.id; name = c.name } in n)) sheets_are

  module _ (definitions : List DefinedName) (definitions_are : definitions ≡ map (defined_name_of b) b.definitions) where
    -- the passing ids
    pub passing_told : other_ids (map (λ (s : SheetSeen). s.name.now.id) sheets) (flat_map (λ (d : DefinedName). option_to_list d.sheet_id) definitions ++ 1 ∷ []) ≡ passing_ids (core_of b)
    passing_told =
        ap₂ (λ own scopes. other_ids own (scopes ++ 1 ∷ [])) own_ids
        (ap (flat_map (λ (d : DefinedName). option_to_list d.sheet_id)) definitions_are ∙ each_scope b b.definitions)

  -- the sheets that stand, where none passes and where some do
  pub own_stand : (own : List SheetName) → passing_ids (core_of b) ≡ [] → own ≡ map (λ (s : SheetSeen). s.name.now) sheets → own ≡ standing_sheets (core_of b)
  own_stand own none are =
      are ∙ own_sheets ∙ sym (append-nil (scene_of (core_of b)).sheets)
      ∙ sym (ap (λ ids. (scene_of (core_of b)).sheets ++ map sheet_named (zip ids (free_numerals (length ids) (taken_names (core_of b))))) none)

  pub all_stand : (own all : List SheetName) (ids : List ℕ) (names taken : List (List ℕ)) → ids ≡ passing_ids (core_of b) → own ≡ map (λ (s : SheetSeen). s.name.now) sheets → taken ≡ taken_names (core_of b) → names ≡ free_numerals (length ids) taken → all ≡ own ++ map sheet_named (zip ids names) → all ≡ standing_sheets (core_of b)
  all_stand own all ids names taken ids_are own_are taken_are names_are put =
      put
      ∙ ap₂ (λ (front : List SheetName) (ns : List (List ℕ)). front ++ map sheet_named (zip ids ns)) (own_are ∙ own_sheets) (names_are ∙ ap (free_numerals (length ids)) taken_are)
      ∙ ap (λ is. (scene_of (core_of b)).sheets ++ map sheet_named (zip is (free_numerals (length is) (taken_names (core_of b))))) ids_are
