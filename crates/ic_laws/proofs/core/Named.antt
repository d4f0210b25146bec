-- The names in a scene are good and differ, in that of a valid book and in those of its changes.
use Rattle.std.proofs.Common.{◌≡◌, ℕ, ◌+◌, List, [], ◌∷◌, map, true, false, Some, refl, ap, sym, subst}
use Rattle.std.specs.List.{AllByRecursion, IsDistinct}
use Rattle.std.proofs.lemmas.List.{map-append}
use Rattle.std.proofs.lemmas.Map.Keys.{IsDistinct-push}
use Rattle.ic_laws.proofs.CoreLemmas.{agrees_equiv}
use Rattle.ic_laws.proofs.core.KeptBook.{mentioned}
use Rattle.ic_laws.proofs.core.Lists.{all_pushed, all_removed, all_updated, distinct_removed, distinct_replaced, removed_seen, updated_seen}
use Rattle.ic_laws.specs.CoreBook.{CoreBook, Definition, Sheet, greatest_id, has_sheet, names_of, scene_of, spelling_of}
use Rattle.ic_laws.specs.CoreStep.{has_other_sheet, with_definition, with_new_sheet, with_sheet_name, without_definition, without_sheet}
use Rattle.ic_laws.specs.Name.{agrees, is_identifier, is_sheet_name}
use Rattle.ic_laws.specs.Notations.{Notations}
use Rattle.ic_laws.specs.Scene.{SheetsDiffer}
use Rattle.ic_laws.specs.ValidCore.{IsValidCore, IsValidDefinition, IsValidSheet}
use Rattle.ic_laws.specs.declared.scene.NameSpelling.{NameSpelling}
use Rattle.ic_laws.specs.declared.scene.Scene.{Scene}
use Rattle.ic_laws.specs.declared.scene.SheetName.{SheetName}

-- a sheet has a good name, and so has a definition
abbrev pub HasSheetName : Sheet → Type 0
HasSheetName s = is_sheet_name s.name ≡ true

abbrev pub HasIdentifier : Definition → Type 0
HasIdentifier d = is_identifier d.name ≡ true

-- each sheet and each definition that can be mentioned has a good name, and no two sheets' names agree
pub record IsNamed (scene : Scene) : Type 0 where
  pub sheets : AllByRecursion (λ (m : SheetName). is_sheet_name m.name ≡ true) scene.sheets
  pub names : AllByRecursion (λ (m : NameSpelling). is_identifier m.name ≡ true) scene.names
  pub differ : SheetsDiffer scene

sheets_named : (sheets : List Sheet) → AllByRecursion HasSheetName sheets → AllByRecursion (λ (m : SheetName). is_sheet_name m.name ≡ true) (map mentioned sheets)
sheets_named [] h = tt
sheets_named (s ∷ sheets) h = (h.0, sheets_named sheets h.1)

definitions_named : (definitions : List Definition) → AllByRecursion HasIdentifier definitions → AllByRecursion (λ (m : NameSpelling). is_identifier m.name ≡ true) (map spelling_of definitions)
definitions_named [] h = tt
definitions_named (d ∷ definitions) h = (h.0, definitions_named definitions h.1)

mentioned_names : (sheets : List Sheet) → map (λ (m : SheetName). m.name) (map mentioned sheets) ≡ map (λ (s : Sheet). s.name) sheets
mentioned_names [] = refl
mentioned_names (s ∷ sheets) = ap (λ r. s.name ∷ r) (mentioned_names sheets)

pub named_by : (book : CoreBook) → AllByRecursion HasSheetName book.sheets → AllByRecursion HasIdentifier book.definitions → IsDistinct agrees (names_of book) → IsNamed (scene_of book)
named_by book sheets definitions differ = record {
  sheets = sheets_named book.sheets sheets;
  names = definitions_named book.definitions definitions;
  differ = subst (IsDistinct agrees) (sym (mentioned_names book.sheets)) differ;
}

module _ (n : Notations) (book : CoreBook) (valid : IsValidCore n book) where
  names_in : (scene : Scene) (sheets : List Sheet) → AllByRecursion (IsValidSheet n scene) sheets → AllByRecursion HasSheetName sheets
  names_in scene [] h = tt
  names_in scene (s ∷ sheets) h = (h.0.name, names_in scene sheets h.1)

  identifiers_in : (scene : Scene) (definitions : List Definition) → AllByRecursion (IsValidDefinition n scene) definitions → AllByRecursion HasIdentifier definitions
  identifiers_in scene [] h = tt
  identifiers_in scene (d ∷ definitions) h = (h.0.name, identifiers_in scene definitions h.1)

  pub sheet_names : AllByRecursion HasSheetName book.sheets
  sheet_names = names_in (scene_of book) book.sheets valid.sheets

  pub identifiers : AllByRecursion HasIdentifier book.definitions
  identifiers = identifiers_in (scene_of book) book.definitions valid.definitions

  pub book_named : IsNamed (scene_of book)
  book_named = named_by book sheet_names identifiers valid.names_differ

  pub added_named : (name : List ℕ) → is_sheet_name name ≡ true → has_sheet book name ≡ false → IsNamed (scene_of (with_new_sheet name book))
  added_named name good new =
      named_by (with_new_sheet name book) (all_pushed HasSheetName book.sheets (record { id = greatest_id book + 1; name = name; cells = [] }) sheet_names good) identifiers
      (subst (IsDistinct agrees) (sym (map-append (λ (s : Sheet). s.name) book.sheets (record { id = greatest_id book + 1; name = name; cells = [] } ∷ []))) (IsDistinct-push agrees_equiv (names_of book) name valid.names_differ new))

  pub renamed_named : (index : ℕ) (name : List ℕ) → is_sheet_name name ≡ true → has_other_sheet book index name ≡ false → IsNamed (scene_of (with_sheet_name index name book))
  renamed_named index name good new =
      named_by (with_sheet_name index name book) (all_updated HasSheetName (λ s. record s { name = name }) (λ s h. good) index book.sheets sheet_names) identifiers
      (subst (IsDistinct agrees) (sym (updated_seen (λ (s : Sheet). s.name) (λ s. record s { name = name }) (λ m. name) (λ s. refl) index book.sheets)) (distinct_replaced agrees_equiv name index (names_of book) valid.names_differ new))

  pub deleted_named : (index : ℕ) → IsNamed (scene_of (without_sheet index book))
  deleted_named index =
      named_by (without_sheet index book) (all_removed HasSheetName book.sheets index sheet_names) identifiers
      (subst (IsDistinct agrees) (sym (removed_seen (λ (s : Sheet). s.name) book.sheets index)) (distinct_removed agrees_equiv (names_of book) index valid.names_differ))

  pub defined_named : (new : Definition) → is_identifier new.name ≡ true → IsNamed (scene_of (with_definition new book))
  defined_named new good = named_by (with_definition new book) sheet_names (all_pushed HasIdentifier book.definitions new identifiers good) valid.names_differ

  pub undefined_named : (index : ℕ) → IsNamed (scene_of (without_definition (Some index) book))
  undefined_named index = named_by (without_definition (Some index) book) sheet_names (all_removed HasIdentifier book.definitions index identifiers) valid.names_differ
