-- A book is valid where its parts are; and the parts of a book whose formulas are kept.
use Rattle.std.proofs.Common.{◌≡◌, ◌<◌, ◌≤◌, List, [], ◌∷◌, map, true, All, refl, sym, subst, length, nat_eq}
use Rattle.std.specs.List.{AllByRecursion, IsDistinct}
use Rattle.std.proofs.lemmas.List.{length-map}
use Rattle.std.proofs.lemmas.List.Elements.{All-cons, All-nil}
use Rattle.ic_laws.proofs.CoreLemmas.{ids_few}
use Rattle.ic_laws.proofs.core.KeptBook.{in_body, on_sheet, same_definitions, same_sheets}
use Rattle.ic_laws.specs.CoreBook.{CoreBook, Definition, IsId, Sheet, ids_of, last_id, names_of, scene_of, spelling_of}
use Rattle.ic_laws.specs.Name.{agrees}
use Rattle.ic_laws.specs.Notations.{Notations}
use Rattle.ic_laws.specs.Scene.{key_of, same_key}
use Rattle.ic_laws.specs.ValidCore.{IsValidCore, IsValidDefinition, IsValidSheet}
use Rattle.ic_laws.specs.declared.scene.Scene.{Scene}
use Rattle.ic_laws.specs.declared.tree.NameKey.{NameKey}

-- the key of a definition
abbrev pub key : Definition → NameKey
key definition = key_of (spelling_of definition)

ids_valid : (n : Notations) (scene : Scene) (sheets : List Sheet) → AllByRecursion (IsValidSheet n scene) sheets → All IsId (map (λ (s : Sheet). s.id) sheets)
ids_valid n scene [] h = All-nil IsId
ids_valid n scene (s ∷ sheets) h = All-cons IsId s.id (map (λ (s : Sheet). s.id) sheets) h.0.id (ids_valid n scene sheets h.1)

-- what is asked of a book, by its parts; that there are no more sheets than ids follows
pub made_valid : (n : Notations) (book : CoreBook) (scene : Scene) → scene_of book ≡ scene → 0 < length book.sheets → AllByRecursion (IsValidSheet n scene) book.sheets → AllByRecursion (IsValidDefinition n scene) book.definitions
    → IsDistinct nat_eq (ids_of book) → IsDistinct agrees (names_of book) → IsDistinct same_key (map key book.definitions) → n.knows_locale book.locale ≡ true → n.knows_language book.language ≡ true → IsValidCore n book
made_valid n book scene same some sheets definitions ids names keys locale language = record {
  some_sheet = some;
  few = subst (λ m. m ≤ last_id) (length-map book.sheets (λ (s : Sheet). s.id)) (ids_few (ids_of book) (ids_valid n scene book.sheets sheets) ids);
  sheets = subst (λ s. AllByRecursion (IsValidSheet n s) book.sheets) (sym same) sheets;
  definitions = subst (λ s. AllByRecursion (IsValidDefinition n s) book.definitions) (sym same) definitions;
  ids_differ = ids;
  names_differ = names;
  keys_differ = keys;
  locale = locale;
  language = language;
}

module _ (n : Notations) (book : CoreBook) (scene : Scene) where
  -- the ids, the names and the keys of the kept book
  pub kept_ids : map (λ (s : Sheet). s.id) (map (on_sheet n (scene_of book) scene) book.sheets) ≡ ids_of book
  kept_ids = same_sheets n (scene_of book) scene (λ (s : Sheet). s.id) (λ s. refl) book.sheets

  pub kept_names : map (λ (s : Sheet). s.name) (map (on_sheet n (scene_of book) scene) book.sheets) ≡ names_of book
  kept_names = same_sheets n (scene_of book) scene (λ (s : Sheet). s.name) (λ s. refl) book.sheets

  pub kept_keys : map key (map (in_body n (scene_of book) scene) book.definitions) ≡ map key book.definitions
  kept_keys = same_definitions n (scene_of book) scene key (λ d. refl) book.definitions
