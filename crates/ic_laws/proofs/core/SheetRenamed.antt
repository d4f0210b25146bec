-- A book stays valid when a sheet gets a good name that agrees with no other's, over which its formulas are kept.
use Rattle.std.proofs.Common.{◌≡◌, ℕ, List, map, true, false, refl, ap, sym, subst, ◌∙◌, arith, nat_eq}
use Rattle.std.specs.List.{IsDistinct}
use Rattle.std.proofs.lemmas.List.{length-map}
use Rattle.ic_laws.proofs.CoreLemmas.{agrees_equiv}
use Rattle.ic_laws.proofs.core.KeptBook.{KeepsTrees, in_body, mentioned, on_sheet, same_definitions, same_sheets, valid_definitions, valid_sheets}
use Rattle.ic_laws.proofs.core.Lists.{all_updated, distinct_replaced, length_updated, updated_seen, updated_unseen}
use Rattle.ic_laws.proofs.core.Made.{kept_ids, kept_keys, kept_names, made_valid}
use Rattle.ic_laws.specs.CoreBook.{CoreBook, Sheet, names_of, scene_of, spelling_of}
use Rattle.ic_laws.specs.CoreStep.{changed_by, has_other_sheet, updated_at, with_sheet_name}
use Rattle.ic_laws.specs.Name.{agrees, is_sheet_name}
use Rattle.ic_laws.specs.Notations.{Notations}
use Rattle.ic_laws.specs.Scene.{same_key}
use Rattle.ic_laws.specs.ValidCore.{IsValidCore, IsValidSheet}
use Rattle.ic_laws.specs.declared.scene.NameSpelling.{NameSpelling}
use Rattle.ic_laws.specs.declared.scene.Scene.{Scene}
use Rattle.ic_laws.specs.declared.scene.SheetName.{SheetName}

module _ (n : Notations) (book : CoreBook) (index : ℕ) (name : List ℕ) (valid : IsValidCore n book) (keeps : KeepsTrees n (scene_of book) (scene_of (with_sheet_name index name book))) (good : is_sheet_name name ≡ true) (new : has_other_sheet book index name ≡ false) where
  abbrev before : Scene
  before = scene_of book

  abbrev later : Scene
  later = scene_of (with_sheet_name index name book)

  abbrev kept_sheets : List Sheet
  kept_sheets = map (on_sheet n before later) book.sheets

  abbrev called : Sheet → Sheet
  called sheet = record sheet { name = name }

  abbrev renamed : CoreBook
  renamed = changed_by n (with_sheet_name index name) book

  same_after : scene_of renamed ≡ later
  same_after =
      ap (λ (x : List SheetName). record { sheets = x; names = map spelling_of (map (in_body n before later) book.definitions) })
      (updated_seen mentioned called (λ m. record m { name = name }) (λ s. refl) index kept_sheets
      ∙ ap (updated_at (λ (m : SheetName). record m { name = name }) index) (same_sheets n before later mentioned (λ s. refl) book.sheets)
      ∙ sym (updated_seen mentioned called (λ m. record m { name = name }) (λ s. refl) index book.sheets))
      ∙ ap (λ (x : List NameSpelling). record { sheets = later.sheets; names = x }) (same_definitions n before later spelling_of (λ d. refl) book.definitions)

  pub renamed_valid : IsValidCore n renamed
  renamed_valid =
      made_valid n renamed later same_after (omega (arith, valid.some_sheet, length_updated called index kept_sheets, length-map book.sheets (on_sheet n before later)))
      (all_updated (IsValidSheet n later) called (λ s h. record { id = h.id; name = good; ordered = h.ordered; cells = h.cells }) index kept_sheets (valid_sheets n before later keeps book.sheets valid.sheets))
      (valid_definitions n before later keeps book.definitions valid.definitions)
      (subst (IsDistinct nat_eq) (sym (updated_unseen (λ (s : Sheet). s.id) called (λ s. refl) index kept_sheets ∙ kept_ids n book later)) valid.ids_differ)
      (subst (IsDistinct agrees) (sym (updated_seen (λ (s : Sheet). s.name) called (λ m. name) (λ s. refl) index kept_sheets ∙ ap (updated_at (λ m. name) index) (kept_names n book later))) (distinct_replaced agrees_equiv name index (names_of book) valid.names_differ new))
      (subst (IsDistinct same_key) (sym (kept_keys n book later)) valid.keys_differ)
      valid.locale valid.language
