-- A book stays valid when a sheet is taken out that isn't its only one, over which its formulas are kept.
use Rattle.std.proofs.Common.{◌≡◌, ℕ, ◌<◌, List, map, refl, ap, sym, subst, ◌∙◌, length, arith, nat_eq}
use Rattle.std.specs.Cmp.{nat_eq_equiv}
use Rattle.std.specs.List.{IsDistinct, remove}
use Rattle.std.proofs.lemmas.List.{length-map}
use Rattle.std.proofs.lemmas.List.Edits.{length-remove}
use Rattle.ic_laws.proofs.CoreLemmas.{agrees_equiv}
use Rattle.ic_laws.proofs.core.KeptBook.{KeepsTrees, in_body, mentioned, on_sheet, same_definitions, same_sheets, valid_definitions, valid_sheets}
use Rattle.ic_laws.proofs.core.Lists.{all_removed, distinct_removed, removed_seen}
use Rattle.ic_laws.proofs.core.Made.{kept_ids, kept_keys, kept_names, made_valid}
use Rattle.ic_laws.specs.CoreBook.{CoreBook, Sheet, ids_of, names_of, scene_of, spelling_of}
use Rattle.ic_laws.specs.CoreStep.{changed_by, without_sheet}
use Rattle.ic_laws.specs.Name.{agrees}
use Rattle.ic_laws.specs.Notations.{Notations}
use Rattle.ic_laws.specs.Scene.{same_key}
use Rattle.ic_laws.specs.ValidCore.{IsValidCore, IsValidSheet}
use Rattle.ic_laws.specs.declared.scene.NameSpelling.{NameSpelling}
use Rattle.ic_laws.specs.declared.scene.Scene.{Scene}
use Rattle.ic_laws.specs.declared.scene.SheetName.{SheetName}

module _ (n : Notations) (book : CoreBook) (index : ℕ) (valid : IsValidCore n book) (keeps : KeepsTrees n (scene_of book) (scene_of (without_sheet index book))) (others : 1 < length book.sheets) (inside : index < length book.sheets) where
  abbrev before : Scene
  before = scene_of book

  abbrev later : Scene
  later = scene_of (without_sheet index book)

  abbrev kept_sheets : List Sheet
  kept_sheets = map (on_sheet n before later) book.sheets

  abbrev deleted : CoreBook
  deleted = changed_by n (without_sheet index) book

  same_after : scene_of deleted ≡ later
  same_after =
      ap (λ (x : List SheetName). record { sheets = x; names = map spelling_of (map (in_body n before later) book.definitions) })
      (removed_seen mentioned kept_sheets index ∙ ap (λ xs. remove xs index) (same_sheets n before later mentioned (λ s. refl) book.sheets) ∙ sym (removed_seen mentioned book.sheets index))
      ∙ ap (λ (x : List NameSpelling). record { sheets = later.sheets; names = x }) (same_definitions n before later spelling_of (λ d. refl) book.definitions)

  same_count : length kept_sheets ≡ length book.sheets
  same_count = length-map book.sheets (on_sheet n before later)

  pub deleted_valid : IsValidCore n deleted
  deleted_valid =
      made_valid n deleted later same_after (omega (arith, same_count, length-remove kept_sheets index (omega (arith, same_count))))
      (all_removed (IsValidSheet n later) kept_sheets index (valid_sheets n before later keeps book.sheets valid.sheets))
      (valid_definitions n before later keeps book.definitions valid.definitions)
      (subst (IsDistinct nat_eq) (sym (removed_seen (λ (s : Sheet). s.id) kept_sheets index ∙ ap (λ xs. remove xs index) (kept_ids n book later))) (distinct_removed nat_eq_equiv (ids_of book) index valid.ids_differ))
      (subst (IsDistinct agrees) (sym (removed_seen (λ (s : Sheet). s.name) kept_sheets index ∙ ap (λ xs. remove xs index) (kept_names n book later))) (distinct_removed agrees_equiv (names_of book) index valid.names_differ))
      (subst (IsDistinct same_key) (sym (kept_keys n book later)) valid.keys_differ)
      valid.locale valid.language
