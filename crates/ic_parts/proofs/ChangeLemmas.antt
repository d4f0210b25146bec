-- Sheets and definitions come and go: what becomes of the formulas in the pools and the bodies of a valid book.
use Rattle.std.proofs.Common.{◌≡◌, ℕ, ◌+◌, List, [], ◌∷◌, ◌++◌, map, false, Option, Some, refl, sym, ap, ap₂, subst, ◌∙◌}
use Rattle.std.proofs.lemmas.Simd.{map-map}
use Rattle.std.specs.Prelude.{option_map}
use Rattle.std.proofs.lemmas.List.{map-append}
use Rattle.std.proofs.lemmas.Option.{slice_get-map}
use Rattle.std.specs.List.{AllByRecursion, IsDistinct, slice_get}
use Rattle.ic_laws.proofs.keeping.Deletes.{delete_going}
use Rattle.ic_laws.proofs.keeping.Kept.{Become}
use Rattle.ic_laws.proofs.keeping.NameChanges.{added_becomes, gone_name_becomes}
use Rattle.ic_laws.proofs.keeping.Namings.{add_naming, kept_changed, rename_naming}
use Rattle.ic_laws.proofs.keeping.Removing.{remove_map}
use Rattle.ic_laws.proofs.keeping.SheetChanges.{Going, Naming, gone_becomes, named_becomes}
use Rattle.ic_laws.proofs.keeping.Sheets.{sheets_differ}
use Rattle.ic_laws.specs.Changes.{Change, changed_local, changed_sheet, changed_word, definition_added, definition_gone, sheet_gone, sheet_named}
use Rattle.ic_laws.specs.CoreBook.{CoreBook, Definition, greatest_id, has_sheet, spelling_of}
use Rattle.ic_laws.specs.CoreStep as core_step
use Rattle.ic_laws.specs.CoreStep.{has_other_sheet}
use Rattle.ic_laws.specs.Notations.{AreNotations, Notations}
use Rattle.ic_laws.specs.Scene.{key_of, same_key}
use Rattle.ic_laws.specs.ValidCore.{IsValidCore}
use Rattle.ic_laws.specs.declared.scene.Scene.{Scene}
use Rattle.ic_machine.proofs.bound.InsertedBinds.{insert_naming}
use Rattle.ic_machine.specs.Binds.{with_sheet_among}
use Rattle.ic_sheets.specs.Rewriting.{changed_pool}
use Rattle.ic_sheets.specs.Sheet.{IsValidPool, Sheet, empty_grid, kept_pool, plain_tab, sheet_core}
use Rattle.ic_parts.specs.Book.{Book, core_of, scene_in}
use Rattle.ic_parts.specs.Change.{changed_book, with_added_definition, with_added_sheet, with_inserted_sheet, with_kept_pools, with_removed_definition, with_removed_sheet, with_renamed_sheet}
use Rattle.ic_parts.proofs.BookLemmas.{added_change, changed_in, greatest-kept, inserted_change, removed_change, renamed_change, same_scene_after}
use Rattle.ic_sheets.proofs.PoolLemmas.{pool_changed}

module _ (n : Notations) (are : AreNotations n) (before after : Scene) (change : Change) (become : (scope : Option ℕ) → Become before after scope (changed_sheet change) (changed_word change scope) (changed_local change)) where
  -- the pools of a valid book are kept as each formula is changed
  pub pools_changed : (sheets : List Sheet) → AllByRecursion (IsValidPool n before) sheets → map (kept_pool n before after) sheets ≡ map (changed_pool change) sheets
  pools_changed [] h = refl
  pools_changed (s ∷ sheets) h =
      ap₂ ◌∷◌ (ap (λ pool. let one : Sheet = record s { pool = pool } in one) (pool_changed n before after are change become (Some s.id) s.pool h.0.formulas)) (pools_changed sheets h.1)

module _ (n : Notations) (are : AreNotations n) (book : Book) (core : IsValidCore n (core_of book)) (valid : AllByRecursion (IsValidPool n (scene_in book)) book.sheets) where
  -- all formulas of the book, in its pools and in the bodies of its definitions
  kept_is : (after : Scene) (change : Change) → ((scope : Option ℕ) → Become (scene_in book) after scope (changed_sheet change) (changed_word change scope) (changed_local change)) → with_kept_pools n (scene_in book) after book ≡ changed_book change book
  kept_is after change become =
      ap₂ (λ (ss : List Sheet) (ds : List Definition). let b : Book = record book { sheets = ss; definitions = ds } in b)
      (pools_changed n are (scene_in book) after change become book.sheets valid) (ap (λ (c : CoreBook). c.definitions) (kept_changed n (core_of book) after change are core become))

  -- a book with a new sheet
  pub added_is : (name : List ℕ) (id : ℕ) → has_sheet (core_of book) name ≡ false → id ≡ greatest_id (core_of book) + 1
      → changed_in n (with_added_sheet name) book ≡ record (changed_book (sheet_named (scene_in book) id name) book) { sheets = map (changed_pool (sheet_named (scene_in book) id name)) book.sheets ++ record { id = id; name = name; pool = []; grid = empty_grid; tab = plain_tab } ∷ [] }
  added_is name id new is =
      let after : Scene = scene_in (with_added_sheet name book) in
      let naming : Naming (scene_in book) after (greatest_id (core_of book) + 1) name =
      subst (λ scene. Naming (scene_in book) scene (greatest_id (core_of book) + 1) name) (same_scene_after (with_added_sheet name) (core_step.with_new_sheet name) (added_change name) book) (add_naming (core_of book) name core.names_differ new) in
      ap₂ (λ (kept : Book) (k : ℕ). let b : Book = record kept { sheets = kept.sheets ++ record { id = k; name = name; pool = []; grid = empty_grid; tab = plain_tab } ∷ [] } in b)
      (subst (λ k. with_kept_pools n (scene_in book) after book ≡ changed_book (sheet_named (scene_in book) k name) book) (sym is)
      (kept_is after (sheet_named (scene_in book) (greatest_id (core_of book) + 1) name) (named_becomes (scene_in book) after (greatest_id (core_of book) + 1) name naming)))
      (ap (λ k. k + 1) (greatest-kept n (scene_in book) after book) ∙ sym is)

  -- with one put in among the others
  pub inserted_is : (index id : ℕ) (name : List ℕ) → has_sheet (core_of book) name ≡ false
      → changed_in n (with_inserted_sheet index id name) book ≡ with_inserted_sheet index id name (changed_book (sheet_named (scene_in book) id name) book)
  inserted_is index id name new =
      let after : Scene = scene_in (with_inserted_sheet index id name book) in
      let naming : Naming (scene_in book) after id name =
      subst (λ scene. Naming (scene_in book) scene id name) (same_scene_after (with_inserted_sheet index id name) (with_sheet_among index id name) (inserted_change index id name) book) (insert_naming (core_of book) index id name core.names_differ new) in
      ap (with_inserted_sheet index id name) (kept_is after (sheet_named (scene_in book) id name) (named_becomes (scene_in book) after id name naming))

  -- with a sheet renamed
  pub renamed_is : (index : ℕ) (name : List ℕ) (sheet : Sheet) → slice_get book.sheets index ≡ Some sheet → has_other_sheet (core_of book) index name ≡ false
      → changed_in n (with_renamed_sheet index name) book ≡ with_renamed_sheet index name (changed_book (sheet_named (scene_in book) sheet.id name) book)
  renamed_is index name sheet at new =
      let after : Scene = scene_in (with_renamed_sheet index name book) in
      let naming : Naming (scene_in book) after sheet.id name =
      subst (λ scene. Naming (scene_in book) scene sheet.id name) (same_scene_after (with_renamed_sheet index name) (core_step.with_sheet_name index name) (renamed_change index name) book)
      (rename_naming (core_of book) index name (sheet_core sheet) core.names_differ (slice_get-map sheet_core book.sheets index ∙ ap (option_map sheet_core) at) new) in
      ap (with_renamed_sheet index name) (kept_is after (sheet_named (scene_in book) sheet.id name) (named_becomes (scene_in book) after sheet.id name naming))

  -- with a sheet taken out
  pub removed_is : (index : ℕ) (sheet : Sheet) → slice_get book.sheets index ≡ Some sheet
      → changed_in n (with_removed_sheet index) book ≡ with_removed_sheet index (changed_book (sheet_gone (scene_in book) sheet.id sheet.name) book)
  removed_is index sheet at =
      let after : Scene = scene_in (with_removed_sheet index book) in
      let going : Going (scene_in book) after sheet.id sheet.name =
      subst (λ scene. Going (scene_in book) scene sheet.id sheet.name) (same_scene_after (with_removed_sheet index) (core_step.without_sheet index) (removed_change index) book)
      (delete_going n (core_of book) index (sheet_core sheet) core (slice_get-map sheet_core book.sheets index ∙ ap (option_map sheet_core) at)) in
      ap (with_removed_sheet index) (kept_is after (sheet_gone (scene_in book) sheet.id sheet.name) (gone_becomes (scene_in book) after sheet.id sheet.name going))

  -- with a new definition
  pub defined_is : (new : Definition) → changed_in n (with_added_definition new) book ≡ with_added_definition new (changed_book (definition_added (spelling_of new)) book)
  defined_is new =
      let after : Scene = scene_in (with_added_definition new book) in
      ap (with_added_definition new)
      (kept_is after (definition_added (spelling_of new))
      (added_becomes (scene_in book) after (spelling_of new) (record { sheets = refl; differ = sheets_differ (core_of book) core.names_differ; names = map-append spelling_of book.definitions (new ∷ []) })))

  -- with a definition taken out
  pub undefined_is : (index : ℕ) (d : Definition) → slice_get book.definitions index ≡ Some d
      → changed_in n (with_removed_definition (Some index)) book ≡ with_removed_definition (Some index) (changed_book (definition_gone (scene_in (with_removed_definition (Some index) book)) (spelling_of d)) book)
  undefined_is index d at =
      let after : Scene = scene_in (with_removed_definition (Some index) book) in
      ap (with_removed_definition (Some index))
      (kept_is after (definition_gone after (spelling_of d))
      (gone_name_becomes (scene_in book) after index (spelling_of d) (record {
        sheets = refl;
        differ = sheets_differ (core_of book) core.names_differ;
        keys = subst (IsDistinct same_key) (sym (map-map key_of spelling_of book.definitions)) core.keys_differ;
        at = slice_get-map spelling_of book.definitions index ∙ ap (option_map spelling_of) at;
        names = remove_map spelling_of book.definitions index;
      })))
