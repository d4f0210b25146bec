-- The book after a sheet of it was copied.
use Rattle.std.proofs.Common.{◌≡◌, ℕ, ◌+◌, List, [], ◌∷◌, ◌++◌, map, length, false, Option, Some, None, Ok, option_map, refl, sym, ap, ap₂, subst, ◌∙◌}
use Rattle.std.proofs.lemmas.List.{map-append}
use Rattle.std.proofs.lemmas.Option.{slice_get-map}
use Rattle.std.specs.Cmp.{nat_eq_equiv}
use Rattle.std.specs.List.{AllByRecursion, insert, list_any, slice_get}
use Rattle.std.specs.Prelude.{is_none, nat_eq}
use Rattle.ic_laws.proofs.core.KeptBook.{mentioned}
use Rattle.ic_laws.proofs.core.Lists.{none_passes}
use Rattle.ic_laws.proofs.keeping.Books.{trees_settled}
use Rattle.ic_laws.proofs.keeping.Kept.{Become}
use Rattle.ic_laws.proofs.keeping.SheetChanges.{Naming}
use Rattle.ic_laws.specs.BookTrees.{with_body_tree}
use Rattle.ic_laws.specs.Changes.{Change, changed_local, changed_sheet, changed_tree, changed_word, sheet_named}
use Rattle.ic_laws.specs.CoreBook as core_book
use Rattle.ic_laws.specs.CoreBook.{Definition, fresh_id, has_sheet, ids_of, scene_of, spelling_of}
use Rattle.ic_laws.specs.Keeping.{kept_in_body, same_keys}
use Rattle.ic_laws.specs.Notations.{Notations}
use Rattle.ic_laws.specs.Scene.{same_scope}
use Rattle.ic_laws.specs.declared.scene.NameSpelling.{NameSpelling}
use Rattle.ic_laws.specs.declared.scene.Scene.{Scene}
use Rattle.ic_laws.specs.declared.scene.SheetName.{SheetName}
use Rattle.ic_definitions.specs.Named.{definitions_scene, scopes_of}
use Rattle.ic_machine.proofs.bound.CopyKeys.{all_in_map, no_scope}
use Rattle.ic_machine.proofs.valid.DuplicatedStays.{free, parts}
use Rattle.ic_machine.proofs.bound.InsertedBinds.{insert_naming}
use Rattle.ic_machine.proofs.valid.ValidLemmas.{all_at}
use Rattle.ic_machine.specs.Binds.{with_sheet_among}
use Rattle.ic_machine.specs.Book as machine
use Rattle.ic_machine.specs.Changed as changed
use Rattle.ic_machine.specs.Changed.{with_kept_formulas}
use Rattle.ic_machine.specs.Kept.{StaysValid}
use Rattle.ic_machine.specs.Valid as valid_machine
use Rattle.ic_machine.specs.subjects.Sheets.{DuplicateSheet, copied_of, copy_id, copy_of_sheet, definitions_moved, formula_copied, local_in, name_of_copy, named_fields, sheet_step, with_copy, with_formula}
use Rattle.ic_sheets.proofs.InsertLemmas.{all_inserted}
use Rattle.ic_sheets.specs.Rewriting.{changed_pool}
use Rattle.ic_sheets.specs.Sheet.{Sheet, kept_pool, sheet_core}
use Rattle.ic_parts.specs.Book.{Book, HasStrings, IsValidBook, core_of, notations_in, scene_in, whole_of, whole_sheet}
use Rattle.ic_parts.specs.Change.{book_changed_by, with_kept_pools}
use Rattle.ic_changes.specs.Copied.{definitions_copied, sheet_copied, whole_source, with_copied_sheet}
use Rattle.ic_parts.proofs.BookValid.{core_valid, grids_kept, notations, pools_valid}
use Rattle.ic_parts.proofs.CopiedFormulas.{bodies_changed, others_changed}
use Rattle.ic_parts.proofs.CopiedMentions.{become, ids_there, scene_with_more}
use Rattle.ic_parts.proofs.WholeLemmas.{whole_core, whole_kept, whole_scene}
use Rattle.ic_laws.proofs.General.{map-map as map_twice, insert-map}

-- a book with a copy, as the machine has it ----

pub whole_copied : (index : ℕ) (copy : Sheet) (ds : List Definition) (b : Book) → whole_of (with_copied_sheet index copy ds b) ≡ with_copy index (whole_sheet b.strings copy) ds (whole_of b)
whole_copied index copy ds b =
    ap (λ (sheets : List machine.Sheet). let w : machine.Book = record (whole_of b) { sheets = sheets; definitions = b.definitions ++ ds } in w) (insert-map (whole_sheet b.strings) b.sheets (index + 1) copy)

module _ (book : Book) (valid : IsValidBook book) (index : ℕ) (source : Sheet) (at : slice_get book.sheets index ≡ Some source) (room : is_none (fresh_id (core_of book)) ≡ false) where
  abbrev n : Notations
  n = notations_in book

  abbrev whole : machine.Book
  whole = whole_of book

  abbrev ws : machine.Sheet
  ws = whole_source book index source

  abbrev id : ℕ
  id = copy_id whole index ws

  abbrev name : List ℕ
  name = name_of_copy whole source.name

  abbrev copy : Sheet
  copy = sheet_copied book index source

  abbrev copies : List Definition
  copies = definitions_copied book index source

  abbrev moved : List Definition
  moved = definitions_moved whole index ws

  abbrev change : Book → Book
  change = with_copied_sheet index copy copies

  pub whole_at : slice_get (whole_of book).sheets index ≡ Some (whole_source book index source)
  whole_at = slice_get-map (whole_sheet book.strings) book.sheets index ∙ ap (option_map (whole_sheet book.strings)) at

  pub whole_room : is_none (fresh_id (machine.core_of (whole_of book))) ≡ false
  whole_room = ap (λ c. is_none (fresh_id c)) (whole_core book) ∙ room

  -- the copy is no sheet of the book, and no definition is local to it
  pub unused : (list_any (nat_eq (copy_id (whole_of book) index (whole_source book index source))) (ids_of (core_of book)) ≡ false) × (list_any (nat_eq (copy_id (whole_of book) index (whole_source book index source))) (scopes_of book.definitions) ≡ false)
  unused =
      let both = parts whole valid.whole index ws whole_at whole_room in
      (ap (λ c. list_any (nat_eq id) (ids_of c)) (sym (whole_core book)) ∙ both.0, both.1)

  pub new_name : has_sheet (core_of book) (name_of_copy (whole_of book) source.name) ≡ false
  new_name = ap (λ c. has_sheet c name) (sym (whole_core book)) ∙ free whole valid.whole index ws whole_at whole_room

  -- what formulas can mention then ----

  abbrev among : Scene
  among = scene_of (with_sheet_among (index + 1) id name (core_of book))

  abbrev spelled : List NameSpelling
  spelled = map spelling_of copies

  of_copy : AllByRecursion (λ (m : NameSpelling). m.scope ≡ Some id) spelled
  of_copy =
      all_in_map spelling_of (λ (m : NameSpelling). m.scope ≡ Some id) copies
      (all_in_map (with_formula (formula_copied whole index ws)) (λ (d : Definition). d.scope ≡ Some id) moved
      (all_in_map (local_in id) (λ (d : Definition). d.scope ≡ Some id) (copied_of source.id book.definitions) (each (copied_of source.id book.definitions))))
    where
      each : (ds : List Definition) → AllByRecursion (λ (d : Definition). (local_in id d).scope ≡ Some id) ds
      each [] = tt
      each (d ∷ ds) = (refl, each ds)

  abbrev later : Scene
  later = scene_with_more spelled (scene_in book) among

  later_is : scene_in (change book) ≡ later
  later_is =
      let empty : core_book.Sheet = record { id = id; name = name; cells = [] } in
      ap₂ (λ (ss : List SheetName) (ms : List NameSpelling). let scene : Scene = record { sheets = ss; names = ms } in scene)
      (ap (map mentioned) (insert-map sheet_core book.sheets (index + 1) copy) ∙ insert-map mentioned (map sheet_core book.sheets) (index + 1) (sheet_core copy)
      ∙ sym (insert-map mentioned (map sheet_core book.sheets) (index + 1) empty))
      (map-append spelling_of book.definitions copies)

  -- what becomes of the others ----

  naming : Naming (scene_in book) among id name
  naming = insert_naming (core_of book) (index + 1) id name (core_valid book valid).names_differ new_name

  becomes : (scope : Option ℕ) → same_scope (Some id) scope ≡ false → Become (scene_in book) later scope (changed_sheet (sheet_named later id name)) (changed_word (sheet_named later id name) scope) (changed_local (sheet_named later id name))
  becomes = become id spelled of_copy (scene_in book) among name naming (ids_there id (core_of book).sheets ∙ unused.0)

  -- told by the definitions alone
  spelled_is : spelled ≡ map spelling_of moved
  spelled_is = sym (map_twice (with_formula (formula_copied whole index ws)) spelling_of moved)

  abbrev naming_with : List NameSpelling → Change
  naming_with names = let scene : Scene = record { sheets = []; names = names } in sheet_named scene id name

  pub naming_is : sheet_named (definitions_scene (book.definitions ++ definitions_moved (whole_of book) index (whole_source book index source))) (copy_id (whole_of book) index (whole_source book index source)) (name_of_copy (whole_of book) source.name) ≡ sheet_named later id name
  naming_is = ap naming_with (map-append spelling_of book.definitions moved ∙ ap (λ (names : List NameSpelling). map spelling_of book.definitions ++ names) (sym spelled_is))

  apart_sheets : AllByRecursion (λ (s : Sheet). nat_eq id s.id ≡ false) book.sheets
  apart_sheets = go book.sheets (none_passes (nat_eq id) (ids_of (core_of book)) unused.0)
    where
      go : (ss : List Sheet) → AllByRecursion (λ i. nat_eq id i ≡ false) (map (λ (s : core_book.Sheet). s.id) (map sheet_core ss)) → AllByRecursion (λ (s : Sheet). nat_eq id s.id ≡ false) ss
      go [] h = tt
      go (s ∷ ss) h = (h.0, go ss h.1)

  apart_bodies : AllByRecursion (λ (d : Definition). same_scope (Some id) d.scope ≡ false) book.definitions
  apart_bodies = go book.definitions (no_scope source.id id book.definitions unused.1)
    where
      flipped : (o : Option ℕ) → same_scope o (Some id) ≡ false → same_scope (Some id) o ≡ false
      flipped None e = refl
      flipped (Some i) e = nat_eq_equiv.symm id i ∙ e

      go : (ds : List Definition) → AllByRecursion (λ (d : Definition). same_scope d.scope (Some id) ≡ false) ds → AllByRecursion (λ (d : Definition). same_scope (Some id) d.scope ≡ false) ds
      go [] h = tt
      go (d ∷ ds) h = (flipped d.scope h.0, go ds h.1)

  others : map (kept_pool n (scene_in book) later) book.sheets ≡ map (changed_pool (sheet_named later id name)) book.sheets
  others = others_changed n (notations book valid) (scene_in book) later (sheet_named later id name) id becomes book.sheets (pools_valid book valid) apart_sheets

  bodies : map (kept_in_body n (scene_in book) later same_keys) book.definitions ≡ map (with_body_tree (changed_tree (sheet_named later id name))) book.definitions
  bodies = bodies_changed n (notations book valid) (scene_in book) later (sheet_named later id name) id becomes book.definitions (trees_settled n (core_of book) (core_valid book valid)).bodies apart_bodies

  -- all of it ----

  pub copied_book : book_changed_by (with_copied_sheet index (sheet_copied book index source) (definitions_copied book index source)) book
      ≡ record book {
        sheets = insert (map (changed_pool (sheet_named later id name)) book.sheets) (index + 1) (sheet_copied book index source);
        definitions = map (with_body_tree (changed_tree (sheet_named later id name))) book.definitions ++ definitions_copied book index source;
      }
  copied_book =
      ap (λ (after : Scene). change (with_kept_pools n (scene_in book) after book)) later_is
      ∙ ap₂ (λ (ss : List Sheet) (ds : List Definition). let b : Book = record book { sheets = insert ss (index + 1) copy; definitions = ds ++ copies } in b) others bodies

  pub copied_whole : whole_of (book_changed_by (with_copied_sheet index (sheet_copied book index source) (definitions_copied book index source)) book)
      ≡ changed.changed_by (with_copy index (copy_of_sheet (whole_of book) index (whole_source book index source)) (definitions_copied book index source)) (whole_of book)
  copied_whole =
      let after : Scene = scene_in (change book) in
      whole_copied index copy copies (with_kept_pools n (scene_in book) after book)
      ∙ ap (with_copy index (copy_of_sheet whole index ws) copies) (whole_kept n (scene_in book) after book)
      ∙ ap₂ (λ (before after : Scene). with_copy index (copy_of_sheet whole index ws) copies (with_kept_formulas n before after same_keys whole)) (sym (whole_scene book))
      (sym (whole_scene (change book)) ∙ ap machine.scene_in (whole_copied index copy copies book))

  -- that is valid, where the machine's step is accepted
  pub copied_valid : StaysValid (sheet_step (whole_of book) (DuplicateSheet index))
      → sheet_step (whole_of book) (DuplicateSheet index)
      ≡ Ok (changed.changed_by (with_copy index (copy_of_sheet (whole_of book) index (whole_source book index source)) (definitions_copied book index source)) (whole_of book), named_fields (name_of_copy (whole_of book) source.name) (index + 1))
      → IsValidBook (book_changed_by (with_copied_sheet index (sheet_copied book index source) (definitions_copied book index source)) book)
  copied_valid stays made =
      let after : Scene = scene_in (change book) in
      record {
        whole = subst valid_machine.IsValidBook (sym copied_whole) (subst StaysValid made stays);
        strings = all_inserted (λ (x : Sheet). HasStrings (length book.strings) x.grid) (map (kept_pool n (scene_in book) after) book.sheets) (index + 1) copy (grids_kept (HasStrings (length book.strings)) n (scene_in book) after book.sheets valid.strings)
            (all_at (λ (x : Sheet). HasStrings (length book.strings) x.grid) index book.sheets source valid.strings at);
      }
