-- What a model holds after a sheet of it was copied.
use Rattle.std.proofs.Common.{◌≡◌, ℕ, ◌+◌, List, [], ◌++◌, map, true, false, Option, Some, option_map, sym, ap, ap₂, subst, ◌∙◌}
use Rattle.std.proofs.lemmas.Option.{slice_get-map}
use Rattle.std.specs.List.{insert, list_any, slice_get}
use Rattle.std.specs.Prelude.{is_none, nat_eq}
use Rattle.ic_laws.proofs.core.KeptBook.{mentioned}
use Rattle.ic_laws.specs.BookTrees.{with_body_tree}
use Rattle.ic_laws.specs.Changes.{Change, changed_tree, sheet_named}
use Rattle.ic_laws.specs.CoreBook.{CoreBook, Definition, fresh_id, greatest_id, spelling_of}
use Rattle.ic_laws.specs.Name.{agrees}
use Rattle.ic_laws.specs.Notations.{english_function}
use Rattle.ic_laws.specs.declared.scene.Scene.{Scene}
use Rattle.ic_laws.specs.declared.scene.SheetName.{SheetName}
use Rattle.ic_laws.specs.declared.tree.Formula.{Formula}
use Rattle.ic_definitions.specs.Named.{definitions_scene, scopes_of}
use Rattle.ic_keep.specs.Copy.{copied_for}
use Rattle.ic_machine.specs.Book as machine
use Rattle.ic_machine.specs.Book.{core_sheet}
use Rattle.ic_machine.specs.subjects.Sheets.{copy_id, copy_named, definitions_moved, formula_copied, name_of_copy, scene_with_copy, with_formula}
use Rattle.ic_sheets.specs.Rewriting.{changed_pool, sheets_of}
use Rattle.ic_sheets.specs.Sheet.{Sheet, empty_grid, plain_tab, sheet_of}
use Rattle.ic_sheets.specs.declared.sheet.Sheet.{Sheet as HeldSheet}
use Rattle.ic_parts.specs.declared.contents.Contents.{Contents}
use Rattle.ic_book.specs.declared.model.Model.TheInside.{Inside}
use Rattle.ic_parts.specs.Book.{Book, core_of, notations_in, whole_of}
use Rattle.ic_parts.specs.Change.{book_changed_by}
use Rattle.ic_changes.specs.Copied.{HasCopy, definitions_copied, sheet_copied, whole_source, with_copied_sheet}
use Rattle.ic_book.specs.Inside.{IsHeld, held, with_contents}
use Rattle.ic_parts.specs.Scene.{named, scene_of_parts}
use Rattle.ic_parts.proofs.HeldLemmas.{fresh_is, seen_ids, seen_names}
use Rattle.ic_parts.proofs.ModelLemmas.{scene_is}
use Rattle.ic_parts.proofs.WholeLemmas.{whole_core}
use Rattle.ic_changes.proofs.CopiedHeld.{copied_book, naming_is, new_name, unused}
use Rattle.ic_laws.proofs.General.{insert-map, insert-map as inserted_seen}

-- what a model keeps ----

module _ (inside : Inside) (h : IsHeld inside) (index : ℕ) (s : HeldSheet) (at : slice_get inside.contents.sheets index ≡ Some s) (room : is_none (fresh_id (core_of (held inside))) ≡ false) where
  abbrev kept : Book
  kept = held inside

  abbrev s_whole : machine.Sheet
  s_whole = whole_source kept index (sheet_of s)

  pub held_at : slice_get (held inside).sheets index ≡ Some (sheet_of s)
  held_at = slice_get-map sheet_of inside.contents.sheets index ∙ ap (option_map sheet_of) at

  abbrev s_id : ℕ
  s_id = copy_id (whole_of kept) index s_whole

  abbrev s_name : List ℕ
  s_name = name_of_copy (whole_of kept) s.name

  abbrev s_moved : List Definition
  s_moved = definitions_moved (whole_of kept) index s_whole

  -- none of the model's sheets has its name or its id, and no definition is local to it
  pub held_free : (called : List ℕ) → called ≡ name_of_copy (whole_of (held inside)) s.name → list_any (agrees called) (map (λ (x : HeldSheet). x.name) inside.contents.sheets) ≡ false
  held_free called is = ap (λ (x : List ℕ). list_any (agrees x) (map (λ (y : HeldSheet). y.name) inside.contents.sheets)) is ∙ ap (list_any (agrees s_name)) (seen_names inside.contents.sheets) ∙ new_name kept h index (sheet_of s) held_at room

  module _ (id : ℕ) (fresh : fresh_id (core_of (held inside)) ≡ Some id) where
    pub held_id : id ≡ copy_id (whole_of (held inside)) index (whole_source (held inside) index (sheet_of s))
    held_id = fresh_is _ (greatest_id (core_of kept)) id fresh ∙ ap (λ c. greatest_id c + 1) (sym (whole_core kept))

    pub held_fresh : list_any (nat_eq id) (map (λ (x : HeldSheet). x.id) inside.contents.sheets) ≡ false
    held_fresh = ap (λ i. list_any (nat_eq i) (map (λ (x : HeldSheet). x.id) inside.contents.sheets)) held_id ∙ ap (list_any (nat_eq s_id)) (seen_ids inside.contents.sheets) ∙ (unused kept h index (sheet_of s) held_at room).0

    pub held_unscoped : list_any (nat_eq id) (scopes_of inside.contents.definitions) ≡ false
    held_unscoped = ap (λ i. list_any (nat_eq i) (scopes_of inside.contents.definitions)) held_id ∙ (unused kept h index (sheet_of s) held_at room).1

  abbrev held_scene : Scene
  held_scene = scene_of_parts (insert inside.contents.sheets (index + 1) (record { id = s_id; name = s_name; pool = record { formulas = []; is_whole = true }; grid = empty_grid; tab = plain_tab })) (inside.contents.definitions ++ s_moved)

  seen_whole : map mentioned (map core_sheet (whole_of kept).sheets) ≡ map named inside.contents.sheets
  seen_whole = ap (λ (c : CoreBook). map mentioned c.sheets) (whole_core kept) ∙ sym (scene_is inside.contents.sheets)

  held_scene_is : held_scene ≡ scene_with_copy (whole_of kept) index s_whole
  held_scene_is =
      let m : SheetName = record { id = s_id; name = s_name } in
      let ws : List machine.Sheet = (whole_of kept).sheets in
      ap (λ (ss : List SheetName). let scene : Scene = record { sheets = ss; names = map spelling_of (inside.contents.definitions ++ s_moved) } in scene)
      (inserted_seen named inside.contents.sheets (index + 1) (record { id = s_id; name = s_name; pool = record { formulas = []; is_whole = true }; grid = empty_grid; tab = plain_tab })
      ∙ ap (λ (ms : List SheetName). insert ms (index + 1) m) (sym seen_whole)
      ∙ sym (ap (map mentioned) (insert-map core_sheet ws (index + 1) (copy_named (whole_of kept) index s_whole)) ∙ insert-map mentioned (map core_sheet ws) (index + 1) (core_sheet (copy_named (whole_of kept) index s_whole))))

  module _ (english : List ℕ → Option ℕ) (reads : english ≡ english_function (notations_in kept)) where
    abbrev made_by : (List ℕ → Option ℕ) → Scene → Formula → Formula
    made_by e scene formula = copied_for e scene s.id s_id (Some s_id) formula

    formulas_are : made_by english held_scene ≡ formula_copied (whole_of kept) index s_whole
    formulas_are = ap₂ made_by reads held_scene_is

    -- the contents with the copy make the book with it
    copied_here_is : (new : Contents) → HasCopy english index s_id s_name s inside.contents new
        → held (with_contents new.sheets new.definitions inside) ≡ book_changed_by (with_copied_sheet index (sheet_copied kept index (sheet_of s)) (definitions_copied kept index (sheet_of s))) kept
    copied_here_is new has =
        let now : Change = sheet_named (definitions_scene (inside.contents.definitions ++ s_moved)) s_id s_name in
        ap₂ (λ (ss : List Sheet) (ds : List Definition). let b : Book = record kept { sheets = ss; definitions = ds } in b)
        (has.sheets
        ∙ ap (λ (f : Formula → Formula). let one : Sheet = record (sheet_of s) { id = s_id; name = s_name; pool = map f s.pool.formulas } in insert (map (changed_pool now) (sheets_of inside.contents.sheets)) (index + 1) one) formulas_are)
        (has.definitions ∙ ap (λ (f : Formula → Formula). map (with_body_tree (changed_tree now)) inside.contents.definitions ++ map (with_formula f) s_moved) formulas_are)
        ∙ ap (λ (c : Change). let b : Book = record kept {
          sheets = insert (map (changed_pool c) kept.sheets) (index + 1) (sheet_copied kept index (sheet_of s));
          definitions = map (with_body_tree (changed_tree c)) kept.definitions ++ definitions_copied kept index (sheet_of s);
        } in b) (naming_is kept h index (sheet_of s) held_at room)
        ∙ sym (copied_book kept h index (sheet_of s) held_at room)

    pub copied_is : (i : ℕ) (called : List ℕ) → i ≡ copy_id (whole_of kept) index s_whole → called ≡ name_of_copy (whole_of kept) s.name → (new : Contents) → HasCopy english index i called s inside.contents new
        → held (with_contents new.sheets new.definitions inside) ≡ book_changed_by (with_copied_sheet index (sheet_copied kept index (sheet_of s)) (definitions_copied kept index (sheet_of s))) kept
    copied_is i called same_id same_name new has =
        copied_here_is new (subst (λ (x : List ℕ). HasCopy english index s_id x s inside.contents new) same_name (subst (λ k. HasCopy english index k called s inside.contents new) same_id has))
