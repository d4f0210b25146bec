-- What is bound after a sheet is copied.
use Rattle.std.proofs.Common.{◌≡◌, ℕ, ◌+◌, List, [], ◌∷◌, ◌++◌, map, Bool, true, false, ◌&&◌, ◌||◌, if◌then◌else◌, inl, inr, Option, Some, None, Ok, refl, sym, ap, ap₂, ◌∙◌}
use Rattle.std.proofs.lemmas.Bool.{and_right, both_ways, cases_Bool, eqb-true}
use Rattle.std.proofs.lemmas.List.{map-append}
use Rattle.std.proofs.lemmas.List.Folds.{find-append}
use Rattle.std.specs.Cmp.{nat_eq_equiv}
use Rattle.std.specs.List.{AllByRecursion, find, list_any, slice_get}
use Rattle.std.specs.Option.{option_or}
use Rattle.std.specs.Prelude.{bytes_eq, is_none, nat_eq, option_map}
use Rattle.ic_laws.proofs.binding.SceneLemmas.{find_later}
use Rattle.ic_laws.proofs.core.KeptBook.{mentioned}
use Rattle.ic_laws.proofs.core.Lists.{none_passes}
use Rattle.ic_laws.proofs.keeping.Books.{each_both, kept_as, trees_settled}
use Rattle.ic_laws.proofs.keeping.Kept.{Become, kept_becomes, local_stays, word_stays}
use Rattle.ic_laws.proofs.keeping.SheetChanges.{Naming, has_id, named_becomes}
use Rattle.ic_laws.proofs.kept.Kept.{english_by_fold}
use Rattle.ic_laws.specs.Binding.{IsSettled, bound_local}
use Rattle.ic_laws.specs.BookTrees.{EachTree, OfBody, OfCells, OfTree, with_trees}
use Rattle.ic_laws.specs.Changes.{LocalHolds, SheetHolds, WordHolds, changed_local, changed_sheet, changed_tree, changed_word, found_with_sheet, local_after, sheet_after, sheet_named}
use Rattle.ic_laws.specs.CoreBook as core_book
use Rattle.ic_laws.specs.CoreBook.{CellPlace, Cells, CoreBook, Definition, fresh_id, ids_of, scene_of, spelling_of}
use Rattle.ic_laws.specs.Keeping.{kept, same_keys, with_kept}
use Rattle.ic_laws.specs.Mentions.{LocalMention}
use Rattle.ic_laws.specs.Name.{agrees, fold}
use Rattle.ic_laws.specs.Notations.{Notations, english_function}
use Rattle.ic_laws.specs.Scene.{definition_at, key_found, key_of, same_scope}
use Rattle.ic_laws.specs.Tree.{Bound}
use Rattle.ic_laws.specs.declared.scene.NameSpelling.{NameSpelling}
use Rattle.ic_laws.specs.declared.scene.Scene.{Scene}
use Rattle.ic_laws.specs.declared.scene.SheetName.{SheetName}
use Rattle.ic_laws.specs.declared.tree.Formula.{Formula}
use Rattle.ic_laws.specs.declared.tree.Formula.TheVariants as formulas
use Rattle.ic_laws.specs.declared.tree.NameMention.{NameMention}
use Rattle.ic_laws.specs.declared.tree.NameMention.TheVariants as names
use Rattle.ic_laws.specs.declared.tree.SheetMention.{SheetMention}
use Rattle.ic_laws.specs.declared.tree.SheetMention.TheVariants as sheets
use Rattle.ic_tree.proofs.NotationLaws.{notations_are}
use Rattle.ic_machine.specs.Binds.{CopiedIsMeant, with_copied, with_sheet_among}
use Rattle.ic_machine.specs.Book.{Book, Sheet, core_of, core_sheet, found_or, notations_in, scene_in}
use Rattle.ic_machine.specs.Changed.{changed_by}
use Rattle.ic_machine.specs.Refusal.{IdsUsedUp, InvalidSheet, first_refusal}
use Rattle.ic_machine.specs.Valid.{IsValidBook}
use Rattle.ic_machine.specs.subjects.Sheets.{copied_of, copies_of_definitions, copy_id, copy_of_sheet, definitions_moved, duplicate_sheet_step, duplicated, formula_copied, local_in, name_of_copy, named_fields, with_copy, with_formula}
use Rattle.ic_machine.proofs.bound.CopyKeys.{all_in_map, no_scope}
use Rattle.ic_machine.proofs.as_core.CoreLemmas.{core_of-changed}
use Rattle.ic_machine.proofs.as_core.CoreValid.{core_valid}
use Rattle.ic_machine.proofs.valid.DuplicatedStays.{free, parts}
use Rattle.ic_machine.proofs.bound.InsertedBinds.{accepted, insert_naming}
use Rattle.ic_machine.proofs.valid.InsertedStays.{none_holds}
use Rattle.ic_machine.proofs.valid.ValidLemmas.{all_of}
use Rattle.ic_laws.proofs.General.{insert-map}

-- definitions of other scopes are found from no sheet ----

pub unfound : (folded : List ℕ) (scope : Option ℕ) (ms : List NameSpelling) → AllByRecursion (λ (m : NameSpelling). same_scope m.scope scope ≡ false) ms
    → find (λ (m : NameSpelling). bytes_eq (fold m.name) folded && same_scope m.scope scope) ms ≡ None
unfound folded scope [] h = refl
unfound folded scope (m ∷ ms) h =
    find_later (λ (x : NameSpelling). bytes_eq (fold x.name) folded && same_scope x.scope scope) m ms (and_right (bytes_eq (fold m.name) folded) (same_scope m.scope scope) h.0) ∙ unfound folded scope ms h.1

pub or_none : {A : Type 0} (o : Option A) → option_or o None ≡ o
or_none None = refl
or_none (Some x) = refl

module _ (id : ℕ) (ns : List NameSpelling) (all : AllByRecursion (λ (m : NameSpelling). m.scope ≡ Some id) ns) where
  module _ (before : Scene) (sheets : List SheetName) (scope : Option ℕ) (apart : same_scope (Some id) scope ≡ false) where
    abbrev with_more : Scene
    with_more = record { sheets = sheets; names = before.names ++ ns }

    same_at : (folded : List ℕ) (at : Option ℕ) → same_scope (Some id) at ≡ false → definition_at with_more folded at ≡ definition_at before folded at
    same_at folded at other =
        find-append (λ (m : NameSpelling). bytes_eq (fold m.name) folded && same_scope m.scope at) before.names ns
        ∙ ap (option_or (definition_at before folded at)) (unfound folded at ns (all_of (λ (m : NameSpelling). m.scope ≡ Some id) (λ (m : NameSpelling). same_scope m.scope at ≡ false) (λ m e. ap (λ o. same_scope o at) e ∙ other) ns all)) ∙ or_none (definition_at before folded at)

    same_found : (folded : List ℕ) → key_found with_more scope folded ≡ key_found before scope folded
    same_found folded = ap₂ (λ (local global : Option NameSpelling). option_map key_of (option_or local global)) (same_at folded scope apart) (same_at folded None refl)

    words_hold : (m : NameMention) → WordHolds before scope m → WordHolds with_more scope m
    words_hold (names.Var word) h = tt
    words_hold (names.Name k) h = same_found k.name ∙ h
    words_hold (names.Dangling word) h = same_found (fold word) ∙ h

-- no formula of a book is looked up from a sheet with an id that none has ----

module _ (id : ℕ) where
  abbrev IsApart : Option ℕ → Bound → Type 0
  IsApart scope t = same_scope (Some id) scope ≡ false

  formula_apart : (scope : Option ℕ) → same_scope (Some id) scope ≡ false → (f : Formula) → OfTree (IsApart scope) f
  formula_apart scope e (formulas.Tree t) = e
  formula_apart scope e (formulas.Raw text) = tt

  cells_apart : (scope : Option ℕ) → same_scope (Some id) scope ≡ false → (cells : Cells) → AllByRecursion (λ (cell : CellPlace × Formula). OfTree (IsApart scope) cell.1) cells
  cells_apart scope e [] = tt
  cells_apart scope e (cell ∷ cells) = (formula_apart scope e cell.1, cells_apart scope e cells)

  sheets_apart : (ss : List core_book.Sheet) → AllByRecursion (λ i. nat_eq id i ≡ false) (map (λ (s : core_book.Sheet). s.id) ss) → AllByRecursion (OfCells IsApart) ss
  sheets_apart [] h = tt
  sheets_apart (s ∷ ss) h = (cells_apart (Some s.id) h.0 s.cells, sheets_apart ss h.1)

  flipped : (o : Option ℕ) → same_scope o (Some id) ≡ false → same_scope (Some id) o ≡ false
  flipped None e = refl
  flipped (Some i) e = nat_eq_equiv.symm id i ∙ e

  bodies_apart : (ds : List Definition) → AllByRecursion (λ (d : Definition). same_scope d.scope (Some id) ≡ false) ds → AllByRecursion (OfBody IsApart) ds
  bodies_apart [] h = tt
  bodies_apart (d ∷ ds) h = (formula_apart d.scope (flipped d.scope h.0) d.body, bodies_apart ds h.1)

core_of-copied : (index : ℕ) (copy : Sheet) (ds : List Definition) (b : Book) → core_of (with_copy index copy ds b) ≡ with_copied index (core_sheet copy) ds (core_of b)
core_of-copied index copy ds b = ap (λ (ss : List core_book.Sheet). let c : CoreBook = record (core_of b) { sheets = ss; definitions = b.definitions ++ ds } in c) (insert-map core_sheet b.sheets (index + 1) copy)

module _ (b : Book) (valid : IsValidBook b) (index : ℕ) (source : Sheet) (at : slice_get b.sheets index ≡ Some source) (room : is_none (fresh_id (core_of b)) ≡ false) where
  abbrev n : Notations
  n = notations_in b

  abbrev id : ℕ
  id = copy_id b index source

  abbrev name : List ℕ
  name = name_of_copy b source.name

  abbrev copy : Sheet
  copy = copy_of_sheet b index source

  abbrev copies : List Definition
  copies = copies_of_definitions b index source

  abbrev among : Scene
  among = scene_of (with_sheet_among (index + 1) id name (core_of b))

  -- what formulas can mention then
  abbrev later : Scene
  later = record { sheets = among.sheets; names = (scene_in b).names ++ map spelling_of copies }

  later_is : scene_of (with_copied index (core_sheet copy) copies (core_of b)) ≡ later
  later_is =
      let empty : core_book.Sheet = record { id = id; name = name; cells = [] } in
      ap₂ (λ (ss : List SheetName) (ms : List NameSpelling). let scene : Scene = record { sheets = ss; names = ms } in scene)
      (insert-map mentioned (core_of b).sheets (index + 1) (core_sheet copy) ∙ sym (insert-map mentioned (core_of b).sheets (index + 1) empty)) (map-append spelling_of b.definitions copies)

  of_copy : AllByRecursion (λ (m : NameSpelling). m.scope ≡ Some id) (map spelling_of copies)
  of_copy =
      all_in_map spelling_of (λ (m : NameSpelling). m.scope ≡ Some id) copies
      (all_in_map (with_formula (formula_copied b index source)) (λ (d : Definition). d.scope ≡ Some id) (definitions_moved b index source)
      (all_in_map (local_in id) (λ (d : Definition). d.scope ≡ Some id) (copied_of source.id b.definitions) (each (copied_of source.id b.definitions))))
    where
      each : (ds : List Definition) → AllByRecursion (λ (d : Definition). (local_in id d).scope ≡ Some id) ds
      each [] = tt
      each (d ∷ ds) = (refl, each ds)

  -- a word that dangled, with the sheet that is found for it
  abbrev local_like : SheetMention → List ℕ → LocalMention
  local_like s word = (s, bound_local later s word)

  become : (scope : Option ℕ) → same_scope (Some id) scope ≡ false → Become (scene_in b) later scope (changed_sheet (sheet_named later id name)) (changed_word (sheet_named later id name) scope) (changed_local (sheet_named later id name))
  become scope apart = record {
    sheet = (named_becomes (scene_in b) among id name (insert_naming (core_of b) (index + 1) id name (core_valid b valid).names_differ (free b valid index source at room)) scope).sheet;
    word = λ m h. word_stays (scene_in b) later scope m (words_hold id (map spelling_of copies) of_copy (scene_in b) among.sheets scope apart m h);
    local = local;
  }
    where
      naming : Naming (scene_in b) among id name
      naming = insert_naming (core_of b) (index + 1) id name (core_valid b valid).names_differ (free b valid index source at room)

      sheet : (m : SheetMention) → SheetHolds (scene_in b) m → sheet_after (scene_in b) later m ≡ changed_sheet (sheet_named later id name) m
      sheet = (named_becomes (scene_in b) among id name naming scope).sheet

      -- the sheet of the copy is a new one
      other : (i : ℕ) → has_id i (scene_in b).sheets ≡ true → same_scope (Some id) (Some i) ≡ false
      other i h = elim (cases_Bool (nat_eq id i)) [
        | inl t ↦ absurd (both_ways (has_id i (scene_in b).sheets) (unused i t) h)
        | inr f ↦ f
      ]
        where
          ids_there : (ss : List core_book.Sheet) → list_any (λ (m : SheetName). nat_eq m.id id) (map mentioned ss) ≡ list_any (nat_eq id) (map (λ (s : core_book.Sheet). s.id) ss)
          ids_there [] = refl
          ids_there (s ∷ ss) = ap₂ (λ (x y : Bool). x || y) (nat_eq_equiv.symm s.id id) (ids_there ss)

          unused : (i : ℕ) → nat_eq id i ≡ true → has_id i (scene_in b).sheets ≡ false
          unused i t = ap (λ k. has_id k (scene_in b).sheets) (sym (eqb-true id i t)) ∙ ids_there (core_of b).sheets ∙ (parts b valid index source at room).0

      holds : (i : ℕ) → has_id i (scene_in b).sheets ≡ true → (m : NameMention) → LocalHolds (scene_in b) (sheets.Sheet i) m → LocalHolds later (sheets.Sheet i) m
      holds i h (names.Var word) k = k
      holds i h (names.Name key) k = ap (option_map key_of) (same_at id (map spelling_of copies) of_copy (scene_in b) among.sheets scope apart key.name (Some i) (other i h)) ∙ k
      holds i h (names.Dangling word) k = ap (option_map key_of) (same_at id (map spelling_of copies) of_copy (scene_in b) among.sheets scope apart (fold word) (Some i) (other i h)) ∙ k

      both : (typed word : List ℕ) (c : Bool)
          → local_like (if c then sheets.Sheet id else sheets.Dangling typed) word ≡ (if c then (sheets.Sheet id, found_with_sheet later id (names.Dangling word)) else (sheets.Dangling typed, names.Dangling word))
      both typed word true = refl
      both typed word false = refl

      local : (s : SheetMention) (m : NameMention) → SheetHolds (scene_in b) s → LocalHolds (scene_in b) s m → local_after (scene_in b) later s m ≡ changed_local (sheet_named later id name) s m
      local (sheets.Sheet i) m h k = local_stays (scene_in b) later naming.differ (sheets.Sheet i) m (naming.there i h) (holds i h m k)
      local sheets.Own (names.Dangling word) h k = refl
      local sheets.Own (names.Name key) h k = absurd k
      local sheets.Own (names.Var word) h k = absurd k
      local (sheets.Dangling typed) (names.Dangling word) h k = ap (λ (x : SheetMention). local_like x word) (sheet (sheets.Dangling typed) h) ∙ both typed word (agrees name typed)
      local (sheets.Dangling typed) (names.Name key) h k = absurd k
      local (sheets.Dangling typed) (names.Var word) h k = absurd k

  trees_apart : EachTree (IsApart id) (core_of b)
  trees_apart = record {
    cells = sheets_apart id (core_of b).sheets (none_passes (nat_eq id) (ids_of (core_of b)) (parts b valid index source at room).0);
    bodies = bodies_apart id b.definitions (no_scope source.id id b.definitions (parts b valid index source at room).1);
  }

  kept_copied : with_kept n (scene_in b) later same_keys (core_of b) ≡ with_trees (changed_tree (sheet_named later id name)) (core_of b)
  kept_copied =
      kept_as n (scene_in b) later same_keys (changed_tree (sheet_named later id name)) (core_of b)
      (each_both (IsSettled (english_function n) (scene_in b)) (IsApart id) (λ scope t. kept (english_function n) (scene_in b) later same_keys scope t ≡ changed_tree (sheet_named later id name) scope t)
      (λ scope t settled apart. kept_becomes (english_function n) (scene_in b) later scope (changed_sheet (sheet_named later id name)) (changed_word (sheet_named later id name) scope) (changed_local (sheet_named later id name)) (become scope apart) (english_by_fold n (notations_are b.tables valid.tables)) t settled)
      (core_of b) (trees_settled n (core_of b) (core_valid b valid)) trees_apart)

  copied_binds : core_of (changed_by (with_copy index copy copies) b)
      ≡ with_copied index (core_sheet copy) copies (with_trees (changed_tree (sheet_named (scene_of (with_copied index (core_sheet copy) copies (core_of b))) id name)) (core_of b))
  copied_binds =
      core_of-changed (with_copy index copy copies) (with_copied index (core_sheet copy) copies) (core_of-copied index copy copies) b
      ∙ ap (λ (scene : Scene). with_copied index (core_sheet copy) copies (with_kept n (scene_in b) scene same_keys (core_of b))) later_is
      ∙ ap (with_copied index (core_sheet copy) copies) kept_copied
      ∙ ap (λ (scene : Scene). with_copied index (core_sheet copy) copies (with_trees (changed_tree (sheet_named scene id name)) (core_of b))) (sym later_is)

pub copied_is_meant : CopiedIsMeant
unfolding duplicate_sheet_step
copied_is_meant b after index source fields valid at e =
    let one : duplicated b index source ≡ Ok (after, fields) = sym (ap (λ (o : Option Sheet). found_or InvalidSheet (option_map (duplicated b index) o)) at) ∙ e in
    let ok = accepted (first_refusal ((is_none (fresh_id (core_of b)), IdsUsedUp) ∷ [])) (changed_by (with_copy index (copy_of_sheet b index source) (copies_of_definitions b index source)) b) after (named_fields (name_of_copy b source.name) (index + 1)) fields one in
    ap core_of ok.1 ∙ copied_binds b valid index source at (none_holds ((is_none (fresh_id (core_of b)), IdsUsedUp) ∷ []) ok.0).0
