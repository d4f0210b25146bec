-- A book stays valid when a sheet is copied.
use Rattle.std.proofs.Common.{◌≡◌, ℕ, ℤ, zero, suc, pos, ◌+◌, ◌<◌, List, [], ◌∷◌, ◌++◌, map, flat_map, length, Bool, true, false, cond, ◌||◌, Option, Some, None, refl, sym, ap, ap₂, subst, ◌∙◌, arith, inl, inr}
use Rattle.std.proofs.lemmas.Bool.{or_parts, cases_Bool}
use Rattle.std.proofs.lemmas.List.{length-map, map-append}
use Rattle.std.proofs.lemmas.List.Folds.{list_any-append}
use Rattle.std.specs.Cmp.{nat_eq_equiv}
use Rattle.std.specs.List.{AllByRecursion, IsDistinct, find, insert, list_any, slice_get}
use Rattle.std.specs.Option.{option_to_list}
use Rattle.std.specs.Prelude.{IsSome, is_none, nat_eq, option_map}
use Rattle.ic_laws.proofs.CoreLemmas.{above_greatest, agrees_equiv, fresh_room}
use Rattle.ic_laws.proofs.core.Made.{key}
use Rattle.ic_laws.proofs.core.Named.{HasIdentifier, IsNamed, named_by}
use Rattle.ic_laws.proofs.kept.Kept.{bound_kept, WritesNames, spelled_can_be_kept, spelling_writes}
use Rattle.ic_laws.specs.Binding.{bound, spelled_with}
use Rattle.ic_laws.specs.CoreBook as core_book
use Rattle.ic_laws.specs.CoreBook.{Definition, IsId, fresh_id, has_sheet, ids_of, spelling_of, used_ids}
use Rattle.ic_laws.specs.Keeping.{same_keys}
use Rattle.ic_laws.specs.Name.{agrees, is_sheet_name}
use Rattle.ic_laws.specs.Notations.{Notations, english_function}
use Rattle.ic_laws.specs.Scene.{key_of, name_of_key, name_of_sheet, definition_spelling, same_key, sheet_spelling}
use Rattle.ic_laws.specs.Tree.{Bound}
use Rattle.ic_laws.specs.ValidCore.{IsKeptFormula, IsKeptWhere, IsPlaceInside, IsPooled, IsValidDefinition}
use Rattle.ic_laws.specs.declared.reference.Place as places
use Rattle.ic_laws.specs.declared.scene.NameSpelling.{NameSpelling}
use Rattle.ic_laws.specs.declared.scene.Scene.{Scene}
use Rattle.ic_laws.specs.declared.scene.SheetName.{SheetName}
use Rattle.ic_laws.specs.declared.tree.Formula.{Formula}
use Rattle.ic_laws.specs.declared.tree.Formula.TheVariants as formulas
use Rattle.ic_laws.specs.declared.tree.NameKey.{NameKey}
use Rattle.ic_tree.proofs.NotationLaws.{notations_are}
use Rattle.ic_grid.specs.Block.{Place}
use Rattle.ic_machine.specs.Book.{Book, Sheet, core_of, core_sheet, notations_in, scene_in}
use Rattle.ic_machine.specs.Changed.{changed_by}
use Rattle.ic_machine.specs.Content.{formula_in, formula_index}
use Rattle.ic_machine.specs.Kept.{StaysValid}
use Rattle.ic_machine.specs.Refusal.{IdsUsedUp}
use Rattle.ic_machine.specs.Valid.{HasFormula, IsValidBook}
use Rattle.ic_machine.specs.subjects.Sheets.{copied_of, copies_of_definitions, copy_id, copy_named, copy_of_sheet, copy_spelling, definitions_moved, duplicate_sheet_step, duplicated, formula_copied, local_in, local_to, name_of_copy, named_fields, scene_with_copy, shared_about, with_copy, with_formula}
use Rattle.ic_laws.proofs.General.{insert-map, map-map as map_twice}
use Rattle.ic_machine.proofs.valid.ChangedStays.{kept_definitions, kept_sheets, scene_same, seen, seen_kept, spelled_kept, with_parts}
use Rattle.ic_machine.proofs.bound.CopyKeys.{all_appended, all_filtered, all_in_map, copy_key, keys_with_copies}
use Rattle.ic_machine.proofs.bound.CopyNames.{copy_is_free, copy_is_good}
use Rattle.ic_machine.proofs.as_core.CoreLemmas.{formula_in-map}
use Rattle.ic_machine.proofs.as_core.CoreValid.{core_valid}
use Rattle.ic_machine.proofs.bound.InsertedBinds.{any_inserted}
use Rattle.ic_machine.proofs.valid.InsertedStays.{all_mapped, bodies_kept, distinct_inserted, made_stays, named_cores, none_holds, some_inserted}
use Rattle.ic_machine.proofs.valid.SheetsStay.{all_inserted}
use Rattle.ic_machine.proofs.valid.ValidLemmas.{HoldsOf, all_at, all_of, holds_at, stays_found, stays_unless}

-- what is found in a list is found in a longer one ----

some_found : {X : Type 0} (p : X → Bool) (xs : List X) → IsSome (find p xs) → list_any p xs ≡ true
some_found p [] h = let no : false ≡ true = h in cc
some_found p (x ∷ xs) h = elim (cases_Bool (p x)) [
  | inl t ↦ rw t refl
  | inr f ↦ rw f (some_found p xs (rw f at h))
]

found_some : {X : Type 0} (p : X → Bool) (xs : List X) → list_any p xs ≡ true → IsSome (find p xs)
found_some p [] e = let no : false ≡ true = e in cc
found_some p (x ∷ xs) e = elim (cases_Bool (p x)) [
  | inl t ↦ rw t refl
  | inr f ↦ rw f (found_some p xs (rw f at e))
]

some_mapped : {X Y : Type 0} (f : X → Y) (o : Option X) → IsSome o → IsSome (option_map f o)
some_mapped f None h = let no : false ≡ true = h in cc
some_mapped f (Some x) h = refl

some_unmapped : {X Y : Type 0} (f : X → Y) (o : Option X) → IsSome (option_map f o) → IsSome o
some_unmapped f None h = let no : false ≡ true = h in cc
some_unmapped f (Some x) h = refl

any_appended : {X : Type 0} (p : X → Bool) (xs ys : List X) → list_any p xs ≡ true → list_any p (xs ++ ys) ≡ true
any_appended p xs ys e = list_any-append p xs ys ∙ ap (λ t. t || list_any p ys) e

any_here : {X : Type 0} (p : X → Bool) (xs : List X) (index : ℕ) (x : X) → p x ≡ true → list_any p (insert xs index x) ≡ true
any_here p [] zero x e = rw e refl
any_here p [] (suc index) x e = rw e refl
any_here p (y ∷ xs) zero x e = rw e refl
any_here p (y ∷ xs) (suc index) x e = elim (cases_Bool (p y)) [
  | inl t ↦ rw t refl
  | inr f ↦ rw f (any_here p xs index x e)
]

module _ (b : Book) (valid : IsValidBook b) (index : ℕ) (source : Sheet) (at : slice_get b.sheets index ≡ Some source) (room : is_none (fresh_id (core_of b)) ≡ false) where
  abbrev n : Notations
  n = notations_in b

  abbrev copy : Sheet
  copy = copy_of_sheet b index source

  abbrev copies : List Definition
  copies = copies_of_definitions b index source

  abbrev id : ℕ
  id = copy_id b index source

  -- what formulas can mention then
  abbrev later : Scene
  later = scene_with_copy b index source

  good : is_sheet_name (name_of_copy b source.name) ≡ true
  good = copy_is_good b valid source.name (all_at (λ (s : Sheet). is_sheet_name s.name ≡ true) index b.sheets source valid.sheet_names.names at)

  pub free : has_sheet (core_of b) (name_of_copy b source.name) ≡ false
  free = copy_is_free b valid source.name (all_at (λ (s : Sheet). is_sheet_name s.name ≡ true) index b.sheets source valid.sheet_names.names at)

  fits : IsId id
  fits = let less = fresh_room (core_of b) room in (omega (arith), omega (arith, less))

  unused : list_any (nat_eq id) (used_ids (core_of b)) ≡ false
  unused = above_greatest id (used_ids (core_of b)) (omega (arith))

  pub parts : (list_any (nat_eq id) (ids_of (core_of b)) ≡ false) × (list_any (nat_eq id) (flat_map (λ (d : Definition). option_to_list d.scope) b.definitions) ≡ false)
  parts = or_parts _ _ (sym (list_any-append (nat_eq id) (ids_of (core_of b)) (flat_map (λ (d : Definition). option_to_list d.scope) b.definitions)) ∙ unused)

  -- what formulas see of the copied definitions is what they see of these with their old bodies
  spelled_copies : map spelling_of copies ≡ map spelling_of (definitions_moved b index source)
  spelled_copies = sym (map_twice (with_formula (formula_copied b index source)) spelling_of (definitions_moved b index source))

  scene_is : (xs : List Sheet) (ds : List Definition) → map seen xs ≡ map seen b.sheets → map spelling_of ds ≡ map spelling_of b.definitions → scene_in (with_parts b (insert xs (index + 1) copy) (ds ++ copies)) ≡ later
  scene_is xs ds e f =
      scene_same b (insert xs (index + 1) copy) (insert b.sheets (index + 1) (copy_named b index source)) (ds ++ copies) (b.definitions ++ definitions_moved b index source)
      (insert-map seen xs (index + 1) copy ∙ ap (λ (ms : List SheetName). insert ms (index + 1) (seen copy)) e ∙ sym (insert-map seen b.sheets (index + 1) (copy_named b index source)))
      (map-append spelling_of ds copies ∙ ap₂ (λ (ms ns : List NameSpelling). ms ++ ns) f spelled_copies ∙ sym (map-append spelling_of b.definitions (definitions_moved b index source)))

  names_differ : (xs : List Sheet) → map (λ (s : Sheet). s.name) xs ≡ map (λ (s : Sheet). s.name) b.sheets → IsDistinct agrees (map (λ (s : Sheet). s.name) (insert xs (index + 1) copy))
  names_differ xs e =
      let core_names : map (λ (s : core_book.Sheet). s.name) (core_of b).sheets ≡ map (λ (s : Sheet). s.name) b.sheets = sym (map_twice core_sheet (λ (s : core_book.Sheet). s.name) b.sheets) in
      subst (IsDistinct agrees) (sym (insert-map (λ (s : Sheet). s.name) xs (index + 1) copy ∙ ap (λ (ms : List (List ℕ)). insert ms (index + 1) copy.name) e))
      (distinct_inserted agrees_equiv (map (λ (s : Sheet). s.name) b.sheets) (index + 1) copy.name valid.sheet_names.differ (sym (ap (λ (names : List (List ℕ)). list_any (agrees copy.name) names) core_names) ∙ free))

  ids_differ : (xs : List Sheet) → map (λ (s : Sheet). s.id) xs ≡ map (λ (s : Sheet). s.id) b.sheets → IsDistinct nat_eq (map (λ (s : Sheet). s.id) (insert xs (index + 1) copy))
  ids_differ xs e =
      let core_ids : ids_of (core_of b) ≡ map (λ (s : Sheet). s.id) b.sheets = sym (map_twice core_sheet (λ (s : core_book.Sheet). s.id) b.sheets) in
      subst (IsDistinct nat_eq) (sym (insert-map (λ (s : Sheet). s.id) xs (index + 1) copy ∙ ap (λ (ms : List ℕ). insert ms (index + 1) id) e))
      (distinct_inserted nat_eq_equiv (map (λ (s : Sheet). s.id) b.sheets) (index + 1) id valid.sheet_ids.differ (sym (ap (λ (ids : List ℕ). list_any (nat_eq id) ids) core_ids) ∙ parts.0))

  -- of each definition that is copied
  all_copied : (P : Definition → Type 0) → AllByRecursion P b.definitions → AllByRecursion P (copied_of source.id b.definitions)
  all_copied P h =
      all_appended P (local_to source.id b.definitions) (shared_about source.id b.definitions) (all_filtered _ P P (λ d e p. p) b.definitions h)
      (all_filtered _ P P (λ d e p. p) b.definitions h)

  all_copies : (P Q : Definition → Type 0) → ((d : Definition) → P d → Q (with_formula (formula_copied b index source) (local_in id d))) → AllByRecursion P b.definitions → AllByRecursion Q copies
  all_copies P Q more h =
      all_in_map (with_formula (formula_copied b index source)) Q (definitions_moved b index source)
      (all_in_map (local_in id) (λ d. Q (with_formula (formula_copied b index source) d)) (copied_of source.id b.definitions)
      (all_of P (λ d. Q (with_formula (formula_copied b index source) (local_in id d))) more (copied_of source.id b.definitions) (all_copied P h)))

  identifiers : (ds : List Definition) → AllByRecursion HasIdentifier ds → AllByRecursion HasIdentifier (ds ++ copies)
  identifiers ds h = all_appended HasIdentifier ds copies h (all_copies HasIdentifier HasIdentifier (λ d e. e) valid.definitions.names)

  pub named : IsNamed later
  named =
      subst IsNamed (scene_is b.sheets b.definitions refl refl)
      (named_by (core_of (with_copy index copy copies b))
      (named_cores (insert b.sheets (index + 1) copy) (all_inserted (λ (s : Sheet). is_sheet_name s.name ≡ true) b.sheets (index + 1) copy valid.sheet_names.names good)) (identifiers b.definitions valid.definitions.names)
      (subst (IsDistinct agrees) (map_twice core_sheet (λ (s : core_book.Sheet). s.name) (insert b.sheets (index + 1) copy)) (names_differ b.sheets refl)))

  -- a formula that is written for the copy ----

  abbrev sheet_text : ℕ → List ℕ
  sheet_text = copy_spelling later source.id id

  pub seen_later : later.sheets ≡ insert (map seen b.sheets) (index + 1) (seen copy)
  seen_later =
      sym (map_twice core_sheet (λ (s : core_book.Sheet). let m : SheetName = record { id = s.id; name = s.name } in m) (insert b.sheets (index + 1) (copy_named b index source)))
      ∙ insert-map seen b.sheets (index + 1) (copy_named b index source)

  pub has_copy : IsSome (name_of_sheet later id)
  has_copy =
      some_mapped (λ (s : SheetName). s.name) (find (λ (s : SheetName). nat_eq s.id id) later.sheets)
      (found_some (λ (s : SheetName). nat_eq s.id id) later.sheets
      (ap (list_any (λ (s : SheetName). nat_eq s.id id)) seen_later ∙ any_here (λ (s : SheetName). nat_eq s.id id) (map seen b.sheets) (index + 1) (seen copy) (nat_eq_equiv.refl id)))

  pub has_old : (i : ℕ) → IsSome (name_of_sheet (scene_in b) i) → IsSome (name_of_sheet later i)
  has_old i h =
      let test : SheetName → Bool = λ s. nat_eq s.id i in
      let before : (scene_in b).sheets ≡ map seen b.sheets = sym (map_twice core_sheet (λ (s : core_book.Sheet). let m : SheetName = record { id = s.id; name = s.name } in m) b.sheets) in
      some_mapped (λ (s : SheetName). s.name) (find test later.sheets)
      (found_some test later.sheets
      (ap (list_any test) seen_later
      ∙ any_inserted test (map seen b.sheets) (index + 1) (seen copy) (sym (ap (list_any test) before) ∙ some_found test (scene_in b).sheets (some_unmapped (λ (s : SheetName). s.name) (find test (scene_in b).sheets) h))))

  pub has_key : (k : NameKey) → IsSome (name_of_key (scene_in b) k) → IsSome (name_of_key later k)
  has_key k h =
      let test : NameSpelling → Bool = λ m. same_key (key_of m) k in
      some_mapped (λ (m : NameSpelling). m.name) (find test later.names)
      (found_some test later.names
      (ap (list_any test) (map-append spelling_of b.definitions (definitions_moved b index source))
      ∙ any_appended test (map spelling_of b.definitions) (map spelling_of (definitions_moved b index source))
      (some_found test (map spelling_of b.definitions) (some_unmapped (λ (m : NameSpelling). m.name) (find test (map spelling_of b.definitions)) h))))

  writes : WritesNames (scene_in b) sheet_text (definition_spelling later)
  writes = record { sheet = λ i h. by_source i (nat_eq i source.id) h; definition = λ k h. (spelling_writes later named).definition k (has_key k h) }
    where
      by_source : (i : ℕ) (t : Bool) → IsSome (name_of_sheet (scene_in b) i) → is_sheet_name (sheet_spelling later (cond t id i)) ≡ true
      by_source i true h = (spelling_writes later named).sheet id has_copy
      by_source i false h = (spelling_writes later named).sheet i (has_old i h)

  -- it is kept for the copy where it was kept for a sheet or for none
  tree_copied : (scope : Option ℕ) (Inside : places.Place → Type 0) (t : Bound) → IsKeptWhere n Inside (scene_in b) scope t → IsKeptWhere n Inside later (Some id) (bound (english_function n) later (Some id) (spelled_with sheet_text (definition_spelling later) t))
  tree_copied scope Inside t h =
      bound_kept n (notations_are b.tables valid.tables) later (Some id) Inside named.differ (spelled_with sheet_text (definition_spelling later) t)
      (spelled_can_be_kept n (scene_in b) scope Inside sheet_text (definition_spelling later) writes (notations_are b.tables valid.tables) t h)

  pooled_copied : (scope : Option ℕ) (f : Formula) → IsPooled n (scene_in b) scope f → IsPooled n later (Some id) (formula_copied b index source f)
  pooled_copied scope (formulas.Tree t) h = tree_copied scope (λ place. Unit {0}) t h
  pooled_copied scope (formulas.Raw text) h = tt

  kept_copied : (scope : Option ℕ) (row column : ℤ) (f : Formula) → IsKeptFormula n (scene_in b) scope row column f → IsKeptFormula n later (Some id) row column (formula_copied b index source f)
  kept_copied scope row column (formulas.Tree t) h = tree_copied scope (IsPlaceInside row column) t h
  kept_copied scope row column (formulas.Raw text) h = tt

  -- what holds of the sheet holds of its copy
  held_copied : (place : Place) (o : Option ℕ) → HasFormula n (scene_in b) source place o → HasFormula n later copy place o
  held_copied place None h = tt
  held_copied place (Some i) h = (
    subst (λ m. i < m) (sym (length-map source.pool (formula_copied b index source))) h.0,
    subst (IsKeptFormula n later (Some id) place.0 place.1) (sym (formula_in-map (formula_copied b index source) refl source.pool i))
        (kept_copied (Some source.id) place.0 place.1 (formula_in source.pool i) h.1),
  )

  copy_holds : HoldsOf n later (length b.styles) copy
  copy_holds =
      let h = holds_at b valid index source at in
      record {
        pool = all_in_map (formula_copied b index source) (IsPooled n later (Some id)) source.pool
            (all_of (IsPooled n (scene_in b) (Some source.id)) (λ f. IsPooled n later (Some id) (formula_copied b index source f)) (pooled_copied (Some source.id)) source.pool h.pool);
        inside = h.inside;
        formulas = λ place content e. held_copied place (formula_index content) (h.formulas place content e);
        styles = h.styles;
        arrays = h.arrays;
        merges = h.merges;
        layout = record { frozen = h.layout.frozen; lines = h.layout.lines };
        amounts = h.amounts;
      }

  definition_copied : (d : Definition) → IsValidDefinition n (scene_in b) d → IsValidDefinition n later (with_formula (formula_copied b index source) (local_in id d))
  definition_copied d h = record { name = h.name; scope = fits; body = kept_copied d.scope (pos 1) (pos 1) d.body h.body }

  abbrev kept : Scene → List Sheet
  kept scene = kept_sheets b valid scene same_keys

  abbrev bodies : Scene → List Definition
  bodies scene = kept_definitions b valid scene same_keys

  copied_valid : IsValidBook (with_parts b (insert (kept later) (index + 1) copy) (bodies later ++ copies))
  copied_valid =
      made_stays b valid later same_keys (insert (kept later) (index + 1) copy) (bodies later ++ copies)
      (scene_is (kept later) (bodies later) (seen_kept b valid later same_keys) (spelled_kept b valid later same_keys))
      (some_inserted (kept later) (index + 1) copy) (λ holds. all_inserted (HoldsOf n later (length b.styles)) (kept later) (index + 1) copy holds copy_holds)
      (all_inserted (λ (s : Sheet). IsId s.id) (kept later) (index + 1) copy (all_mapped (λ (s : Sheet). IsId s.id) _ (λ s h. h) b.sheets valid.sheet_ids.ids) fits)
      (all_inserted (λ (s : Sheet). is_sheet_name s.name ≡ true) (kept later) (index + 1) copy (all_mapped (λ (s : Sheet). is_sheet_name s.name ≡ true) _ (λ s h. h) b.sheets valid.sheet_names.names) good)
      (identifiers (bodies later) (all_mapped HasIdentifier _ (λ d h. h) b.definitions valid.definitions.names))
      (λ m. all_appended (IsValidDefinition n later) (bodies later) copies (bodies_kept b valid later m)
      (all_copies (IsValidDefinition n (scene_in b)) (IsValidDefinition n later) definition_copied (core_valid b valid).definitions))
      (ids_differ (kept later) (sym (map_twice _ (λ (s : Sheet). s.id) b.sheets)))
      (names_differ (kept later) (sym (map_twice _ (λ (s : Sheet). s.name) b.sheets)))
      (subst (IsDistinct same_key)
      (sym (map-append key (bodies later) copies ∙ ap₂ (λ (ks ls : List NameKey). ks ++ ls) (sym (map_twice _ key b.definitions)) keys_of_copies))
      (keys_with_copies source.id id b.definitions valid.definitions.differ parts.1))
    where
      keys_of_copies : map key copies ≡ map (copy_key source.id id) (copied_of source.id b.definitions)
      keys_of_copies =
          sym (map_twice (with_formula (formula_copied b index source)) key (definitions_moved b index source)) ∙ sym (map_twice (local_in id) key (copied_of source.id b.definitions))

  copied_is : IsValidBook (changed_by (with_copy index copy copies) b)
  copied_is =
      subst (λ (scene : Scene). IsValidBook (with_parts b (insert (kept scene) (index + 1) copy) (bodies scene ++ copies))) (sym (scene_is b.sheets b.definitions refl refl)) copied_valid

pub duplicate_stays : (b : Book) (valid : IsValidBook b) (index : ℕ) → StaysValid (duplicate_sheet_step index b)
unfolding duplicate_sheet_step
duplicate_stays b valid index =
    stays_found b valid index (duplicated b index)
    (λ source at. stays_unless _ (changed_by (with_copy index (copy_of_sheet b index source) (copies_of_definitions b index source)) b) (named_fields (name_of_copy b source.name) (index + 1))
    (λ e. copied_is b valid index source at (none_holds ((is_none (fresh_id (core_of b)), IdsUsedUp) ∷ []) e).0))
