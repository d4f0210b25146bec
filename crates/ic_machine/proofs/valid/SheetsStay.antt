-- The commands on sheets and on definitions that the identity machine has, too, keep what always holds of a book.
use Rattle.std.proofs.Common.{◌≡◌, ℕ, ℤ, zero, suc, ◌+◌, ◌<◌, List, [], ◌∷◌, ◌++◌, map, length, flat_map, arith, Option, Some, None, Ok, Err, refl, sym, ap, ap₂, subst, ◌∙◌}
use Rattle.std.proofs.lemmas.Bool.{ltb-true, not-false}
use Rattle.std.proofs.lemmas.Int.{ints}
use Rattle.std.proofs.lemmas.List.{map-append}
use Rattle.std.proofs.lemmas.List.Elements.{All-nil}
use Rattle.std.specs.FinMap as finite
use Rattle.std.specs.List.{AllByRecursion, insert, remove, slice_get}
use Rattle.std.specs.Option.{option_to_list}
use Rattle.std.specs.Ordering.{int_cmp}
use Rattle.std.specs.Prelude.{nat_lt}
use Rattle.ic_laws.proofs.core.Lists.{all_pushed, all_removed, all_updated, removed_seen, updated_seen}
use Rattle.ic_laws.proofs.keeping.Accepted.{accepted, none_holds}
use Rattle.ic_laws.proofs.kept.Scenes.{FindsAlike, moved_alike}
use Rattle.ic_laws.specs.Command as core
use Rattle.ic_laws.specs.CoreBook as core_book
use Rattle.ic_laws.specs.CoreBook.{CoreBook, Definition, greatest_id, ids_of, scene_of, spelling_of}
use Rattle.ic_laws.specs.CoreStep.{Outcome, core_step, move_causes, move_refusal, moved, new_definition, put_back, updated_at}
use Rattle.ic_laws.specs.FormulaReading.{Body}
use Rattle.ic_laws.specs.Greatest.{greatest}
use Rattle.ic_laws.specs.Keeping.{kept_in_body, same_keys}
use Rattle.ic_laws.specs.Notations.{Notations}
use Rattle.ic_laws.specs.ValidCore.{IsValidCore}
use Rattle.ic_laws.specs.declared.scene.Scene.{Scene}
use Rattle.ic_laws.specs.declared.scene.SheetName.{SheetName}
use Rattle.ic_cells.specs.Maps.{place_cmp}
use Rattle.ic_grid.specs.Block.{Place}
use Rattle.ic_machine.specs.Book.{Book, Sheet, as_core, core_of, core_sheet, empty_sheet, notations_in, scene_in}
use Rattle.ic_machine.specs.Changed.{changed_by, with_definition, with_kept_formulas, with_kept_pool, with_moved_sheet, with_removed_sheet, with_renamed_sheet, without_definition}
use Rattle.ic_machine.specs.Command.{Command, OnSheets}
use Rattle.ic_machine.specs.Content.{Content}
use Rattle.ic_machine.specs.Core.{core_command}
use Rattle.ic_machine.specs.Kept.{StaysValid}
use Rattle.ic_machine.specs.Reply.{of_core_fields}
use Rattle.ic_machine.specs.Step.{step}
use Rattle.ic_machine.specs.Valid.{IsValidBook}
use Rattle.ic_machine.specs.subjects.Definitions.{with_new_definition}
use Rattle.ic_machine.specs.subjects.Sheets as sheets
use Rattle.ic_machine.specs.subjects.Sheets.{move_sheet_step, with_new_sheet}
use Rattle.ic_machine.proofs.valid.ChangedStays.{all_hold, changed_stays, holds_alike, kept_definitions, kept_sheets, rebuilt, scene_same, seen, seen_kept, spelled_kept}
use Rattle.ic_machine.proofs.as_core.CoreLemmas.{core_of-moved}
use Rattle.ic_machine.proofs.as_core.CoreValid.{core_stays, core_valid}
use Rattle.ic_machine.proofs.valid.ValidLemmas.{HoldsOf, all_of}
use Rattle.ic_laws.proofs.General.{map-map as map_twice}

-- a sheet that holds nothing ----

nothing_at : (P : Type 0) (place : Place) (content : Content) → finite.get (finite.empty {X = Content} {R = place_cmp}) place ≡ Some content → P
nothing_at P place content e = let never : None ≡ Some content = sym (finite.get-empty place_cmp place) ∙ e in cc

nothing_set : {X : Type 0} (P : Type 0) (at : ℤ) (x : X) → finite.get (finite.empty {X = X} {R = int_cmp}) at ≡ Some x → P
nothing_set P at x e = let never : None ≡ Some x = sym (finite.get-empty int_cmp at) ∙ e in cc

none_at : {X : Type 0} (P : Type 0) (i : ℕ) (x : X) → slice_get [] i ≡ Some x → P
none_at P i x e = let never : None ≡ Some x = e in cc

-- what always holds of an empty sheet
pub nothing_holds : (n : Notations) (scene : Scene) (count id : ℕ) (name : List ℕ) → HoldsOf n scene count (empty_sheet id name)
nothing_holds n scene count id name = record {
  pool = tt;
  inside = λ place content e. nothing_at _ place content e;
  formulas = λ place content e. nothing_at _ place content e;
  styles = record {
    contents = λ place content e. nothing_at _ place content e;
    rows = λ row props e. nothing_set _ row props e;
    columns = λ column props e. nothing_set _ column props e;
  };
  arrays = record {
    areas = λ a w t kind has. nothing_at _ a has.0 has.1;
    filled = λ a p w t kind has inside other. nothing_at _ a has.0 has.1;
    owned = λ a p has. nothing_at _ p has.0 has.1;
  };
  merges = record {
    areas = All-nil _;
    apart = λ i j one other lt at to. none_at _ i one at;
    arrays = λ a array e single. refl;
  };
  layout = record {
    frozen = record { some_rows = omega (arith, ints); few_rows = omega (arith, ints); some_columns = omega (arith, ints); few_columns = omega (arith, ints) };
    lines = record { rows = λ row props e. nothing_set _ row props e; columns = λ column props e. nothing_set _ column props e };
  };
  amounts = λ place content e. nothing_at _ place content e;
}

-- a sheet in the list that is put at another place ----

pub all_inserted : {X : Type 0} (P : X → Type 0) (xs : List X) (at : ℕ) (x : X) → AllByRecursion P xs → P x → AllByRecursion P (insert xs at x)
all_inserted P [] zero x h p = (p, tt)
all_inserted P [] (suc at) x h p = (p, tt)
all_inserted P (y ∷ xs) zero x h p = (p, h)
all_inserted P (y ∷ xs) (suc at) x h p = (h.0, all_inserted P xs at x h.1 p)

got : {X : Type 0} (P : X → Type 0) (xs : List X) (at : ℕ) (o : Option X) → slice_get xs at ≡ o → (to : ℕ) → AllByRecursion P xs → AllByRecursion P (put_back to (remove xs at) o)
got P xs at None e to h = all_removed P xs at h
got P xs at (Some x) e to h = all_inserted P (remove xs at) to x (all_removed P xs at h) (here xs at e h)
  where
    here : (xs : List _) (at : ℕ) → slice_get xs at ≡ Some x → AllByRecursion P xs → P x
    here [] at e h = cc
    here (y ∷ xs) zero e h = let same : y ≡ x = cc in subst P same h.0
    here (y ∷ xs) (suc at) e h = here xs at e h.1

pub all_moved : {X : Type 0} (P : X → Type 0) (from to : ℕ) (xs : List X) → AllByRecursion P xs → AllByRecursion P (moved from to xs)
all_moved P from to xs h = got P xs from (slice_get xs from) refl to h

module _ (b : Book) (valid : IsValidBook b) where
  abbrev n : Notations
  n = notations_in b

  abbrev Holds : Scene → Sheet → Type 0
  Holds scene s = HoldsOf (notations_in b) scene (length b.styles) s

  -- an accepted command leaves a valid core, and so a valid book
  pub stays_lifted : (command : Command) (k : core.Command) (left : Book) → core_command command ≡ Some k → (o : Outcome) → step b command ≡ as_core o left
      → (IsValidCore (notations_in b) (core_of left) → IsValidBook left) → StaysValid (as_core o left)
  stays_lifted command k left is (Ok done) e h = h (core_stays b left command k (of_core_fields done.1) valid is e)
  stays_lifted command k left is (Err refusal) e h = tt

  -- another name ----

  abbrev called : List ℕ → Sheet → Sheet
  called name s = record s { name = name }

  abbrev named_so : List ℕ → SheetName → SheetName
  named_so name m = record m { name = name }

  pub renamed_stays : (index : ℕ) (name : List ℕ) → IsValidCore (notations_in b) (core_of (changed_by (with_renamed_sheet index name) b)) → IsValidBook (changed_by (with_renamed_sheet index name) b)
  renamed_stays index name core =
      let later : Scene = scene_in (with_renamed_sheet index name b) in
      let kept : List Sheet = kept_sheets b valid later same_keys in
      changed_stays b valid later same_keys (updated_at (called name) index kept) (kept_definitions b valid later same_keys)
      (scene_same b (updated_at (called name) index kept) (updated_at (called name) index b.sheets) (kept_definitions b valid later same_keys) b.definitions
      (updated_seen seen (called name) (named_so name) (λ s. refl) index kept ∙ ap (updated_at (named_so name) index) (seen_kept b valid later same_keys)
      ∙ sym (updated_seen seen (called name) (named_so name) (λ s. refl) index b.sheets))
      (spelled_kept b valid later same_keys))
      (all_updated (Holds later) (called name)
      (λ s h. record { pool = h.pool; inside = h.inside; formulas = h.formulas; styles = h.styles; arrays = h.arrays; merges = h.merges; layout = record { frozen = h.layout.frozen; lines = h.layout.lines }; amounts = h.amounts }) index kept)
      core

  -- one sheet less
  pub removed_stays : (index : ℕ) → IsValidCore (notations_in b) (core_of (changed_by (with_removed_sheet index) b)) → IsValidBook (changed_by (with_removed_sheet index) b)
  removed_stays index core =
      let later : Scene = scene_in (with_removed_sheet index b) in
      let kept : List Sheet = kept_sheets b valid later same_keys in
      changed_stays b valid later same_keys (remove kept index) (kept_definitions b valid later same_keys)
      (scene_same b (remove kept index) (remove b.sheets index) (kept_definitions b valid later same_keys) b.definitions
      (removed_seen seen kept index ∙ ap (λ ms. remove ms index) (seen_kept b valid later same_keys) ∙ sym (removed_seen seen b.sheets index)) (spelled_kept b valid later same_keys))
      (all_removed (Holds later) kept index) core

  -- one sheet more, at the end ----

  pub empty_holds : (scene : Scene) (id : ℕ) (name : List ℕ) → HoldsOf (notations_in b) scene (length b.styles) (empty_sheet id name)
  empty_holds scene id name = nothing_holds (notations_in b) scene (length b.styles) id name

  -- the ids in use are the same where formulas are kept
  same_ids : (later : Scene) → ids_of (core_of (with_kept_formulas (notations_in b) (scene_in b) later same_keys b)) ≡ ids_of (core_of b)
  same_ids later =
      let keep : Sheet → Sheet = with_kept_pool (notations_in b) (scene_in b) later same_keys in
      let id_of : core_book.Sheet → ℕ = λ s. s.id in
      sym (map_twice core_sheet id_of (map keep b.sheets)) ∙ sym (map_twice keep (λ (s : Sheet). s.id) b.sheets) ∙ map_twice core_sheet id_of b.sheets

  scopes_kept : (later : Scene) (definitions : List Definition) → flat_map (λ (d : Definition). option_to_list d.scope) (map (kept_in_body (notations_in b) (scene_in b) later same_keys) definitions) ≡ flat_map (λ (d : Definition). option_to_list d.scope) definitions
  scopes_kept later [] = refl
  scopes_kept later (d ∷ definitions) = ap (λ r. option_to_list d.scope ++ r) (scopes_kept later definitions)

  same_greatest : (later : Scene) → greatest_id (core_of (with_kept_formulas (notations_in b) (scene_in b) later same_keys b)) ≡ greatest_id (core_of b)
  same_greatest later = ap₂ (λ (ids scopes : List ℕ). greatest (ids ++ scopes)) (same_ids later) (scopes_kept later b.definitions)

  pub added_stays : (name : List ℕ) → IsValidCore (notations_in b) (core_of (changed_by (with_new_sheet name) b)) → IsValidBook (changed_by (with_new_sheet name) b)
  added_stays name core =
      let later : Scene = scene_in (with_new_sheet name b) in
      let kept : List Sheet = kept_sheets b valid later same_keys in
      let old : ℕ = greatest_id (core_of b) + 1 in
      let id : ℕ = greatest_id (core_of (with_kept_formulas (notations_in b) (scene_in b) later same_keys b)) + 1 in
      let new : Sheet = empty_sheet id name in
      changed_stays b valid later same_keys (kept ++ new ∷ []) (kept_definitions b valid later same_keys)
      (scene_same b (kept ++ new ∷ []) (b.sheets ++ empty_sheet old name ∷ []) (kept_definitions b valid later same_keys) b.definitions
      (map-append seen kept (new ∷ []) ∙ ap₂ (λ (ms : List SheetName) (i : ℕ). let m : SheetName = record { id = i + 1; name = name } in ms ++ m ∷ []) (seen_kept b valid later same_keys) (same_greatest later)
      ∙ sym (map-append seen b.sheets (empty_sheet old name ∷ [])))
      (spelled_kept b valid later same_keys))
      (λ holds. all_pushed (Holds later) kept new holds (empty_holds later id name)) core

  -- another order ----

  moved_stays : (from to : ℕ) → from < length (core_of b).sheets → IsValidCore (notations_in b) (core_of (with_moved_sheet from to b)) → IsValidBook (with_moved_sheet from to b)
  moved_stays from to within core =
      let after : Scene = scene_in (with_moved_sheet from to b) in
      let alike : FindsAlike (scene_in b) after =
      subst (λ (c : CoreBook). FindsAlike (scene_in b) (scene_of c)) (sym (core_of-moved from to b)) (moved_alike (notations_in b) (core_of b) (core_valid b valid) from to within) in
      rebuilt b valid (moved from to b.sheets) b.definitions core
      (all_moved (Holds after) from to b.sheets
      (all_of (Holds (scene_in b)) (Holds after) (holds_alike (notations_in b) (scene_in b) after alike (length b.styles)) b.sheets (all_hold b valid)))

  pub move_stays : (from to : ℕ) (o : Outcome) → core_step (notations_in b) (core_of b) (core.MoveSheet from to) ≡ o → StaysValid (as_core o (with_moved_sheet from to b))
  unfolding core_step move_sheet_step
  move_stays from to (Err refusal) e = tt
  move_stays from to (Ok done) e =
      let a = accepted (move_refusal (core_of b) from to) _ _ _ _ e in
      let within = ltb-true from (length (core_of b).sheets) (not-false (nat_lt from (length (core_of b).sheets)) (none_holds (move_causes (core_of b) from to) a.unrefused).0) in
      moved_stays from to within
      (core_stays b (with_moved_sheet from to b) (OnSheets (sheets.MoveSheet from to)) (core.MoveSheet from to) (of_core_fields done.1) valid refl (ap (λ (o : Outcome). as_core o (with_moved_sheet from to b)) e))

  -- definitions ----

  defined_stays : (new : Definition) → IsValidCore (notations_in b) (core_of (changed_by (with_definition new) b)) → IsValidBook (changed_by (with_definition new) b)
  defined_stays new core =
      let later : Scene = scene_in (with_definition new b) in
      let kept : List Sheet = kept_sheets b valid later same_keys in
      let bodies : List Definition = kept_definitions b valid later same_keys in
      changed_stays b valid later same_keys kept (bodies ++ new ∷ [])
      (scene_same b kept b.sheets (bodies ++ new ∷ []) (b.definitions ++ new ∷ []) (seen_kept b valid later same_keys)
      (map-append spelling_of bodies (new ∷ []) ∙ ap (λ ms. ms ++ spelling_of new ∷ []) (spelled_kept b valid later same_keys) ∙ sym (map-append spelling_of b.definitions (new ∷ []))))
      (λ holds. holds) core

  pub undefined_stays : (index : Option ℕ) → IsValidCore (notations_in b) (core_of (changed_by (without_definition index) b)) → IsValidBook (changed_by (without_definition index) b)
  undefined_stays None core =
      let later : Scene = scene_in b in
      let kept : List Sheet = kept_sheets b valid later same_keys in
      let bodies : List Definition = kept_definitions b valid later same_keys in
      changed_stays b valid later same_keys kept bodies
      (scene_same b kept b.sheets bodies b.definitions (seen_kept b valid later same_keys) (spelled_kept b valid later same_keys)) (λ holds. holds) core
  undefined_stays (Some index) core =
      let later : Scene = scene_in (without_definition (Some index) b) in
      let kept : List Sheet = kept_sheets b valid later same_keys in
      let bodies : List Definition = kept_definitions b valid later same_keys in
      changed_stays b valid later same_keys kept (remove bodies index)
      (scene_same b kept b.sheets (remove bodies index) (remove b.definitions index) (seen_kept b valid later same_keys)
      (removed_seen spelling_of bodies index ∙ ap (λ ms. remove ms index) (spelled_kept b valid later same_keys) ∙ sym (removed_seen spelling_of b.definitions index)))
      (λ holds. holds) core

  pub named_stays : (name : List ℕ) (scope : Option ℕ) (body : Option Body) → IsValidCore (notations_in b) (core_of (with_new_definition b name scope body)) → IsValidBook (with_new_definition b name scope body)
  named_stays name scope None core = valid
  named_stays name scope (Some body) core = defined_stays (new_definition (notations_in b) (core_of b) name scope body) core
