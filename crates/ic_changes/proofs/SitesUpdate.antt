-- What is listed of an update of a definition is what the machine's step says that the update captures.
use Rattle.std.proofs.Common.{◌≡◌, ◌||◌, ◌++◌, ℕ, List, [], ◌∷◌, map, Bool, true, false, Option, Some, refl, sym, ap, ap₂, ◌∙◌}
use Rattle.std.proofs.lemmas.Bool.{or_parts}
use Rattle.std.specs.List.{AllByRecursion, list_any, slice_get, zip}
use Rattle.std.specs.Prelude.{flat_map}
use Rattle.ic_laws.proofs.keeping.NameChanges.{same_key_flip}
use Rattle.ic_laws.specs.Binding.{bound}
use Rattle.ic_laws.specs.CoreBook.{Definition}
use Rattle.ic_laws.specs.CoreStep.{is_named}
use Rattle.ic_laws.specs.FormulaReading.{Body}
use Rattle.ic_laws.specs.Keeping.{changed_key}
use Rattle.ic_laws.specs.Notations.{english_function}
use Rattle.ic_laws.specs.Scene.{same_key}
use Rattle.ic_laws.specs.declared.scene.Scene.{Scene}
use Rattle.ic_laws.specs.declared.tree.Formula.{Formula}
use Rattle.ic_laws.specs.declared.tree.Formula.TheVariants as formulas
use Rattle.ic_laws.specs.declared.tree.NameKey.{NameKey}
use Rattle.ic_definitions.specs.Named.{key_in}
use Rattle.ic_definitions.specs.Remade.{LeavesBody, remade_body, touched_bodies}
use Rattle.ic_definitions.specs.Tested.{passes_body}
use Rattle.ic_definitions.specs.declared.bodies.NewBody.{NewBody}
use Rattle.ic_keep.proofs.KeptAlike.{kept_formula_is_alike}
use Rattle.ic_keep.proofs.Uncaptured.{untouched_uncaptured}
use Rattle.ic_keep.specs.declared.change.KeyChange.{KeyChange}
use Rattle.ic_machine.proofs.valid.UpdatedStays.{passes_at}
use Rattle.ic_machine.specs.Book as machine
use Rattle.ic_machine.specs.Book.{core_of, notations_in, scene_in}
use Rattle.ic_machine.specs.Capture.{captured_cells, captured_sites}
use Rattle.ic_machine.specs.Refusal.{Site}
use Rattle.ic_machine.specs.Changed.{changed_with, with_kept_pool}
use Rattle.ic_machine.specs.subjects.Definitions.{Update, keys_of_update, new_key, new_scope_id, old_key, old_scope, scene_updated, update_body, update_sites, updated_index, with_body, with_update}
use Rattle.ic_pool.specs.Remade.{LeavesUntouched, Remade}
use Rattle.ic_pool.specs.Rewrites.{RewritesState}
use Rattle.ic_sheets.specs.Remade.{AreRemade, remade_pool}
use Rattle.ic_sheets.specs.Rewriting.{sheets_of}
use Rattle.ic_sheets.specs.Sheet.{Sheet}
use Rattle.ic_sheets.specs.Tested.{passes_in}
use Rattle.ic_sheets.specs.declared.sheet.Sheet.{Sheet as HeldSheet}
use Rattle.ic_changes.specs.Updated.{captures_by}
use Rattle.ic_changes.proofs.SiteTouched.{updated_apart}
use Rattle.ic_changes.proofs.SitesWhole.{listed_captured}
use Rattle.ic_changes.proofs.Uncaptured.{bodies_clear, sheets_clear}
use Rattle.ic_parts.specs.Book.{Book, whole_of, whole_sheet}
use Rattle.ic_parts.specs.Sites.{IsUpdate, kept_where_touched, listed_sites, site_of}

-- Formulas that are kept where an update touches them are an update: what it doesn't touch isn't captured, and what is kept
-- has the same shape.
pub kept_update : (english : List ℕ → Option ℕ) (before after : Scene) (old new : NameKey) (sheets : List HeldSheet) (definitions : List Definition) (formulas : List (ℕ × RewritesState)) (bodies : List NewBody)
    → AreRemade (kept_where_touched english before after old new) formulas sheets → bodies ≡ touched_bodies (kept_where_touched english before after old new) 0 definitions
    → AllByRecursion (λ (s : HeldSheet). AllByRecursion (LeavesUntouched (kept_where_touched english before after old new) (Some s.id)) s.pool.formulas) sheets
    → AllByRecursion (LeavesBody (kept_where_touched english before after old new)) definitions
    → IsUpdate (kept_where_touched english before after old new) (changed_key old new) sheets definitions formulas bodies
kept_update english before after old new sheets definitions formulas bodies pools listed stay bodies_stay = record {
  pools = pools;
  bodies_listed = listed;
  formulas_stay = stay;
  bodies_stay = bodies_stay;
  spared = λ scope formula e. untouched_uncaptured old new formula e;
  alike = kept_formula_is_alike english before after (changed_key old new);
}

module _ (book : Book) (u : Update) (index : ℕ) (found : updated_index (whole_of book) u ≡ Some index) where
  abbrev whole : machine.Book
  whole = whole_of book

  -- the definition at the index has the key that is updated
  its_key : (d : Definition) → slice_get book.definitions index ≡ Some d → same_key (old_key whole u) (key_in d) ≡ true
  its_key d e =
      let there = passes_at (is_named u.name (old_scope whole u)) book.definitions index found in
      let same : there.0 ≡ d = cc in
      same_key_flip (old_key whole u) (key_in d) ∙ ap (is_named u.name (old_scope whole u)) (sym same) ∙ there.2

  module _ (has_equals : Bool) (body : Formula) where
    -- what formulas can mention after it
    abbrev pub later : Scene
    later = scene_in (with_update whole u has_equals body (Some index) whole)

    abbrev pub rule : Remade
    rule = kept_where_touched (english_function (notations_in whole)) (scene_in whole) later (old_key whole u) (new_key whole u)

    pub pools_kept : (ss : List Sheet) → map (with_kept_pool (notations_in whole) (scene_in whole) later (keys_of_update whole u)) (map (whole_sheet book.strings) ss) ≡ map (whole_sheet book.strings) (map (remade_pool rule) ss)
    pools_kept [] = refl
    pools_kept (s ∷ ss) = ap (λ rest. whole_sheet book.strings (remade_pool rule s) ∷ rest) (pools_kept ss)

    pub listed_kept : (sheets : List HeldSheet) (formulas : List (ℕ × RewritesState)) (bodies : List NewBody) → IsUpdate rule (keys_of_update whole u) sheets book.definitions formulas bodies → sheets_of sheets ≡ book.sheets
        → map site_of (listed_sites (keys_of_update whole u) (old_key whole u) sheets book.definitions formulas bodies)
        ≡ captured_sites (keys_of_update whole u) (old_key whole u) whole (changed_with (keys_of_update whole u) (with_update whole u has_equals body (Some index)) whole)
    listed_kept sheets formulas bodies update held =
        listed_captured rule (keys_of_update whole u) sheets book.definitions formulas bodies update book (changed_with (keys_of_update whole u) (with_update whole u has_equals body (Some index)) whole) (old_key whole u)
        (record { name = u.new_name; scope = new_scope_id whole u; has_equals = has_equals; body = body }) index held refl (pools_kept book.sheets) refl its_key

  -- the formula that a body becomes
  abbrev pub bound_body : Body → Formula
  bound_body body = formulas.Tree (bound (english_function (notations_in whole)) (scene_updated whole u) (new_scope_id whole u) body.tree)

  -- what the machine says that an update captures which gives the definition this body
  pub sites_by_body : (body : Body) → update_body (notations_in whole) (core_of whole) u.body ≡ Some body
      → captured_sites (keys_of_update whole u) (old_key whole u) whole (changed_with (keys_of_update whole u) (with_update whole u body.has_equals (bound_body body) (Some index)) whole) ≡ update_sites whole u
  sites_by_body body e =
      sym (ap (λ b. captured_sites (keys_of_update whole u) (old_key whole u) whole (with_body whole u b)) e
      ∙ ap (λ o. captured_sites (keys_of_update whole u) (old_key whole u) whole (changed_with (keys_of_update whole u) (with_update whole u body.has_equals (bound_body body) o) whole)) found)

  -- what is listed of an update is what it captures
  pub listed_is_captured : (body : Body) → update_body (notations_in whole) (core_of whole) u.body ≡ Some body → (sheets : List HeldSheet) (formulas : List (ℕ × RewritesState)) (bodies : List NewBody)
      → IsUpdate (rule body.has_equals (bound_body body)) (keys_of_update whole u) sheets book.definitions formulas bodies → sheets_of sheets ≡ book.sheets
      → map site_of (listed_sites (keys_of_update whole u) (old_key whole u) sheets book.definitions formulas bodies) ≡ update_sites whole u
  listed_is_captured body e sheets formulas bodies update held = listed_kept body.has_equals (bound_body body) sheets formulas bodies update held ∙ sites_by_body body e

  -- where no formula and no body has a word that it captures, it has no sites
  pub none_captured : (body : Body) → update_body (notations_in whole) (core_of whole) u.body ≡ Some body → (sheets : List HeldSheet) → sheets_of sheets ≡ book.sheets
      → AllByRecursion (λ (s : HeldSheet). AllByRecursion (LeavesUntouched (rule body.has_equals (bound_body body)) (Some s.id)) s.pool.formulas) sheets → AllByRecursion (LeavesBody (rule body.has_equals (bound_body body))) book.definitions
      → (list_any (passes_in (captures_by (rule body.has_equals (bound_body body)) (record { old = old_key whole u; new = new_key whole u }))) sheets
      || list_any (passes_body (captures_by (rule body.has_equals (bound_body body)) (record { old = old_key whole u; new = new_key whole u }))) book.definitions)
      ≡ false
      → update_sites whole u ≡ []
  none_captured body e sheets held leaves bodies_leave none =
      let made = rule body.has_equals (bound_body body) in
      let keys = keys_of_update whole u in
      let its : KeyChange = record { old = old_key whole u; new = new_key whole u } in
      let new : Definition = record { name = u.new_name; scope = new_scope_id whole u; has_equals = body.has_equals; body = bound_body body } in
      let parts = or_parts (list_any (passes_in (captures_by made its)) sheets) (list_any (passes_body (captures_by made its)) book.definitions) none in
      sym (sites_by_body body e)
      ∙ ap₂ (λ (a b : List Site). a ++ b)
      (ap (λ ss. flat_map (captured_cells keys) (zip (map (whole_sheet book.strings) book.sheets) ss)) (pools_kept body.has_equals (bound_body body) book.sheets)
      ∙ ap (λ ss. flat_map (captured_cells keys) (zip (map (whole_sheet book.strings) ss) (map (whole_sheet book.strings) (map (remade_pool made) ss)))) (sym held)
      ∙ sheets_clear book.strings made its (λ scope formula. untouched_uncaptured (old_key whole u) (new_key whole u) formula) sheets leaves parts.0)
      (updated_apart made keys (old_key whole u) new book.definitions (map (remade_body made) book.definitions) index its_key
      ∙ bodies_clear book.strings made its (λ scope formula. untouched_uncaptured (old_key whole u) (new_key whole u) formula) (old_key whole u) book.definitions bodies_leave parts.1)
