-- The rule by which a model makes formulas anew for an update of a definition is that of the machine's step, and leaves what
-- it doesn't touch.
use Rattle.std.proofs.Common.{◌≡◌, ℕ, List, [], ◌∷◌, map, Bool, Option, Some, option_map, refl, sym, ap, ap₂, ◌∙◌, pos, codes}
use Rattle.std.specs.List.{AllByRecursion, slice_get}
use Rattle.std.proofs.lemmas.Option.{slice_get-map}
use Rattle.ic_laws.proofs.core.Lists.{updated_seen}
use Rattle.ic_laws.proofs.core.Named.{book_named}
use Rattle.ic_laws.proofs.keeping.NameChanges.{same_key_from}
use Rattle.ic_laws.proofs.kept.Kept.{english_by_fold}
use Rattle.ic_laws.specs.CoreBook.{Definition, spelling_of}
use Rattle.ic_laws.specs.CoreStep.{is_named, updated_at}
use Rattle.ic_laws.specs.Notations.{Notations, english_function}
use Rattle.ic_laws.specs.Scene.{key_of}
use Rattle.ic_laws.specs.ValidCore.{IsKeptBody, IsPooled}
use Rattle.ic_laws.specs.declared.scene.NameSpelling.{NameSpelling}
use Rattle.ic_laws.specs.declared.scene.Scene.{Scene}
use Rattle.ic_laws.specs.declared.scene.SheetName.{SheetName}
use Rattle.ic_laws.specs.declared.tree.Formula.{Formula}
use Rattle.ic_laws.specs.declared.tree.NameKey.{NameKey}
use Rattle.ic_tables.specs.Tables.{language_of}
use Rattle.ic_tables.specs.declared.language.Language.{Language}
use Rattle.ic_tree.proofs.NotationLaws.{english_function_is, notations_are}
use Rattle.ic_tree.specs.LanguageWords.{function_of}
use Rattle.ic_keep.proofs.Untouched.{body_is_settled, pooled_is_settled, untouched_formula_stays}
use Rattle.ic_machine.proofs.as_core.CoreValid as machine_core
use Rattle.ic_machine.proofs.valid.UpdatedStays.{passes_at}
use Rattle.ic_machine.specs.Book as machine
use Rattle.ic_machine.specs.Book.{core_of, scene_in}
use Rattle.ic_machine.specs.Valid.{IsKeptPool}
use Rattle.ic_machine.specs.subjects.Definitions.{Update, new_key, new_scope_id, old_key, old_scope, updated_index}
use Rattle.ic_pool.specs.Remade.{LeavesUntouched, Remade}
use Rattle.ic_definitions.specs.Remade.{LeavesBody}
use Rattle.ic_sheets.specs.Sheet.{sheet_of}
use Rattle.ic_sheets.specs.declared.sheet.Sheet.{Sheet as HeldSheet}
use Rattle.ic_parts.specs.Book.{Book, notations_in, whole_of, whole_sheet}
use Rattle.ic_book.specs.Inside.{IsHeld, held}
use Rattle.ic_parts.specs.Scene.{scene_of_parts, scene_renamed}
use Rattle.ic_parts.specs.Sites.{kept_where_touched}
use Rattle.ic_changes.specs.Updated.{IsChecked, LeavesAll, keys_named, rule_of_update}
use Rattle.ic_changes.specs.declared.definitions.update.CheckedUpdate.{CheckedUpdate}
use Rattle.ic_book.specs.declared.model.Model.TheInside.{Inside}
use Rattle.ic_parts.proofs.HeldLemmas.{scene_held}
use Rattle.ic_changes.proofs.SitesUpdate.{later, rule}
use Rattle.ic_parts.proofs.WholeLemmas.{whole_scene}

all_weaker : {X : Type 0} (P Q : X → Type 0) → ((x : X) → P x → Q x) → (xs : List X) → AllByRecursion P xs → AllByRecursion Q xs
all_weaker P Q f [] h = tt
all_weaker P Q f (x ∷ xs) h = (f x h.0, all_weaker P Q f xs h.1)

module _ (inside : Inside) (h : IsHeld inside) (u : Update) (index : ℕ) (found : updated_index (whole_of (held inside)) u ≡ Some index) (has_equals : Bool) (body : Formula) where
  abbrev ws : List HeldSheet
  ws = inside.contents.sheets

  abbrev ds : List Definition
  ds = inside.contents.definitions

  abbrev book : Book
  book = held inside

  abbrev whole : machine.Book
  whole = whole_of (held inside)

  abbrev n : Notations
  n = notations_in (held inside)

  abbrev before : Scene
  before = scene_in (whole_of (held inside))

  abbrev after : Scene
  after = later book u index found has_equals body

  abbrev new : Definition
  new = record { name = u.new_name; scope = new_scope_id whole u; has_equals = has_equals; body = body }

  abbrev made : Remade
  made = rule book u index found has_equals body

  names_are : after.names ≡ updated_at (λ (m : NameSpelling). spelling_of new) index before.names
  names_are = updated_seen spelling_of (λ d. new) (λ m. spelling_of new) (λ d. refl) index ds

  old_is : option_map key_of (slice_get before.names index) ≡ Some (old_key whole u)
  old_is =
      let there = passes_at (is_named u.name (old_scope whole u)) ds index found in
      ap (option_map key_of) (slice_get-map spelling_of ds index ∙ ap (option_map spelling_of) there.1) ∙ ap (λ (k : NameKey). let o : Option NameKey = Some k in o) (same_key_from (key_of (spelling_of there.0)) (old_key whole u) there.2)

  -- a formula that is settled stays where it isn't touched
  pooled_stays : (scope : Option ℕ) (f : Formula) → IsPooled n before scope f → LeavesUntouched made scope f
  pooled_stays scope f kept e =
      untouched_formula_stays (english_function n) before after (old_key whole u) (new_key whole u) index (spelling_of new) scope (english_by_fold n (notations_are inside.notation.tables h.whole.tables))
      (book_named n (core_of whole) (machine_core.core_valid whole h.whole)).differ refl names_are refl old_is f (pooled_is_settled n before scope f kept) e

  body_stays : (d : Definition) → IsKeptBody n before d → LeavesBody made d
  body_stays d kept e =
      untouched_formula_stays (english_function n) before after (old_key whole u) (new_key whole u) index (spelling_of new) d.scope (english_by_fold n (notations_are inside.notation.tables h.whole.tables))
      (book_named n (core_of whole) (machine_core.core_valid whole h.whole)).differ refl names_are refl old_is d.body (body_is_settled n before d.scope (pos 1) (pos 1) d.body kept) e

  pools_stay : (ss : List HeldSheet) → AllByRecursion (IsKeptPool n before) (map (whole_sheet book.strings) (map sheet_of ss)) → AllByRecursion (λ (s : HeldSheet). AllByRecursion (LeavesUntouched made (Some s.id)) s.pool.formulas) ss
  pools_stay [] k = tt
  pools_stay (s ∷ ss) k = (all_weaker (IsPooled n before (Some s.id)) (LeavesUntouched made (Some s.id)) (pooled_stays (Some s.id)) s.pool.formulas k.0, pools_stay ss k.1)

  pub rule_leaves : LeavesAll (rule (held inside) u index found has_equals body) inside.contents
  rule_leaves = record {
    formulas = pools_stay ws h.whole.kept.pools;
    bodies = all_weaker (IsKeptBody n before) (LeavesBody made) body_stays ds h.whole.kept.bodies;
  }

  -- what formulas can mention before and after the update, by what a model finds
  pub before_is : scene_of_parts inside.contents.sheets inside.contents.definitions ≡ scene_in (whole_of (held inside))
  before_is = scene_held ws book refl ∙ sym (whole_scene book)

  pub after_is : (scope : Option ℕ) → new_scope_id (whole_of (held inside)) u ≡ scope → scene_renamed inside.contents.sheets inside.contents.definitions index u.new_name scope ≡ later (held inside) u index found has_equals body
  after_is scope same =
      ap₂ (λ (ss : List SheetName) (ms : List NameSpelling). let s : Scene = record { sheets = ss; names = ms } in s) (ap (λ (s : Scene). s.sheets) before_is)
      (ap (λ (o : Option ℕ). updated_at (λ (m : NameSpelling). let d : NameSpelling = record { name = u.new_name; scope = o } in d) index (map spelling_of ds)) (sym same) ∙ sym names_are)

  -- the rule of a model
  module _ (checked : CheckedUpdate) (c : IsChecked (whole_of (held inside)) u checked) (english : Language) (en : language_of inside.notation.tables (codes "en") ≡ Some english) where
    abbrev key_at : List ℕ → Option ℕ → NameKey
    key_at name scope = key_of (record { name = name; scope = scope })

    pub rule_is : rule_of_update (function_of english) inside.contents index u.new_name (keys_named u.name u.new_name checked) ≡ rule (held inside) u index found has_equals body
    rule_is =
        ap (λ (f : List ℕ → Option ℕ). kept_where_touched f (scene_of_parts ws ds) (scene_renamed ws ds index u.new_name checked.new_scope) (key_at u.name checked.old_scope) (key_at u.new_name checked.new_scope)) (sym (english_function_is inside.notation.tables english en))
        ∙ ap₂ (λ (b a : Scene). kept_where_touched (english_function n) b a (key_at u.name checked.old_scope) (key_at u.new_name checked.new_scope)) before_is (after_is checked.new_scope c.new_scope)
        ∙ ap₂ (λ (o m : Option ℕ). kept_where_touched (english_function n) before after (key_at u.name o) (key_at u.new_name m)) (sym c.old_scope) (sym c.new_scope)
