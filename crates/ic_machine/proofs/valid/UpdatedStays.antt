-- A book stays valid over an update of a definition.
use Rattle.std.proofs.Common.{◌≡◌, ℕ, zero, suc, pos, ◌+◌, ◌<◌, List, [], ◌∷◌, map, get_or, Bool, true, false, not, ◌&&◌, ◌==◌, Option, Some, None, refl, sym, ap, subst, ◌∙◌, inl, inr}
use Rattle.std.proofs.lemmas.Bool.{cases_Bool, not-false}
use Rattle.std.proofs.lemmas.Iterator.Adapters.{position_from-zero}
use Rattle.std.proofs.lemmas.List.{length-map}
use Rattle.std.proofs.lemmas.List.Quantifiers.{position-Some}
use Rattle.std.proofs.lemmas.Option.{slice_get-get_or}
use Rattle.std.specs.List.{AllByRecursion, IsDistinct, list_any, position, position_from, remove, slice_get}
use Rattle.std.specs.Option.{option_or}
use Rattle.std.specs.Prelude.{nat_eq, option_map, unwrap_or}
use Rattle.ic_laws.proofs.core.Defined.{same_key_equiv}
use Rattle.ic_laws.proofs.core.Lists.{distinct_replaced, updated_seen}
use Rattle.ic_laws.proofs.core.Made.{key}
use Rattle.ic_laws.proofs.core.Named.{HasIdentifier, IsNamed, book_named}
use Rattle.ic_laws.proofs.keeping.NameChanges.{same_key_flip, same_key_from}
use Rattle.ic_laws.proofs.keeping.Removing.{key_of_no_other}
use Rattle.ic_laws.proofs.kept.TreeFacts.{tree_facts}
use Rattle.ic_laws.specs.Binding.{bound}
use Rattle.ic_laws.specs.Character.{equals}
use Rattle.ic_laws.specs.CoreBook as core_book
use Rattle.ic_laws.specs.CoreBook.{Definition, IsId, spelling_of}
use Rattle.ic_laws.specs.CoreStep.{has_definition, is_named, scope_or_none, updated_at}
use Rattle.ic_laws.specs.Dialect.{DialectMeaning}
use Rattle.ic_laws.specs.FormulaReading.{Body, shown_at, trimmed, without_equals}
use Rattle.ic_laws.specs.Keeping.{kept_in_body}
use Rattle.ic_laws.specs.Name.{agrees, is_identifier, is_sheet_name}
use Rattle.ic_laws.specs.Notations.{english, english_function}
use Rattle.ic_laws.specs.ReadAs.{read_as}
use Rattle.ic_laws.specs.Scan.{first_is}
use Rattle.ic_laws.specs.Scene.{key_of, same_key, same_scope}
use Rattle.ic_laws.specs.Tree.{Spelled}
use Rattle.ic_laws.specs.ValidCore.{IsKept, IsKeptFormula, IsScope, IsValidDefinition, IsValidSheet}
use Rattle.ic_laws.specs.declared.scene.NameSpelling.{NameSpelling}
use Rattle.ic_laws.specs.declared.scene.Scene.{Scene}
use Rattle.ic_laws.specs.declared.tree.Formula.{Formula}
use Rattle.ic_laws.specs.declared.tree.Formula.TheVariants as formulas
use Rattle.ic_laws.specs.declared.tree.NameKey.{NameKey}
use Rattle.ic_tree.proofs.NotationLaws.{notations_are}
use Rattle.ic_machine.specs.Book.{Book, Sheet, core_of, notations_in, scene_in}
use Rattle.ic_machine.specs.Changed.{changed_with}
use Rattle.ic_machine.specs.Kept.{StaysValid}
use Rattle.ic_machine.specs.Refusal.{first_refusal}
use Rattle.ic_machine.specs.Valid.{IsValidBook}
use Rattle.ic_machine.specs.subjects.Definitions.{Update, keys_of_update, meets_other, new_key, new_scope_id, old_key, old_scope, scene_updated, update_body, update_causes, update_name_step, updated_book, updated_index, with_body, with_update}
use Rattle.ic_machine.proofs.valid.ChangedStays.{formula_kept, kept_definitions, kept_sheets, scene_same, seen_kept, spelled_kept}
use Rattle.ic_machine.proofs.as_core.CoreValid.{core_valid}
use Rattle.ic_machine.proofs.valid.InsertedStays.{all_mapped, made_stays, none_holds}
use Rattle.ic_machine.proofs.valid.ValidLemmas.{all_at, all_put, stays_unless}
use Rattle.ic_laws.proofs.core.Steps.{is_there as some_of}
use Rattle.ic_laws.proofs.General.{map-map as map_twice}

-- what is found at its index in a list ----

pub passes_at : {X : Type 0} (p : X → Bool) (xs : List X) (i : ℕ) → position p xs ≡ Some i → (x : X) × (slice_get xs i ≡ Some x) × (p x ≡ true)
passes_at p [] i e = cc
passes_at p (x ∷ xs) i e = let a = position-Some p (x ∷ xs) i x e in (get_or (x ∷ xs) i x, slice_get-get_or (x ∷ xs) i x a.0, a.1)

none_from : {X : Type 0} (p : X → Bool) (k : ℕ) (xs : List X) → position_from p k xs ≡ None → list_any p xs ≡ false
none_from p k [] e = refl
none_from p k (x ∷ xs) e = elim (cases_Bool (p x)) [
  | inl t ↦ let no : Some k ≡ None = rw t at e in cc
  | inr f ↦ rw f (none_from p (k + 1) xs (rw f at e))
]

pub none_passes_at : {X : Type 0} (p : X → Bool) (xs : List X) → position p xs ≡ None → list_any p xs ≡ false
none_passes_at p xs e = none_from p 0 xs (sym (position_from-zero p xs) ∙ e)

none_of_less : {X : Type 0} (p : X → Bool) (xs : List X) (i : ℕ) → list_any p xs ≡ false → list_any p (remove xs i) ≡ false
none_of_less p [] zero e = refl
none_of_less p [] (suc i) e = refl
none_of_less p (x ∷ xs) zero e = elim (cases_Bool (p x)) [
  | inl t ↦ let no : true ≡ false = rw t at e in cc
  | inr f ↦ rw f at e
]
none_of_less p (x ∷ xs) (suc i) e = elim (cases_Bool (p x)) [
  | inl t ↦ let no : true ≡ false = rw t at e in cc
  | inr f ↦ rw f (none_of_less p xs i (rw f at e))
]

-- no key is that of a name that none has in its scope
key_of_none : (name : NameSpelling) (definitions : List Definition) → list_any (is_named name.name name.scope) definitions ≡ false → list_any (same_key (key_of name)) (map key definitions) ≡ false
key_of_none name [] e = refl
key_of_none name (d ∷ definitions) e =
    let turned : same_key (key_of name) (key d) ≡ is_named name.name name.scope d = same_key_flip (key_of name) (key d) in
    elim (cases_Bool (is_named name.name name.scope d)) [
      | inl t ↦ let no : true ≡ false = rw t at e in cc
      | inr f ↦ rw (turned ∙ f) (key_of_none name definitions (rw f at e))
    ]

unmet : (has same : Bool) → (has && not same) ≡ false → same ≡ false → has ≡ false
unmet true true e f = cc
unmet true false e f = cc
unmet false same e f = refl

module _ (b : Book) (valid : IsValidBook b) where
  -- a scope is none, or the id of a sheet
  scope_fits : (i : Option ℕ) → IsScope (scope_or_none (core_of b) i)
  scope_fits None = tt
  scope_fits (Some i) = of_sheet (slice_get (core_of b).sheets i) refl
    where
      of_sheet : (o : Option core_book.Sheet) → slice_get (core_of b).sheets i ≡ o → IsScope (unwrap_or (option_map (λ (s : core_book.Sheet). Some s.id) o) None)
      of_sheet None e = tt
      of_sheet (Some s) e = (all_at (IsValidSheet (notations_in b) (scene_in b)) i (core_of b).sheets s (core_valid b valid).sheets e).id

  module _ (u : Update) (index : ℕ) (found : updated_index b u ≡ Some index) (has_equals : Bool) (body : Formula) where
    abbrev pub new : Definition
    new = record { name = u.new_name; scope = new_scope_id b u; has_equals = has_equals; body = body }

    abbrev pub later : Scene
    later = scene_in (with_update b u has_equals body (Some index) b)

    abbrev bodies : List Definition
    bodies = kept_definitions b valid later (keys_of_update b u)

    bodies_kept : IsNamed later → AllByRecursion (IsValidDefinition (notations_in b) later) bodies
    bodies_kept named = each b.definitions (core_valid b valid).definitions
      where
        each : (ds : List Definition) → AllByRecursion (IsValidDefinition (notations_in b) (scene_in b)) ds
            → AllByRecursion (IsValidDefinition (notations_in b) later) (map (kept_in_body (notations_in b) (scene_in b) later (keys_of_update b u)) ds)
        each [] h = tt
        each (d ∷ ds) h = (
          record {
            name = h.0.name;
            scope = h.0.scope;
            body = formula_kept (notations_in b) (notations_are b.tables valid.tables) (scene_in b) later (book_named (notations_in b) (core_of b) (core_valid b valid)) named (keys_of_update b u) d.scope (pos 1) (pos 1) d.body h.0.body;
          },
          each ds h.1,
        )

    -- no other definition has the new key
    no_other : meets_other b u ≡ false → list_any (same_key (key new)) (remove (map key b.definitions) index) ≡ false
    no_other apart = elim (cases_Bool (agrees u.name u.new_name && same_scope (old_scope b u) (new_scope_id b u))) [
      | inl t ↦
          let d = passes_at (is_named u.name (old_scope b u)) b.definitions index found in
          let same : key d.0 ≡ key new = same_key_from (key d.0) (old_key b u) d.2 ∙ same_key_from (old_key b u) (new_key b u) t in
          subst (λ (k : NameKey). list_any (same_key k) (remove (map key b.definitions) index) ≡ false) same (key_of_no_other key same_key same_key_flip b.definitions index d.0 valid.definitions.differ d.1)
      | inr f ↦
          none_of_less (same_key (key new)) (map key b.definitions) index
          (key_of_none (spelling_of new) b.definitions (unmet (has_definition (core_of b) u.new_name (new_scope_id b u)) (agrees u.name u.new_name && same_scope (old_scope b u) (new_scope_id b u)) apart f))
    ]

    update_stays : is_identifier u.new_name ≡ true → meets_other b u ≡ false → (IsNamed later → IsKeptFormula (notations_in b) later (new_scope_id b u) (pos 1) (pos 1) body)
        → IsValidBook (changed_with (keys_of_update b u) (with_update b u has_equals body (Some index)) b)
    update_stays good apart fits =
        let kept : List Sheet = kept_sheets b valid later (keys_of_update b u) in
        let id_of : Sheet → ℕ = λ s. s.id in
        let name_of : Sheet → List ℕ = λ s. s.name in
        made_stays b valid later (keys_of_update b u) kept (updated_at (λ d. new) index bodies)
        (scene_same b kept b.sheets (updated_at (λ d. new) index bodies) (updated_at (λ d. new) index b.definitions) (seen_kept b valid later (keys_of_update b u))
        (updated_seen spelling_of (λ d. new) (λ m. spelling_of new) (λ d. refl) index bodies ∙ ap (updated_at (λ m. spelling_of new) index) (spelled_kept b valid later (keys_of_update b u))
        ∙ sym (updated_seen spelling_of (λ d. new) (λ m. spelling_of new) (λ d. refl) index b.definitions)))
        (subst (λ m. 0 < m) (sym (length-map b.sheets _)) valid.sheets.some) (λ holds. holds)
        (all_mapped (λ (s : Sheet). IsId s.id) _ (λ s h. h) b.sheets valid.sheet_ids.ids)
        (all_mapped (λ (s : Sheet). is_sheet_name s.name ≡ true) _ (λ s h. h) b.sheets valid.sheet_names.names)
        (all_put HasIdentifier index bodies new (all_mapped HasIdentifier _ (λ d h. h) b.definitions valid.definitions.names) good)
        (λ named. all_put (IsValidDefinition (notations_in b) later) index bodies new (bodies_kept named) (record { name = good; scope = scope_fits u.new_scope; body = fits named }))
        (subst (IsDistinct nat_eq) (map_twice _ id_of b.sheets) valid.sheet_ids.differ)
        (subst (IsDistinct agrees) (map_twice _ name_of b.sheets) valid.sheet_names.differ)
        (subst (IsDistinct same_key) (sym (updated_seen key (λ d. new) (λ k. key new) (λ d. refl) index bodies ∙ ap (updated_at (λ k. key new) index) (sym (map_twice _ key b.definitions))))
        (distinct_replaced same_key_equiv (key new) index (map key b.definitions) valid.definitions.differ (no_other apart)))

  -- a new body is kept where it is bound
  module _ (scene : Scene) (named : IsNamed scene) (scope : Option ℕ) (text : List ℕ) where
    abbrev stripped : List ℕ
    stripped = without_equals (trimmed text)

    abbrev active : DialectMeaning
    active = shown_at (notations_in b) (core_of b) (pos 1) (pos 1)

    abbrev also : DialectMeaning
    also = (notations_in b).shown english english (pos 1) (pos 1)

    abbrev made : Spelled → Body
    made t = record { has_equals = first_is (λ c. c == equals) (trimmed text); tree = t }

    abbrev KeepsTree : Spelled → Type 0
    KeepsTree t = IsKept (notations_in b) scene scope (pos 1) (pos 1) (bound (english_function (notations_in b)) scene scope t)

    either : (body : Body) (o q : Option Spelled) → read_as active stripped ≡ o → read_as also stripped ≡ q → option_map made (option_or o q) ≡ Some body → KeepsTree body.tree
    either body (Some t) q h g e =
        let same : made t ≡ body = cc in
        subst (λ (x : Body). KeepsTree x.tree) same
        ((tree_facts (notations_in b) (notations_are b.tables valid.tables)).reads scene named active (pos 1) (pos 1) ((notations_are b.tables valid.tables).shown b.locale b.language (pos 1) (pos 1) valid.locale valid.language) stripped t h scope)
    either body None (Some t) h g e =
        let same : made t ≡ body = cc in
        let are = notations_are b.tables valid.tables in
        subst (λ (x : Body). KeepsTree x.tree) same
        ((tree_facts (notations_in b) are).reads scene named also (pos 1) (pos 1) (are.shown english english (pos 1) (pos 1) are.english_locale are.english_language) stripped t g scope)
    either body None None h g e = cc

    body_kept : (body : Body) → update_body (notations_in b) (core_of b) text ≡ Some body → KeepsTree body.tree
    body_kept body e = either body (read_as active stripped) (read_as also stripped) refl refl e

  pub update_name_stays : (u : Update) → StaysValid (update_name_step u b)
  unfolding update_name_step
  update_name_stays u = stays_unless (first_refusal (update_causes b u)) (updated_book b u) [] (λ e. left (none_holds (update_causes b u) e))
    where
      tree_of : Body → Formula
      tree_of body = formulas.Tree (bound (english_function (notations_in b)) (scene_updated b u) (new_scope_id b u) body.tree)

      left : AllByRecursion (λ cause. cause.0 ≡ false) (update_causes b u) → IsValidBook (updated_book b u)
      left clear =
          let body = some_of (update_body (notations_in b) (core_of b) u.body) clear.1.1.1.1.0 in
          subst (λ (o : Option Body). IsValidBook (with_body b u o)) (sym body.1) (at_index (updated_index b u) refl body.0 body.1)
        where
          at_index : (o : Option ℕ) → updated_index b u ≡ o → (body : Body) → update_body (notations_in b) (core_of b) u.body ≡ Some body
              → IsValidBook (changed_with (keys_of_update b u) (with_update b u body.has_equals (formulas.Tree (bound (english_function (notations_in b)) (scene_updated b u) (new_scope_id b u) body.tree)) (updated_index b u)) b)
          at_index None e body is =
              let no : not false ≡ false = ap not (sym (none_passes_at (is_named u.name (old_scope b u)) b.definitions e)) ∙ clear.1.1.1.1.1.0 in cc
          at_index (Some index) e body is =
              subst (λ (o : Option ℕ). IsValidBook (changed_with (keys_of_update b u) (with_update b u body.has_equals (tree_of body) o) b)) (sym e)
              (update_stays u index e body.has_equals (tree_of body) (not-false (is_identifier u.new_name) clear.0) clear.1.1.1.0
              (λ named.
              let scene : Scene = scene_in (with_update b u body.has_equals (tree_of body) (Some index) b) in
              let same : scene_updated b u ≡ scene =
              ap (λ (o : Option ℕ). scene_in (with_update b u false (formulas.Raw []) o b)) e
              ∙ scene_same b b.sheets b.sheets (updated_at (λ d. new u index e false (formulas.Raw [])) index b.definitions) (updated_at (λ d. new u index e body.has_equals (tree_of body)) index b.definitions) refl
              (updated_seen spelling_of (λ d. new u index e false (formulas.Raw [])) (λ m. spelling_of (new u index e false (formulas.Raw []))) (λ d. refl) index b.definitions
              ∙ sym (updated_seen spelling_of (λ d. new u index e body.has_equals (tree_of body)) (λ m. spelling_of (new u index e body.has_equals (tree_of body))) (λ d. refl) index b.definitions)) in
              subst (λ (s : Scene). IsKept (notations_in b) scene (new_scope_id b u) (pos 1) (pos 1) (bound (english_function (notations_in b)) s (new_scope_id b u) body.tree)) (sym same)
              (body_kept scene named (new_scope_id b u) u.body body is)))
