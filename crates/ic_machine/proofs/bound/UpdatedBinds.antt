-- What is bound after a definition is updated.
use Rattle.std.proofs.Common.{◌≡◌, ◌⊎◌, ℕ, ℤ, zero, suc, pos, List, [], ◌∷◌, map, Bool, true, false, not, Option, Some, None, refl, sym, ap, ap₂, subst, ◌∙◌, inl, inr, if◌then◌else◌}
use Rattle.std.proofs.lemmas.Bool.{OnFalse_from, both_ways, cases_Bool}
use Rattle.std.specs.List.{AllByRecursion, AllZip, find, slice_get}
use Rattle.std.specs.Option.{option_or}
use Rattle.std.specs.Prelude.{option_map}
use Rattle.ic_laws.proofs.binding.SceneLemmas.{find_here, find_later}
use Rattle.ic_laws.proofs.core.Lists.{updated_seen}
use Rattle.ic_laws.proofs.core.Named.{book_named}
use Rattle.ic_laws.proofs.keeping.Holds.{sheet_holds}
use Rattle.ic_laws.proofs.keeping.Kept.{sheet_stays}
use Rattle.ic_laws.proofs.keeping.Removing.{none_first}
use Rattle.ic_laws.specs.Binding.{Binders, bound, bound_local, bound_sheet, bound_word, is_bound_by, name_or_dangling, spelled, spelled_sheet, spelled_word}
use Rattle.ic_laws.specs.CoreBook.{Definition, spelling_of}
use Rattle.ic_laws.specs.CoreStep.{has_definition, is_named, updated_at}
use Rattle.ic_laws.specs.FormulaReading.{Body}
use Rattle.ic_laws.specs.Keeping.{KeyChange, kept, kept_formula, kept_in_body, kept_name, kept_sheet}
use Rattle.ic_laws.specs.Name.{fold}
use Rattle.ic_laws.specs.Notations.{Notations, english_function}
use Rattle.ic_laws.specs.Scene.{definition_at, found_name, key_of, same_key}
use Rattle.ic_laws.specs.Tree.{Bound}
use Rattle.ic_laws.specs.ValidCore.{IsKeptBody, IsKeptFormula, IsPooled}
use Rattle.ic_laws.specs.declared.scene.NameSpelling.{NameSpelling}
use Rattle.ic_laws.specs.declared.scene.Scene.{Scene}
use Rattle.ic_laws.specs.declared.tree.Formula.{Formula}
use Rattle.ic_laws.specs.declared.tree.Formula.TheVariants as formulas
use Rattle.ic_laws.specs.declared.tree.NameKey.{NameKey}
use Rattle.ic_laws.specs.declared.tree.NameMention.{NameMention}
use Rattle.ic_laws.specs.declared.tree.NameMention.TheVariants as names
use Rattle.ic_laws.specs.declared.tree.SheetMention.{SheetMention}
use Rattle.ic_laws.specs.declared.tree.SheetMention.TheVariants as sheets
use Rattle.ic_machine.specs.Binds.{sheets_in, IsUpdatedBody, IsUpdatedFormula, IsUpdatedWord, UpdatedIsMeant, UpdatesWords}
use Rattle.ic_machine.specs.Book.{Book, Sheet, notations_in, scene_in, core_of}
use Rattle.ic_machine.specs.Capture.{captured_sites, has_sites, words_in}
use Rattle.ic_machine.specs.Changed.{changed_with, with_kept_pool}
use Rattle.ic_machine.specs.Refusal.{Site, first_refusal}
use Rattle.ic_machine.specs.Valid.{IsKeptPool, IsValidBook}
use Rattle.ic_machine.specs.subjects.Definitions.{Update, keys_of_update, new_key, new_scope_id, old_key, old_scope, scene_updated, update_body, update_causes, update_name_step, update_sites, updated_book, updated_index, with_body, with_update}
use Rattle.ic_machine.proofs.as_core.CoreValid.{core_valid}
use Rattle.ic_machine.proofs.bound.InsertedBinds.{accepted}
use Rattle.ic_machine.proofs.valid.InsertedStays.{none_holds}
use Rattle.ic_machine.proofs.valid.UpdatedStays.{none_passes_at, passes_at}
use Rattle.ic_machine.proofs.bound.WordLemmas.{sheets_become, words_become}
use Rattle.ic_laws.proofs.core.Steps.{is_there as some_of}

-- lists, item for item ----

pub zip_mapped : {X Y : Type 0} (P : X → Type 0) (R : X → Y → Type 0) (f : X → Y) → ((x : X) → P x → R x (f x)) → (xs : List X) → AllByRecursion P xs → AllZip R xs (map f xs)
zip_mapped P R f h [] all = tt
zip_mapped P R f h (x ∷ xs) all = (h x all.0, zip_mapped P R f h xs all.1)

zip_updated : {X : Type 0} (R : X → X → Type 0) (new : X) (i : ℕ) (xs ys : List X) → AllZip R xs ys → ((x : X) → slice_get xs i ≡ Some x → R x new) → AllZip R xs (updated_at (λ y. new) i ys)
zip_updated R new i [] [] h g = tt
zip_updated R new i [] (y ∷ ys) h g = absurd h
zip_updated R new i (x ∷ xs) [] h g = absurd h
zip_updated R new zero (x ∷ xs) (y ∷ ys) h g = (g x refl, h.1)
zip_updated R new (suc i) (x ∷ xs) (y ∷ ys) h g = (h.0, zip_updated R new i xs ys h.1 g)

-- where nothing was found, that which takes the place of another is found, or nothing
find_updated : {X : Type 0} (p : X → Bool) (d : X) (i : ℕ) (xs : List X) → find p xs ≡ None → (find p (updated_at (λ x. d) i xs) ≡ None) ⊎ (find p (updated_at (λ x. d) i xs) ≡ Some d)
find_updated p d i [] e = inl refl
find_updated p d zero (x ∷ xs) e = elim (cases_Bool (p d)) [
  | inl t ↦ inr (find_here p d xs t)
  | inr f ↦ inl (find_later p d xs f ∙ (none_first p x xs e).1)
]
find_updated p d (suc i) (x ∷ xs) e =
    let none = none_first p x xs e in
    elim (find_updated p d i xs none.1) [
      | inl f ↦ inl (find_later p x (updated_at (λ y. d) i xs) none.0 ∙ f)
      | inr f ↦ inr (find_later p x (updated_at (λ y. d) i xs) none.0 ∙ f)
    ]

neither : (local global : Option NameSpelling) → option_map key_of (option_or local global) ≡ None → (local ≡ None) × (global ≡ None)
neither None None e = (refl, refl)
neither None (Some d) e = cc
neither (Some d) global e = cc

key_is : (d : NameSpelling) (k : NameKey) (local global : Option NameSpelling) → (local ≡ None) ⊎ (local ≡ Some d) → (global ≡ None) ⊎ (global ≡ Some d) → option_map key_of (option_or local global) ≡ Some k → k ≡ key_of d
key_is d k local global (inr p) q e =
    let some : Some (key_of d) ≡ Some k = sym (ap (λ (o : Option NameSpelling). option_map key_of (option_or o global)) p) ∙ e in
    let same : key_of d ≡ k = cc in sym same
key_is d k local global (inl p) (inr q) e =
    let some : Some (key_of d) ≡ Some k = sym (ap₂ (λ (o g : Option NameSpelling). option_map key_of (option_or o g)) p q) ∙ e in
    let same : key_of d ≡ k = cc in sym same
key_is d k local global (inl p) (inl q) e = absurd (let no : None ≡ Some k = sym (ap₂ (λ (o g : Option NameSpelling). option_map key_of (option_or o g)) p q) ∙ e in cc)

-- one word ----

module _ (english : List ℕ → Option ℕ) (before after : Scene) (d : NameSpelling) (index : ℕ) (updated : after.names ≡ updated_at (λ m. d) index before.names) (keys : KeyChange) (scope : Option ℕ) where
  abbrev key_text : NameKey → List ℕ
  key_text = kept_name before after keys

  abbrev Becomes : Option NameMention → Option NameMention → Type 0
  Becomes m u = IsUpdatedWord (key_of d) m u

  found_after : (folded : List ℕ) (at : Option ℕ) → definition_at before folded at ≡ None → (definition_at after folded at ≡ None) ⊎ (definition_at after folded at ≡ Some d)
  found_after folded at e =
      let p : NameSpelling → Bool = λ m. same_key (key_of m) (record { name = folded; scope = at }) in
      subst (λ (ms : List NameSpelling). (find p ms ≡ None) ⊎ (find p ms ≡ Some d)) (sym updated) (find_updated p d index before.names e)

  means_it : (word : List ℕ) (k : NameKey) → found_name before scope word ≡ None → found_name after scope word ≡ Some k → k ≡ key_of d
  means_it word k none e =
      let parts = neither (definition_at before (fold word) scope) (definition_at before (fold word) None) none in
      key_is d k (definition_at after (fold word) scope) (definition_at after (fold word) None) (found_after (fold word) scope parts.0) (found_after (fold word) None parts.1) e

  abbrev mention : Bool → List ℕ → Option NameKey → NameMention
  mention b word found = if b then names.Var word else name_or_dangling word found

  word_becomes : (binders : Binders) (word : List ℕ) → Becomes (Some (bound_word before scope binders word)) (Some (bound_word after scope binders (spelled_word key_text (bound_word before scope binders word))))
  word_becomes binders word = go (is_bound_by binders word) refl (found_name before scope word) refl
    where
      of_dangling : found_name before scope word ≡ None → (o : Option NameKey) → found_name after scope word ≡ o → (Some (name_or_dangling word o) ≡ Some (names.Dangling word)) ⊎ (Some (name_or_dangling word o) ≡ Some (names.Name (key_of d)))
      of_dangling none None f = inl refl
      of_dangling none (Some k) f = inr (ap (λ (x : NameKey). Some (names.Name x)) (means_it word k none f))

      go : (b : Bool) → is_bound_by binders word ≡ b → (found : Option NameKey) → found_name before scope word ≡ found
          → Becomes (Some (mention b word found)) (Some (bound_word after scope binders (spelled_word key_text (mention b word found))))
      go true e found f = ap (λ (b : Bool). Some (mention b word (found_name after scope word))) e
      go false e (Some k) f = tt
      go false e None f =
          subst (λ (b : Bool). (Some (mention b word (found_name after scope word)) ≡ Some (names.Dangling word)) ⊎ (Some (mention b word (found_name after scope word)) ≡ Some (names.Name (key_of d)))) (sym e)
          (of_dangling f (found_name after scope word) refl)

  called_becomes : (binders : Binders) (word : List ℕ) (number : ℕ) → english word ≡ None → english (spelled_word key_text (bound_word before scope binders word)) ≡ Some number → Becomes (Some (bound_word before scope binders word)) None
  called_becomes binders word number none some = go (is_bound_by binders word) (found_name before scope word) some
    where
      go : (b : Bool) (found : Option NameKey) → english (spelled_word key_text (mention b word found)) ≡ Some number → Becomes (Some (mention b word found)) None
      go true found e = absurd (let no : None ≡ Some number = sym none ∙ e in cc)
      go false (Some k) e = tt
      go false None e = absurd (let no : None ≡ Some number = sym none ∙ e in cc)

  -- a word with its sheet, which stays
  module _ (stay : (name : Option (List ℕ)) → bound_sheet after (spelled_sheet (kept_sheet before after) (bound_sheet before name)) ≡ bound_sheet before name) where
    local_becomes : (name : Option (List ℕ)) (word : List ℕ)
        → Becomes (Some (bound_local before (bound_sheet before name) word)) (Some (bound_local after (bound_sheet after (spelled_sheet (kept_sheet before after) (bound_sheet before name))) (spelled_word key_text (bound_local before (bound_sheet before name) word))))
    local_becomes name word =
        subst (λ (s : SheetMention). Becomes (Some (bound_local before (bound_sheet before name) word)) (Some (bound_local after s (spelled_word key_text (bound_local before (bound_sheet before name) word))))) (sym (stay name))
        (there (bound_sheet before name))
      where
        -- one that dangled finds the definition that was updated, or nothing
        found : (id : ℕ) → (o : Option NameSpelling) → definition_at before (fold word) (Some id) ≡ o
            → Becomes (Some (name_or_dangling word (option_map key_of o))) (Some (bound_local after (sheets.Sheet id) (spelled_word key_text (name_or_dangling word (option_map key_of o)))))
        found id (Some m) f = tt
        found id None f = elim (found_after (fold word) (Some id) f) [
          | inl e ↦ inl (ap (λ (o : Option NameSpelling). Some (name_or_dangling word (option_map key_of o))) e)
          | inr e ↦ inr (ap (λ (o : Option NameSpelling). Some (name_or_dangling word (option_map key_of o))) e)
        ]

        there : (s : SheetMention) → Becomes (Some (bound_local before s word)) (Some (bound_local after s (spelled_word key_text (bound_local before s word))))
        there sheets.Own = inl refl
        there (sheets.Dangling typed) = inl refl
        there (sheets.Sheet id) = found id (definition_at before (fold word) (Some id)) refl

    tree_becomes : (t : Bound) → bound english before scope (spelled before t) ≡ t → AllZip Becomes (words_in t) (words_in (kept english before after keys scope t))
    tree_becomes t settled =
        subst (λ (u : Bound). AllZip Becomes (words_in u) (words_in (kept english before after keys scope u))) settled
        (words_become english scope scope before after (kept_sheet before after) key_text Becomes (record { word = word_becomes; none = refl; called = called_becomes }) local_becomes (spelled before t))

-- the whole book ----

module _ (b : Book) (valid : IsValidBook b) (u : Update) (index : ℕ) (found : updated_index b u ≡ Some index) (has_equals : Bool) (body : Formula) where
  abbrev n : Notations
  n = notations_in b

  abbrev new : Definition
  new = record { name = u.new_name; scope = new_scope_id b u; has_equals = has_equals; body = body }

  abbrev later : Scene
  later = scene_in (with_update b u has_equals body (Some index) b)

  names_are : later.names ≡ updated_at (λ m. spelling_of new) index (scene_in b).names
  names_are = updated_seen spelling_of (λ d. new) (λ m. spelling_of new) (λ d. refl) index b.definitions

  map_same : {X : Type 0} (xs : List X) → map (λ x. x) xs ≡ xs
  map_same [] = refl
  map_same (x ∷ xs) = ap (λ ys. x ∷ ys) (map_same xs)

  -- a sheet that was found is found
  stay : (name : Option (List ℕ)) → bound_sheet later (spelled_sheet (kept_sheet (scene_in b) later) (bound_sheet (scene_in b) name)) ≡ bound_sheet (scene_in b) name
  stay name = sheet_stays (scene_in b) later (book_named n (core_of b) (core_valid b valid)).differ (bound_sheet (scene_in b) name) (sheet_holds (scene_in b) name)

  -- sheets are what they were
  sheets_stay : (scope : Option ℕ) (t : Bound) → bound (english_function n) (scene_in b) scope (spelled (scene_in b) t) ≡ t → sheets_in (kept (english_function n) (scene_in b) later (keys_of_update b u) scope t) ≡ sheets_in t
  sheets_stay scope t settled =
      subst (λ (x : Bound). sheets_in (kept (english_function n) (scene_in b) later (keys_of_update b u) scope x) ≡ sheets_in x) settled
      (sheets_become (english_function n) scope scope (scene_in b) later (kept_sheet (scene_in b) later) (kept_name (scene_in b) later (keys_of_update b u)) (λ m. m)
      stay (spelled (scene_in b) t)
      ∙ map_same (sheets_in (bound (english_function n) (scene_in b) scope (spelled (scene_in b) t))))

  pooled_becomes : (scope : Option ℕ) (f : Formula) → IsPooled n (scene_in b) scope f → IsUpdatedFormula (new_key b u) f (kept_formula (english_function n) (scene_in b) later (keys_of_update b u) scope f)
  pooled_becomes scope (formulas.Tree t) h = (tree_becomes (english_function n) (scene_in b) later (spelling_of new) index names_are (keys_of_update b u) scope stay t h.settled, sheets_stay scope t h.settled)
  pooled_becomes scope (formulas.Raw text) h = refl

  kept_becomes : (scope : Option ℕ) (row column : ℤ) (f : Formula) → IsKeptFormula n (scene_in b) scope row column f → IsUpdatedFormula (new_key b u) f (kept_formula (english_function n) (scene_in b) later (keys_of_update b u) scope f)
  kept_becomes scope row column (formulas.Tree t) h = (tree_becomes (english_function n) (scene_in b) later (spelling_of new) index names_are (keys_of_update b u) scope stay t h.settled, sheets_stay scope t h.settled)
  kept_becomes scope row column (formulas.Raw text) h = refl

  words_are : (left : Book) → left ≡ changed_with (keys_of_update b u) (with_update b u has_equals body (Some index)) b → captured_sites (keys_of_update b u) (old_key b u) b left ≡ [] → UpdatesWords b left u
  words_are left is none =
      subst (λ (x : Book). captured_sites (keys_of_update b u) (old_key b u) b x ≡ [] → UpdatesWords b x u) (sym is)
      (λ clear. record {
        pools =
            zip_mapped (IsKeptPool n (scene_in b)) (λ (s t : Sheet). AllZip (IsUpdatedFormula (new_key b u)) s.pool t.pool) (with_kept_pool n (scene_in b) later (keys_of_update b u))
            (λ s h. zip_mapped (IsPooled n (scene_in b) (Some s.id)) (IsUpdatedFormula (new_key b u)) (kept_formula (english_function n) (scene_in b) later (keys_of_update b u) (Some s.id)) (pooled_becomes (Some s.id)) s.pool h) b.sheets
            valid.kept.pools;
        bodies =
            zip_updated (IsUpdatedBody (old_key b u) (new_key b u)) new index b.definitions (map (kept_in_body n (scene_in b) later (keys_of_update b u)) b.definitions)
            (zip_mapped (IsKeptBody n (scene_in b)) (IsUpdatedBody (old_key b u) (new_key b u)) (kept_in_body n (scene_in b) later (keys_of_update b u))
            (λ d h. OnFalse_from (same_key (key_of (spelling_of d)) (old_key b u)) _ (λ other. kept_becomes d.scope (pos 1) (pos 1) d.body h)) b.definitions valid.kept.bodies)
            (λ d e.
            let x = passes_at (is_named u.name (old_scope b u)) b.definitions index found in
            let some : Some x.0 ≡ Some d = sym x.1 ∙ e in
            let same : x.0 ≡ d = cc in
            OnFalse_from (same_key (key_of (spelling_of d)) (old_key b u)) _
            (λ other. absurd (both_ways (same_key (key_of (spelling_of d)) (old_key b u)) other (subst (λ (y : Definition). same_key (key_of (spelling_of y)) (old_key b u) ≡ true) same x.2))));
        uncaptured = clear;
      })
      none

no_sites : (sites : List Site) → has_sites sites ≡ false → sites ≡ []
no_sites [] e = refl
no_sites (site ∷ sites) e = cc

pub updated_is_meant : UpdatedIsMeant
unfolding update_name_step
updated_is_meant b after u fields valid e =
    let ok = accepted (first_refusal (update_causes b u)) (updated_book b u) after [] fields e in
    let clear = none_holds (update_causes b u) ok.0 in
    let body = some_of (update_body (notations_in b) (core_of b) u.body) clear.1.1.1.1.0 in
    of_index (updated_index b u) refl clear.1.1.1.1.1.0 body.0 body.1 ok.1
    (ap (captured_sites (keys_of_update b u) (old_key b u) b) ok.1 ∙ no_sites (update_sites b u) clear.1.1.1.1.1.1.0)
  where
    made : Body → Formula
    made body = formulas.Tree (bound (english_function (notations_in b)) (scene_updated b u) (new_scope_id b u) body.tree)

    of_index : (o : Option ℕ) → updated_index b u ≡ o → not (has_definition (core_of b) u.name (old_scope b u)) ≡ false → (body : Body) → update_body (notations_in b) (core_of b) u.body ≡ Some body → after ≡ updated_book b u
        → captured_sites (keys_of_update b u) (old_key b u) b after ≡ [] → UpdatesWords b after u
    of_index None f has body is left clear = let no : not false ≡ false = ap not (sym (none_passes_at (is_named u.name (old_scope b u)) b.definitions f)) ∙ has in cc
    of_index (Some index) f has body is left clear =
        words_are b valid u index f body.has_equals (made body) after
        (left ∙ ap (with_body b u) is ∙ ap (λ (o : Option ℕ). changed_with (keys_of_update b u) (with_update b u body.has_equals (made body) o) b) f) clear
