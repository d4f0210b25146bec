-- An update of a definition that keeps its name and scope, in a book whose sheets hold nothing: it is accepted, captures nothing, and
-- leaves the definition with its new body in the place of the old one.
use mathlib.Core.Path.{fun_ext}
use Rattle.std.proofs.Common.{◌≡◌, ℕ, List, [], ◌∷◌, ◌++◌, flat_map, length, map, Bool, true, false, cond, not, ◌&&◌, ◌||◌, Option, None, Some, Ok, refl, sym, ap, ap₂, subst, ◌∙◌}
use Rattle.std.proofs.lemmas.Bool.{and_right}
use Rattle.std.proofs.lemmas.List.{map-append}
use Rattle.std.specs.List.{AllByRecursion, IsDistinct, list_any, zip}
use Rattle.std.specs.Prelude.{is_none, pos, position, unwrap_or}
use Rattle.ic_laws.proofs.core.Defined.{same_key_equiv}
use Rattle.ic_laws.proofs.core.Named.{book_named}
use Rattle.ic_laws.proofs.keeping.Holds.{settled_holds}
use Rattle.ic_laws.proofs.keeping.Kept.{kept_same}
use Rattle.ic_laws.proofs.keeping.NameChanges.{key_itself, same_key_from}
use Rattle.ic_laws.proofs.kept.Kept.{english_by_fold}
use Rattle.ic_laws.specs.Binding.{bound}
use Rattle.ic_laws.specs.CoreBook.{Definition, spelling_of}
use Rattle.ic_laws.specs.CoreStep.{has_definition, is_named, scope_of, updated_at}
use Rattle.ic_laws.specs.FormulaReading.{Body}
use Rattle.ic_laws.specs.Keeping.{KeyChange, changed_key, kept_formula, kept_in_body, same_keys}
use Rattle.ic_laws.specs.Name.{agrees, is_identifier}
use Rattle.ic_laws.specs.Notations.{Notations, english_function}
use Rattle.ic_laws.specs.Scene.{SheetsDiffer, key_of, same_key, same_scope}
use Rattle.ic_laws.specs.ValidCore.{IsKeptBody, IsKeptFormula}
use Rattle.ic_laws.specs.declared.scene.NameSpelling.{NameSpelling}
use Rattle.ic_laws.specs.declared.scene.Scene.{Scene}
use Rattle.ic_laws.specs.declared.scene.SheetName.{SheetName}
use Rattle.ic_laws.specs.declared.tree.Formula.{Formula}
use Rattle.ic_laws.specs.declared.tree.Formula.TheVariants as formulas
use Rattle.ic_laws.specs.declared.tree.NameKey.{NameKey}
use Rattle.ic_laws.specs.declared.tree.NameMention.{NameMention}
use Rattle.ic_laws.specs.declared.tree.NameMention.TheVariants as names
use Rattle.ic_tree.proofs.NotationLaws.{notations_are}
use Rattle.ic_machine.specs.Book.{Book, Entry, Stepped, core_of, notations_in, scene_in}
use Rattle.ic_machine.specs.Capture.{captured_at, captured_body, captured_cells, captured_formula, captured_sites, has_sites, is_captured, words_in}
use Rattle.ic_machine.specs.Changed.{changed_with, with_kept_formulas}
use Rattle.ic_machine.specs.Content.{formula_index}
use Rattle.ic_machine.specs.Kept.{StaysValid}
use Rattle.ic_machine.specs.Refusal.{DefinitionSite, Site}
use Rattle.ic_machine.specs.Valid.{IsValidBook}
use Rattle.ic_machine.specs.subjects.Definitions as definitions
use Rattle.ic_machine.specs.subjects.Definitions.{Update, captures, keys_of_update, meets_other, new_scope_id, old_key, old_scope, update_body, update_causes, update_name_step, update_of, updated_book, updated_index, with_body, with_update}
use Rattle.ic_machine.proofs.as_core.CoreLemmas.{no_cells}
use Rattle.ic_machine.proofs.as_core.CoreValid.{core_valid}
use Rattle.ic_machine.proofs.valid.NamesStay.{definitions_stay}
use Rattle.ic_machine.proofs.valid.ValidLemmas.{all_of}
use Rattle.ic_laws.proofs.core.Lists.{none_passes}
use Rattle.ic_dump.specs.Stages.{bare_sheet, with_bare}
use Rattle.ic_dump.proofs.BareBooks.{kept_same_bare, scene_bare, unrefused}
use Rattle.ic_dump.proofs.ListLemmas.{any_seam, back_holds, middle_differs, position_seam, unmapped_holds, updated_seam}

abbrev key : Definition → NameKey
key d = key_of (spelling_of d)

-- Nothing is captured where formulas stay. ----

words_same : (ws : List (Option NameMention)) → list_any (λ (p : Option NameMention × Option NameMention). is_captured same_keys p.0 p.1) (zip ws ws) ≡ false
words_same [] = refl
words_same (None ∷ ws) = words_same ws
words_same (Some (names.Var word) ∷ ws) = words_same ws
words_same (Some (names.Dangling word) ∷ ws) = words_same ws
words_same (Some (names.Name k) ∷ ws) = ap₂ (λ (a b : Bool). not a || b) (key_itself k) (words_same ws)

captured_same : (f : Formula) → captured_formula same_keys f f ≡ false
captured_same (formulas.Raw text) = refl
captured_same (formulas.Tree t) = words_same (words_in t)

no_site : (a b : Bool) (k : NameKey) → b ≡ false → (let none : List Site = [] in cond a [] (cond b (DefinitionSite k ∷ []) []) ≡ none)
no_site true b k e = refl
no_site false b k e = ap (λ (c : Bool). let sites : List Site = cond c (DefinitionSite k ∷ []) [] in sites) e

cells_same : (sheets : List SheetName) → (let none : List Site = [] in flat_map (captured_cells same_keys) (zip (map bare_sheet sheets) (map bare_sheet sheets)) ≡ none)
cells_same [] = refl
cells_same (s ∷ sheets) =
    ap₂ (λ (xs ys : List Site). xs ++ ys)
    (ap (flat_map (λ (entry : Entry). captured_at same_keys (bare_sheet s) (bare_sheet s) entry.0 (formula_index entry.1))) no_cells) (cells_same sheets)

module _ (updated : NameKey) where
  bodies_same : (ds : List Definition) → (let none : List Site = [] in flat_map (captured_body same_keys updated) (zip ds ds) ≡ none)
  bodies_same [] = refl
  bodies_same (d ∷ ds) = ap₂ (λ (xs ys : List Site). xs ++ ys) (no_site (same_key updated (key d)) (captured_formula same_keys d.body d.body) (key d) (captured_same d.body)) (bodies_same ds)

  bodies_but_one : (done : List Definition) (p d : Definition) (rest : List Definition) → same_key updated (key p) ≡ true → (let none : List Site = [] in flat_map (captured_body same_keys updated) (zip (done ++ p ∷ rest) (done ++ d ∷ rest)) ≡ none)
  bodies_but_one [] p d rest e =
      ap₂ (λ (xs ys : List Site). xs ++ ys) (ap (λ (b : Bool). let sites : List Site = cond b [] (cond (captured_formula same_keys p.body d.body) (DefinitionSite (key p) ∷ []) []) in sites) e) (bodies_same rest)
  bodies_but_one (x ∷ done) p d rest e =
      ap₂ (λ (xs ys : List Site). xs ++ ys) (no_site (same_key updated (key x)) (captured_formula same_keys x.body x.body) (key x) (captured_same x.body)) (bodies_but_one done p d rest e)

-- a key that becomes itself
keys_stay : (k : NameKey) → changed_key k k ≡ same_keys
keys_stay k = fun_ext (λ other. by_test other (same_key k other) refl)
  where
    by_test : (other : NameKey) (b : Bool) → same_key k other ≡ b → cond b k other ≡ other
    by_test other true e = same_key_from k other e
    by_test other false e = refl

-- Bodies of a valid book stay over no change. ----

module _ (b : Book) (valid : IsValidBook b) where
  formula_stays : (scope : Option ℕ) (f : Formula) → IsKeptFormula (notations_in b) (scene_in b) scope (pos 1) (pos 1) f → kept_formula (english_function (notations_in b)) (scene_in b) (scene_in b) same_keys scope f ≡ f
  formula_stays scope (formulas.Raw text) kept = refl
  formula_stays scope (formulas.Tree t) kept =
      let n : Notations = notations_in b in
      let differ : SheetsDiffer (scene_in b) = (book_named n (core_of b) (core_valid b valid)).differ in
      ap formulas.Tree
      (kept_same (english_function n) (scene_in b) (scene_in b) scope differ (english_by_fold n (notations_are b.tables valid.tables)) t kept.settled (settled_holds (english_function n) (scene_in b) scope t kept.settled))

  bodies_stay : AllByRecursion (λ (d : Definition). kept_in_body (notations_in b) (scene_in b) (scene_in b) same_keys d ≡ d) b.definitions
  bodies_stay =
      all_of (IsKeptBody (notations_in b) (scene_in b)) (λ (d : Definition). kept_in_body (notations_in b) (scene_in b) (scene_in b) same_keys d ≡ d)
      (λ d kept. ap (λ (f : Formula). record d { body = f }) (formula_stays d.scope d.body kept)) b.definitions valid.kept.bodies

-- The update. ----

module _ (start : Book) (sheets : List SheetName) (done : List Definition) (d : Definition) (rest : List Definition) (had : Bool) (was : Formula) where
  abbrev p : Definition
  p = record d { has_equals = had; body = was }

  abbrev old : Book
  old = with_bare sheets (done ++ record d { has_equals = had; body = was } ∷ rest) start

  abbrev new : Book
  new = with_bare sheets (done ++ d ∷ rest) start

  module _ (valid : IsValidBook (with_bare sheets (done ++ record d { has_equals = had; body = was } ∷ rest) start)) (index : Option ℕ) (scoped : scope_of (core_of (with_bare sheets (done ++ record d { has_equals = had; body = was } ∷ rest) start)) index ≡ Some d.scope)
      (text : List ℕ) (body : Body) (reads : update_body (notations_in start) (core_of (with_bare sheets (done ++ record d { has_equals = had; body = was } ∷ rest) start)) text ≡ Some body) (has : body.has_equals ≡ d.has_equals)
      (bound_is : formulas.Tree (bound (english_function (notations_in start)) (scene_in (with_bare sheets (done ++ record d { has_equals = had; body = was } ∷ rest) start)) d.scope body.tree) ≡ d.body) where
    abbrev u : Update
    u = update_of d.name index d.name index text

    abbrev n : Notations
    n = notations_in start

    scope_is : old_scope old u ≡ d.scope
    scope_is = ap (λ (o : Option (Option ℕ)). unwrap_or o None) scoped

    apart : AllByRecursion (λ (x : Definition). is_named d.name d.scope x ≡ false) done
    apart =
        let parts = middle_differs same_key_equiv (map key done) (key p) (map key rest) (subst (IsDistinct same_key) (map-append key done (p ∷ rest)) valid.definitions.differ) in
        all_of (λ (x : Definition). same_key (key p) (key x) ≡ false) (λ (x : Definition). is_named d.name d.scope x ≡ false) (λ x e. same_key_equiv.symm (key x) (key p) ∙ e) done
        (unmapped_holds key (λ (k : NameKey). same_key (key p) k ≡ false) done (none_passes (same_key (key p)) (map key done) parts.0))

    itself : is_named d.name d.scope p ≡ true
    itself = key_itself (key d)

    index_is : updated_index old u ≡ Some (length done)
    index_is = ap (λ (scope : Option ℕ). position (is_named d.name scope) (done ++ p ∷ rest)) scope_is ∙ position_seam (is_named d.name d.scope) done p rest apart itself

    there_is : has_definition (core_of old) d.name d.scope ≡ true
    there_is = any_seam (is_named d.name d.scope) done p rest itself

    keys_are : keys_of_update old u ≡ same_keys
    keys_are = keys_stay (old_key old u)

    abbrev put : Option ℕ → Bool → Formula → Book → Book
    put scope h f b = record b { definitions = updated_at (λ x. let made : Definition = record { name = d.name; scope = scope; has_equals = h; body = f } in made) (length done) b.definitions }

    put_is : (h : Bool) (f : Formula) → put d.scope h f old ≡ with_bare sheets (done ++ record { name = d.name; scope = d.scope; has_equals = h; body = f } ∷ rest) start
    put_is h f =
        ap (λ (ds : List Definition). with_bare sheets ds start) (updated_seam (λ x. let made : Definition = record { name = d.name; scope = d.scope; has_equals = h; body = f } in made) done p rest)

    scene_is : (h : Bool) (f : Formula) → scene_in (put d.scope h f old) ≡ scene_in old
    scene_is h f =
        let seen : (xs : List NameSpelling) → Scene = λ xs. record { sheets = sheets; names = xs } in
        let made : Definition = record { name = d.name; scope = d.scope; has_equals = h; body = f } in
        ap scene_in (put_is h f) ∙ scene_bare sheets (done ++ made ∷ rest) start
        ∙ ap seen (map-append spelling_of done (made ∷ rest) ∙ sym (map-append spelling_of done (p ∷ rest))) ∙ sym (scene_bare sheets (done ++ p ∷ rest) start)

    abbrev made_body : Option ℕ → Formula
    made_body scope = formulas.Tree (bound (english_function (notations_in start)) (scene_in (put scope false (formulas.Raw []) old)) scope body.tree)

    left_is : updated_book old u ≡ new
    left_is =
        ap (with_body old u) reads
        ∙ ap
        (λ (o : Option ℕ).
        changed_with (keys_of_update old u) (with_update old u body.has_equals (formulas.Tree (bound (english_function n) (scene_in (with_update old u false (formulas.Raw []) o old)) (new_scope_id old u) body.tree)) o) old)
        index_is
        ∙ ap (λ (scope : Option ℕ). changed_with (keys_of_update old u) (put scope body.has_equals (made_body scope)) old) scope_is
        ∙ ap (λ (keys : KeyChange). changed_with keys (put d.scope body.has_equals (made_body d.scope)) old) keys_are
        ∙ ap (λ (scene : Scene). put d.scope body.has_equals (made_body d.scope) (with_kept_formulas n (scene_in old) scene same_keys old)) (scene_is body.has_equals (made_body d.scope))
        ∙ ap (put d.scope body.has_equals (made_body d.scope)) (kept_same_bare n (scene_in old) (scene_in old) same_keys sheets (done ++ p ∷ rest) start (bodies_stay old valid))
        ∙ put_is body.has_equals (made_body d.scope)
        ∙ ap₂ (λ (h : Bool) (f : Formula). let made : Definition = record { name = d.name; scope = d.scope; has_equals = h; body = f } in with_bare sheets (done ++ made ∷ rest) start) has
        (ap (λ (scene : Scene). formulas.Tree (bound (english_function n) scene d.scope body.tree)) (scene_is false (formulas.Raw [])) ∙ bound_is)

    uncaptured : captures old u ≡ false
    uncaptured =
        ap has_sites
        (ap (captured_sites (keys_of_update old u) (old_key old u) old) left_is
        ∙ ap₂ (λ (keys : KeyChange) (k : NameKey). captured_sites keys k old new) keys_are (ap (λ (scope : Option ℕ). key_of (record { name = d.name; scope = scope })) scope_is)
        ∙ ap₂ (λ (xs ys : List Site). xs ++ ys) (cells_same sheets) (bodies_but_one (key d) done p d rest (key_itself (key d))))

    alone : meets_other old u ≡ false
    alone =
        ap (λ (scope : Option ℕ). has_definition (core_of old) d.name scope && not (agrees d.name d.name && same_scope scope scope)) scope_is
        ∙ and_right (has_definition (core_of old) d.name d.scope) (not (agrees d.name d.name && same_scope d.scope d.scope)) (ap not (key_itself (key d)))

    pub updated : update_name_step u old ≡ Ok (new, [])
    unfolding update_name_step
    updated =
        unrefused (update_causes old u) (updated_book old u) [] (
          ap not (back_holds (λ (x : Definition). is_identifier x.name ≡ true) done (p ∷ rest) valid.definitions.names).0,
          (
            ap is_none scoped,
            (ap is_none scoped, (alone, (ap is_none reads, (ap (λ (scope : Option ℕ). not (has_definition (core_of old) d.name scope)) scope_is ∙ ap not there_is, (uncaptured, tt))))),
          ),
        )
        ∙ ap (λ (b : Book). let o : Stepped Book = Ok (b, []) in o) left_is

    pub updated_valid : IsValidBook new
    updated_valid = subst StaysValid updated (definitions_stay old valid (definitions.UpdateDefinedName u))
