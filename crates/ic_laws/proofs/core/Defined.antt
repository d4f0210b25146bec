-- A book stays valid when a definition with a key of its own is added, and when one is taken out, over which its formulas
-- are kept.
use Rattle.std.proofs.Common.{◌≡◌, ℕ, List, [], ◌∷◌, ◌++◌, map, true, false, Option, Some, None, refl, ap, sym, subst, ◌∙◌, arith, nat_eq, inl, inr}
use Rattle.std.specs.Cmp.{IsEquivalence, and_equiv, nat_eq_equiv, on_equiv}
use Rattle.std.specs.Cmp.Lexicographic.{nat_list_eq_equiv}
use Rattle.std.specs.List.{IsDistinct, list_any, remove}
use Rattle.std.proofs.lemmas.Bool.{cases_Bool}
use Rattle.std.proofs.lemmas.List.{length-map, map-append}
use Rattle.std.proofs.lemmas.Map.Keys.{IsDistinct-push}
use Rattle.ic_laws.proofs.core.KeptBook.{KeepsTrees, in_body, mentioned, on_sheet, same_definitions, same_scene, same_sheets, valid_definitions, valid_sheets}
use Rattle.ic_laws.proofs.core.Lists.{all_pushed, all_removed, distinct_removed, removed_seen}
use Rattle.ic_laws.proofs.core.Made.{key, kept_ids, kept_keys, kept_names, made_valid}
use Rattle.ic_laws.specs.CoreBook.{CoreBook, Definition, scene_of, spelling_of}
use Rattle.ic_laws.specs.CoreStep.{changed_by, has_definition, is_named, with_definition, without_definition}
use Rattle.ic_laws.specs.Name.{agrees, fold}
use Rattle.ic_laws.specs.Notations.{Notations}
use Rattle.ic_laws.specs.Scene.{same_key, same_scope}
use Rattle.ic_laws.specs.ValidCore.{IsValidCore, IsValidDefinition}
use Rattle.ic_laws.specs.declared.scene.NameSpelling.{NameSpelling}
use Rattle.ic_laws.specs.declared.scene.Scene.{Scene}
use Rattle.ic_laws.specs.declared.scene.SheetName.{SheetName}
use Rattle.ic_laws.specs.declared.tree.NameKey.{NameKey}
use Rattle.ic_laws.proofs.binding.SceneLemmas.{same_scope_self as scope_refl}

no_scope : (a : Option ℕ) → same_scope None a ≡ same_scope a None
no_scope None = refl
no_scope (Some x) = refl

one_scope : (a : ℕ) (b : Option ℕ) → same_scope (Some a) b ≡ same_scope b (Some a)
one_scope a None = refl
one_scope a (Some b) = nat_eq_equiv.symm a b

pub scope_symm : (a b : Option ℕ) → same_scope a b ≡ same_scope b a
scope_symm None b = no_scope b
scope_symm (Some a) b = one_scope a b

scope_congr : (a b c : Option ℕ) → same_scope a b ≡ true → same_scope a c ≡ same_scope b c
scope_congr None None c e = refl
scope_congr None (Some b) c e = cc
scope_congr (Some a) None c e = cc
scope_congr (Some a) (Some b) None e = refl
scope_congr (Some a) (Some b) (Some c) e = nat_eq_equiv.congr a b c e

scope_equiv : IsEquivalence same_scope
scope_equiv = record { refl = scope_refl; symm = scope_symm; congr = scope_congr }

-- to have one key is an equivalence
pub same_key_equiv : IsEquivalence same_key
same_key_equiv = and_equiv (on_equiv (λ (k : NameKey). k.name) nat_list_eq_equiv) (on_equiv (λ (k : NameKey). k.scope) scope_equiv)

-- no definition has the key of a name that none has in this scope
key_is_new : (name : List ℕ) (scope : Option ℕ) (definitions : List Definition) → list_any (is_named name scope) definitions ≡ false → list_any (same_key (record { name = fold name; scope = scope })) (map key definitions) ≡ false
key_is_new name scope [] e = refl
key_is_new name scope (d ∷ definitions) e =
    let turned : same_key (record { name = fold name; scope = scope }) (key d) ≡ is_named name scope d = same_key_equiv.symm (record { name = fold name; scope = scope }) (key d) in
    elim (cases_Bool (is_named name scope d)) [
      | inl t ↦ let no : true ≡ false = rw t at e in cc
      | inr f ↦ rw (turned ∙ f) (key_is_new name scope definitions (rw f at e))
    ]

module _ (n : Notations) (book : CoreBook) (new : Definition) (valid : IsValidCore n book) (keeps : KeepsTrees n (scene_of book) (scene_of (with_definition new book))) (good : IsValidDefinition n (scene_of (with_definition new book)) new) (other : has_definition book new.name new.scope ≡ false) where
  abbrev before : Scene
  before = scene_of book

  abbrev later : Scene
  later = scene_of (with_definition new book)

  abbrev kept_bodies : List Definition
  kept_bodies = map (in_body n before later) book.definitions

  abbrev defined : CoreBook
  defined = changed_by n (with_definition new) book

  same_after : scene_of defined ≡ later
  same_after =
      ap (λ (x : List SheetName). record { sheets = x; names = map spelling_of (kept_bodies ++ new ∷ []) }) (same_sheets n before later mentioned (λ s. refl) book.sheets)
      ∙ ap (λ (x : List NameSpelling). record { sheets = later.sheets; names = x })
      (map-append spelling_of kept_bodies (new ∷ []) ∙ ap (λ x. x ++ spelling_of new ∷ []) (same_definitions n before later spelling_of (λ d. refl) book.definitions) ∙ sym (map-append spelling_of book.definitions (new ∷ [])))

  pub defined_valid : IsValidCore n defined
  defined_valid =
      made_valid n defined later same_after (omega (arith, valid.some_sheet, length-map book.sheets (on_sheet n before later)))
      (valid_sheets n before later keeps book.sheets valid.sheets)
      (all_pushed (IsValidDefinition n later) kept_bodies new (valid_definitions n before later keeps book.definitions valid.definitions) good)
      (subst (IsDistinct nat_eq) (sym (kept_ids n book later)) valid.ids_differ)
      (subst (IsDistinct agrees) (sym (kept_names n book later)) valid.names_differ)
      (subst (IsDistinct same_key) (sym (map-append key kept_bodies (new ∷ []) ∙ ap (λ keys. keys ++ key new ∷ []) (kept_keys n book later)))
      (IsDistinct-push same_key_equiv (map key book.definitions) (key new) valid.keys_differ (key_is_new new.name new.scope book.definitions other)))
      valid.locale valid.language

module _ (n : Notations) (book : CoreBook) (index : ℕ) (valid : IsValidCore n book) (keeps : KeepsTrees n (scene_of book) (scene_of (without_definition (Some index) book))) where
  abbrev before' : Scene
  before' = scene_of book

  abbrev later' : Scene
  later' = scene_of (without_definition (Some index) book)

  abbrev kept_bodies' : List Definition
  kept_bodies' = map (in_body n before' later') book.definitions

  abbrev undefined : CoreBook
  undefined = changed_by n (without_definition (Some index)) book

  same_after' : scene_of undefined ≡ later'
  same_after' =
      ap (λ (x : List SheetName). record { sheets = x; names = map spelling_of (remove kept_bodies' index) }) (same_sheets n before' later' mentioned (λ s. refl) book.sheets)
      ∙ ap (λ (x : List NameSpelling). record { sheets = later'.sheets; names = x })
      (removed_seen spelling_of kept_bodies' index ∙ ap (λ x. remove x index) (same_definitions n before' later' spelling_of (λ d. refl) book.definitions) ∙ sym (removed_seen spelling_of book.definitions index))

  pub undefined_valid : IsValidCore n undefined
  undefined_valid =
      made_valid n undefined later' same_after' (omega (arith, valid.some_sheet, length-map book.sheets (on_sheet n before' later')))
      (valid_sheets n before' later' keeps book.sheets valid.sheets)
      (all_removed (IsValidDefinition n later') kept_bodies' index (valid_definitions n before' later' keeps book.definitions valid.definitions))
      (subst (IsDistinct nat_eq) (sym (kept_ids n book later')) valid.ids_differ)
      (subst (IsDistinct agrees) (sym (kept_names n book later')) valid.names_differ)
      (subst (IsDistinct same_key) (sym (removed_seen key kept_bodies' index ∙ ap (λ keys. remove keys index) (kept_keys n book later')))
      (distinct_removed same_key_equiv (map key book.definitions) index valid.keys_differ))
      valid.locale valid.language

-- where no definition is taken out, the formulas are kept all the same
pub same_again : (n : Notations) (book : CoreBook) → IsValidCore n book → KeepsTrees n (scene_of book) (scene_of book) → IsValidCore n (changed_by n (without_definition None) book)
same_again n book valid keeps =
    let scene : Scene = scene_of book in
    made_valid n (changed_by n (without_definition None) book) scene (same_scene n scene scene book) (omega (arith, valid.some_sheet, length-map book.sheets (on_sheet n scene scene)))
    (valid_sheets n scene scene keeps book.sheets valid.sheets) (valid_definitions n scene scene keeps book.definitions valid.definitions)
    (subst (IsDistinct nat_eq) (sym (kept_ids n book scene)) valid.ids_differ) (subst (IsDistinct agrees) (sym (kept_names n book scene)) valid.names_differ)
    (subst (IsDistinct same_key) (sym (kept_keys n book scene)) valid.keys_differ) valid.locale valid.language
