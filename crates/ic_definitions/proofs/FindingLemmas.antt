-- What a search by a key finds among definitions.
use Rattle.std.proofs.Common.{◌≡◌, ℕ, suc, ◌+◌, ◌<◌, List, [], ◌∷◌, ◌++◌, map, Bool, true, false, cond, ◌&&◌, Option, Some, None, option_map, option_to_list, is_some, refl, sym, ap, ap₂, ◌∙◌, arith}
use Rattle.std.specs.Prelude.{bytes_eq, find, position, slice_get}
use Rattle.std.specs.Option.{option_and_then, option_or}
use Rattle.std.proofs.lemmas.Bool.{lt-ltb, ltb-true, ne_eqb}
use Rattle.std.proofs.lemmas.Iterator.Adapters.{position_from-zero}
use Rattle.std.proofs.lemmas.List.{map-append}
use Rattle.std.proofs.lemmas.List.Folds.{find-append}
use Rattle.ic_laws.proofs.keeping.NameChanges.{key_at, same_key_from}
use Rattle.ic_laws.specs.CoreBook.{Definition, spelling_of}
use Rattle.ic_laws.specs.CoreStep.{is_named}
use Rattle.ic_laws.specs.Greatest.{greatest}
use Rattle.ic_laws.specs.Name.{fold}
use Rattle.ic_laws.specs.Scene.{definition_at, found_name, key_of, name_of_key, same_key, same_scope}
use Rattle.ic_laws.specs.declared.scene.NameSpelling.{NameSpelling}
use Rattle.ic_laws.specs.declared.scene.Scene.{Scene}
use Rattle.ic_laws.specs.declared.tree.NameKey.{NameKey}
use Rattle.ic_definitions.specs.Named.{definitions_scene, index_with_key, is_past, key_in, scopes_of}
use Rattle.ic_laws.proofs.General.{counted_later}

-- ---- by a test

-- the first place of what passes is that of the first item, or else one more than among the others
pub position_step : {X : Type 0} (p : X → Bool) (x : X) (xs : List X) → position p (x ∷ xs) ≡ cond (p x) (Some 0) (option_map suc (position p xs))
position_step p x xs =
    position_from-zero p (x ∷ xs) ∙ ap (cond (p x) (Some 0)) (counted_later p 0 xs ∙ ap (option_map suc) (sym (position_from-zero p xs)))

-- ---- by a key

abbrev pub has_key : NameKey → Definition → Bool
has_key key definition = same_key (key_in definition) key

pub place_is : (key : NameKey) (ds : List Definition) → index_with_key key ds ≡ position (has_key key) ds
place_is key [] = refl
place_is key (d ∷ ds) = ap (λ o. cond (has_key key d) (Some 0) (option_map suc o)) (place_is key ds) ∙ sym (position_step (has_key key) d ds)

-- the place that a key finds is the index of the definition of an agreeing name
pub place_of_name : (name : List ℕ) (scope : Option ℕ) (ds : List Definition) → index_with_key (key_at (fold name) scope) ds ≡ position (is_named name scope) ds
place_of_name name scope ds = place_is (key_at (fold name) scope) ds

-- the definition at the place that was found is the first with the key
pub first_there : (key : NameKey) (ds : List Definition) → option_and_then (slice_get ds) (index_with_key key ds) ≡ find (has_key key) ds
first_there key [] = refl
first_there key (d ∷ ds) = step (has_key key d) (index_with_key key ds) (first_there key ds)
  where
    step : (b : Bool) (place : Option ℕ) → option_and_then (slice_get ds) place ≡ find (has_key key) ds → option_and_then (slice_get (d ∷ ds)) (cond b (Some 0) (option_map suc place)) ≡ cond b (Some d) (find (has_key key) ds)
    step true place e = refl
    step false None e = e
    step false (Some n) e = e

-- its name is that of the key
pub name_of_first : (key : NameKey) (ds : List Definition) → option_map (λ d. d.name) (find (has_key key) ds) ≡ name_of_key (definitions_scene ds) key
name_of_first key [] = refl
name_of_first key (d ∷ ds) = step (has_key key d) (name_of_first key ds)
  where
    step : (b : Bool) → option_map (λ x. x.name) (find (has_key key) ds) ≡ name_of_key (definitions_scene ds) key
        → option_map (λ x. x.name) (cond b (Some d) (find (has_key key) ds)) ≡ option_map (λ (x : NameSpelling). x.name) (cond b (Some (spelling_of d)) (definition_at (definitions_scene ds) key.name key.scope))
    step true e = refl
    step false e = e

-- a key that has a place is found, and no other key
pub key_there : (folded : List ℕ) (scope : Option ℕ) (ds : List Definition) → option_map key_of (definition_at (definitions_scene ds) folded scope) ≡ cond (is_some (index_with_key (key_at folded scope) ds)) (Some (key_at folded scope)) None
key_there folded scope [] = refl
key_there folded scope (d ∷ ds) = step (has_key (key_at folded scope) d) (index_with_key (key_at folded scope) ds) (λ t. same_key_from (key_in d) (key_at folded scope) t) refl (key_there folded scope ds)
  where
    step : (b : Bool) (place : Option ℕ) → (b ≡ true → key_in d ≡ key_at folded scope) → has_key (key_at folded scope) d ≡ b
        → option_map key_of (definition_at (definitions_scene ds) folded scope) ≡ cond (is_some place) (Some (key_at folded scope)) None
        → option_map key_of (cond b (Some (spelling_of d)) (definition_at (definitions_scene ds) folded scope)) ≡ cond (is_some (cond b (Some 0) (option_map suc place))) (Some (key_at folded scope)) None
    step true place same is e = ap (λ k. Some k) (same refl)
    step false None same is e = e
    step false (Some n) same is e = e

module _ (ds : List Definition) (name folded : List ℕ) (scope : Option ℕ) (key : NameKey) (place : Option ℕ) (same : folded ≡ fold name) (put : key ≡ key_at folded scope) (looked_up : place ≡ index_with_key (key_at folded scope) ds) where
  its_key : option_map key_of (definition_at (definitions_scene ds) (fold name) scope) ≡ cond (is_some place) (Some key) None
  its_key =
      ap (λ f. option_map key_of (definition_at (definitions_scene ds) f scope)) (sym same) ∙ key_there folded scope ds
      ∙ ap₂ (λ o k. cond (is_some o) (Some k) None) (sym looked_up) (sym put)

  pub key_found : is_some place ≡ true → Some key ≡ option_map key_of (definition_at (definitions_scene ds) (fold name) scope)
  key_found t = sym (its_key ∙ ap (λ b. cond b (Some key) None) t)

pub key_lacking : (ds : List Definition) (name folded : List ℕ) (scope : Option ℕ) (place : Option ℕ) → folded ≡ fold name → place ≡ index_with_key (key_at folded scope) ds → is_some place ≡ false → None ≡ option_map key_of (definition_at (definitions_scene ds) (fold name) scope)
key_lacking ds name folded scope place same looked_up f =
    sym (its_key ds name folded scope (key_at folded scope) place same refl looked_up ∙ ap (λ b. cond b (Some (key_at folded scope)) None) f)

-- what is seen of the one that comes first
either_seen : {X : Type 0} (g : NameSpelling → X) (a b : Option NameSpelling) → option_map g (option_or a b) ≡ option_or (option_map g a) (option_map g b)
either_seen g None b = refl
either_seen g (Some d) b = refl

-- the local one, or else the one that is local to none
pub found_either : (scene : Scene) (scope : Option ℕ) (word : List ℕ) (local global : Option NameKey)
    → local ≡ option_map key_of (definition_at scene (fold word) scope) → global ≡ option_map key_of (definition_at scene (fold word) None) → option_or local global ≡ found_name scene scope word
found_either scene scope word local global e f =
    ap₂ option_or e f ∙ sym (either_seen key_of (definition_at scene (fold word) scope) (definition_at scene (fold word) None))

-- among those of two lists, the one of the first list, or else the one of the second
pub found_joined : {X : Type 0} (g : NameSpelling → X) (xs ys : List Definition) (folded : List ℕ) (scope : Option ℕ) (first : Option X) → first ≡ option_map g (definition_at (definitions_scene xs) folded scope)
    → option_or first (option_map g (definition_at (definitions_scene ys) folded scope)) ≡ option_map g (definition_at (definitions_scene (xs ++ ys)) folded scope)
found_joined g xs ys folded scope first e =
    let passes : NameSpelling → Bool = λ d. bytes_eq (fold d.name) folded && same_scope d.scope scope in
    ap (λ o. option_or o (option_map g (definition_at (definitions_scene ys) folded scope))) e
    ∙ sym (either_seen g (definition_at (definitions_scene xs) folded scope) (definition_at (definitions_scene ys) folded scope))
    ∙ ap (option_map g) (sym (ap (find passes) (map-append spelling_of xs ys) ∙ find-append passes (map spelling_of xs) (map spelling_of ys)))

-- ---- past the greatest id

apart : (scope : Option ℕ) (ids : List ℕ) (id : ℕ) → greatest (option_to_list scope ++ ids) < id → (same_scope scope (Some id) ≡ false) × (greatest ids < id)
apart None ids id h = (refl, h)
apart (Some other) ids id h = (ne_eqb other id (λ same. omega (arith, same, h)), omega (arith, h))

neither : (b c : Bool) → c ≡ false → (b && c) ≡ false
neither true c h = h
neither false c h = refl

-- no definition is local to a sheet whose id is greater than each that one is local to
pub none_past : (name : List ℕ) (scope : Option ℕ) (ds : List Definition) → is_past (greatest (scopes_of ds)) scope ≡ true → index_with_key (key_at name scope) ds ≡ None
none_past name None ds h = absurd (cc)
none_past name (Some id) [] h = refl
none_past name (Some id) (d ∷ ds) h =
    let p = apart d.scope (scopes_of ds) id (ltb-true (greatest (scopes_of (d ∷ ds))) id h) in
    ap (λ b. cond b (Some 0) (option_map suc (index_with_key (key_at name (Some id)) ds))) (neither _ _ p.0)
    ∙ ap (option_map suc) (none_past name (Some id) ds (lt-ltb (greatest (scopes_of ds)) id p.1))
