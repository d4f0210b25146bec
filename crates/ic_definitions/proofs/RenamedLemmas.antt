-- What is found among definitions where the one at an index has another name and another scope.
use Rattle.std.proofs.Common.{◌≡◌, ℕ, zero, suc, List, [], ◌∷◌, map, length, Bool, true, false, cond, not, ◌&&◌, nat_eq, nat_lt, Option, Some, None, option_map, is_some, refl, sym, ap, ap₂, ◌∙◌, arith}
use Rattle.std.specs.Prelude.{find, slice_get}
use Rattle.std.specs.List.{AllByRecursion, IsDistinct}
use Rattle.std.specs.Option.{option_and_then}
use Rattle.std.proofs.lemmas.Map.Keys.{IsDistinct-head, IsDistinct-tail}
use Rattle.ic_laws.proofs.binding.SceneLemmas.{found_passes}
use Rattle.ic_laws.proofs.keeping.NameChanges.{key_at, same_key_flip, same_key_from}
use Rattle.ic_laws.specs.CoreBook.{Definition, spelling_of}
use Rattle.ic_laws.specs.CoreStep.{updated_at}
use Rattle.ic_laws.specs.Name.{fold}
use Rattle.ic_laws.specs.Scene.{definition_at, key_of, name_of_key, same_key}
use Rattle.ic_laws.specs.declared.scene.NameSpelling.{NameSpelling}
use Rattle.ic_laws.specs.declared.scene.Scene.{Scene}
use Rattle.ic_laws.specs.declared.tree.NameKey.{NameKey}
use Rattle.ic_definitions.specs.Named.{index_with_key, is_before, is_there, key_in, renamed_scene}
use Rattle.ic_definitions.proofs.FindingLemmas.{has_key}

-- a key that has a name is found, and no other key
key_with_name : (scene : Scene) (folded : List ℕ) (scope : Option ℕ) → option_map key_of (definition_at scene folded scope) ≡ cond (is_some (name_of_key scene (key_at folded scope))) (Some (key_at folded scope)) None
key_with_name scene folded scope = step (definition_at scene folded scope) refl
  where
    step : (o : Option NameSpelling) → definition_at scene folded scope ≡ o → option_map key_of o ≡ cond (is_some (option_map (λ (d : NameSpelling). d.name) o)) (Some (key_at folded scope)) None
    step None e = refl
    step (Some d) e = ap (λ k. Some k) (same_key_from (key_of d) (key_at folded scope) (found_passes (λ x. same_key (key_of x) (key_at folded scope)) scene.names d e))

-- whether there is a name tells whether it is found
its_key : {X : Type 0} (chars_of : X → List ℕ) (scene : Scene) (folded : List ℕ) (scope : Option ℕ) (key : NameKey) (name : Option X) (b : Bool) → key ≡ key_at folded scope → option_map chars_of name ≡ name_of_key scene key → is_some name ≡ b
    → cond b (Some key) None ≡ option_map key_of (definition_at scene folded scope)
its_key {X} chars_of scene folded scope key name b is named some =
    sym (key_with_name scene folded scope ∙ ap₂ (λ t k. cond t (Some k) None) (ap (λ k. is_some (name_of_key scene k)) (sym is) ∙ ap is_some (sym named) ∙ seen name ∙ some) (sym is))
  where
    seen : (o : Option X) → is_some (option_map chars_of o) ≡ is_some o
    seen None = refl
    seen (Some x) = refl

pub key_named : {X : Type 0} (chars_of : X → List ℕ) (scene : Scene) (folded : List ℕ) (scope : Option ℕ) (key : NameKey) (name : Option X) → key ≡ key_at folded scope → option_map chars_of name ≡ name_of_key scene key → is_some name ≡ true
    → Some key ≡ option_map key_of (definition_at scene folded scope)
key_named chars_of scene folded scope key name is named some = its_key chars_of scene folded scope key name true is named some

pub key_unnamed : {X : Type 0} (chars_of : X → List ℕ) (scene : Scene) (folded : List ℕ) (scope : Option ℕ) (key : NameKey) (name : Option X) → key ≡ key_at folded scope → option_map chars_of name ≡ name_of_key scene key → is_some name ≡ false
    → None ≡ option_map key_of (definition_at scene folded scope)
key_unnamed chars_of scene folded scope key name is named none = its_key chars_of scene folded scope key name false is named none

module _ (key : NameKey) where
  abbrev passes : NameSpelling → Bool
  passes m = same_key (key_of m) key

  first_spelled : (ds : List Definition) → find passes (map spelling_of ds) ≡ option_map spelling_of (option_and_then (slice_get ds) (index_with_key key ds))
  first_spelled [] = refl
  first_spelled (d ∷ ds) = step (has_key key d) (index_with_key key ds) (first_spelled ds)
    where
      step : (b : Bool) (place : Option ℕ) → find passes (map spelling_of ds) ≡ option_map spelling_of (option_and_then (slice_get ds) place)
          → cond b (Some (spelling_of d)) (find passes (map spelling_of ds)) ≡ option_map spelling_of (option_and_then (slice_get (d ∷ ds)) (cond b (Some 0) (option_map suc place)))
      step true place e = refl
      step false None e = e
      step false (Some n) e = e

  none_spelled : (k : NameKey) (ds : List Definition) → same_key k key ≡ true → AllByRecursion (λ q. same_key k q ≡ false) (map key_in ds) → find passes (map spelling_of ds) ≡ None
  none_spelled k [] e h = refl
  none_spelled k (d ∷ ds) e h =
      let is : k ≡ key = same_key_from k key e in
      ap₂ (λ b found. cond b (Some (spelling_of d)) found) (same_key_flip (key_in d) key ∙ ap (λ q. same_key q (key_in d)) (sym is) ∙ h.0) (none_spelled k ds e h.1)

  not_before_first : (place : Option ℕ) → is_before 0 place ≡ false
  not_before_first None = refl
  not_before_first (Some n) = grind arith

  module _ (new : NameSpelling) where
    -- the one at the index, where it has the key and no one before it has
    abbrev chosen : Bool → ℕ → Option ℕ → List Definition → Option NameSpelling
    chosen hit index place ds = cond (hit && not (is_before index place)) (Some new) (cond (is_there index place) None (option_map spelling_of (option_and_then (slice_get ds) place)))

    at_first : (x : Definition) (ds : List Definition) (hit b : Bool) (place : Option ℕ) → (b ≡ true → find passes (map spelling_of ds) ≡ None)
        → find passes (map spelling_of ds) ≡ option_map spelling_of (option_and_then (slice_get ds) place)
        → cond hit (Some new) (find passes (map spelling_of ds)) ≡ chosen hit 0 (cond b (Some 0) (option_map suc place)) (x ∷ ds)
    at_first x ds true b place none e = sym (ap (λ t. cond (true && not t) (Some new) (cond (is_there 0 (cond b (Some 0) (option_map suc place))) None (option_map spelling_of (option_and_then (slice_get (x ∷ ds)) (cond b (Some 0) (option_map suc place)))))) (not_before_first (cond b (Some 0) (option_map suc place))))
    at_first x ds false true place none e = none refl
    at_first x ds false false None none e = e
    at_first x ds false false (Some n) none e = e ∙ ap (λ t. cond t None (option_map spelling_of (slice_get ds n))) (sym (later n))
      where
        later : (n : ℕ) → nat_eq (suc n) 0 ≡ false
        later n = grind arith

    at_later : (x : Definition) (ds : List Definition) (index : ℕ) (hit b : Bool) (place : Option ℕ) (found : Option NameSpelling) → found ≡ chosen hit index place ds
        → cond b (Some (spelling_of x)) found ≡ chosen hit (suc index) (cond b (Some 0) (option_map suc place)) (x ∷ ds)
    at_later x ds index hit true place found e =
        sym (ap₂ (λ s t. cond (hit && not s) (Some new) (cond t None (Some (spelling_of x)))) (before index) (apart index) ∙ never hit)
      where
        before : (index : ℕ) → nat_lt 0 (suc index) ≡ true
        before index = grind arith

        apart : (index : ℕ) → nat_eq 0 (suc index) ≡ false
        apart index = grind arith

        never : (hit : Bool) → cond (hit && false) (Some new) (Some (spelling_of x)) ≡ Some (spelling_of x)
        never true = refl
        never false = refl
    at_later x ds index hit false None found e = e
    at_later x ds index hit false (Some n) found e =
        e ∙ sym (ap₂ (λ s t. cond (hit && not s) (Some new) (cond t None (option_map spelling_of (slice_get ds n)))) (before n index) (same n index))
      where
        before : (n index : ℕ) → nat_lt (suc n) (suc index) ≡ nat_lt n index
        before n index = grind arith

        same : (n index : ℕ) → nat_eq (suc n) (suc index) ≡ nat_eq n index
        same n index = grind arith

    found_renamed : (index : ℕ) (ds : List Definition) → IsDistinct same_key (map key_in ds)
        → find passes (updated_at (λ m. new) index (map spelling_of ds)) ≡ chosen (nat_lt index (length ds) && passes new) index (index_with_key key ds) ds
    found_renamed index [] differ = sym (ap (λ t. chosen (t && passes new) index None []) (none index))
      where
        none : (index : ℕ) → nat_lt index 0 ≡ false
        none index = grind arith
    found_renamed zero (x ∷ ds) differ =
        at_first x ds (passes new) (has_key key x) (index_with_key key ds) (λ t. none_spelled (key_in x) ds t (IsDistinct-head same_key (key_in x) (map key_in ds) differ)) (first_spelled ds)
        ∙ ap (λ t. chosen (t && passes new) 0 (index_with_key key (x ∷ ds)) (x ∷ ds)) (sym (some (length ds)))
      where
        some : (n : ℕ) → nat_lt 0 (suc n) ≡ true
        some n = grind arith
    found_renamed (suc index) (x ∷ ds) differ =
        at_later x ds index (nat_lt index (length ds) && passes new) (has_key key x) (index_with_key key ds) (find passes (updated_at (λ m. new) index (map spelling_of ds)))
        (found_renamed index ds (IsDistinct-tail same_key (key_in x) (map key_in ds) differ))
        ∙ ap (λ t. chosen (t && passes new) (suc index) (index_with_key key (x ∷ ds)) (x ∷ ds)) (sym (later index (length ds)))
      where
        later : (index n : ℕ) → nat_lt (suc index) (suc n) ≡ nat_lt index n
        later index n = grind arith

    names_chosen : (t there : Bool) (o : Option Definition) → option_map (λ (m : NameSpelling). m.name) (cond t (Some new) (cond there None (option_map spelling_of o))) ≡ cond t (Some new.name) (cond there None (option_map (λ (d : Definition). d.name) o))
    names_chosen true there o = refl
    names_chosen false true o = refl
    names_chosen false false None = refl
    names_chosen false false (Some d) = refl

  pub renamed_name : (index : ℕ) (ds : List Definition) (name : List ℕ) (k : NameKey) (place : Option ℕ) (is_found there : Bool) → k.name ≡ fold name → IsDistinct same_key (map key_in ds) → place ≡ index_with_key key ds
      → is_found ≡ ((nat_lt index (length ds) && same_key k key) && not (is_before index place)) → there ≡ is_there index place
      → cond is_found (Some name) (cond there None (option_map (λ (d : Definition). d.name) (option_and_then (slice_get ds) place))) ≡ name_of_key (renamed_scene index name k.scope ds) key
  renamed_name index ds name k place is_found there own differ at found_is there_is =
      let new : NameSpelling = record { name = name; scope = k.scope } in
      let hit : Bool = nat_lt index (length ds) && passes new in
      ap₂ (λ t s. cond t (Some name) (cond s None (option_map (λ (d : Definition). d.name) (option_and_then (slice_get ds) place))))
      (found_is ∙ ap (λ folded. (nat_lt index (length ds) && same_key (key_at folded k.scope) key) && not (is_before index place)) own) there_is
      ∙ sym (names_chosen new (hit && not (is_before index place)) (is_there index place) (option_and_then (slice_get ds) place))
      ∙ ap (λ o. option_map (λ (m : NameSpelling). m.name) (chosen new hit index o ds)) at
      ∙ ap (option_map (λ (m : NameSpelling). m.name)) (sym (found_renamed new index ds differ))
