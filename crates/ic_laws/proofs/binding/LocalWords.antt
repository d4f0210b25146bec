-- The definition that a word with its sheet means, by what the word finds from that sheet.
use Rattle.std.proofs.Common.{◌≡◌, ℕ, List, true, false, Option, None, Some, refl, sym, ap, subst, ◌∙◌}
use Rattle.std.specs.Option.{option_or}
use Rattle.std.specs.Prelude.{option_map, bytes_eq, ◌&&◌}
use Rattle.std.proofs.lemmas.Bool.{and_parts}
use Rattle.ic_laws.specs.Name.{fold}
use Rattle.ic_laws.specs.Scene.{definition_at, found_local, found_name, key_of, same_scope}
use Rattle.ic_laws.specs.declared.scene.NameSpelling.{NameSpelling}
use Rattle.ic_laws.specs.declared.scene.Scene.{Scene}
use Rattle.ic_laws.specs.declared.tree.NameKey.{NameKey}
use Rattle.ic_laws.proofs.binding.SceneLemmas.{found_passes}
use Rattle.ic_laws.proofs.keeping.NameChanges.{same_scope_from}

-- what was found under a scope has it
scope_of : (scene : Scene) (folded : List ℕ) (scope : Option ℕ) (d : NameSpelling) → definition_at scene folded scope ≡ Some d → d.scope ≡ scope
scope_of scene folded scope d e =
    same_scope_from d.scope scope (and_parts (bytes_eq (fold d.name) folded) (same_scope d.scope scope) (found_passes (λ x. bytes_eq (fold x.name) folded && same_scope x.scope scope) scene.names d e)).1

-- a definition that is local to the sheet is the one
pub local_where_scoped : (scene : Scene) (id : ℕ) (word : List ℕ) (key : NameKey) → found_name scene (Some id) word ≡ Some key → same_scope key.scope (Some id) ≡ true → found_local scene id word ≡ Some key
local_where_scoped scene id word key e t = go (definition_at scene (fold word) (Some id)) refl (definition_at scene (fold word) None) refl e
  where
    some : (d : NameSpelling) → Some (key_of d) ≡ Some key → key_of d ≡ key
    some d f = cc

    go : (local : Option NameSpelling) → definition_at scene (fold word) (Some id) ≡ local → (global : Option NameSpelling) → definition_at scene (fold word) None ≡ global → option_map key_of (option_or local global) ≡ Some key → found_local scene id word ≡ Some key
    go (Some d) f global g h = ap (option_map key_of) f ∙ h
    go None f (Some d) g h =
        let s : key.scope ≡ Some id = same_scope_from key.scope (Some id) t in
        let no : ◌≡◌ {A = Option ℕ} None (Some id) = sym (scope_of scene (fold word) None d g) ∙ ap (λ (k : NameKey). k.scope) (some d h) ∙ s in absurd (cc)
    go None f None g h = absurd (let no : None ≡ Some key = h in cc)

-- where another is found, or none, none is local to the sheet
pub none_where_other : (scene : Scene) (id : ℕ) (word : List ℕ) (key : NameKey) → found_name scene (Some id) word ≡ Some key → same_scope key.scope (Some id) ≡ false → found_local scene id word ≡ None
none_where_other scene id word key e t = go (definition_at scene (fold word) (Some id)) refl e
  where
    some : (d : NameSpelling) → Some (key_of d) ≡ Some key → key_of d ≡ key
    some d f = cc

    go : (local : Option NameSpelling) → definition_at scene (fold word) (Some id) ≡ local → option_map key_of (option_or local (definition_at scene (fold word) None)) ≡ Some key → found_local scene id word ≡ None
    go None f h = ap (option_map key_of) f
    go (Some d) f h =
        let passes = found_passes (λ x. bytes_eq (fold x.name) (fold word) && same_scope x.scope (Some id)) scene.names d f in
        let its : same_scope d.scope (Some id) ≡ true = (and_parts (bytes_eq (fold d.name) (fold word)) (same_scope d.scope (Some id)) passes).1 in
        let same : same_scope key.scope (Some id) ≡ true = subst (λ (k : NameKey). same_scope k.scope (Some id) ≡ true) (some d h) its in
        absurd (cc)

pub none_where_none : (scene : Scene) (id : ℕ) (word : List ℕ) → found_name scene (Some id) word ≡ None → found_local scene id word ≡ None
none_where_none scene id word e = go (definition_at scene (fold word) (Some id)) refl e
  where
    go : (local : Option NameSpelling) → definition_at scene (fold word) (Some id) ≡ local → option_map key_of (option_or local (definition_at scene (fold word) None)) ≡ None → found_local scene id word ≡ None
    go None f h = ap (option_map key_of) f
    go (Some d) f h = absurd (let no : Some (key_of d) ≡ None = h in cc)
