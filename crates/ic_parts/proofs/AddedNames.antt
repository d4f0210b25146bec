-- What a word finds where one definition more stands at the end.
use Rattle.std.proofs.Common.{◌≡◌, ℕ, List, [], ◌∷◌, ◌++◌, map, Bool, true, false, ◌&&◌, cond, Option, Some, None, option_map, refl, sym, ap, ◌∙◌}
use Rattle.std.specs.Prelude.{bytes_eq}
use Rattle.std.specs.List.{find}
use Rattle.std.specs.Option.{option_or}
use Rattle.std.proofs.lemmas.List.Folds.{find-append}
use Rattle.ic_laws.specs.CoreBook.{CoreBook, Definition, scene_of, spelling_of}
use Rattle.ic_laws.specs.CoreStep.{scene_with_definition}
use Rattle.ic_laws.specs.Name.{fold}
use Rattle.ic_laws.specs.Scene.{definition_at, same_scope}
use Rattle.ic_laws.specs.declared.scene.NameSpelling.{NameSpelling}
use Rattle.ic_laws.specs.declared.scene.Scene.{Scene}
use Rattle.ic_definitions.specs.Named.{definitions_scene}
use Rattle.ic_sheets.specs.declared.sheet.Sheet.{Sheet as HeldSheet}
use Rattle.ic_parts.specs.Scene.{scene_of_parts, scene_with}

-- what formulas can mention then
pub scene_with_is : (sheets : List HeldSheet) (ds : List Definition) (core : CoreBook) (name : List ℕ) (scope : Option ℕ) → scene_of_parts sheets ds ≡ scene_of core → scene_with sheets ds name scope ≡ scene_with_definition core name scope
scene_with_is sheets ds core name scope e = ap (λ (s : Scene). let more : Scene = record s { names = s.names ++ record { name = name; scope = scope } ∷ [] } in more) e

module _ {X : Type 0} (g : NameSpelling → X) where
  or_first : (a b : Option NameSpelling) (x : X) → Some x ≡ option_map g a → Some x ≡ option_map g (option_or a b)
  or_first None b x e = cc
  or_first (Some d) b x e = e

  or_second : (a b : Option NameSpelling) → None ≡ option_map g a → option_map g (option_or a b) ≡ option_map g b
  or_second None b e = refl
  or_second (Some d) b e = cc

  module _ (ds : List Definition) (new : NameSpelling) (folded : List ℕ) (scope : Option ℕ) where
    abbrev is_it : Bool
    is_it = bytes_eq (fold new.name) folded && same_scope new.scope scope

    abbrev found : Option NameSpelling
    found = find (λ (x : NameSpelling). bytes_eq (fold x.name) folded && same_scope x.scope scope) (map spelling_of ds ++ new ∷ [])

    either : found ≡ option_or (definition_at (definitions_scene ds) folded scope) (cond is_it (Some new) None)
    either = find-append (λ (x : NameSpelling). bytes_eq (fold x.name) folded && same_scope x.scope scope) (map spelling_of ds) (new ∷ [])

    -- what was found is found
    pub other_found : (x : X) → Some x ≡ option_map g (definition_at (definitions_scene ds) folded scope) → Some x ≡ option_map g found
    other_found x e = or_first (definition_at (definitions_scene ds) folded scope) (cond is_it (Some new) None) x e ∙ ap (option_map g) (sym either)

    -- and else the one at the end, where it is that
    pub it_is_found : (b : Bool) → None ≡ option_map g (definition_at (definitions_scene ds) folded scope) → is_it ≡ b → cond b (Some (g new)) None ≡ option_map g found
    it_is_found b e is =
        sym (ap (option_map g) either ∙ or_second (definition_at (definitions_scene ds) folded scope) (cond is_it (Some new) None) e ∙ ap (λ t. option_map g (cond t (Some new) None)) is ∙ by_test b)
      where
        by_test : (b : Bool) → option_map g (cond b (Some new) None) ≡ cond b (Some (g new)) None
        by_test true = refl
        by_test false = refl
