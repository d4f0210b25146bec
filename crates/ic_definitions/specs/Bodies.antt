-- What is prepared before the bodies of definitions change.
use Rattle.std.specs.Prelude.{◌≡◌, ◌<◌, ◌||◌, ℕ, List, [], ◌∷◌, ◌++◌, Bool, false, length, if◌then◌else◌}
use Rattle.std.specs.List.{AllByRecursion}
use Rattle.ic_laws.specs.BookTrees.{with_body_tree}
use Rattle.ic_laws.specs.Changes.{Change, changed_tree}
use Rattle.ic_laws.specs.CoreBook.{Definition}
use Rattle.ic_laws.specs.CoreStep.{updated_at}
use Rattle.ic_laws.specs.declared.tree.Formula.{Formula}
use Rattle.ic_pool.specs.Mentions.{has_dangling}
use Rattle.ic_definitions.specs.declared.bodies.BodyRewrites.{BodyRewrites}
use Rattle.ic_definitions.specs.declared.bodies.NewBody.{NewBody}

-- each new body is put into its definition
abbrev pub with_bodies : List NewBody → List Definition → List Definition
with_bodies [] definitions = definitions
with_bodies (new ∷ more) definitions = with_bodies more (updated_at (λ d. record d { body = new.body }) new.at definitions)

-- all that a body mentions is found
abbrev pub HasFoundAll : Definition → Type 0
HasFoundAll definition = has_dangling definition.body ≡ false

-- a change leaves the body of a definition where all that it mentions was found
abbrev pub StaysWhereFound : Change → Definition → Type 0
StaysWhereFound change definition = HasFoundAll definition → with_body_tree (changed_tree change) definition ≡ definition

-- it was prepared for these definitions: the places are theirs, and where no body may dangle none will
pub record FitsBodies (rewrites : BodyRewrites) (definitions : List Definition) : Type 0 where
  pub within : AllByRecursion (λ new. new.at < length definitions) rewrites.bodies.items
  pub dangles : rewrites.may_dangle ≡ false → AllByRecursion HasFoundAll (with_bodies rewrites.bodies.items definitions)

-- The body at this place was looked at. It stays where it isn't touched, else what it becomes stands behind the others; and
-- it counts among those that may dangle.
pub record IsNoted (at : ℕ) (definition : Definition) (becomes : Formula) (touched : Bool) (before after : BodyRewrites) : Type 0 where
  pub same : touched ≡ false → becomes ≡ definition.body
  pub bodies : after.bodies.items ≡ before.bodies.items ++ (if touched then record { at = at; body = becomes } ∷ [] else [])
  pub dangles : after.may_dangle ≡ (before.may_dangle || has_dangling becomes)
