-- Bodies of definitions that are made anew.
use Rattle.std.specs.Prelude.{ℕ, suc, List, [], ◌∷◌, if◌then◌else◌}
use Rattle.ic_laws.specs.CoreBook.{Definition}
use Rattle.ic_pool.specs.Remade.{LeavesUntouched, Remade}
use Rattle.ic_definitions.specs.declared.bodies.NewBody.{NewBody}

-- a definition whose body was made anew
abbrev pub remade_body : Remade → Definition → Definition
remade_body made definition = record definition { body = made.becomes definition.scope definition.body }

-- a body that isn't touched stays
abbrev pub LeavesBody : Remade → Definition → Type 0
LeavesBody made definition = LeavesUntouched made definition.scope definition.body

-- the bodies that are touched, with what they become, where the first definition stands at this place
abbrev pub touched_bodies : Remade → ℕ → List Definition → List NewBody
touched_bodies made at [] = []
touched_bodies made at (d ∷ ds) =
    if made.touches d.scope d.body then record { at = at; body = made.becomes d.scope d.body } ∷ touched_bodies made (suc at) ds else touched_bodies made (suc at) ds
