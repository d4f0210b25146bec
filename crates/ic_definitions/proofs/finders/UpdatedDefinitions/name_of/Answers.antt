use Rattle.std.proofs.Common.{ap, chars, false, option_map, refl, slice_get, sym, true, ◌∙◌}
use Rattle.std.proofs.lemmas.Bool.{and_parts}
use Rattle.std.specs.Option.{option_and_then}
use Rattle.ic_laws.proofs.keeping.NameChanges.{same_key_from}
use Rattle.ic_laws.specs.CoreBook.{Definition}
use Rattle.ic_laws.specs.Scene.{name_of_key, same_key}
use Rattle.ic_definitions.specs.Named.{renamed_scene}
use Rattle.ic_definitions.proofs.RenamedLemmas.{renamed_name}
use Rattle.ic_definitions.proofs.finders.UpdatedDefinitions.name_of.Goals as goal

pub returns-then-is_known : goal.returns-then-is_known
returns-then-is_known c =
    let u = c.args.self.now in
    let parts = and_parts u.has_key (same_key u.key.now c.args.key.now) (sym c.is_known.ensures ∙ c.if-is_known.true) in
    u.found parts.0 ∙ ap (name_of_key (renamed_scene u.index (chars u.name.now) u.key.now.scope u.definitions.definitions.now)) (same_key_from u.key.now c.args.key.now parts.1)

pub returns-then-is_found : goal.returns-then-is_found
returns-then-is_found c =
    let u = c.args.self.now in
    renamed_name c.args.key.now u.index u.definitions.definitions.now (chars u.name.now) u.key.now c.place_of-place.result true _ u.own c.place_of-place.ensures.differ c.place_of-place.ensures.place
    (sym c.if-is_found.true ∙ c.is_found.ensures) refl

pub returns-then-is_there : goal.returns-then-is_there
returns-then-is_there c =
    let u = c.args.self.now in
    renamed_name c.args.key.now u.index u.definitions.definitions.now (chars u.name.now) u.key.now c.place_of-place.result false true u.own c.place_of-place.ensures.differ c.place_of-place.ensures.place
    (sym c.if-is_found.false ∙ c.is_found.ensures) (sym c.if-is_there.true ∙ c.is_there.ensures)

pub returns : goal.returns
returns c =
    let u = c.args.self.now in
    c.name_in.ensures
    ∙ ap (λ ds. option_map (λ (d : Definition). d.name) (option_and_then (slice_get ds) c.place_of-place.result)) c.as_slice.ensures
    ∙ renamed_name c.args.key.now u.index u.definitions.definitions.now (chars u.name.now) u.key.now c.place_of-place.result false false u.own c.place_of-place.ensures.differ c.place_of-place.ensures.place
    (sym c.if-is_found.false ∙ c.is_found.ensures) (sym c.if-is_there.false ∙ c.is_there.ensures)
