use Rattle.std.proofs.Common.{None, ap, option_map, subst, sym, map, ◌∙◌}
use Rattle.std.proofs.lemmas.Result.{IfOk-weaker}
use Rattle.std.specs.List.{IsDistinct}
use Rattle.ic_laws.specs.Name.{fold}
use Rattle.ic_laws.specs.Scene.{definition_at, key_of, same_key}
use Rattle.ic_definitions.specs.Named.{definitions_scene, key_in}
use Rattle.ic_definitions.proofs.GoneDefinitions.{global_gone, local_gone}
use Rattle.ic_definitions.proofs.definitions.Definitions.key_without.Goals as goal

pub returns-in-Some : goal.returns-in-Some
returns-in-Some c =
    IfOk-weaker c.key_at.result _ _
    (λ key e index at. e ∙ ap (λ name. option_map key_of (definition_at (definitions_scene c.args.self.now) (fold name) None)) c.name.ensures
    ∙ local_gone c.args.self.now index c.args.definition.now at c.in-Some.field-0 (sym c.scope.ensures ∙ c.in-Some.is))
    c.key_at.ensures

pub returns-in-None : goal.returns-in-None
returns-in-None c = λ index at. global_gone c.args.self.now index c.args.definition.now at (subst (λ ds. IsDistinct same_key (map key_in ds)) c.self.view_is c.self.invariant.0.differ) (sym c.scope.ensures ∙ c.in-None.is)
