use Rattle.std.proofs.Common.{◌∙◌, ◌∷◌, [], List, ap, map}
use Rattle.std.proofs.lemmas.List.{map-append}
use Rattle.ic_laws.specs.Binding.{BoundPair, bound_pair_of}
use Rattle.ic_laws.specs.Parse.{pair_of}
use Rattle.ic_tree.specs.Turned.{value_height}
use Rattle.ic_tree.specs.Typed.{pair_as_typed}
use Rattle.ic_tree.proofs.Heights.{pushed_greatest}
use Rattle.ic_tree.proofs.reader.gathered.Pairs.push.Goals as goal

pub invariant_of-self-2 : goal.invariant_of-self-2
invariant_of-self-2 c =
    pushed_greatest value_height (map pair_as_typed c.self.inside.pairs.items) (map pair_as_typed c.push.new.self.items) (pair_of c.args.variable c.args.value) _ c.self.inside.highest c.into_parts-value.result.1 _
    (ap (λ (ps : List BoundPair). map pair_as_typed ps) c.in_ok-push.ensures.items ∙ map-append pair_as_typed c.self.inside.pairs.items (bound_pair_of c.args.variable c.into_parts-value.result.0 ∷ []))
    (ap (pair_of c.args.variable) c.into_parts-value.ensures.tree) c.self.invariant c.into_parts-value.ensures.nodes c.max-self-inside.ensures
