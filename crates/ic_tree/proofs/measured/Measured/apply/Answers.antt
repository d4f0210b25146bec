use Rattle.std.proofs.Common.{ap, map, sym, ◌∙◌}
use Rattle.ic_laws.specs.Tree.{Bound, Spelled, height}
use Rattle.ic_laws.specs.declared.tree.Tree.TheOpen as one
use Rattle.ic_laws.specs.declared.tree.Tree.TheVariants.{rolls-Apply}
use Rattle.ic_laws.proofs.binding.Again.{spelled-node}
use Rattle.ic_tree.specs.Typed.{as_typed, no_text, own_name}
use Rattle.ic_tree.proofs.Heights.{apply_height}
use Rattle.ic_tree.proofs.measured.Measured.apply.Goals as goal

pub built-requires : goal.built-requires
built-requires c =
    ap (λ (t : Bound). height (as_typed t)) (sym (rolls-Apply c.from.result c.into_parts-items.result.0))
    ∙ (ap (λ (t : Spelled). height t) (spelled-node no_text own_name (one.Apply c.from.result c.into_parts-items.result.0))
    ∙ apply_height (as_typed c.from.result) _ (map as_typed c.into_parts-items.result.0) c.args.arguments c.self.inside.nodes _ _ (ap as_typed c.from.ensures) c.into_parts-items.ensures.trees c.self.invariant c.into_parts-items.ensures.highest c.max-below.ensures)
