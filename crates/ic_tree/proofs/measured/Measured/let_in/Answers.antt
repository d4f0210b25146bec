use Rattle.std.proofs.Common.{ap, if◌then◌else◌, length, nat_le, None, Some, sym, ◌∙◌}
use Rattle.std.proofs.lemmas.Bool.{eqb-false}
use Rattle.ic_laws.specs.Tree.{Bound, height}
use Rattle.ic_laws.specs.declared.tree.Tree.TheVariants.{rolls-Let}
use Rattle.ic_tree.specs.Typed.{as_typed}
use Rattle.ic_tree.proofs.TypedLet.{let_height, let_taken}
use Rattle.ic_tree.proofs.measured.Measured.let_in.Goals as goal

pub built-requires : goal.built-requires
built-requires c =
    ap (λ (t : Bound). height (as_typed t)) (sym (rolls-Let c.into_parts-items.result.0 c.from.result))
    ∙ let_height c.into_parts-items.result.0 c.from.result c.args.pairs _ c.self.inside.nodes c.into_parts-items.result.1 c.max-below.result c.into_parts-items.ensures.pairs (ap as_typed c.from.ensures) c.self.invariant c.into_parts-items.ensures.highest c.max-below.ensures

pub returns : goal.returns
returns c rest =
    let_taken c.args.most c.into_parts-items.result.0 c.as_slice.result.now c.from.result c.args.pairs c.args.self _ rest c.into_parts-items.ensures.pairs (ap as_typed c.from.ensures ∙ c.self.view_is) c.as_slice.ensures
    (eqb-false (length c.as_slice.result.now) 0 (sym c.is_empty.ensures ∙ c.if-is_empty.false))
    (c.in_ok-built.ensures ∙ ap (λ (t : Bound). if nat_le (height (as_typed t)) c.args.most then Some (as_typed t) else None) (sym (rolls-Let c.into_parts-items.result.0 c.from.result)))
