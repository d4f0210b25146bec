use Rattle.std.proofs.Common.{◌∙◌, sym, Bool}
use Rattle.ic_laws.specs.Binding.{BoundPair}
use Rattle.ic_tree.proofs.AnyLemmas.{one_met}
use Rattle.ic_tree.specs.Dynamic.{dynamic_with}
use Rattle.ic_tree.proofs.dynamic.+is_dynamic.Goals as goal

pub one_dynamic-returns-then-is_dynamic : goal.one_dynamic-returns-then-is_dynamic
one_dynamic-returns-then-is_dynamic t c =
    one_met (dynamic_with c.args.tables.now.kinds) c.args.trees.now c.loop-tree.tree-index c.tree-item.result c.loop-tree-test.true c.tree-item.is (sym c.is_dynamic.ensures ∙ c.if-is_dynamic.true)

pub one_value_dynamic-returns-then-is_dynamic : goal.one_value_dynamic-returns-then-is_dynamic
one_value_dynamic-returns-then-is_dynamic t c =
    let test : BoundPair → Bool = λ pair. dynamic_with c.args.tables.now.kinds pair.value in
    one_met test c.args.pairs.now c.loop-pair.pair-index c.pair-item.result c.loop-pair-test.true c.pair-item.is (sym c.is_dynamic.ensures ∙ c.if-is_dynamic.true)
