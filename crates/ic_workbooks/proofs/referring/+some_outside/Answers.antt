use Rattle.std.proofs.Common.{◌∙◌, sym, Bool}
use Rattle.ic_laws.specs.Binding.{BoundPair}
use Rattle.ic_pool.proofs.MentionLemmas.{one_passes}
use Rattle.ic_workbooks.specs.Referring.{some_outside}
use Rattle.ic_workbooks.proofs.referring.+some_outside.Goals as goal

pub one_outside-returns-then-some_outside : goal.one_outside-returns-then-some_outside
one_outside-returns-then-some_outside t c =
    one_passes (some_outside c.args.at.now.0 c.args.at.now.1) c.args.trees.now c.loop-tree.tree-index c.tree-item.result c.loop-tree-test.true c.tree-item.is (sym c.some_outside.ensures ∙ c.if-some_outside.true)

pub one_value_outside-returns-then-some_outside : goal.one_value_outside-returns-then-some_outside
one_value_outside-returns-then-some_outside t c =
    let test : BoundPair → Bool = λ pair. some_outside c.args.at.now.0 c.args.at.now.1 pair.value in
    one_passes test c.args.pairs.now c.loop-pair.pair-index c.pair-item.result c.loop-pair-test.true c.pair-item.is (sym c.some_outside.ensures ∙ c.if-some_outside.true)
