use Rattle.std.proofs.Common.{◌∙◌, sym, Bool}
use Rattle.ic_laws.specs.Binding.{BoundPair}
use Rattle.ic_laws.specs.Mentions.{some_mention}
use Rattle.ic_pool.proofs.MentionLemmas.{one_passes}
use Rattle.ic_pool.proofs.mentions.+some_mention.Goals as goal

pub some_of_all-returns-then-some_mention : goal.some_of_all-returns-then-some_mention
some_of_all-returns-then-some_mention g t c =
    one_passes (some_mention (g.T.MentionTest.is_sheet c.args.test.now) (g.T.MentionTest.is_word c.args.test.now) (g.T.MentionTest.is_local c.args.test.now)) c.args.trees.now c.loop-tree.tree-index c.tree-item.result c.loop-tree-test.true c.tree-item.is
    (sym c.some_mention.ensures ∙ c.if-some_mention.true)

pub some_of_values-returns-then-some_mention : goal.some_of_values-returns-then-some_mention
some_of_values-returns-then-some_mention g t c =
    let test : BoundPair → Bool = λ pair. some_mention (g.T.MentionTest.is_sheet c.args.test.now) (g.T.MentionTest.is_word c.args.test.now) (g.T.MentionTest.is_local c.args.test.now) pair.value in
    one_passes test c.args.pairs.now c.loop-pair.pair-index c.pair-item.result c.loop-pair-test.true c.pair-item.is (sym c.some_mention.ensures ∙ c.if-some_mention.true)
