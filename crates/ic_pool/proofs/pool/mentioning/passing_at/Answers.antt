use Rattle.std.proofs.Common.{◌+◌, drop, get_or}
use Rattle.std.proofs.lemmas.List.{drop_all, drop_more}
use Rattle.ic_pool.specs.Mentions.{some_in}
use Rattle.ic_pool.proofs.MentioningLemmas.{all_put, none_put, one_put}
use Rattle.ic_pool.proofs.pool.mentioning.passing_at.Goals as goal

pub loop-at-init : goal.loop-at-init
loop-at-init g c =
    let test = some_in (g.T.MentionTest.is_sheet c.args.test.now) (g.T.MentionTest.is_word c.args.test.now) (g.T.MentionTest.is_local c.args.test.now) in
    none_put test c.args.formulas.now c.args.places.now c.new-passing.result c.new-passing.ensures.empty c.requires

pub loop-at-preserved : goal.loop-at-preserved
loop-at-preserved g c =
    let test = some_in (g.T.MentionTest.is_sheet c.args.test.now) (g.T.MentionTest.is_word c.args.test.now) (g.T.MentionTest.is_local c.args.test.now) in
    one_put test c.args.formulas.now (drop c.loop-at.at-index c.args.places.now) (get_or c.args.places.now c.loop-at.at-index 0)
    (drop (c.loop-at.at-index + 1) c.args.places.now) c.loop-at.passing c.put_passing.new.passing
    (drop_more c.args.places.now c.loop-at.at-index 0 c.loop-at-test.true) c.loop-at.invariant c.in_ok-put_passing.ensures

pub returns : goal.returns
returns g c =
    let test = some_in (g.T.MentionTest.is_sheet c.args.test.now) (g.T.MentionTest.is_word c.args.test.now) (g.T.MentionTest.is_local c.args.test.now) in
    all_put test c.args.formulas.now (drop c.loop-at.at-index c.args.places.now) c.loop-at.passing
    (drop_all c.loop-at.at-index c.args.places.now c.loop-at-test.false) c.loop-at.invariant
