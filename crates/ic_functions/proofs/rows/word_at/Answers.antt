use Rattle.std.proofs.Common.{◌∙◌, ap, chars, drop}
use Rattle.ic_laws.proofs.RunLemmas.{ends_with_rest, run_before_rest}
use Rattle.ic_tables.specs.WordList.{is_inside}
use Rattle.ic_functions.proofs.RowLemmas.{one_nearer, stands_first}
use Rattle.ic_functions.proofs.rows.word_at.Goals as goal

pub loop-preserved : goal.loop-preserved
loop-preserved c = (
  c.past_first-rest.utf8,
  one_nearer _ _ _ _ _ c.loop-test.true (c.past_first-rest.ensures ∙ ap (drop 1) c.past_word.ensures.rest) c.loop.invariant.1,
)

pub front_of-requires : goal.front_of-requires
front_of-requires c = ends_with_rest is_inside (chars c.loop.rest.now) (chars c.past_word-2.result.now) c.past_word-2.ensures.rest

pub returns : goal.returns
returns c =
    run_before_rest is_inside (chars c.loop.rest.now) (chars c.front_of.result.now) (chars c.past_word-2.result.now) c.past_word-2.ensures.rest c.front_of.ensures
    ∙ stands_first _ _ _ _ c.loop-test.false c.loop.invariant.1
