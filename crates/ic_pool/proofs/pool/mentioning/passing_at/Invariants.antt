use Rattle.std.proofs.Common.{drop}
use Rattle.ic_pool.specs.Mentions.{some_in}
use Rattle.ic_pool.proofs.MentioningLemmas.{PassingSoFar}
use Rattle.ic_pool.proofs.pool.mentioning.passing_at.Given as goal

abbrev pub invariant-loop-at : goal.invariant-loop-at
invariant-loop-at g l =
    PassingSoFar (some_in (g.T.MentionTest.is_sheet l.test) (g.T.MentionTest.is_word l.test) (g.T.MentionTest.is_local l.test)) l.formulas
    (drop l.at-index l.places) l.passing
