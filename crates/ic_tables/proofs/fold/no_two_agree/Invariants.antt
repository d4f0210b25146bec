use Rattle.std.proofs.Common.{length}
use Rattle.ic_tables.proofs.FoldLemmas.{AreBehind}
use Rattle.ic_tables.proofs.fold.no_two_agree.Given as goal

-- the words so far don't agree
abbrev pub invariant-loop-word : goal.invariant-loop-word
invariant-loop-word g l = AreBehind g.T.HasId.id_of l.behind l.rest l.words

abbrev pub decreases-loop-word : goal.decreases-loop-word
decreases-loop-word g l = length l.rest
