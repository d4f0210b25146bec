use Rattle.std.proofs.Common.{◌≡◌}
use Rattle.ic_sheets.specs.Rewriting.{FitOwn, with_own_rewrites}
use Rattle.ic_sheets.proofs.SearchLemmas.{ids}
use Rattle.ic_sheets.proofs.sheets.Sheets.apply.Given as goal

-- what is left to do to the sheets gives what all gives
abbrev pub invariant-loop-id : goal.invariant-loop-id
invariant-loop-id l = record {
  left : with_own_rewrites l.prepared.items l.self ≡ with_own_rewrites l.fn.prepared.items l.fn.self;
  fits : FitOwn l.prepared.items l.self;
  same : ids l.self ≡ ids l.fn.self;
}

abbrev pub decreases-loop-id : goal.decreases-loop-id
decreases-loop-id l = goal.left-loop-id l
