use Rattle.std.proofs.Common.{◌≡◌}
use Rattle.ic_parts.specs.Whole.{whole_of}
use Rattle.ic_sums.specs.Evaluated.{OnlyValues}
use Rattle.ic_sums.proofs.evaluation.evaluate.Given as goal

-- only values differ so far
abbrev pub invariant-loop : goal.invariant-loop
invariant-loop l = record {
  only_values : OnlyValues (whole_of l.initial.model.book) (whole_of l.model.book);
  looks_up : l.model.has_all ≡ l.initial.model.has_all;
}
