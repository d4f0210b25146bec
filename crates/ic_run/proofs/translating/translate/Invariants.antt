use Rattle.std.proofs.Common.{◌≡◌}
use Rattle.ic_parts.specs.Whole.{whole_of}
use Rattle.ic_run.proofs.TurnLemmas.{IsSoFar}
use Rattle.ic_run.proofs.translating.translate.Given as goal

-- the lines so far ran, and became these
abbrev pub invariant-loop-line : goal.invariant-loop-line
invariant-loop-line l = record {
  so_far : IsSoFar l.target.locale l.target.language (whole_of l.initial.model.book) l.lines l.line-index (whole_of l.model.book) l.translated.items;
  number : l.number ≡ l.line-index;
}
