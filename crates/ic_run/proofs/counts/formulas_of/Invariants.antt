use Rattle.std.proofs.Common.{◌≡◌, ◌*◌, ◌^◌, ◌≤◌, take}
use Rattle.ic_run.specs.Counts.{formulas_of}
use Rattle.ic_run.proofs.counts.formulas_of.Given as goal

-- those of the sheets so far, each of which has fewer than 2^64
abbrev pub invariant-loop-sheet : goal.invariant-loop-sheet
invariant-loop-sheet l = record {
  count : l.n ≡ formulas_of (take l.sheet-index l.sheets);
  most : l.n ≤ l.sheet-index * 2 ^ 64;
}
