use Rattle.std.proofs.Common.{subst, List}
use Rattle.std.specs.Bool.{Decides}
use Rattle.ic_cells.specs.declared.layout.Merge.{Merge}
use Rattle.ic_grid.proofs.HandedInLemmas.{never}
use Rattle.ic_grid.proofs.WholeLemmas.{merges_decided, merges_refused}
use Rattle.ic_grid.specs.Conditions.{AreMerges}
use Rattle.ic_grid.specs.Shape.{celled}
use Rattle.ic_grid.proofs.grid.Grid.has_separate_merges.Goals as goal

pub returns-then-are_separate : goal.returns-then-are_separate
returns-then-are_separate c =
    subst (λ (merges : List Merge). Decides c.has_unmerged_arrays.result (AreMerges celled c.args.self.now.cells merges)) c.as_slice-merges.ensures
    (merges_decided celled c.args.self.now.cells c.as_slice-merges.result.now c.has_unmerged_arrays.result (c.are_separate.ensures.0 c.if-are_separate.true) c.has_unmerged_arrays.ensures)

pub returns-else-are_separate : goal.returns-else-are_separate
returns-else-are_separate c =
    subst (λ (merges : List Merge). Decides c.are_separate.result (AreMerges celled c.args.self.now.cells merges)) c.as_slice-merges.ensures
    (merges_refused celled c.args.self.now.cells c.as_slice-merges.result.now c.are_separate.result c.if-are_separate.false (never c.are_separate.result c.are_separate.ensures c.if-are_separate.false))
