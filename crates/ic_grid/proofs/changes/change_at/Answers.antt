use Rattle.std.proofs.Common.{◌∙◌, ap, sym}
use Rattle.ic_grid.proofs.ChangeLemmas.{other_kept, other_left, placeholder_emptied, placeholder_taken}
use Rattle.ic_grid.specs.Change.{changed_at}
use Rattle.ic_grid.specs.declared.changes.Change.{Change}
use Rattle.ic_grid.proofs.changes.change_at.Goals as goal

pub returns-then-is_placeholder_at : goal.returns-then-is_placeholder_at
returns-then-is_placeholder_at c =
    c.take-then-is_placeholder_at.ensures ∙ placeholder_taken c.args.cells.now c.args.place _ c.is_placeholder_at.ensures c.if-is_placeholder_at.true
    ∙ ap (λ (k : Change). changed_at c.args.place k c.args.cells.now) (sym c.in-TakePlaceholder.is)

pub returns-else-is_placeholder_at : goal.returns-else-is_placeholder_at
returns-else-is_placeholder_at c =
    other_left c.args.cells.now c.args.place _ c.is_placeholder_at.ensures c.if-is_placeholder_at.false
    ∙ ap (λ (k : Change). changed_at c.args.place k c.args.cells.now) (sym c.in-TakePlaceholder.is)

pub returns-then-is_placeholder_at-2 : goal.returns-then-is_placeholder_at-2
returns-then-is_placeholder_at-2 c =
    c.empty-then-is_placeholder_at-2.ensures ∙ placeholder_emptied c.args.cells.now c.args.place _ c.is_placeholder_at-in-EmptyPlaceholder.ensures c.if-is_placeholder_at-2.true
    ∙ ap (λ (k : Change). changed_at c.args.place k c.args.cells.now) (sym c.in-EmptyPlaceholder.is)

pub returns-else-is_placeholder_at-2 : goal.returns-else-is_placeholder_at-2
returns-else-is_placeholder_at-2 c =
    other_kept c.args.cells.now c.args.place _ c.is_placeholder_at-in-EmptyPlaceholder.ensures c.if-is_placeholder_at-2.false
    ∙ ap (λ (k : Change). changed_at c.args.place k c.args.cells.now) (sym c.in-EmptyPlaceholder.is)
