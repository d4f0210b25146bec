use Rattle.std.proofs.Common.{sym, ◌∙◌, to_z, of_z, w32}
use Rattle.ic_cells.specs.declared.layout.ColumnProps.{ColumnProps}
use Rattle.ic_grid.specs.Lines.{column_at}
use Rattle.ic_parts.proofs.LineLemmas.{column_laid_out}
use Rattle.ic_parts.proofs.lines.hide_column.Goals as goal

pub returns-clause-laid_out : goal.returns-clause-laid_out
returns-clause-laid_out c =
    let grid = c.args.grid.now in
    let column = to_z w32 (of_z w32 c.args.column) in
    let set : ColumnProps = record (column_at grid.columns column) { hidden = c.args.hidden } in
    column_laid_out grid c.set_column_hidden.new.self column (sym c.is_column.ensures ∙ c.if-not-is_column.false) set c.in_ok-set_column_hidden.ensures.ok (λ count h. h)
