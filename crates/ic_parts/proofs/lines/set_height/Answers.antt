use Rattle.std.proofs.Common.{Some, sym, ◌∙◌, to_z, of_z, w32}
use Rattle.ic_cells.specs.declared.layout.RowProps.{RowProps}
use Rattle.ic_grid.specs.Lines.{row_at}
use Rattle.ic_parts.proofs.LineLemmas.{row_laid_out}
use Rattle.ic_parts.proofs.lines.set_height.Goals as goal

pub returns-clause-laid_out : goal.returns-clause-laid_out
returns-clause-laid_out c =
    let grid = c.args.grid.now in
    let row = to_z w32 (of_z w32 c.args.row) in
    let set : RowProps = record (row_at grid.rows row) { height = Some c.args.height } in
    row_laid_out grid c.set_row_height.new.self row (sym c.is_row.ensures ∙ c.if-not-is_row.false) set c.in_ok-set_row_height.ensures.ok (λ count h. h)
