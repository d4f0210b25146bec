use Rattle.std.proofs.Common.{sym, ◌∙◌, to_z, of_z, w32}
use Rattle.ic_parts.proofs.LineLemmas.{row_freed}
use Rattle.ic_parts.proofs.lines.free_row.Goals as goal

pub returns-clause-laid_out : goal.returns-clause-laid_out
returns-clause-laid_out c =
    row_freed c.args.grid.now c.delete_row_style.new.self (to_z w32 (of_z w32 c.args.row)) (sym c.is_row.ensures ∙ c.if-not-is_row.false) c.delete_row_style.ensures
