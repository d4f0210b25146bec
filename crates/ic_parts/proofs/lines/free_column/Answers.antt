use Rattle.std.proofs.Common.{sym, ◌∙◌, to_z, of_z, w32}
use Rattle.ic_parts.proofs.LineLemmas.{column_freed}
use Rattle.ic_parts.proofs.lines.free_column.Goals as goal

pub returns-clause-laid_out : goal.returns-clause-laid_out
returns-clause-laid_out c =
    column_freed c.args.grid.now c.delete_column_style.new.self (to_z w32 (of_z w32 c.args.column)) (sym c.is_column.ensures ∙ c.if-not-is_column.false) c.delete_column_style.ensures
