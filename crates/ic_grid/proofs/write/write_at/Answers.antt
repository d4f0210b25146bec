use Rattle.std.proofs.Common.{◌∙◌, ap, sym, is_some}
use Rattle.std.specs.FinMap as finite
use Rattle.ic_grid.proofs.WriteLemmas.{still_there}
use Rattle.ic_grid.proofs.write.write_at.Goals as goal

pub replace-requires : goal.replace-requires
replace-requires c = ap (λ cells. is_some (finite.get cells c.args.place)) c.prepare.ensures ∙ still_there c.args.cells.now c.args.place (sym c.if-is_there.ensures)
