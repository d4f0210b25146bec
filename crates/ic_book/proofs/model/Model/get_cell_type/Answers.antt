use Rattle.ic_parts.proofs.CellReads.{found_there, lacks_type, tells_type}
use Rattle.ic_cells.proofs.MapLemmas.{stored_pair}
use Rattle.ic_book.proofs.model.Model.get_cell_type.Goals as goal

pub returns : goal.returns
returns c = record {
  does = tells_type c.args.self.now c.cell_at.ensures.valid c.args.sheet c.args.row c.args.column c.in_ok-cell_at.field-0 (found_there c.args.self.now c.args.sheet c.args.row c.args.column c.in_ok-cell_at.field-0 _ (stored_pair c.args.row c.args.column c.ranges.row c.ranges.column) c.in_ok-cell_at.ensures.finds) c.type_in.result c.type_in.ensures;
}

pub returns-in_err-cell_at : goal.returns-in_err-cell_at
returns-in_err-cell_at c = record {
  does = lacks_type c.args.self.now c.cell_at.ensures.valid c.args.sheet c.args.row c.args.column c.from_residual.result c.in_err-cell_at.field-0.0 c.from_residual.ensures c.in_err-cell_at.ensures.finds;
}
