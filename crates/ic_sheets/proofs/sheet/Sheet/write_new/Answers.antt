use Rattle.std.proofs.lemmas.Result.{IfOk-weaker}
use Rattle.ic_sheets.proofs.CellLemmas.{put_written}
use Rattle.ic_cells.proofs.MapLemmas.{stored_pair}
use Rattle.ic_sheets.proofs.sheet.Sheet.write_new.Goals as goal

pub returns-clause-ok : goal.returns-clause-ok
returns-clause-ok c =
    IfOk-weaker c.put_made.result _ _ (λ left h. put_written c.args.entered _ (c.args.row, c.args.column) c.args.self.now c.put_made.new.maker c.put_made.new.self left (stored_pair c.args.row c.args.column c.ranges.row c.ranges.column) h)
    c.put_made.ensures.made
