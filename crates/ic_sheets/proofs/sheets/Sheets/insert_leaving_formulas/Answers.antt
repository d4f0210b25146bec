use Rattle.ic_sheets.proofs.InsertLemmas.{moved_among}
use Rattle.ic_sheets.proofs.sheets.Sheets.insert_leaving_formulas.Goals as goal

pub returns-then-index-last-clause-ok : goal.returns-then-index-last-clause-ok
returns-then-index-last-clause-ok c =
    moved_among c.args.self.now c.add_leaving_formulas.new.self c.move_to.new.self c.len-last.result c.args.index _ c.len-last.ensures c.in_ok-add_leaving_formulas.ensures.ok c.move_to.ensures.moved
