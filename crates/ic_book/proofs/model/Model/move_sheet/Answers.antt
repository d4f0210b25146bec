use Rattle.ic_parts.proofs.DoesLemmas.{moves}
use Rattle.ic_book.proofs.model.Model.move_sheet.Goals as goal

pub returns-clause-does : goal.returns-clause-does
returns-clause-does c =
    moves c.move_at.result c.args.self.now c.move_at.new.self c.move_at.ensures.valid c.move_at.ensures.err c.args.sheet_index c.args.new_index c.move_at.ensures.ok c.move_at.ensures.refused
