use Rattle.ic_parts.proofs.DoesLemmas.{deletes_at}
use Rattle.ic_book.proofs.model.Model.delete_sheet.Goals as goal

pub returns-clause-does : goal.returns-clause-does
returns-clause-does c =
    deletes_at c.delete_at.result c.args.self.now c.delete_at.new.self c.delete_at.ensures.valid c.delete_at.ensures.err c.args.sheet_index c.delete_at.ensures.ok c.delete_at.ensures.refused
