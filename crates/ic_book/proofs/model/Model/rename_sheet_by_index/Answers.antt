use Rattle.std.proofs.Common.{chars}
use Rattle.ic_parts.proofs.DoesLemmas.{renames_at}
use Rattle.ic_book.proofs.model.Model.rename_sheet_by_index.Goals as goal

pub returns-clause-does : goal.returns-clause-does
returns-clause-does c =
    renames_at c.rename_at.result c.args.self.now c.rename_at.new.self c.rename_at.ensures.valid c.rename_at.ensures.err c.args.sheet_index (chars c.args.new_name.now) c.rename_at.ensures.ok c.rename_at.ensures.refused
