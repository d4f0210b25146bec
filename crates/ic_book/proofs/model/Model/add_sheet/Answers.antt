use Rattle.std.proofs.Common.{chars}
use Rattle.ic_parts.proofs.DoesLemmas.{adds}
use Rattle.ic_book.proofs.model.Model.add_sheet.Goals as goal

pub returns-clause-does : goal.returns-clause-does
returns-clause-does c =
    adds c.append_sheet.result c.args.self.now c.append_sheet.new.self c.append_sheet.ensures.valid c.append_sheet.ensures.err (chars c.args.sheet_name.now) c.append_sheet.ensures.ok c.append_sheet.ensures.refused
