use Rattle.std.proofs.Common.{◌∙◌}
use Rattle.ic_run.proofs.LeftLemmas.{workbook}
use Rattle.ic_run.proofs.start.first_book.Goals as goal

pub returns-in-Ok-clause-start : goal.returns-in-Ok-clause-start
returns-in-Ok-clause-start c = c.in-Ok.ensures.start ∙ workbook _ _ _ c.in-Ok.model.book.metadata.created c.args.tables.now
