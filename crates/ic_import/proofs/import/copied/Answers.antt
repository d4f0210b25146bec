use Rattle.std.proofs.Common.{chars, ◌∙◌}
use Rattle.ic_import.proofs.ImportLemmas.{copy_is, copy_refused}
use Rattle.ic_import.proofs.import.copied.Goals as goal

pub want_of_memory-requires : goal.want_of_memory-requires
want_of_memory-requires c =
    copy_refused c.args.model.now.book c.requires.valid c.in-Ok.workbook (chars c.args.language_id.now) c.args.tables.now c.in-Ok.ensures.copied c.requires.language c.requires.tables c.in-Err.e c.in-Err.ensures.err

pub returns-in-Ok-from_workbook : goal.returns-in-Ok-from_workbook
returns-in-Ok-from_workbook c =
    c.in-Ok-from_workbook.ensures.ok
    ∙ copy_is c.args.model.now.book c.requires.valid c.in-Ok.workbook (chars c.args.language_id.now) c.args.tables.now c.in-Ok.ensures.copied c.requires.language c.requires.tables
