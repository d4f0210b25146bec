use Rattle.std.proofs.Common.{ℕ, Result, chars, string_bytes, subst, sym}
use Rattle.std.specs.Prelude.{IfOk}
use Rattle.ic_parts.specs.Whole.{whole_of}
use Rattle.ic_import.specs.Desk.{SaysOf, status_of}
use Rattle.ic_import.specs.declared.error.ImportError.{ImportError}
use Rattle.ic_import.proofs.DeskLemmas.{table_told}
use Rattle.ic_import.proofs.desk.told.Goals as goal

pub returns-in-Ok-clause-text : goal.returns-in-Ok-clause-text
returns-in-Ok-clause-text c = table_told (whole_of c.args.model.now.book) c.table.result c.or_no_memory.result c.or_no_memory.ensures.text c.args.answer.now c.in-Ok.field-0 c.in-Ok.is c.table.ensures

pub returns-in-Err-clause-text : goal.returns-in-Err-clause-text
returns-in-Err-clause-text c =
    let book = whole_of c.args.model.now.book in
    subst (λ (a : Result (ℕ × ℕ) ImportError). IfOk c.told_error.result (λ text. SaysOf a book (status_of a) (chars (string_bytes text)))) (sym c.in-Err.is) (c.told_error.ensures.text book)
