use Rattle.std.proofs.Common.{ap, length, sym, ◌∙◌}
use Rattle.std.proofs.lemmas.List.{length-map}
use Rattle.ic_parts.specs.Book.{whole_sheet}
use Rattle.ic_workbooks.specs.Workbook.{worksheet_of}
use Rattle.ic_cells.specs.declared.workbook.Workbook.{Workbook}
use Rattle.ic_run.specs.Counts.{formulas_of}
use Rattle.ic_run.proofs.CountLemmas.{formulas_counted}
use Rattle.ic_run.proofs.counts.sizes.Goals as goal

pub returns-in-Ok : goal.returns-in-Ok
returns-in-Ok c =
    let book = c.args.model.now.book in
    let copied = ap (λ (w : Workbook). w.worksheets) c.in-Ok.ensures.copied in (
      c.len.ensures ∙ ap length copied ∙ length-map book.sheets (worksheet_of book) ∙ sym (length-map book.sheets (whole_sheet book.strings)),
      c.formulas_of.ensures ∙ ap formulas_of (c.as_slice.ensures ∙ copied) ∙ formulas_counted book,
    )
