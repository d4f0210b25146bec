use Rattle.std.proofs.Common.{◌∙◌, ap, option_map, sym}
use Rattle.std.specs.FinMap as finite
use Rattle.std.specs.List.{slice_get}
use Rattle.std.proofs.lemmas.Option.{slice_get-map}
use Rattle.ic_sheets.specs.Sheet.{sheet_of}
use Rattle.ic_parts.specs.Book.{ModelState}
use Rattle.ic_cells.proofs.MapLemmas.{stored_pair}
use Rattle.ic_book.proofs.model.Model.cell_at.Goals as goal

pub returns-in-Some-clause-finds : goal.returns-in-Some-clause-finds
returns-in-Some-clause-finds c =
    let entry = c.in-Some.sheet.now in
    let there = sym c.get.ensures ∙ ap (option_map (λ s. s.now)) c.in-Some.is in (
      sheet_of entry,
      ap (λ (m : ModelState). slice_get m.book.sheets c.args.sheet) (sym c.self.view_is) ∙ slice_get-map sheet_of c.self.inside.contents.sheets c.args.sheet ∙ ap (option_map sheet_of) there,
      c.get-in-Some.ensures ∙ ap (finite.get entry.grid.cells) (stored_pair c.args.row c.args.column c.ranges.row c.ranges.column),
    )
