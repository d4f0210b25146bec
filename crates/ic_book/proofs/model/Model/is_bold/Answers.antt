use Rattle.std.proofs.Common.{◌<◌, length, ap, sym, subst, ◌∙◌}
use Rattle.ic_cells.specs.Style.{style_at}
use Rattle.ic_grid.specs.Shape.{celled}
use Rattle.ic_grid.specs.Style as grid_style
use Rattle.ic_sheets.specs.Sheet.{sheet_of}
use Rattle.ic_parts.specs.Book.{IsValidBook, ModelState}
use Rattle.ic_parts.proofs.GridLemmas.{style_below}
use Rattle.ic_parts.proofs.StyleLemmas.{shown_number}
use Rattle.ic_cells.proofs.MapLemmas.{stored_pair}
use Rattle.ic_book.proofs.model.Model.is_bold.Goals as goal

pub bold_at-requires : goal.bold_at-requires
bold_at-requires c =
    let grid = c.args.worksheet.now.grid in
    subst (λ k. k < length c.args.self.now.book.styles) (sym (c.style_at.ensures ∙ ap (grid_style.style_at celled grid.cells grid.rows grid.columns) (stored_pair c.args.row c.args.column c.ranges.row c.ranges.column)))
    (style_below c.args.self.now.book (subst (λ (m : ModelState). IsValidBook m.book) c.self.view_is c.self.invariant.book) c.requires.0 (sheet_of c.args.worksheet.now) c.requires.1 (c.args.row, c.args.column))

pub returns : goal.returns
returns c =
    let grid = c.args.worksheet.now.grid in
    c.bold_at.ensures ∙ ap (λ n. (style_at c.args.self.now.book.styles n).bold) (c.style_at.ensures ∙ ap (grid_style.style_at celled grid.cells grid.rows grid.columns) (stored_pair c.args.row c.args.column c.ranges.row c.ranges.column)
    ∙ sym (shown_number c.args.self.now.book.strings grid (c.args.row, c.args.column)))
