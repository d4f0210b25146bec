use Rattle.std.proofs.Common.{None, Some, sym, ap, subst, ◌∙◌}
use Rattle.std.specs.Str.{chars}
use Rattle.std.proofs.lemmas.Result.{IfOk-weaker}
use Rattle.std.specs.FinMap as finite
use Rattle.std.specs.Prelude.{option_copied}
use Rattle.ic_sheets.specs.Sheet.{sheet_of}
use Rattle.ic_parts.specs.Book.{IsValidBook, ModelState}
use Rattle.ic_parts.proofs.ShownLemmas.{cell_formatted_is, formatted_at, style_there}
use Rattle.ic_cells.proofs.MapLemmas.{stored_pair}
use Rattle.ic_book.proofs.model.Model.formatted_in.Goals as goal

pub formatted-requires : goal.formatted-requires
formatted-requires c =
    style_there c.args.self.now (subst (λ (m : ModelState). IsValidBook m.book) c.self.view_is c.self.invariant.book) (sheet_of c.args.worksheet.now) c.requires (c.args.row, c.args.column) c.in-Some.cell.now
    (ap (finite.get c.args.worksheet.now.grid.cells) (sym (stored_pair c.args.row c.args.column c.ranges.row c.ranges.column)) ∙ sym c.get.ensures ∙ ap option_copied c.in-Some.is)

pub returns-in-Some : goal.returns-in-Some
returns-in-Some c =
    let valid = (subst (λ (m : ModelState). IsValidBook m.book) c.self.view_is c.self.invariant.book) in
    IfOk-weaker c.formatted.result _ _
    (λ text e. e ∙ cell_formatted_is c.args.self.now.book valid c.in-Some.cell.now
    ∙ formatted_at c.args.self.now valid (sheet_of c.args.worksheet.now) c.requires (c.args.row, c.args.column) (Some c.in-Some.cell.now)
    (ap (finite.get c.args.worksheet.now.grid.cells) (sym (stored_pair c.args.row c.args.column c.ranges.row c.ranges.column)) ∙ sym c.get.ensures ∙ ap option_copied c.in-Some.is))
    c.formatted.ensures

pub returns-in-None : goal.returns-in-None
unfolding chars
returns-in-None c =
    ap chars c.new.ensures.bytes
    ∙ formatted_at c.args.self.now (subst (λ (m : ModelState). IsValidBook m.book) c.self.view_is c.self.invariant.book) (sheet_of c.args.worksheet.now) c.requires (c.args.row, c.args.column) None
    (ap (finite.get c.args.worksheet.now.grid.cells) (sym (stored_pair c.args.row c.args.column c.ranges.row c.ranges.column)) ∙ sym c.get.ensures ∙ ap option_copied c.in-None.is)
