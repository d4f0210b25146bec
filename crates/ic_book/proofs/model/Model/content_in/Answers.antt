use Rattle.std.proofs.Common.{None, sym, ap, subst, ◌∙◌}
use Rattle.std.specs.Str.{chars}
use Rattle.std.proofs.lemmas.Result.{IfOk-weaker}
use Rattle.ic_laws.specs.CoreBook.{CellPlace}
use Rattle.std.specs.FinMap as finite
use Rattle.std.specs.Prelude.{option_copied}
use Rattle.ic_sheets.specs.Sheet.{sheet_of}
use Rattle.ic_parts.specs.Book.{IsValidBook, ModelState}
use Rattle.ic_parts.specs.Shown.{content_shown}
use Rattle.ic_parts.proofs.ShownLemmas.{shown_there}
use Rattle.ic_cells.proofs.MapLemmas.{stored_pair}
use Rattle.ic_book.proofs.model.Model.content_in.Goals as goal

pub cell_shown-requires-clause-there : goal.cell_shown-requires-clause-there
cell_shown-requires-clause-there c = sym c.get.ensures ∙ ap option_copied c.in-Some.is

pub returns-in-Some : goal.returns-in-Some
returns-in-Some c =
    IfOk-weaker c.cell_shown.result _ _
    (λ text e. e ∙ ap (λ (p : CellPlace). content_shown c.args.self.now.book (sheet_of c.args.worksheet.now) p) (stored_pair c.args.row c.args.column c.ranges.row c.ranges.column))
    c.cell_shown.ensures

pub returns-in-None : goal.returns-in-None
unfolding chars
returns-in-None c =
    ap chars c.new.ensures.bytes
    ∙ shown_there c.args.self.now (subst (λ (m : ModelState). IsValidBook m.book) c.self.view_is c.self.invariant.book) (sheet_of c.args.worksheet.now) c.requires (c.args.row, c.args.column) None
    (ap (finite.get c.args.worksheet.now.grid.cells) (sym (stored_pair c.args.row c.args.column c.ranges.row c.ranges.column)) ∙ sym c.get.ensures ∙ ap option_copied c.in-None.is)
