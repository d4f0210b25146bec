use Rattle.std.proofs.Common.{Option, Some, ap, ap₂, chars, option_map, sym, ◌∙◌}
use Rattle.std.specs.List.{slice_get}
use Rattle.std.proofs.lemmas.Option.{slice_get-map}
use Rattle.ic_laws.specs.CoreBook.{CellPlace}
use Rattle.ic_laws.specs.FormulaReading.{cell_formula}
use Rattle.ic_laws.specs.declared.tree.Formula.{Formula}
use Rattle.ic_sheets.specs.Sheet.{Sheet, sheet_of}
use Rattle.ic_parts.specs.Book.{ModelState, core_of, notations_in}
use Rattle.ic_parts.specs.Written.{written_formula}
use Rattle.ic_parts.specs.declared.own_text.OwnText.{OwnText}
use Rattle.ic_parts.specs.declared.own_text.OwnText.TheVariants as owns
use Rattle.ic_cells.proofs.MapLemmas.{stored_pair}
use Rattle.ic_book.proofs.model.Model.own_formula.Goals as goal

pub returns : goal.returns
returns c =
    let now = c.args.self.now in
    let entry = c.in-Some.worksheet.now in
    let body = chars c.args.body.now in
    let same = stored_pair c.args.row c.args.column c.ranges.row c.ranges.column in
    let there = sym c.get.ensures ∙ ap (option_map (λ s. s.now)) c.in-Some.is in
    let found = ap (λ (m : ModelState). slice_get m.book.sheets c.args.sheet) (sym c.self.view_is) ∙ slice_get-map sheet_of c.self.inside.contents.sheets c.args.sheet ∙ ap (option_map sheet_of) there in
    ap₂ (λ (p : CellPlace) (f : Formula). let o : Option OwnText = Some (owns.Formula p.0 p.1 f) in o) same
    (c.in_ok-formula.ensures ∙ ap (λ (p : CellPlace). cell_formula (notations_in now.book) (core_of now.book) entry.id p.0 p.1 body) same)
    ∙ sym (ap (option_map (λ (s : Sheet). owns.Formula c.args.row c.args.column (written_formula now.book s (c.args.row, c.args.column) body))) found)
