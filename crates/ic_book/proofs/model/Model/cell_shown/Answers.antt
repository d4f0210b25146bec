use Rattle.std.proofs.Common.{◌∷◌, Some, option_map, sym, ap, subst, ◌∙◌}
use Rattle.std.proofs.lemmas.Result.{IfOk-weaker}
use Rattle.ic_laws.specs.Character.{equals}
use Rattle.ic_laws.specs.CoreBook.{CellPlace}
use Rattle.ic_laws.specs.FormulaReading.{shown_formula}
use Rattle.ic_sheets.specs.Sheet.{sheet_of}
use Rattle.ic_parts.specs.Book.{IsValidBook, ModelState, core_of, notations_in}
use Rattle.ic_parts.proofs.ShownLemmas.{formula_lacking, formula_shown, shown_there, style_there, value_shown_is}
use Rattle.ic_cells.proofs.MapLemmas.{stored_pair}
use Rattle.ic_book.proofs.model.Model.cell_shown.Goals as goal

pub value_shown-requires : goal.value_shown-requires
value_shown-requires c =
    style_there c.args.self.now (subst (λ (m : ModelState). IsValidBook m.book) c.self.view_is c.self.invariant.book) (sheet_of c.args.worksheet.now) c.requires.stands (c.args.row, c.args.column) c.args.cell.now c.requires.there

pub returns-in-Some : goal.returns-in-Some
returns-in-Some c =
    let valid = (subst (λ (m : ModelState). IsValidBook m.book) c.self.view_is c.self.invariant.book) in
    let s = sheet_of c.args.worksheet.now in
    IfOk-weaker c.show.result _ _
    (λ text e. e ∙ ap (λ (p : CellPlace). equals ∷ shown_formula (notations_in c.args.self.now.book) (core_of c.args.self.now.book) p.0 p.1 c.in-Some.formula.now) (stored_pair c.args.row c.args.column c.ranges.row c.ranges.column)
    ∙ formula_shown c.args.self.now valid s c.requires.stands (c.args.row, c.args.column) c.args.cell.now c.requires.there c.in-Some.formula.now (sym c.formula_in.ensures ∙ ap (option_map (λ f. f.now)) c.in-Some.is)
    ∙ shown_there c.args.self.now valid s c.requires.stands (c.args.row, c.args.column) (Some c.args.cell.now) c.requires.there)
    c.show.ensures

pub returns-in-None : goal.returns-in-None
returns-in-None c =
    let valid = (subst (λ (m : ModelState). IsValidBook m.book) c.self.view_is c.self.invariant.book) in
    let s = sheet_of c.args.worksheet.now in
    let lacks = formula_lacking c.args.self.now valid s c.requires.stands (c.args.row, c.args.column) c.args.cell.now c.requires.there (sym c.formula_in.ensures ∙ ap (option_map (λ f. f.now)) c.in-None.is) in
    IfOk-weaker c.value_shown.result _ _
    (λ text e. e ∙ value_shown_is c.args.self.now.book valid s (c.args.row, c.args.column) c.args.cell.now lacks
    ∙ shown_there c.args.self.now valid s c.requires.stands (c.args.row, c.args.column) (Some c.args.cell.now) c.requires.there)
    c.value_shown.ensures
