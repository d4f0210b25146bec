use Rattle.std.proofs.Common.{◌≡◌, ◌∷◌, ◌∙◌, [], Some, ap, option_map, refl, subst, sym}
use Rattle.std.specs.FinMap as finite
use Rattle.std.specs.Option.{option_copied}
use Rattle.ic_laws.specs.Character.{equals}
use Rattle.ic_laws.specs.CoreBook.{CellPlace, formula_at}
use Rattle.ic_laws.specs.FormulaReading.{shown_formula}
use Rattle.ic_machine.specs.subjects.Extending.{extend_step}
use Rattle.ic_sheets.specs.Sheet.{cells_of, sheet_of}
use Rattle.ic_tables.specs.Tables.{language_of, locale_of}
use Rattle.ic_parts.specs.Book.{IsValidBook, ModelState, core_of, notations_in}
use Rattle.ic_parts.specs.Does.{Wanted}
use Rattle.ic_parts.specs.Extended.{value_text}
use Rattle.ic_parts.specs.Fields.{string_only}
use Rattle.ic_parts.specs.Whole.{whole_of}
use Rattle.ic_parts.proofs.ExtendLemmas.{extended_told, extends_formula, extends_value, places_at}
use Rattle.ic_parts.proofs.StyleLemmas.{passes_memory, passes_missing}
use Rattle.ic_parts.proofs.WholeWritten.{language_there, locale_there}
use Rattle.ic_cells.proofs.MapLemmas.{stored_pair}
use Rattle.ic_book.proofs.model.Model.extend_to.Goals as goal

pub returns-in_err-worksheet : goal.returns-in_err-worksheet
unfolding extend_step
returns-in_err-worksheet c = record {
  does =
      passes_missing c.args.self.now (subst (λ (m : ModelState). IsValidBook m.book) c.self.view_is c.self.invariant.book) c.args.sheet Wanted string_only []
      (extended_told (whole_of c.args.self.now.book) c.args.row c.args.column (c.args.target_row, c.args.target_column)) c.in_err-worksheet.field-0.0 c.in_err-worksheet.ensures c.from_residual.result c.from_residual.ensures;
}

pub formula_at-requires : goal.formula_at-requires
formula_at-requires c =
    places_at c.args.self.now (subst (λ (m : ModelState). IsValidBook m.book) c.self.view_is c.self.invariant.book) c.args.sheet (sheet_of c.in_ok-worksheet.worksheet.now) c.in_ok-worksheet.ensures

pub returns-in_err-show : goal.returns-in_err-show
unfolding extend_step
returns-in_err-show c = record {
  does =
      passes_memory c.args.self.now (subst (λ (m : ModelState). IsValidBook m.book) c.self.view_is c.self.invariant.book) c.args.sheet string_only []
      (extended_told (whole_of c.args.self.now.book) c.args.row c.args.column (c.args.target_row, c.args.target_column)) (sheet_of c.in_ok-worksheet.worksheet.now) c.in_ok-worksheet.ensures refl
      c.from_residual-in_err-show.result c.from_residual-in_err-show.ensures;
}

pub returns-in-Some : goal.returns-in-Some
returns-in-Some c = record {
  does =
      let sheet = c.in_ok-worksheet.worksheet.now in
      let shown = c.in_ok-show.ensures ∙ ap (λ (p : CellPlace). equals ∷ shown_formula (notations_in c.args.self.now.book) (core_of c.args.self.now.book) p.0 p.1 c.in-Some.formula.now) (stored_pair c.args.target_row c.args.target_column c.ranges.target_row c.ranges.target_column) in
      extends_formula c.args.self.now (subst (λ (m : ModelState). IsValidBook m.book) c.self.view_is c.self.invariant.book) (locale_there c.args.self.now.book (subst (λ (m : ModelState). IsValidBook m.book) c.self.view_is c.self.invariant.book)).0 (language_there c.args.self.now.book (subst (λ (m : ModelState). IsValidBook m.book) c.self.view_is c.self.invariant.book)).0
      (locale_there c.args.self.now.book (subst (λ (m : ModelState). IsValidBook m.book) c.self.view_is c.self.invariant.book)).1
      (language_there c.args.self.now.book (subst (λ (m : ModelState). IsValidBook m.book) c.self.view_is c.self.invariant.book)).1 c.args.sheet c.args.row c.args.column (c.args.target_row, c.args.target_column) (sheet_of sheet) c.in_ok-worksheet.ensures
      c.in-Some.formula.now
      (sym (c.formula_at.ensures ∙ ap (λ (p : CellPlace). formula_at (cells_of sheet.pool.formulas (finite.entries sheet.grid.cells)) p.0 p.1) (stored_pair c.args.row c.args.column c.ranges.row c.ranges.column)) ∙ ap (option_map (λ f. f.now)) c.in-Some.is)
      c.in_ok-show.field-0 shown;
}

pub returns-in_err-text_in : goal.returns-in_err-text_in
unfolding extend_step
returns-in_err-text_in c = record {
  does =
      passes_memory c.args.self.now (subst (λ (m : ModelState). IsValidBook m.book) c.self.view_is c.self.invariant.book) c.args.sheet string_only []
      (extended_told (whole_of c.args.self.now.book) c.args.row c.args.column (c.args.target_row, c.args.target_column)) (sheet_of c.in_ok-worksheet.worksheet.now) c.in_ok-worksheet.ensures refl
      c.from_residual-in_err-text_in.result c.from_residual-in_err-text_in.ensures;
}

pub returns : goal.returns
returns c = record {
  does =
      let sheet = c.in_ok-worksheet.worksheet.now in
      let cell = option_copied c.get-cell.result in
      let shown = c.in_ok-text_in.ensures ∙ ap (λ strings. value_text strings c.locale.result.now.locale c.language.result.now cell) c.as_items-strings.ensures
      ∙ ap (λ (m : ModelState). value_text m.book.strings c.locale.result.now.locale c.language.result.now cell) c.self.view_is
      ∙ ap (value_text c.args.self.now.book.strings c.locale.result.now.locale c.language.result.now) (c.get-cell.ensures ∙ ap (finite.get sheet.grid.cells) (stored_pair c.args.row c.args.column c.ranges.row c.ranges.column)) in
      extends_value c.args.self.now (subst (λ (m : ModelState). IsValidBook m.book) c.self.view_is c.self.invariant.book) c.locale.result.now c.language.result.now
      (subst (λ (m : ModelState). locale_of m.book.tables m.book.locale ≡ Some c.locale.result.now) c.self.view_is c.locale.ensures.found)
      (subst (λ (m : ModelState). language_of m.book.tables m.book.language ≡ Some c.language.result.now) c.self.view_is c.language.ensures.found) c.args.sheet c.args.row c.args.column (c.args.target_row, c.args.target_column) (sheet_of sheet) c.in_ok-worksheet.ensures
      (sym (c.formula_at.ensures ∙ ap (λ (p : CellPlace). formula_at (cells_of sheet.pool.formulas (finite.entries sheet.grid.cells)) p.0 p.1) (stored_pair c.args.row c.args.column c.ranges.row c.ranges.column)) ∙ ap (option_map (λ f. f.now)) c.in_default.is)
      c.in_ok-text_in.field-0 shown;
}
