use Rattle.std.proofs.Common.{length, option_map, ap, sym, subst, ◌∙◌}
use Rattle.ic_cells.specs.Style.{style_at}
use Rattle.ic_machine.specs.Fields.{optional_style_fields}
use Rattle.ic_machine.specs.Valid.{IsStyleNumber}
use Rattle.ic_sheets.specs.Sheet.{sheet_of}
use Rattle.ic_parts.specs.Book.{IsValidBook, ModelState}
use Rattle.ic_parts.specs.Does.{Wanted}
use Rattle.ic_parts.specs.Styled.{line_causes, line_style}
use Rattle.ic_parts.specs.Whole.{whole_of}
use Rattle.ic_parts.proofs.StyleLemmas.{line_below, line_told, passes_memory, passes_missing, passes_refusal, tells_line}
use Rattle.ic_book.proofs.model.Model.style_set_for.Goals as goal

pub returns-in_err-worksheet : goal.returns-in_err-worksheet
returns-in_err-worksheet c = record {
  does =
      passes_missing c.args.self.now (subst (λ (m : ModelState). IsValidBook m.book) c.self.view_is c.self.invariant.book) c.args.sheet Wanted optional_style_fields (line_causes c.args.line) (line_told (whole_of c.args.self.now.book) c.args.line) c.in_err-worksheet.field-0.0 c.in_err-worksheet.ensures
      c.from_residual.result c.from_residual.ensures;
}

pub returns-in_err-check_line : goal.returns-in_err-check_line
returns-in_err-check_line c = record {
  does =
      passes_refusal c.args.self.now (subst (λ (m : ModelState). IsValidBook m.book) c.self.view_is c.self.invariant.book) c.args.sheet Wanted optional_style_fields (line_causes c.args.line) (line_told (whole_of c.args.self.now.book) c.args.line) (sheet_of c.in_ok-worksheet.worksheet.now) c.in_ok-worksheet.ensures
      c.in_err-check_line.field-0.0 c.in_err-check_line.ensures c.from_residual-in_err-check_line.result c.from_residual-in_err-check_line.ensures;
}

pub copy_if_set-requires : goal.copy_if_set-requires
copy_if_set-requires c =
    let grid = c.in_ok-worksheet.worksheet.now.grid in
    let valid = subst (λ (m : ModelState). IsValidBook m.book) c.self.view_is c.self.invariant.book in
    subst (IsStyleNumber (length c.self.inside.lists.styles)) (sym c.line_style-number.ensures)
    (subst (λ (m : ModelState). IsStyleNumber (length m.book.styles) (line_style c.args.line grid.rows grid.columns)) (sym c.self.view_is)
    (line_below c.args.self.now valid c.args.sheet (sheet_of c.in_ok-worksheet.worksheet.now) c.in_ok-worksheet.ensures c.args.line))

pub returns-in_err-copy_if_set : goal.returns-in_err-copy_if_set
returns-in_err-copy_if_set c = record {
  does =
      passes_memory c.args.self.now (subst (λ (m : ModelState). IsValidBook m.book) c.self.view_is c.self.invariant.book) c.args.sheet optional_style_fields (line_causes c.args.line) (line_told (whole_of c.args.self.now.book) c.args.line) (sheet_of c.in_ok-worksheet.worksheet.now) c.in_ok-worksheet.ensures c.in_ok-check_line.ensures
      c.from_residual-in_err-copy_if_set.result c.from_residual-in_err-copy_if_set.ensures;
}

pub returns : goal.returns
returns c = record {
  does =
      let valid = subst (λ (m : ModelState). IsValidBook m.book) c.self.view_is c.self.invariant.book in
      tells_line c.args.self.now valid c.args.sheet (sheet_of c.in_ok-worksheet.worksheet.now) c.in_ok-worksheet.ensures c.args.line c.line_style-number.result _ c.line_style-number.ensures
      (c.in_ok-copy_if_set.ensures ∙ ap (λ (m : ModelState). option_map (style_at m.book.styles) c.line_style-number.result) c.self.view_is) c.in_ok-check_line.ensures;
}
