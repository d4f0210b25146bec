use Rattle.std.proofs.Common.{List, ap, flat_map, subst, ◌∙◌}
use Rattle.ic_machine.specs.subjects.Sheets.{properties_step, property_fields}
use Rattle.ic_sheets.specs.declared.sheet.Sheet.{Sheet as HeldSheet}
use Rattle.ic_parts.specs.Book.{IsValidBook, ModelState}
use Rattle.ic_parts.specs.Fields.{sheets_fields, told_sheet}
use Rattle.ic_parts.specs.Whole.{whole_of}
use Rattle.ic_parts.proofs.SettingLemmas.{lacks_memory, sheets_told, tells}
use Rattle.ic_book.proofs.model.Model.get_worksheets_properties.Goals as goal

pub returns : goal.returns
unfolding properties_step
returns c = record {
  does =
      tells c.args.self.now (subst (λ (m : ModelState). IsValidBook m.book) c.self.view_is c.self.invariant.book) sheets_fields (flat_map property_fields (whole_of c.args.self.now.book).sheets) c.in_ok-properties_of.field-0
      (c.in_ok-properties_of.ensures ∙ ap (λ (ws : List HeldSheet). flat_map told_sheet ws) c.as_slice.ensures.sheets ∙ sheets_told c.self.inside.lists.strings c.self.inside.contents.sheets
      ∙ ap (λ (m : ModelState). flat_map property_fields (whole_of m.book).sheets) c.self.view_is);
}

pub returns-in_err-properties_of : goal.returns-in_err-properties_of
unfolding properties_step
returns-in_err-properties_of c = record {
  does =
      lacks_memory c.args.self.now (subst (λ (m : ModelState). IsValidBook m.book) c.self.view_is c.self.invariant.book) sheets_fields (flat_map property_fields (whole_of c.args.self.now.book).sheets) c.from_residual.result c.from_residual.ensures;
}
