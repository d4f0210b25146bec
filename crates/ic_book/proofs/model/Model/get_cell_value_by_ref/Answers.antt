use Rattle.std.proofs.Common.{chars, ap, sym, subst, option_map, ◌∙◌}
use Rattle.ic_laws.specs.CoreBook.{CellPlace}
use Rattle.ic_machine.specs.Book as machine
use Rattle.ic_machine.specs.Book.{Stepped}
use Rattle.ic_machine.specs.subjects.Reading.{value_fields, value_step}
use Rattle.ic_parts.specs.Does.{DoesStep, Wanted}
use Rattle.ic_parts.specs.References.{parsed_of}
use Rattle.ic_parts.specs.Whole.{whole_of}
use Rattle.ic_parts.proofs.ReferenceLemmas.{by_ref_found, by_ref_refused, named_place}
use Rattle.ic_cells.proofs.MapLemmas.{stored_pair}
use Rattle.ic_book.proofs.model.Model.get_cell_value_by_ref.Goals as goal

pub returns-in-Some : goal.returns-in-Some
returns-in-Some c = record {
  does =
      let cell = c.in-Some.cell in
      let found = sym c.parsed.ensures.parsed ∙ ap (option_map parsed_of) c.in-Some.is in
      let fits = named_place c.args.self.now.book (chars c.args.cell_ref.now) (parsed_of cell) found in
      subst (λ (made : Stepped machine.Book). DoesStep Wanted made value_fields c.get_cell_value_by_index.result c.args.self.now c.args.self.now) (by_ref_found c.args.self.now (chars c.args.cell_ref.now) (parsed_of cell) found)
      (subst (λ (p : CellPlace). DoesStep Wanted (value_step cell.sheet p (whole_of c.args.self.now.book)) value_fields c.get_cell_value_by_index.result c.args.self.now c.args.self.now) (stored_pair cell.row cell.column fits.0 fits.1) c.get_cell_value_by_index.ensures.does);
}

pub returns-in-None : goal.returns-in-None
returns-in-None c = record {
  does = by_ref_refused c.args.self.now (chars c.args.cell_ref.now) c.parsed.ensures.valid (sym c.parsed.ensures.parsed ∙ ap (option_map parsed_of) c.in-None.is);
}
