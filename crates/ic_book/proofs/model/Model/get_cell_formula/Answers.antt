use Rattle.std.proofs.Common.{subst}
use Rattle.ic_laws.specs.CoreBook.{CellPlace}
use Rattle.ic_machine.specs.subjects.Reading.{GetCellFormula, reading_step}
use Rattle.ic_parts.specs.Does.{Does}
use Rattle.ic_parts.specs.Fields.{string_field}
use Rattle.ic_parts.proofs.DoesLemmas.{shows}
use Rattle.ic_cells.proofs.MapLemmas.{stored_pair}
use Rattle.ic_book.proofs.model.Model.get_cell_formula.Goals as goal

pub returns : goal.returns
returns c = record {
  does =
      subst (λ (p : CellPlace). Does reading_step (GetCellFormula c.args.sheet p.0 p.1) string_field c.formula_shown.result c.args.self.now c.args.self.now) (stored_pair c.args.row c.args.column c.ranges.row c.ranges.column)
      (shows c.args.self.now c.formula_shown.ensures.valid c.formula_shown.result c.args.sheet _ _ c.formula_shown.ensures.shown c.formula_shown.ensures.refused);
}
