use Rattle.std.proofs.Common.{[], subst}
use Rattle.ic_laws.specs.CoreBook.{CellPlace}
use Rattle.ic_machine.specs.Content.{BoolContent}
use Rattle.ic_machine.specs.subjects.Writing.{bool_step, unquoted, write_step}
use Rattle.ic_parts.specs.Does.{DoesStep, Wanted}
use Rattle.ic_parts.specs.Fields.{no_fields}
use Rattle.ic_parts.specs.Values.{content_written}
use Rattle.ic_parts.specs.Whole.{whole_of}
use Rattle.ic_cells.proofs.MapLemmas.{stored_pair}
use Rattle.ic_book.proofs.model.Model.update_cell_with_bool.Goals as goal

pub returns-clause-does : goal.returns-clause-does
unfolding bool_step
returns-clause-does c =
    subst (λ (p : CellPlace). DoesStep Wanted (write_step (whole_of c.args.self.now.book) c.args.sheet p (content_written unquoted (λ style. BoolContent c.args.value style)) []) no_fields c.write_value.result c.args.self.now c.write_value.new.self)
    (stored_pair c.args.row c.args.column c.ranges.row c.ranges.column) c.write_value.ensures.does
