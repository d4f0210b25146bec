use Rattle.std.proofs.Common.{[], Bool, chars, subst}
use Rattle.ic_laws.specs.CoreBook.{CellPlace}
use Rattle.ic_cells.specs.Style.{with_quote_prefix}
use Rattle.ic_machine.specs.Content.{TextContent}
use Rattle.ic_machine.specs.subjects.Writing.{text_step, write_step}
use Rattle.ic_parts.specs.Does.{DoesStep, Wanted}
use Rattle.ic_parts.specs.Fields.{no_fields}
use Rattle.ic_parts.specs.Values.{content_written, put_step}
use Rattle.ic_parts.specs.Whole.{whole_of}
use Rattle.ic_cells.proofs.MapLemmas.{stored_pair}
use Rattle.ic_book.proofs.model.Model.update_cell_with_text.Goals as goal

pub returns-clause-does : goal.returns-clause-does
unfolding text_step
returns-clause-does c =
    let written =
    subst (λ (p : CellPlace). DoesStep Wanted (write_step (whole_of c.args.self.now.book) c.args.sheet p (content_written (with_quote_prefix c.needs_quote-quoted.result) (λ style. TextContent (chars c.args.value.now) style)) []) no_fields c.write_value.result c.args.self.now c.write_value.new.self)
    (stored_pair c.args.row c.args.column c.ranges.row c.ranges.column) c.write_value.ensures.does in
    subst (λ (q : Bool). DoesStep Wanted (put_step (whole_of c.args.self.now.book) c.args.sheet c.args.row c.args.column (with_quote_prefix q) (λ style. TextContent (chars c.args.value.now) style)) no_fields c.write_value.result c.args.self.now c.write_value.new.self)
    c.needs_quote-quoted.ensures written
