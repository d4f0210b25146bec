use Rattle.std.proofs.Common.{◌∙◌, Some, ap, subst}
use Rattle.ic_laws.specs.CoreBook.{CellPlace}
use Rattle.ic_parts.specs.Book.{whole_of}
use Rattle.ic_parts.specs.Does.{DoesStep, Wanted}
use Rattle.ic_parts.specs.Fields.{no_fields}
use Rattle.ic_parts.specs.Refused.{refusal_of}
use Rattle.ic_parts.specs.Values.{put_step, style_change, value_content}
use Rattle.ic_parts.proofs.CellReads.{of_error}
use Rattle.ic_book.proofs.ValueLemmas.{refusal_there, value_refused}
use Rattle.ic_cells.proofs.MapLemmas.{stored_pair}
use Rattle.ic_book.proofs.model.Model.write_value.Goals as goal

pub returns-in_err-shown-clause-does : goal.returns-in_err-shown-clause-does
returns-in_err-shown-clause-does c =
    let now = c.args.self.now in
    let step = put_step (whole_of now.book) c.args.sheet c.args.row c.args.column (style_change c.args.change.now) (value_content c.args.value.now) in
    let t = c.in_err-shown.ensures.refused in
    of_error (λ r. DoesStep Wanted step no_fields r now now) c.from_residual.result c.from_residual.ensures
    (λ f same. value_refused now c.style_to_write.ensures.valid c.args.sheet c.args.row c.args.column (style_change c.args.change.now) (value_content c.args.value.now) f (t.0, ap refusal_of same ∙ t.1, refusal_there now.book c.args.sheet c.args.row c.args.column _ (stored_pair c.args.row c.args.column c.ranges.row c.ranges.column) (Some t.0) t.2))

pub put_value-requires-clause-shows : goal.put_value-requires-clause-shows
put_value-requires-clause-shows c = c.in_ok-shown.ensures.shows

pub put_value-requires-clause-allowed : goal.put_value-requires-clause-allowed
put_value-requires-clause-allowed c = c.in_ok-shown.ensures.refused

pub returns-clause-does : goal.returns-clause-does
returns-clause-does c =
    subst (λ (p : CellPlace). DoesStep Wanted (put_step (whole_of c.args.self.now.book) c.args.sheet p.0 p.1 (style_change c.args.change.now) (value_content c.args.value.now)) no_fields c.put_value.result c.args.self.now c.put_value.new.self)
    (stored_pair c.args.row c.args.column c.ranges.row c.ranges.column) c.put_value.ensures.does
