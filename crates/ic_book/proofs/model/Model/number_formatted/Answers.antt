use Rattle.std.proofs.Common.{chars, ap, ◌∙◌}
use Rattle.std.proofs.lemmas.Result.{IfOk-weaker}
use Rattle.ic_machine.specs.InForce.{formatted_in}
use Rattle.ic_parts.specs.Book.{ModelState}
use Rattle.ic_parts.specs.Whole.{whole_of}
use Rattle.ic_machine.proofs.again.FormatLemmas.{formatted_is}
use Rattle.ic_parts.proofs.ShownLemmas.{formatted_there}
use Rattle.ic_parts.proofs.WholeWritten.{language_there}
use Rattle.ic_book.proofs.model.Model.number_formatted.Goals as goal

pub returns : goal.returns
returns c =
    IfOk-weaker c.format_amount.result _ _
    (λ text h. formatted_is _ _ _ _ h
    ∙ formatted_there _ c.self.invariant.book _ _ c.locale.ensures.found (language_there _ c.self.invariant.book).1 (chars c.args.code.now) c.args.amount
    ∙ ap (λ (m : ModelState). formatted_in (whole_of m.book) (chars c.args.code.now) c.args.amount) c.self.view_is)
    c.format_amount.ensures.shown
