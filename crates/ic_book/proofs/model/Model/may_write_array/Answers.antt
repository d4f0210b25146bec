use Rattle.std.proofs.Common.{ap, subst, sym, ◌∙◌}
use Rattle.ic_machine.specs.Refusal.{InvalidSheet}
use Rattle.ic_parts.specs.Arrays.{array_refusal, array_refusal_in}
use Rattle.ic_parts.specs.Refused.{TellsOnly, refusal_of}
use Rattle.ic_parts.proofs.CellReads.{of_error}
use Rattle.ic_book.proofs.model.Model.may_write_array.Goals as goal

pub returns-in_err-worksheet-clause-refused : goal.returns-in_err-worksheet-clause-refused
returns-in_err-worksheet-clause-refused c =
    let found = c.in_err-worksheet.ensures in
    of_error (λ r. TellsOnly r (array_refusal c.args.self.now.book c.args.sheet c.args.block)) c.from_residual.result c.from_residual.ensures
    (λ f same. (InvalidSheet, ap refusal_of (same ∙ found.1), ap (array_refusal_in c.args.block) found.0))

pub returns-clause-refused : goal.returns-clause-refused
returns-clause-refused c = subst (TellsOnly c.array_fits.result) (sym (ap (array_refusal_in c.args.block) c.in_ok-worksheet.ensures)) c.array_fits.ensures
