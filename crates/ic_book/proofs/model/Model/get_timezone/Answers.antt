use Rattle.std.proofs.Common.{ap, subst, ◌∙◌}
use Rattle.ic_machine.specs.Reply.{text_field}
use Rattle.ic_machine.specs.subjects.Notation.{get_timezone_step}
use Rattle.ic_parts.specs.Book.{IsValidBook, ModelState}
use Rattle.ic_parts.specs.Fields.{string_only}
use Rattle.ic_parts.proofs.SettingLemmas.{lacks_memory, tells}
use Rattle.ic_book.proofs.model.Model.get_timezone.Goals as goal

pub returns : goal.returns
unfolding get_timezone_step
returns c = record {
  does = tells c.args.self.now (subst (λ (m : ModelState). IsValidBook m.book) c.self.view_is c.self.invariant.book) string_only (text_field c.args.self.now.book.zone) c.in_ok-string_of.field-0
      (ap text_field (c.in_ok-string_of.ensures ∙ ap (λ (m : ModelState). m.book.zone) c.self.view_is));
}

pub returns-in_err-string_of : goal.returns-in_err-string_of
unfolding get_timezone_step
returns-in_err-string_of c = record {
  does = lacks_memory c.args.self.now (subst (λ (m : ModelState). IsValidBook m.book) c.self.view_is c.self.invariant.book) string_only (text_field c.args.self.now.book.zone) c.from_residual.result c.from_residual.ensures;
}
