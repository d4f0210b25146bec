use Rattle.std.proofs.Common.{ap, subst, ◌∙◌}
use Rattle.ic_machine.specs.Reply.{text_field}
use Rattle.ic_machine.specs.subjects.Tabs.{get_theme_step}
use Rattle.ic_parts.specs.Book.{IsValidBook, ModelState}
use Rattle.ic_parts.specs.Fields.{theme_field}
use Rattle.ic_parts.proofs.SettingLemmas.{lacks_memory, tells}
use Rattle.ic_book.proofs.model.Model.get_theme.Goals as goal

pub returns : goal.returns
unfolding get_theme_step
returns c = record {
  does = tells c.args.self.now (subst (λ (m : ModelState). IsValidBook m.book) c.self.view_is c.self.invariant.book) theme_field (text_field c.args.self.now.book.theme) _
      (ap text_field (c.in_ok-from_str.ensures ∙ c.as_str.ensures.characters ∙ ap (λ (m : ModelState). m.book.theme) c.self.view_is));
}

pub returns-in_err-from_str : goal.returns-in_err-from_str
unfolding get_theme_step
returns-in_err-from_str c = record {
  does = lacks_memory c.args.self.now (subst (λ (m : ModelState). IsValidBook m.book) c.self.view_is c.self.invariant.book) theme_field (text_field c.args.self.now.book.theme) c.from_residual.result c.from_residual.ensures;
}
