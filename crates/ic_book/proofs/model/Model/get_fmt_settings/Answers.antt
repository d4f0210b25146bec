use Rattle.std.proofs.Common.{◌≡◌, [], Some, subst, sym, ◌∙◌}
use Rattle.ic_tables.specs.Tables.{locale_of}
use Rattle.ic_machine.specs.Fields.{fields_of_settings}
use Rattle.ic_machine.specs.InForce.{by_notation, in_force}
use Rattle.ic_machine.specs.subjects.Notation.{settings_fields, settings_step}
use Rattle.ic_parts.specs.Book.{IsValidBook, ModelState}
use Rattle.ic_parts.specs.Whole.{whole_of}
use Rattle.ic_parts.proofs.ExtendLemmas.{settings_told}
use Rattle.ic_parts.proofs.SettingLemmas.{lacks_memory, tells}
use Rattle.ic_parts.proofs.WholeWritten.{language_there}
use Rattle.ic_book.proofs.model.Model.get_fmt_settings.Goals as goal

pub returns : goal.returns
unfolding settings_step
returns c = record {
  does =
      let valid = subst (λ (m : ModelState). IsValidBook m.book) c.self.view_is c.self.invariant.book in
      tells c.args.self.now valid fields_of_settings (by_notation [] (λ f. settings_fields f.locale) (in_force (whole_of c.args.self.now.book))) c.in_ok-settings_of.field-0
      (c.in_ok-settings_of.ensures
      ∙ sym (settings_told c.args.self.now valid c.locale.result.now (language_there c.args.self.now.book valid).0
      (subst (λ (m : ModelState). locale_of m.book.tables m.book.locale ≡ Some c.locale.result.now) c.self.view_is c.locale.ensures.found)
      (language_there c.args.self.now.book valid).1));
}

pub returns-in_err-settings_of : goal.returns-in_err-settings_of
unfolding settings_step
returns-in_err-settings_of c = record {
  does =
      lacks_memory c.args.self.now (subst (λ (m : ModelState). IsValidBook m.book) c.self.view_is c.self.invariant.book) fields_of_settings
      (by_notation [] (λ f. settings_fields f.locale) (in_force (whole_of c.args.self.now.book))) c.from_residual.result c.from_residual.ensures;
}
