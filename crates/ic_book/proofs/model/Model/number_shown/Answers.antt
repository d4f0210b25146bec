use Rattle.std.proofs.Common.{None, Some, chars, option_map, string_bytes, sym, ap, ◌∙◌}
use Rattle.std.proofs.lemmas.Result.{IfOk-weaker}
use Rattle.ic_laws.specs.Amount.{amount_text}
use Rattle.ic_machine.specs.InForce.{decimal_in}
use Rattle.ic_parts.specs.Book.{ModelState}
use Rattle.ic_parts.specs.Whole.{whole_of}
use Rattle.ic_parts.proofs.ShownLemmas.{decimal_is, number_shown_by}
use Rattle.ic_parts.proofs.WholeWritten.{language_there}
use Rattle.ic_book.proofs.model.Model.number_shown.Goals as goal

pub returns-in-Some : goal.returns-in-Some
returns-in-Some c =
    number_shown_by (whole_of c.args.self.now.book) (chars c.args.code.now) c.args.amount (Some (chars (string_bytes c.in-Some.date)))
    (sym (ap (option_map (λ s. chars (string_bytes s))) c.in-Some.is) ∙ c.in_ok-date.ensures)

pub returns-in-None : goal.returns-in-None
returns-in-None c =
    IfOk-weaker c.amount_text.result _ _
    (λ text e. e ∙ ap (λ d. amount_text d c.args.amount) (c.decimal_separator.ensures ∙ decimal_is _ c.self.invariant.book _ _ c.locale.ensures.found (language_there _ c.self.invariant.book).1
    ∙ ap (λ (m : ModelState). decimal_in (whole_of m.book)) c.self.view_is)
    ∙ number_shown_by (whole_of c.args.self.now.book) (chars c.args.code.now) c.args.amount None (sym (ap (option_map (λ s. chars (string_bytes s))) c.in-None.is) ∙ c.in_ok-date.ensures))
    c.amount_text.ensures
