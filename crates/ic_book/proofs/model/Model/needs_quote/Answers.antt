use Rattle.std.proofs.Common.{chars, sym, ap, ◌∙◌}
use Rattle.ic_input.specs.Typed.{needs_quoting}
use Rattle.ic_input.specs.declared.input.Typed.{Typed}
use Rattle.ic_machine.specs.InForce.{typed_in}
use Rattle.ic_parts.specs.Book.{ModelState}
use Rattle.ic_parts.specs.Whole.{whole_of}
use Rattle.ic_book.proofs.InForceLemmas.{typed_is}
use Rattle.ic_book.proofs.model.Model.needs_quote.Goals as goal

pub returns : goal.returns
returns c =
    c.in-Ok.ensures.value
    ∙ ap (λ (t : Typed). needs_quoting (chars c.args.text.now) t)
    (sym (typed_is c.self.inside c.locale.result.now c.language.result.now c.get_default_language-english.result.now c.locale.ensures.found c.language.ensures.found c.get_default_language-english.ensures.found (chars c.args.text.now))
    ∙ ap (λ (m : ModelState). typed_in (whole_of m.book) (chars c.args.text.now)) c.self.view_is)
