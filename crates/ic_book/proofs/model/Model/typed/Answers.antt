use Rattle.std.proofs.Common.{◌∙◌, chars, sym, ap}
use Rattle.std.proofs.lemmas.Result.{IfOk-weaker}
use Rattle.ic_machine.specs.InForce.{typed_in}
use Rattle.ic_parts.specs.Book.{ModelState, whole_of}
use Rattle.ic_book.proofs.InForceLemmas.{typed_is}
use Rattle.ic_book.proofs.model.Model.typed.Goals as goal

pub returns : goal.returns
returns c =
    IfOk-weaker c.classify.result _ _ (λ t is.
    is ∙ sym (typed_is c.self.inside c.locale.result.now c.language.result.now c.get_default_language-english.result.now c.locale.ensures.found c.language.ensures.found c.get_default_language-english.ensures.found (chars c.args.text.now))
    ∙ ap (λ (m : ModelState). typed_in (whole_of m.book) (chars c.args.text.now)) c.self.view_is) c.classify.ensures.exact
