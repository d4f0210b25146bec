use Rattle.std.proofs.Common.{◌∙◌, ap, subst, true, ◌≡◌}
use Rattle.std.proofs.lemmas.Result.{IfOk-weaker}
use Rattle.ic_laws.specs.Amount.{amount_text, is_amount}
use Rattle.ic_parts.proofs.TargetLemmas.{text_of_amount}
use Rattle.ic_parts.proofs.written.number_text.Goals as goal

pub returns : goal.returns
returns c = λ book well here.
    IfOk-weaker c.amount_text.result _ _
    (λ text e. text_of_amount c.args.target.now c.locale.result.now c.language.result.now c.get_default_language.result.now c.locale.ensures.found c.language.ensures.found c.get_default_language.ensures.found book well here c.args.amount
    (subst (λ v. is_amount v ≡ true) c.units.ensures.exact c.units.ensures.within) _ (e ∙ ap (λ d. amount_text d c.args.amount) c.decimal_separator.ensures))
    c.amount_text.ensures
