use Rattle.std.proofs.Common.{◌∙◌, ap}
use Rattle.std.proofs.lemmas.Result.{IfOk-weaker}
use Rattle.ic_parts.specs.Translated.{localized_in}
use Rattle.ic_parts.proofs.TargetLemmas.{word_of_boolean}
use Rattle.ic_parts.proofs.written.boolean_text.Goals as goal

pub returns : goal.returns
returns c = λ book well here.
    IfOk-weaker c.value_text.result _ _
    (λ text e. word_of_boolean c.args.target.now c.locale.result.now c.language.result.now c.get_default_language.result.now c.locale.ensures.found c.language.ensures.found c.get_default_language.ensures.found book well here c.args.truth _ (e ∙ ap (localized_in book) c.new_boolean.ensures))
    (c.value_text.ensures book here)
