use Rattle.std.proofs.Common.{◌∙◌, ◌++◌, chars, ap}
use Rattle.std.proofs.lemmas.Str.{chars-nil}
use Rattle.ic_input.specs.Code.{code_text}
use Rattle.ic_input.proofs.input.code_text.Goals as goal

pub returns : goal.returns
returns c =
    c.from.ensures ∙ c.in_ok-push_code.ensures ∙ ap (λ t. t ++ code_text c.args.code.now) (ap chars c.new-text.ensures.bytes ∙ chars-nil)
