use Rattle.std.proofs.Common.{[], ◌∷◌, ◌++◌, ap, ◌∙◌}
use Rattle.std.specs.Str.{chars}
use Rattle.std.proofs.lemmas.Result.{IfOk-weaker}
use Rattle.ic_laws.specs.ReadAs.{read_as}
use Rattle.ic_parts.proofs.formulas.read_closed.Goals as goal

pub returns : goal.returns
unfolding chars
returns g c =
    IfOk-weaker c.read_typed.result _ _
    (λ t e. e ∙ ap (read_as (g.D.Dialect.meaning c.args.d.now))
    (ap chars c.as_str.ensures.value ∙ c.in_ok-push_char.ensures.ok ∙ ap (λ front. front ++ 41 ∷ []) (c.in_ok-push_text.ensures.ok ∙ ap (λ b. chars b ++ chars c.args.text.now) c.in_ok-closed.ensures.bytes)))
    c.read_typed.ensures
