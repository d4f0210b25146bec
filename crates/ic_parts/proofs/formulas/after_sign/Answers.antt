use Rattle.std.proofs.Common.{ap, ◌∙◌, ◌++◌}
use Rattle.std.specs.Str.{chars}
use Rattle.ic_parts.proofs.formulas.after_sign.Goals as goal

pub returns : goal.returns
unfolding chars
returns c = c.in_ok-push_text-2.ensures.ok ∙ ap (λ front. front ++ chars c.args.text.now) (c.in_ok-push_text.ensures.ok ∙ ap (λ b. chars b ++ chars c.args.sign.now) c.in_ok-out.ensures.bytes)
