use Rattle.std.proofs.Common.{◌++◌, chars, ap, ◌∙◌}
use Rattle.std.proofs.lemmas.Str.{chars-nil}
use Rattle.ic_laws.specs.Lines.{escaped}
use Rattle.ic_lines.proofs.escapes.escape.Goals as goal

pub returns : goal.returns
returns c = c.from.ensures ∙ c.in_ok-push_escaped.ensures ∙ ap (λ so. so ++ escaped (chars c.args.text.now)) (ap chars c.in_ok-word.ensures.bytes ∙ chars-nil)
