use Rattle.std.proofs.Common.{◌++◌, chars, ap, ◌∙◌}
use Rattle.std.proofs.lemmas.Str.{chars-nil}
use Rattle.ic_refs.specs.Written.{undoubled}
use Rattle.ic_refs.proofs.written.undoubled.Goals as goal

pub returns : goal.returns
returns c = c.from.ensures ∙ c.in_ok-push_undoubled.ensures ∙ ap (λ so. so ++ undoubled (chars c.args.inside.now)) (ap chars c.in_ok-name.ensures.bytes ∙ chars-nil)
