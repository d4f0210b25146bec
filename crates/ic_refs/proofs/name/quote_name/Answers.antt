use Rattle.std.proofs.Common.{◌++◌, chars, ap, ◌∙◌}
use Rattle.std.proofs.lemmas.Str.{chars-nil}
use Rattle.ic_laws.specs.Name.{quoted}
use Rattle.ic_refs.proofs.name.quote_name.Goals as goal

pub returns : goal.returns
returns c = c.in_ok-push_quoted.ensures ∙ ap (λ so. so ++ quoted (chars c.args.name.now)) (ap chars c.in_ok-out.ensures.bytes ∙ chars-nil)
