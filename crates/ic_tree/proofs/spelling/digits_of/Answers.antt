use Rattle.std.proofs.Common.{◌∙◌, ap, arith, chars}
use Rattle.ic_refs.proofs.PushLemmas.{chars-decimal}
use Rattle.ic_tree.proofs.spelling.digits_of.Goals as goal

pub returns : goal.returns
returns c = c.from.ensures ∙ (ap chars c.in_ok-to_string.ensures.ok ∙ chars-decimal c.args.id (omega arith))
