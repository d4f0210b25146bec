use Rattle.std.proofs.Common.{chars, ap, ◌∙◌}
use Rattle.ic_laws.proofs.TextLemmas.{chars_more}
use Rattle.ic_laws.proofs.scan.push_text.Goals as goal

pub returns-clause-ok : goal.returns-clause-ok
returns-clause-ok c = ap chars c.in_ok-push_str.ensures.bytes ∙ chars_more c.args.text.now c.args.more.now
