use Rattle.std.proofs.Common.{◌∙◌}
use Rattle.ic_laws.proofs.TextLemmas.{bytes_eq_chars}
use Rattle.ic_laws.proofs.scan.same_text.Goals as goal

pub returns : goal.returns
returns c = c.eq.ensures ∙ bytes_eq_chars c.args.a.now c.args.b.now c.utf8.a c.utf8.b
