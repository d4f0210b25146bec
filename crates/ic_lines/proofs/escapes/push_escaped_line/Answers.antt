use Rattle.std.proofs.Common.{refl, sym}
use Rattle.ic_lines.proofs.EscapeLemmas.{escaped-plain}
use Rattle.ic_lines.proofs.escapes.push_escaped_line.Goals as goal

pub returns-then-not-has_escaped : goal.returns-then-not-has_escaped
returns-then-not-has_escaped c = rw (escaped-plain c.args.line.now c.utf8.line (sym c.if-not-has_escaped.ensures)) c.push_text.ensures.ok

pub loop-c-init : goal.loop-c-init
loop-c-init c = (c.utf8.line, refl)
