use Rattle.std.proofs.Common.{refl}
use Rattle.ic_lines.proofs.escapes.push_escaped.Goals as goal

pub loop-line-init : goal.loop-line-init
loop-line-init c = (c.utf8.text, refl)
