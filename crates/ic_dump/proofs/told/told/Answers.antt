use Rattle.std.proofs.Common.{ap, ◌∙◌}
use Rattle.std.proofs.lemmas.Str.{chars-nil}
use Rattle.std.specs.Str.{chars}
use Rattle.ic_dump.proofs.told.told.Goals as goal

pub loop-line-init : goal.loop-line-init
loop-line-init c = ap chars c.in_ok-text.ensures.bytes ∙ chars-nil
