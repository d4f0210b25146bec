use Rattle.std.proofs.Common.{ap, ◌∙◌}
use Rattle.std.proofs.lemmas.Str.{chars-nil}
use Rattle.std.specs.Str.{chars}
use Rattle.ic_audit.proofs.told.told.Goals as goal

pub loop-site-init : goal.loop-site-init
loop-site-init c = ap chars c.new-text.ensures.bytes ∙ chars-nil
