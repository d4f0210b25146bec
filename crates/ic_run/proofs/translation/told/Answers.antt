use Rattle.std.proofs.Common.{ap, string_bytes, ◌∙◌}
use Rattle.std.proofs.lemmas.Str.{chars-nil}
use Rattle.std.specs.Str.{chars}
use Rattle.ic_run.specs.Start.{target}
use Rattle.ic_run.proofs.TranslationLemmas.{told_lines}
use Rattle.ic_run.proofs.translation.told.Goals as goal

pub returns : goal.returns
returns c =
    told_lines (target c.args.wanted.now) c.args.lines.now (chars (string_bytes c.new-text.result)) (chars (string_bytes c.push_switch.new.text)) (chars (string_bytes c.push_switch-2.new.text)) (chars (string_bytes c.push_lines.new.text))
    (ap chars c.new-text.ensures.bytes ∙ chars-nil) c.in_ok-push_switch.ensures c.in_ok-push_switch-2.ensures c.in_ok-push_lines.ensures
