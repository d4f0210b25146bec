use Rattle.std.proofs.Common.{ap, map, ◌∙◌}
use Rattle.std.specs.Str.{chars}
use Rattle.ic_lines.specs.Reading.{has_line_feed}
use Rattle.ic_run.proofs.RetoldLemmas.{line_no_feed}
use Rattle.ic_dump.proofs.lines.line_of.Goals as goal

pub whole-requires : goal.whole-requires
whole-requires c = ap has_line_feed c.in_ok-text.ensures ∙ line_no_feed (map (λ t. chars t.now) c.args.texts.now)
