use Rattle.std.proofs.Common.{ap, ◌∙◌}
use Rattle.ic_lines.specs.Reading.{has_line_feed}
use Rattle.ic_run.proofs.RetoldLemmas.{line_no_feed}
use Rattle.ic_run.proofs.retold.line_from.Goals as goal

pub whole-requires : goal.whole-requires
whole-requires c = ap has_line_feed c.in_ok-text.ensures ∙ line_no_feed c.args.texts.now
