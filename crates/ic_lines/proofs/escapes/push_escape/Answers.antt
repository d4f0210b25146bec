use Rattle.std.proofs.Common.{ap, ◌∙◌}
use Rattle.std.specs.Str.{chars}
use Rattle.ic_laws.proofs.TextLemmas.{chars_more}
use Rattle.ic_lines.proofs.escapes.push_escape.Goals as goal

pub returns-in_ok-push_str-in-92 : goal.returns-in_ok-push_str-in-92
unfolding chars
returns-in_ok-push_str-in-92 c = rw (c.in-92.is) (ap chars c.in_ok-push_str-in-92.ensures.bytes ∙ chars_more c.args.word.now _)

pub returns-in_ok-push_str-in-9 : goal.returns-in_ok-push_str-in-9
unfolding chars
returns-in_ok-push_str-in-9 c = rw (c.in-9.is) (ap chars c.in_ok-push_str-in-9.ensures.bytes ∙ chars_more c.args.word.now _)

pub returns-in_ok-push_str-in-10 : goal.returns-in_ok-push_str-in-10
unfolding chars
returns-in_ok-push_str-in-10 c = rw (c.in-10.is) (ap chars c.in_ok-push_str-in-10.ensures.bytes ∙ chars_more c.args.word.now _)

pub returns-in_ok-push_str-in-13 : goal.returns-in_ok-push_str-in-13
unfolding chars
returns-in_ok-push_str-in-13 c = rw (c.in-13.is) (ap chars c.in_ok-push_str-in-13.ensures.bytes ∙ chars_more c.args.word.now _)
