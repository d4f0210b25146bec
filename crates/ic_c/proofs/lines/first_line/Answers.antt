use Rattle.std.proofs.Common.{◌+◌, ◌∙◌, ap, rules}
use Rattle.ic_laws.specs.Lines.{line_text}
use Rattle.ic_c.proofs.FirstLines.{cut_all, cut_rest, ends_with_bytes, ends_with_feed}
use Rattle.ic_c.proofs.lines.first_line.Goals as goal

pub returns-in_default : goal.returns-in_default
returns-in_default c = ends_with_bytes c.args.bytes.now _ _ (search rules) c.in_default.ensures c.text_of.ensures (cut_all c.args.bytes.now)

pub returns : goal.returns
returns c = ends_with_feed c.args.bytes.now _ _ c.in-Some.len c.in-Some.ensures (c.text_of-2.ensures ∙ ap line_text c.cut_return.ensures) (cut_rest c.args.bytes.now (c.in-Some.len + 1))
