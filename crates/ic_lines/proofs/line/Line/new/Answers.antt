use Rattle.std.proofs.Common.{refl, sym, ◌∙◌}
use Rattle.ic_lines.proofs.TextLemmas.{line_feed-same}
use Rattle.ic_lines.proofs.line.Line.new.Goals as goal

pub returns-then-contains : goal.returns-then-contains
returns-then-contains c =
    line_feed-same _ c.args.text (c.as_bytes.ensures.value ∙ c.as_str.ensures.bytes) ∙ sym c.contains.ensures.value ∙ c.if-contains.true

pub invariant_of-result : goal.invariant_of-result
invariant_of-result c =
    line_feed-same _ c.args.text (c.as_bytes.ensures.value ∙ c.as_str.ensures.bytes) ∙ sym c.contains.ensures.value ∙ c.if-contains.false

pub returns : goal.returns
returns c =
    (refl, line_feed-same _ c.args.text (c.as_bytes.ensures.value ∙ c.as_str.ensures.bytes) ∙ sym c.contains.ensures.value ∙ c.if-contains.false)
