use Rattle.std.proofs.Common.{sym, subst, ◌∙◌}
use Rattle.memchr.specs.Find.{IsFirstByte, is_byte3}
use Rattle.ic_lines.proofs.EscapeLemmas.{escaped-without_feed}
use Rattle.ic_lines.proofs.TextLemmas.{searched}
use Rattle.ic_lines.proofs.escapes.has_escaped.Goals as goal

pub returns : goal.returns
returns c =
    c.is_some.ensures
    ∙ searched (is_byte3 92 9 13) c.args.line.now c.memchr3.result (subst (λ bytes. IsFirstByte (is_byte3 92 9 13) bytes c.memchr3.result) c.as_bytes.ensures.value c.memchr3.ensures)
    ∙ sym (escaped-without_feed c.args.line.now c.requires)
