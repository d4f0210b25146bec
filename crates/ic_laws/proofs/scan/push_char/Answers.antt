use Rattle.std.proofs.Common.{◌++◌, chars, string_bytes, ap, ◌∙◌}
use Rattle.ic_laws.proofs.TextLemmas.{chars_more, chars-encode}
use Rattle.ic_laws.proofs.scan.push_char.Goals as goal

pub returns-clause-ok : goal.returns-clause-ok
returns-clause-ok c =
    ap chars c.in_ok-push.ensures.bytes ∙ chars_more c.args.text.now _
    ∙ ap (λ cs. chars (string_bytes c.args.text.now) ++ cs) (chars-encode c.args.c c.ranges.c.0)
