use Rattle.std.proofs.Common.{◌++◌, chars, string_bytes, ap, ◌∙◌, arith}
use Rattle.ic_laws.proofs.TextLemmas.{chars_more}
use Rattle.ic_refs.proofs.PushLemmas.{chars-decimal}
use Rattle.ic_parts.proofs.sheet_names.push_number.Goals as goal

pub returns : goal.returns
returns c =
    ap chars c.in_ok-write.ensures.bytes ∙ chars_more c.args.text.now _
    ∙ ap (λ ds. chars (string_bytes c.args.text.now) ++ ds) (chars-decimal c.args.number (omega arith))
