use Rattle.std.proofs.Common.{◌++◌, chars, string_bytes, ap, ◌∙◌}
use Rattle.ic_laws.proofs.TextLemmas.{chars_more}
use Rattle.ic_words.proofs.ReplyLemmas.{chars-decimal}
use Rattle.ic_import.proofs.desk.push_number.Goals as goal

pub returns : goal.returns
returns c =
    ap chars c.in_ok-write.ensures.bytes ∙ chars_more c.args.text.now _
    ∙ ap (λ ds. chars (string_bytes c.args.text.now) ++ ds) (chars-decimal c.args.number)
