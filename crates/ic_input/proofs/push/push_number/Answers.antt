use Rattle.std.proofs.Common.{◌++◌, chars, string_bytes, ap, ◌∙◌, arith}
use Rattle.std.specs.Fmt.{decimal}
use Rattle.std.proofs.lemmas.Fmt.{IsAscii-decimal_wide}
use Rattle.std.proofs.lemmas.Str.{chars-IsAscii}
use Rattle.ic_laws.proofs.TextLemmas.{chars_more}
use Rattle.ic_input.proofs.push.push_number.Goals as goal

pub returns : goal.returns
returns c =
    ap chars c.in_ok-write.ensures.bytes ∙ chars_more c.args.text.now _
    ∙ ap (λ ds. chars (string_bytes c.args.text.now) ++ ds) (chars-IsAscii (decimal c.args.n) (IsAscii-decimal_wide c.args.n (omega arith)))
