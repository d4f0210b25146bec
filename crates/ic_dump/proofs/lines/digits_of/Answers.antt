use Rattle.std.proofs.Common.{◌++◌, ap, ◌∙◌}
use Rattle.std.specs.Fmt.{decimal}
use Rattle.std.specs.Str.{chars}
use Rattle.ic_words.proofs.ReplyLemmas.{chars-decimal}
use Rattle.ic_dump.proofs.lines.digits_of.Goals as goal

pub returns : goal.returns
returns c = ap chars (c.in_ok-write.ensures.bytes ∙ ap (λ b. b ++ decimal c.args.number) c.new-text.ensures.bytes) ∙ chars-decimal c.args.number
