use Rattle.std.proofs.Common.{◌++◌, ap, ◌∙◌, arith, string_bytes}
use Rattle.std.specs.Fmt.{signed_decimal}
use Rattle.std.specs.Str.{chars}
use Rattle.std.proofs.lemmas.Fmt.{IsAscii-signed}
use Rattle.std.proofs.lemmas.Int.{ints, to_z-of_z}
use Rattle.std.proofs.lemmas.Str.{chars-IsAscii}
use mir.Syntax.{w32}
use Rattle.ic_dump.proofs.lines.signed_digits_of.Goals as goal

pub returns : goal.returns
returns c =
    ap chars c.in_ok-write.ensures.bytes
    ∙ ap (λ z. chars (string_bytes c.new-text.result ++ signed_decimal z)) (to_z-of_z w32 c.args.number c.ranges.number)
    ∙ ap (λ b. chars (b ++ signed_decimal c.args.number)) c.new-text.ensures.bytes
    ∙ chars-IsAscii (signed_decimal c.args.number) (IsAscii-signed c.args.number (omega (arith, ints)))
