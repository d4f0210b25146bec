use Rattle.std.proofs.Common.{◌++◌, chars, ap, ◌∙◌, string_bytes, arith}
use Rattle.std.specs.Fmt.{signed_decimal}
use Rattle.std.proofs.lemmas.Fmt.{IsAscii-signed}
use Rattle.std.proofs.lemmas.Int.{ints, to_z-of_z}
use Rattle.std.proofs.lemmas.Str.{chars-IsAscii}
use mir.Syntax.{w32}
use Rattle.ic_laws.proofs.TextLemmas.{chars_more}
use Rattle.ic_audit.proofs.told.push_signed.Goals as goal

pub returns : goal.returns
returns c =
    ap chars c.in_ok-write.ensures.bytes
    ∙ ap (λ z. chars (string_bytes c.args.text.now ++ signed_decimal z)) (to_z-of_z w32 c.args.number c.ranges.number)
    ∙ chars_more c.args.text.now (signed_decimal c.args.number)
    ∙ ap (λ cs. chars (string_bytes c.args.text.now) ++ cs) (chars-IsAscii (signed_decimal c.args.number) (IsAscii-signed c.args.number (omega (arith, ints))))
