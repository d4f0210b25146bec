use Rattle.std.proofs.Common.{◌≡◌, chars, ap, ◌∙◌, arith}
use Rattle.std.specs.Fmt.{decimal}
use Rattle.ic_refs.proofs.PushLemmas.{chars-decimal, same_appended}
use Rattle.ic_refs.proofs.a1_text.push_number.Goals as goal

pub returns : goal.returns
returns c =
    let digits : chars c.format.result.now ≡ decimal c.args.number = ap chars c.format.ensures.text ∙ chars-decimal c.args.number (omega arith) in
    same_appended c.push_text.result _ _ _ _ digits c.push_text.ensures.ok
