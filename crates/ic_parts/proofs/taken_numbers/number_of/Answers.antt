use Rattle.std.proofs.Common.{length, ap, sym, ◌∙◌, arith}
use Rattle.std.proofs.lemmas.Bool.{eqb-true}
use Rattle.std.proofs.lemmas.Fmt.{decimal_nonempty}
use Rattle.ic_parts.proofs.NumberBehind.{first_high, number_read}
use Rattle.ic_parts.proofs.taken_numbers.number_of.Goals as goal

pub returns-then-is_empty : goal.returns-then-is_empty
returns-then-is_empty c = λ n some small is.
    let empty = eqb-true _ _ (sym c.is_empty.ensures ∙ c.if-is_empty.true) in
    absurd (omega (arith, decimal_nonempty n small, ap length is, empty, ap length c.as_bytes-bytes.ensures.value))

pub returns-then-bytes-le48 : goal.returns-then-bytes-le48
returns-then-bytes-le48 c = λ n some small is.
    absurd (first_high c.as_bytes-bytes.result.now n some small (c.as_bytes-bytes.ensures.value ∙ is) (omega arith))

pub returns : goal.returns
returns c = λ n some small is. c.ok.ensures.value ∙ number_read c.args.text.now c.parse.result c.parse.ensures.value.0 n small is
