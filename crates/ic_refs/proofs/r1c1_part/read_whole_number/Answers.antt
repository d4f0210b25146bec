use Rattle.std.proofs.Common.{◌∙◌, sym, chars}
use Rattle.ic_refs.proofs.R1C1NumberLemmas.{whole_number}
use Rattle.ic_refs.proofs.r1c1_part.read_whole_number.Goals as goal

pub returns : goal.returns
returns c =
    let w = whole_number c.args.most (chars c.args.text.now) _ (sym c.begins_with_digit.ensures ∙ c.if-not-begins_with_digit.false) c.read_number-number.ensures.exact (sym c.begins_with_digit-2.ensures ∙ c.if-begins_with_digit.false) in
    (w.0, w.1, c.read_number-number.ensures.within)
