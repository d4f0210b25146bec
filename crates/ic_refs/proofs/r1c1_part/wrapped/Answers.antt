use Rattle.std.proofs.Common.{arith}
use Rattle.std.proofs.lemmas.Int.{ints}
use Rattle.ic_refs.proofs.R1C1NumberLemmas.{wrapped_from}
use Rattle.ic_refs.proofs.r1c1_part.wrapped.Goals as goal

pub returns : goal.returns
returns c =
    wrapped_from c.args.length c.args.origin c.args.distance _ _ _ _ c.rem_euclid.ensures.value (omega (arith, ints)) (omega (arith, ints))
    (omega (arith, ints, c.rem_euclid.ensures.upper_bound, c.rem_euclid.ensures.lower_bound))
