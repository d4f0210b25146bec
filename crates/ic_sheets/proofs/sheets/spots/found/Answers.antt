use Rattle.std.proofs.Common.{◌<◌, arith, length}
use Rattle.ic_sheets.proofs.SpotLemmas.{none_there, other_there}
use Rattle.ic_sheets.proofs.sheets.spots.found.Goals as goal

pub returns-then-place-spots : goal.returns-then-place-spots
returns-then-place-spots c =
    none_there c.args.spots.now c.args.id (λ k d lt e. let less = c.place_of-place.ensures.below k d (omega arith) (omega (arith, lt, c.if-place-spots.true)) in omega (arith, less, e))

pub returns-else-spots-place : goal.returns-else-spots-place
returns-else-spots-place c =
    let within : c.place_of-place.result < length c.args.spots.now = grind (arith, c.place_of-place.ensures.within, c.if-place-spots.false) in
    other_there c.args.spots.now 0 c.place_of-place.result c.args.id _ c.requires within c.place_of-place.ensures.below c.place_of-place.ensures.above c.if-spots-place.false
