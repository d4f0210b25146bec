use Rattle.std.proofs.Common.{◌<◌, ◌∙◌, ap, arith, length, slice_set}
use Rattle.std.proofs.lemmas.List.Edits.{map_over_more}
use Rattle.ic_sheets.specs.Spots.{lowered}
use Rattle.ic_sheets.specs.declared.sheets.spots.Spot.{Spot}
use Rattle.ic_sheets.proofs.sheets.spots.lower_all.Goals as goal

pub loop-place-preserved : goal.loop-place-preserved
loop-place-preserved c =
    let spots = c.args.spots.now.items in
    let s = c.index_mut-spot.result.now in
    let within : c.loop-place.place < length spots = omega (arith, c.loop-place-test.true, c.len-place-end.ensures, c.args.spots.now.ok.0) in
    ap (λ n. slice_set c.loop-place.spots.items c.loop-place.place (record s { index = n })) c.lowered-spot.ensures
    ∙ map_over_more (λ (x : Spot). record x { index = lowered c.args.index x.index }) spots c.loop-place.spots.items c.loop-place.place s within c.loop-place.invariant c.index_mut-spot.ensures.value
