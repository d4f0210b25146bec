use Rattle.std.proofs.Common.{◌<◌, ◌≡◌, ◌∙◌, List, Some, ap, length, subst, sym}
use Rattle.std.specs.List.{HoldsAt}
use Rattle.ic_sheets.specs.declared.sheets.spots.Spot.{Spot}
use Rattle.ic_sheets.proofs.SpotLemmas.{found_there}
use Rattle.ic_sheets.proofs.sheets.spots.Spots.index_of.Goals as goal

pub returns : goal.returns
returns c =
    let spots = c.args.self.now.list.items in
    let there = subst (λ (xs : List Spot). (c.in_ok-place.place < length xs) × HoldsAt (λ (s : Spot). s.id ≡ c.args.id) xs c.in_ok-place.place) c.deref.ensures.value c.in_ok-place.ensures in
    ap (λ (s : Spot). Some s.index) c.index.ensures
    ∙ sym (found_there spots 0 c.in_ok-place.place c.args.id c.index.result.now c.args.self.now.rise there.0 (there.1 c.index.result.now))
