use Rattle.std.proofs.Common.{◌-◌, ◌∙◌, List, ap, length, sym}
use Rattle.std.specs.List.{slice_get}
use Rattle.ic_sheets.specs.declared.sheets.spots.Spot.{Spot}
use Rattle.ic_sheets.proofs.SpotLemmas.{greatest_of_last, greatest_of_none}
use Rattle.ic_sheets.proofs.sheets.spots.Spots.greatest_id.Goals as goal

pub returns-in-Some : goal.returns-in-Some
returns-in-Some c =
    greatest_of_last c.args.self.now.list.items c.in-Some.spot.now c.args.self.now.rise (sym (c.in-Some.ensures.value ∙ ap (λ (xs : List Spot). slice_get xs (length xs - 1)) c.deref.ensures.value))

pub returns-in-None : goal.returns-in-None
returns-in-None c = greatest_of_none c.args.self.now.list.items (sym (c.in-None.ensures.value ∙ ap (λ (xs : List Spot). slice_get xs (length xs - 1)) c.deref.ensures.value))
