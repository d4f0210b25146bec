use Rattle.std.proofs.Common.{◌≡◌, ◌<◌, ◌∙◌, List, ap, length, subst, sym}
use Rattle.std.specs.List.{HoldsAt}
use Rattle.ic_sheets.specs.Spots.{Rise, index_at}
use Rattle.ic_sheets.specs.declared.sheets.spots.Spot.{Spot}
use Rattle.ic_sheets.proofs.SpotLemmas.{out_found, out_rises}
use Rattle.ic_sheets.proofs.sheets.spots.Spots.take_out.Goals as goal

pub invariant_of-self : goal.invariant_of-self
invariant_of-self c = record { rise = subst (Rise 0) (sym c.remove.ensures.items) (out_rises c.args.self.now.list.items 0 c.in-Some.place c.args.self.now.rise) }

pub returns-in-Some : goal.returns-in-Some
returns-in-Some c = λ q.
    let there = subst (λ (xs : List Spot). (c.in-Some.place < length xs) × HoldsAt (λ (s : Spot). s.id ≡ c.args.id) xs c.in-Some.place) c.deref.ensures.value c.in-Some.ensures in
    ap (index_at q) c.remove.ensures.items ∙ out_found c.args.self.now.list.items 0 c.in-Some.place c.args.id c.remove.result c.args.self.now.rise there.0 (there.1 c.remove.result) q
