use Rattle.std.proofs.Common.{◌≡◌, ◌<◌, ℕ, List, None, length, subst, sym}
use Rattle.std.specs.List.{HoldsAt}
use Rattle.ic_sheets.specs.Spots.{index_at}
use Rattle.ic_sheets.specs.declared.sheets.spots.Spot.{Spot}
use Rattle.ic_sheets.proofs.SpotLemmas.{none_replaced, replaced_found, replaced_rises}
use Rattle.ic_sheets.proofs.sheets.spots.Spots.replace.Goals as goal

-- this id stands at this place
abbrev IsThere : ℕ → ℕ → List Spot → Type 0
IsThere id place spots = (place < length spots) × HoldsAt (λ s. s.id ≡ id) spots place

pub invariant_of-self : goal.invariant_of-self
invariant_of-self c =
    let spots = c.args.self.now in
    let there = subst (IsThere c.args.id c.in-Some.place) c.deref.ensures.value c.in-Some.ensures in
    let s = c.index_mut.result.now in
    record { rise = replaced_rises spots.list.items 0 c.in-Some.place c.args.index s spots.rise there.0 c.index_mut.ensures.value }

pub returns-in-Some : goal.returns-in-Some
returns-in-Some c =
    let spots = c.args.self.now in
    let there = subst (IsThere c.args.id c.in-Some.place) c.deref.ensures.value c.in-Some.ensures in
    let s = c.index_mut.result.now in
    let is : s.id ≡ c.args.id = subst (λ (x : Spot). x.id ≡ c.args.id) (sym c.index_mut.ensures.value) (there.1 s) in
    replaced_found spots.list.items 0 c.in-Some.place c.args.index c.args.id s spots.rise there.0 c.index_mut.ensures.value is

pub returns-in_default : goal.returns-in_default
returns-in_default c =
    let none = subst (λ (xs : List Spot). index_at c.args.id xs ≡ None) c.deref.ensures.value c.in_default.ensures in
    none_replaced c.args.self.now.list.items c.args.index c.args.id none
