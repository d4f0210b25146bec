use Rattle.std.proofs.Common.{◌≡◌, ◌<◌, ◌≤◌, ◌∙◌, List, ap, arith, cond, length, subst, sym}
use Rattle.std.specs.List.{AllWithin, insert}
use Rattle.ic_sheets.specs.Spots.{Rise, index_at}
use Rattle.ic_sheets.specs.declared.sheets.spots.Spot.{Spot}
use Rattle.ic_sheets.proofs.SpotLemmas.{all_higher, put_found, put_rises}
use Rattle.ic_sheets.proofs.sheets.spots.Spots.put.Goals as goal

pub invariant_of-self : goal.invariant_of-self
invariant_of-self c =
    let spots = c.args.self.now.list.items in
    let s : Spot = record { id = c.args.id; index = c.args.index } in
    let place = c.place_of-place.result in
    let put : c.insert.new.self.items ≡ insert spots place s = c.insert.ensures.items ∙ ap (λ b. cond b (insert spots place s) spots) (c.insert.ensures.succeeds c.requires.room) in
    let within = subst (λ (xs : List Spot). place ≤ length xs) c.deref.ensures.value c.place_of-place.ensures.within in
    let below = subst (λ (xs : List Spot). AllWithin (λ (x : Spot). x.id < c.args.id) xs 0 place) c.deref.ensures.value c.place_of-place.ensures.below in
    let above = subst (λ (xs : List Spot). AllWithin (λ (x : Spot). c.args.id ≤ x.id) xs place (length xs)) c.deref.ensures.value c.place_of-place.ensures.above in
    record {
      rise = subst (Rise 0) (sym put) (put_rises spots 0 place s c.args.self.now.rise (omega arith) within below (all_higher spots 0 place c.args.id c.args.self.now.rise c.requires.absent above));
    }

pub returns : goal.returns
returns c = λ q.
    let spots = c.args.self.now.list.items in
    let s : Spot = record { id = c.args.id; index = c.args.index } in
    let place = c.place_of-place.result in
    let put : c.insert.new.self.items ≡ insert spots place s = c.insert.ensures.items ∙ ap (λ b. cond b (insert spots place s) spots) (c.insert.ensures.succeeds c.requires.room) in
    let within = subst (λ (xs : List Spot). place ≤ length xs) c.deref.ensures.value c.place_of-place.ensures.within in
    let below = subst (λ (xs : List Spot). AllWithin (λ (x : Spot). x.id < c.args.id) xs 0 place) c.deref.ensures.value c.place_of-place.ensures.below in
    ap (index_at q) put ∙ put_found spots place s within below q
