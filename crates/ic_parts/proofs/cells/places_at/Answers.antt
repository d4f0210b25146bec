use Rattle.std.proofs.Common.{◌++◌, ◌∙◌, ap, append-nil, flat_map, option_map, sym, ℕ}
use Rattle.std.specs.Map.Iter.{deref}
use Rattle.std.proofs.lemmas.Map.Iter.{rest_all, rest_more}
use Rattle.ic_parts.proofs.CellReads.{same_keys}
use Rattle.ic_parts.proofs.HolderReads.{all_places, places_of, places_passed, places_pushed}
use Rattle.ic_parts.proofs.cells.places_at.Goals as goal

pub loop-index-preserved : goal.loop-index-preserved
loop-index-preserved c =
    places_passed c.args.sheets.now _ c.loop-index.all.items c.loop-index.index-iterator c.next.new.self c.in-Some.index.now (rest_more (deref {X = ℕ}) c.loop-index.index-iterator c.next.new.self c.next.result c.in-Some.index c.in-Some.is c.next.ensures.steps) c.loop-index.invariant
    (sym c.get.ensures ∙ ap (option_map (λ s. s.now)) c.in_default.is)

pub loop-index-preserved-in-Continue-1 : goal.loop-index-preserved-in-Continue-1
loop-index-preserved-in-Continue-1 c =
    let s = c.in-Some-get.sheet.now in
    places_pushed c.args.sheets.now _ c.loop-index.all.items c.push_places.new.all.items c.loop-index.index-iterator c.next.new.self c.in-Some.index.now s _
    (rest_more (deref {X = ℕ}) c.loop-index.index-iterator c.next.new.self c.next.result c.in-Some.index c.in-Some.is c.next.ensures.steps) c.loop-index.invariant
    (sym c.get.ensures ∙ ap (option_map (λ s. s.now)) c.in-Some-get.is) c.in_ok-push_places.ensures.pushed
    (same_keys c.as_map.result.now s.grid.cells c.in_ok-push_places.ensures.ordered c.as_map.ensures)

pub returns : goal.returns
returns c =
    let sheets = c.args.sheets.now in
    let indexes = c.args.indexes.now in
    sym (append-nil c.loop-index.all.items) ∙ ap (λ ks. c.loop-index.all.items ++ flat_map (places_of sheets) ks) (sym (rest_all (deref {X = ℕ}) c.loop-index.index-iterator c.next.new.self c.next.result c.in-None.is c.next.ensures.steps)) ∙ c.loop-index.invariant
    ∙ all_places sheets indexes c.into_iter-index-iterator.ensures.into_iter_gives.4 c.requires.others
