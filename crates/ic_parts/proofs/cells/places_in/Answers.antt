use Rattle.std.proofs.Common.{◌+◌, ◌<◌, ◌∙◌, ◌∷◌, ap, drop, length, sym, rules, arith}
use Rattle.std.proofs.lemmas.List.{drop_more}
use Rattle.ic_sheets.proofs.IndexLemmas.{read_boxed}
use Rattle.ic_parts.proofs.CellReads.{places_next, same_keys}
use Rattle.ic_parts.specs.Cells.{places_from}
use Rattle.ic_parts.proofs.cells.places_in.Goals as goal

-- there are no more sheets than ids
pub overflow_cast-index : goal.overflow_cast-index
overflow_cast-index c = search (rules, arith)

pub loop-index-preserved : goal.loop-index-preserved
loop-index-preserved c =
    let s = c.as_ref.result.now in
    let sheets = c.args.sheets.now in
    let index = c.loop-index.index in
    let lt : index < length sheets = search (rules, arith) in
    places_next (places_from 0 sheets) c.loop-index.all.items c.push_places.new.all.items index sheets s _
    (drop_more sheets index s lt ∙ ap (λ x. x ∷ drop (index + 1) sheets) (sym (read_boxed c.args.sheets.now c.loop-index.index c.as_ref.ensures c.index-sheets-index.is)))
    c.loop-index.invariant c.in_ok-push_places.ensures.pushed
    (same_keys c.as_map.result.now s.grid.cells c.in_ok-push_places.ensures.ordered c.as_map.ensures)
