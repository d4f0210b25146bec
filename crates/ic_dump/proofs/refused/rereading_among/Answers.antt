use Rattle.std.proofs.Common.{◌≡◌, ◌<◌, ◌∷◌, [], ◌∙◌, List, Some, ap, arith, cond, false, length, map, option_map, refl, rules, slice_get, sym, true}
use Rattle.std.proofs.lemmas.Option.{slice_get-map, slice_get_read}
use Rattle.ic_machine.specs.Refusal.{CellSite, Site}
use Rattle.ic_parts.specs.Book.{notations_in}
use Rattle.ic_parts.specs.Lent.{placed}
use Rattle.ic_dump.specs.Refused.{rereading_cell, rereads}
use Rattle.ic_dump.proofs.RefusedLemmas.{found_here, none_here}
use Rattle.ic_dump.proofs.refused.rereading_among.Goals as goal

pub returns-then-branch : goal.returns-then-branch
returns-then-branch c =
    let n = notations_in c.args.model.now.book in
    let cells = c.args.cells.now in
    let i = c.loop-cell.cell-index in
    let x = c.cell-item.result in
    let below : i < length cells = search (rules, arith) in
    let there : slice_get (map placed cells) i ≡ Some (placed x) = slice_get-map placed cells i ∙ ap (option_map placed) (slice_get_read cells (length cells) i x refl below c.cell-item.is) in
    let passes : rereads n (placed x).0 (placed x).1 ≡ true = sym c.in_ok-rereads.ensures ∙ c.if-branch.true in
    ap Some c.cell_site.ensures
    ∙ found_here (rereading_cell n c.args.id) (map placed cells) i (placed x) (CellSite c.args.id (placed x).0) _ there
    (ap (λ t. slice_get (let all : List Site = cond t (CellSite c.args.id (placed x).0 ∷ []) [] in all) 0) passes) c.loop-cell.invariant

pub loop-cell-preserved : goal.loop-cell-preserved
loop-cell-preserved c =
    let n = notations_in c.args.model.now.book in
    let cells = c.args.cells.now in
    let i = c.loop-cell.cell-index in
    let x = c.cell-item.result in
    let below : i < length cells = search (rules, arith) in
    let there : slice_get (map placed cells) i ≡ Some (placed x) = slice_get-map placed cells i ∙ ap (option_map placed) (slice_get_read cells (length cells) i x refl below c.cell-item.is) in
    let fails : rereads n (placed x).0 (placed x).1 ≡ false = sym c.in_ok-rereads.ensures ∙ c.if-branch.false in
    none_here (rereading_cell n c.args.id) (map placed cells) i (placed x) _ there
    (ap (λ t. slice_get (let all : List Site = cond t (CellSite c.args.id (placed x).0 ∷ []) [] in all) 0) fails) c.loop-cell.invariant
