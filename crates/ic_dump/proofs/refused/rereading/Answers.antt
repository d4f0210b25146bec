use Rattle.std.proofs.Common.{◌≡◌, ◌<◌, ◌∙◌, List, Some, ap, length, map, option_map, refl, rules, arith, slice_get, sym}
use Rattle.std.proofs.lemmas.Option.{slice_get-map, slice_get_read}
use Rattle.std.specs.Prelude.{flat_map}
use Rattle.ic_parts.specs.Book.{notations_in}
use Rattle.ic_parts.specs.Lent.{placed}
use Rattle.ic_parts.specs.Sites.{site_of}
use Rattle.ic_parts.specs.declared.lent.PlacedFormula.{PlacedFormula}
use Rattle.ic_dump.specs.Records.{core_seen}
use Rattle.ic_dump.specs.Refused.{rereading_cell}
use Rattle.ic_dump.proofs.RefusedLemmas.{found_here, none_here, rereading_of}
use Rattle.ic_dump.proofs.refused.rereading.Goals as goal

pub returns-in-Some : goal.returns-in-Some
returns-in-Some c =
    let n = notations_in c.args.model.now.book in
    let sheets = c.args.sheets.now in
    let i = c.loop-sheet.sheet-index in
    let x = c.sheet-item.result in
    let below : i < length sheets = search (rules, arith) in
    let there : slice_get (map core_seen sheets) i ≡ Some (core_seen x) = slice_get-map core_seen sheets i ∙ ap (option_map core_seen) (slice_get_read sheets (length sheets) i x refl below c.sheet-item.is) in
    found_here (rereading_of n) (map core_seen sheets) i (core_seen x) (site_of c.in-Some.site) _ there
    (sym (ap (λ (cells : List PlacedFormula). slice_get (flat_map (rereading_cell n x.name.now.id) (map placed cells)) 0) c.as_slice-cells.ensures.value) ∙ sym c.in_ok-site.ensures ∙ ap (option_map site_of) c.in-Some.is) c.loop-sheet.invariant

pub loop-sheet-preserved : goal.loop-sheet-preserved
loop-sheet-preserved c =
    let n = notations_in c.args.model.now.book in
    let sheets = c.args.sheets.now in
    let i = c.loop-sheet.sheet-index in
    let x = c.sheet-item.result in
    let below : i < length sheets = search (rules, arith) in
    let there : slice_get (map core_seen sheets) i ≡ Some (core_seen x) = slice_get-map core_seen sheets i ∙ ap (option_map core_seen) (slice_get_read sheets (length sheets) i x refl below c.sheet-item.is) in
    none_here (rereading_of n) (map core_seen sheets) i (core_seen x) _ there
    (sym (ap (λ (cells : List PlacedFormula). slice_get (flat_map (rereading_cell n x.name.now.id) (map placed cells)) 0) c.as_slice-cells.ensures.value) ∙ sym c.in_ok-site.ensures ∙ ap (option_map site_of) c.in_default.is) c.loop-sheet.invariant
