use Rattle.std.proofs.Common.{◌≡◌, ◌≤◌, ◌<◌, ◌++◌, [], ◌∙◌, Some, ap, append-nil, drop, length, map, option_map, refl, rules, arith, slice_get, sym}
use Rattle.std.proofs.lemmas.List.{drop_all, length-map}
use Rattle.std.proofs.lemmas.Option.{slice_get-map, slice_get_read}
use Rattle.ic_parts.specs.Book.{core_of, notations_in}
use Rattle.ic_dump.specs.Lines.{cell_lines_from}
use Rattle.ic_dump.specs.Records.{core_seen}
use Rattle.ic_dump.proofs.CellLemmas.{lines_next}
use Rattle.ic_dump.proofs.formulas.push_cells.Goals as goal

pub loop-index-preserved : goal.loop-index-preserved
loop-index-preserved c =
    let b = c.args.model.now.book in
    let sheets = c.args.sheets.now in
    let i = c.loop-index.index in
    let x = c.index-sheets-index.result in
    let below : i < length sheets = search (rules, arith) in
    let there : slice_get (map core_seen sheets) i ≡ Some (core_seen x) = slice_get-map core_seen sheets i ∙ ap (option_map core_seen) (slice_get_read sheets (length sheets) i x refl below c.index-sheets-index.is) in
    lines_next (notations_in b) (core_of b) (map core_seen sheets) i (core_seen x) c.loop-index.lines.items c.push_cells_of.new.lines.items _ there c.loop-index.invariant c.in_ok-push_cells_of.ensures

pub returns : goal.returns
returns c =
    let b = c.args.model.now.book in
    let seen = map core_seen c.args.sheets.now in
    let i = c.loop-index.index in
    let long : length seen ≡ length c.args.sheets.now = length-map c.args.sheets.now core_seen in
    let end : length c.args.sheets.now ≤ i = search (rules, arith) in
    let none : drop i seen ≡ [] = drop_all i seen (omega (arith, long, end)) in
    sym (append-nil c.loop-index.lines.items) ∙ ap (λ rest. c.loop-index.lines.items ++ cell_lines_from (notations_in b) (core_of b) i rest) (sym none) ∙ c.loop-index.invariant
