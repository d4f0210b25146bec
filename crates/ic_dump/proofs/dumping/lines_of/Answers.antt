use Rattle.std.proofs.Common.{◌≡◌, ◌+◌, ◌-◌, ◌++◌, ◌∙◌, List, ap, ap₂, arith, filter, length, map, sym}
use Rattle.std.proofs.lemmas.List.{length-map}
use Rattle.ic_laws.specs.CoreBook.{Sheet}
use Rattle.ic_sheets.specs.Sheet.{sheet_core}
use Rattle.ic_parts.specs.Book.{core_of, notations_in}
use Rattle.ic_dump.specs.Lines.{body_line, body_lines, cell_lines, cell_lines_from, defining_line, defining_lines, deleting_lines, inserting_lines, inserting_lines_from, is_first, naming_line, naming_lines}
use Rattle.ic_dump.specs.Passing.{passing_ids, standing_sheets}
use Rattle.ic_dump.specs.Records.{core_seen, name_seen}
use Rattle.ic_dump.proofs.DumpLemmas.{bodies_told, definitions_told, deleted_told, many_standing, six_parts}
use Rattle.ic_dump.proofs.dumping.lines_of.Goals as goal

pub push_deleting-requires : goal.push_deleting-requires
push_deleting-requires c =
    let b = c.args.model.now.book in
    let sheets = c.args.sheets.now in
    let own : length sheets ≡ length b.sheets = sym (length-map sheets core_seen) ∙ ap length c.requires.sheets ∙ length-map b.sheets sheet_core in
    let all : length c.as_slice-all.result.now ≡ length (standing_sheets (core_of b)) = ap length (c.as_slice-all.ensures.value ∙ c.in_ok-standing.ensures.sheets) in
    let many : length (standing_sheets (core_of b)) ≡ length b.sheets + length (passing_ids (core_of b)) = many_standing b c.in_ok-standing.ensures.few in
    omega (arith, own, all, many)

pub returns-clause-lines : goal.returns-clause-lines
returns-clause-lines c =
    let b = c.args.model.now.book in
    let core = core_of b in
    let n = notations_in b in
    let sheets = c.args.sheets.now in
    let ds_are = c.requires.definitions in
    let standing_are = c.in_ok-standing.ensures.sheets in
    let all_are : c.as_slice-all.result.now ≡ standing_sheets core = c.as_slice-all.ensures.value ∙ standing_are in
    let l0 = c.new-lines.result.items in
    let l1 = c.push_naming.new.lines.items in
    let l2 = c.push_inserting.new.lines.items in
    let l3 = c.push_defining.new.lines.items in
    let l4 = c.push_bodies.new.lines.items in
    let l5 = c.push_deleting.new.lines.items in
    let l6 = c.push_cells.new.lines.items in
    let own : length sheets ≡ length b.sheets = sym (length-map sheets core_seen) ∙ ap length c.requires.sheets ∙ length-map b.sheets sheet_core in
    six_parts (naming_lines core) (inserting_lines core) (defining_lines core) (body_lines n core) (deleting_lines core) (cell_lines n core) l0 l1 l2 l3 l4 l5 l6
    c.new-lines.ensures.items
    (c.in_ok-push_naming.ensures ∙ ap (λ ss. l0 ++ map naming_line (filter is_first ss)) all_are)
    (c.in_ok-push_inserting.ensures ∙ ap (λ ss. l1 ++ inserting_lines_from 0 ss) all_are)
    (c.in_ok-push_defining.ensures ∙ ap₂ (λ ss xs. l2 ++ map (λ d. defining_line ss (name_seen d)) xs) standing_are ds_are ∙ ap (λ ls. l2 ++ ls) (definitions_told b))
    (c.in_ok-push_bodies.ensures ∙ ap₂ (λ ss xs. l3 ++ map (λ d. body_line ss (name_seen d) d.formula) xs) standing_are ds_are ∙ ap (λ ls. l3 ++ ls) (bodies_told b c.requires.none))
    (c.in_ok-push_deleting.ensures ∙ ap (λ ls. l4 ++ ls) (deleted_told b _ _ c.in_ok-standing.ensures.few own (ap length all_are)))
    (c.in_ok-push_cells.ensures ∙ ap (λ (ss : List Sheet). l5 ++ cell_lines_from n core 0 ss) c.requires.sheets)
