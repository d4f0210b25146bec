use Rattle.std.proofs.Common.{◌≡◌, ◌+◌, ◌<◌, ◌^◌, ◌++◌, [], ◌∙◌, ap, ap₂, arith, inl, inr, length, map, sym}
use Rattle.std.proofs.lemmas.Bool.{eqb-true}
use Rattle.std.proofs.lemmas.List.{length-map, nil_from_length}
use Rattle.std.specs.Prelude.{vec_len, zip}
use Rattle.ic_parts.specs.Book.{core_of}
use Rattle.ic_workbooks.specs.Workbook.{defined_name_of}
use Rattle.ic_dump.specs.Passing.{free_numerals, passing_ids, sheet_named, taken_names}
use Rattle.ic_dump.proofs.RecordLemmas.{all_stand, own_stand, passing_told}
use Rattle.ic_dump.proofs.standing.standing_sheets.Goals as goal

pub returns-then-is_empty-clause-sheets : goal.returns-then-is_empty-clause-sheets
returns-then-is_empty-clause-sheets c =
    let b = c.args.model.now.book in
    let sheets = c.args.sheets.now in
    let told = passing_told b sheets c.requires.sheets c.args.definitions.now c.requires.definitions in
    let empty : vec_len c.in_ok-ids.ids ≡ 0 = eqb-true (vec_len c.in_ok-ids.ids) 0 (sym c.is_empty.ensures ∙ c.if-is_empty.true) in
    let zero : length c.in_ok-ids.ids.items ≡ 0 = omega (arith, empty, c.in_ok-ids.ids.ok.0) in
    let none : c.in_ok-ids.ids.items ≡ [] = nil_from_length c.in_ok-ids.ids.items zero in
    own_stand b sheets c.requires.sheets c.in_ok-standing.standing.sheets.items (sym told ∙ sym c.in_ok-ids.ensures ∙ none) c.in_ok-standing.ensures.sheets

pub returns-then-is_empty-clause-few : goal.returns-then-is_empty-clause-few
returns-then-is_empty-clause-few c =
    let b = c.args.model.now.book in
    let sheets = c.args.sheets.now in
    let told = passing_told b sheets c.requires.sheets c.args.definitions.now c.requires.definitions in
    let empty : vec_len c.in_ok-ids.ids ≡ 0 = eqb-true (vec_len c.in_ok-ids.ids) 0 (sym c.is_empty.ensures ∙ c.if-is_empty.true) in
    let zero : length c.in_ok-ids.ids.items ≡ 0 = omega (arith, empty, c.in_ok-ids.ids.ok.0) in
    let none : c.in_ok-ids.ids.items ≡ [] = nil_from_length c.in_ok-ids.ids.items zero in
    let no_ids : passing_ids (core_of b) ≡ [] = sym told ∙ sym c.in_ok-ids.ensures ∙ none in
    inl (ap length no_ids)

pub returns-clause-sheets : goal.returns-clause-sheets
returns-clause-sheets c =
    let b = c.args.model.now.book in
    let sheets = c.args.sheets.now in
    let told = passing_told b sheets c.requires.sheets c.args.definitions.now c.requires.definitions in
    let ids = c.in_ok-ids.ids.items in
    let taken = map (λ t. t.now) c.in_ok-taken.taken.items in
    let many : c.len.result ≡ length ids = omega (arith, c.in_ok-ids.ids.ok.0) in
    all_stand b sheets c.requires.sheets c.in_ok-standing.standing.sheets.items c.push_named.new.standing.sheets.items ids c.in_ok-names.names.items taken
    (c.in_ok-ids.ensures ∙ told)
    c.in_ok-standing.ensures.sheets
    c.in_ok-taken.ensures
    (c.in_ok-names.ensures.names ∙ ap₂ free_numerals many (ap (map (λ t. t.now)) c.as_slice.ensures.value))
    (c.in_ok-push_named.ensures.sheets ∙ ap₂ (λ is ns. c.in_ok-standing.standing.sheets.items ++ map sheet_named (zip is ns)) c.as_slice-2.ensures.value c.as_slice-3.ensures.value)

pub returns-clause-few : goal.returns-clause-few
returns-clause-few c =
    let b = c.args.model.now.book in
    let sheets = c.args.sheets.now in
    let told = passing_told b sheets c.requires.sheets c.args.definitions.now c.requires.definitions in
    let ids_long : length c.in_ok-ids.ids.items ≡ length (passing_ids (core_of b)) = ap length (c.in_ok-ids.ensures ∙ told) in
    let taken_long : length c.as_slice.result.now ≡ length (taken_names (core_of b)) =
    ap length c.as_slice.ensures.value ∙ sym (length-map c.in_ok-taken.taken.items (λ t. t.now)) ∙ ap length c.in_ok-taken.ensures in
    let small : length (passing_ids (core_of b)) + length (taken_names (core_of b)) < 2 ^ 64 = omega (arith, c.in_ok-names.ensures.few, ids_long, taken_long, c.in_ok-ids.ids.ok.0) in
    inr small

pub free_numerals-requires : goal.free_numerals-requires
free_numerals-requires c = omega (arith, c.len.ensures, c.in_ok-ids.ids.ok, c.in_ok-ids.ids.small)

-- each definition has its record
pub taken_names-requires-clause-definitions : goal.taken_names-requires-clause-definitions
taken_names-requires-clause-definitions c =
    let b = c.args.model.now.book in
    let many : length c.args.definitions.now ≡ length b.definitions = ap length c.requires.definitions ∙ length-map b.definitions (defined_name_of b) in
    omega (arith, many)
