use Rattle.std.proofs.Common.{◌≡◌, ◌<◌, List, ℕ, Some, chars, get_or, length, option_map, sym, ap, ◌∙◌}
use Rattle.std.proofs.lemmas.Option.{slice_get-map}
use Rattle.std.specs.List.{slice_get}
use Rattle.ic_sheets.proofs.IndexLemmas.{read_boxed}
use Rattle.ic_sheets.proofs.RewritingLemmas.{sheet_there}
use Rattle.ic_sheets.proofs.SearchLemmas.{names}
use Rattle.ic_sheets.specs.declared.sheet.Sheet.{Sheet as HeldSheet}
use Rattle.ic_parts.proofs.HeldLemmas.{read_is}
use Rattle.ic_parts.proofs.taken_numbers.TakenNumbers.lose_sheet.Goals as goal

-- the name that is read at an index is the one that stands there
name_there : (sheets slice : List HeldSheet) (index : ℕ) (sheet : HeldSheet) (name : List ℕ) → index < length sheets → slice ≡ sheets
    → sheet ≡ get_or slice index sheet → name ≡ sheet.name → slice_get (names sheets) index ≡ Some name
name_there sheets slice index sheet name within same read is =
    let at = sheet_there sheets index within in
    slice_get-map (λ (s : HeldSheet). s.name) sheets index ∙ ap (option_map (λ (s : HeldSheet). s.name)) at.1
    ∙ ap (λ (text : List ℕ). Some text) (ap (λ (s : HeldSheet). s.name) (sym (read_is slice sheets index sheet at.0 same within read at.1)) ∙ sym is)

pub returns-clause-kept : goal.returns-clause-kept
returns-clause-kept c = c.lose.ensures.kept (names c.args.sheets.now)

pub returns-clause-lost : goal.returns-clause-lost
returns-clause-lost c =
    let sheets = c.args.sheets.now in
    let slice = c.as_slice.result.now in
    let read = read_boxed slice c.args.index c.as_ref.ensures c.index-as_slice-index.is in
    c.lose.ensures.lost (names sheets) c.args.index
    (name_there sheets slice c.args.index c.as_ref.result.now (chars c.as_str.result.now) c.requires c.as_slice.ensures.sheets read c.as_str.ensures.characters)

pub returns-clause-renamed : goal.returns-clause-renamed
returns-clause-renamed c = λ known called.
    let sheets = c.args.sheets.now in
    let slice = c.as_slice.result.now in
    let read = read_boxed slice c.args.index c.as_ref.ensures c.index-as_slice-index.is in
    c.lose.ensures.renamed (names sheets) c.args.index called
    (name_there sheets slice c.args.index c.as_ref.result.now (chars c.as_str.result.now) c.requires c.as_slice.ensures.sheets read c.as_str.ensures.characters)
    known
