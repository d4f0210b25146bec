use Rattle.std.proofs.Common.{◌≡◌, ◌∙◌, ◌+◌, [], ap, refl, sym, false, true, chars, map, take}
use Rattle.std.specs.List.{list_any}
use Rattle.ic_laws.proofs.CoreLemmas.{agrees_equiv}
use Rattle.ic_laws.specs.Name.{agrees}
use Rattle.ic_sheets.proofs.ApartLemmas.{fine_differ, not_differ}
use Rattle.ic_sheets.proofs.RecordLemmas.{Any, id_free, name_in, named_next, named_start}
use Rattle.ic_sheets.proofs.KeptLemmas.{finds_empty}
use Rattle.ic_sheets.proofs.SearchLemmas.{names}
use Rattle.ic_sheets.specs.Sheet.{empty_grid, plain_tab}
use Rattle.ic_sheets.specs.declared.sheet.Sheet.{Sheet}
use Rattle.ic_sheets.proofs.records.has_apart_names.Goals as goal

pub loop-index-init : goal.loop-index-init
loop-index-init c = (named_start c.args.worksheets.now c.new-named.result c.new-named.ensures, finds_empty c.new-ids.result c.new-named.result c.new-ids.ensures.empty c.new-named.ensures)

pub add_leaving_formulas-requires-clause-fresh : goal.add_leaving_formulas-requires-clause-fresh
add_leaving_formulas-requires-clause-fresh c =
    id_free c.args.worksheets.now c.loop-index.index (c.loop-index.index + 1) c.index-worksheets-index.result refl c.loop-index-test.true c.index-worksheets-index.is c.loop-index.named c.loop-index.invariant.0

pub loop-index-preserved : goal.loop-index-preserved
loop-index-preserved c =
    let sheets = c.loop-index.named in
    let s : Sheet = record { id = c.loop-index.index + 1; name = chars c.as_str-name.result.now; pool = record { formulas = []; is_whole = true }; grid = empty_grid; tab = plain_tab } in
    let free : list_any (agrees c.index-worksheets-index.result.name) (names sheets) ≡ false = ap (λ n. list_any (agrees n) (names sheets)) (sym c.as_str-name.ensures.characters) ∙ sym c.is_taken.ensures ∙ c.if-is_taken.false in (
      named_next c.args.worksheets.now c.loop-index.index (c.loop-index.index + 1) c.index-worksheets-index.result refl c.loop-index-test.true c.index-worksheets-index.is sheets c.loop-index.invariant.0 c.add_leaving_formulas.new.self s
          c.as_str-name.ensures.characters refl free c.in_ok-add_leaving_formulas.ensures.ok,
      c.in_ok-add_leaving_formulas.ensures.finds,
    )

pub returns-then-is_taken : goal.returns-then-is_taken
returns-then-is_taken c = (
  λ e. let no : false ≡ true = e in cc,
  λ h.
      let taken : list_any (agrees c.index-worksheets-index.result.name) (map name_in (take c.loop-index.index c.args.worksheets.now)) ≡ true =
      sym (ap (list_any (agrees c.index-worksheets-index.result.name)) c.loop-index.invariant.0.named) ∙ ap (λ n. list_any (agrees n) (names c.loop-index.named)) (sym c.as_str-name.ensures.characters) ∙ sym c.is_taken.ensures ∙ c.if-is_taken.true in
      absurd
      (not_differ agrees_equiv Any name_in c.args.worksheets.now c.loop-index.index (c.loop-index.index + 1) c.index-worksheets-index.result refl c.loop-index-test.true c.index-worksheets-index.is taken h),
)

pub returns : goal.returns
returns c = (λ e. fine_differ agrees_equiv Any name_in c.args.worksheets.now c.loop-index.index c.loop-index.invariant.0.fine c.loop-index-test.false, λ h. refl)
