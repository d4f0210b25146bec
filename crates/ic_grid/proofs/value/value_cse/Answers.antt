use Rattle.std.proofs.Common.{◌∙◌, ap, ap₂, ℤ}
use Rattle.std.specs.FinMap as finite
use Rattle.ic_cells.specs.declared.cell.ArrayKind.TheVariants as kinds
use Rattle.ic_cells.specs.declared.cell.Cell.TheVariants as cells
use Rattle.ic_cells.specs.declared.value.FormulaValue.{FormulaValue}
use Rattle.ic_grid.proofs.ValueLemmas.{cse_count, cse_full, cse_placed, cse_there, cse_valued, there_area}
use Rattle.ic_grid.specs.Block.{Place}
use Rattle.ic_grid.proofs.value.value_cse.Goals as goal

pub spread_cells-requires : goal.spread_cells-requires
spread_cells-requires c = there_area c.args.cells.now c.requires.arrays c.args.f c.args.s c.args.array.now c.requires.formula

pub put_all-requires-clause-area : goal.put_all-requires-clause-area
put_all-requires-clause-area c = there_area c.args.cells.now c.requires.arrays c.args.f c.args.s c.args.array.now c.requires.formula

pub put_all-requires-clause-full : goal.put_all-requires-clause-full
put_all-requires-clause-full c = cse_full c.args.cells.now c.requires.arrays c.args.f c.args.s c.args.array.now c.requires.formula c.args.value

pub put_all-requires-clause-count : goal.put_all-requires-clause-count
put_all-requires-clause-count c = cse_count c.args.cells.now c.requires.arrays c.args.f c.args.s c.args.array.now c.requires.formula c.args.value c.in_ok-items.items.items c.in_ok-items.ensures

pub replace-requires : goal.replace-requires
replace-requires c =
    cse_there c.args.cells.now c.requires.arrays c.args.f c.args.s c.args.array.now c.requires.formula c.args.value c.put_all.new.cells
    (cse_placed c.args.cells.now c.requires.arrays c.args.f c.args.s c.args.array.now c.requires.formula c.args.value c.in_ok-items.items.items c.in_ok-items.ensures c.put_all.new.cells c.put_all.ensures) c.first.result c.first.ensures

pub returns-clause-ok : goal.returns-clause-ok
returns-clause-ok c =
    cse_valued c.args.cells.now c.requires.arrays c.args.f c.args.s c.args.array.now c.requires.formula c.args.value c.requires.kind c.put_all.new.cells c.replace.new.cells
    (cse_placed c.args.cells.now c.requires.arrays c.args.f c.args.s c.args.array.now c.requires.formula c.args.value c.in_ok-items.items.items c.in_ok-items.ensures c.put_all.new.cells c.put_all.ensures)
    (c.replace.ensures ∙ ap (λ (v : FormulaValue). finite.insert c.put_all.new.cells c.first.result (cells.ArrayFormula kinds.Cse c.args.f c.args.s c.area.result v)) c.in_ok-kept.ensures
    ∙ ap₂ (λ (p : Place) (r : ℤ × ℤ). finite.insert c.put_all.new.cells p (cells.ArrayFormula kinds.Cse c.args.f c.args.s r c.args.value)) c.first.ensures c.area.ensures)
