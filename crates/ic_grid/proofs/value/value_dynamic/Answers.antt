use Rattle.std.proofs.Common.{◌∙◌, ap, pos}
use Rattle.std.specs.FinMap as finite
use Rattle.ic_cells.specs.declared.cell.ArrayKind.TheVariants as kinds
use Rattle.ic_cells.specs.declared.cell.Cell.TheVariants as cells
use Rattle.ic_grid.proofs.ValueLemmas.{dynamic_valued, still_a_formula, there_area, unspilled_all}
use Rattle.ic_grid.specs.Block.{Place}
use Rattle.ic_grid.proofs.value.value_dynamic.Goals as goal

pub unspill_block-requires : goal.unspill_block-requires
unspill_block-requires c = there_area c.args.cells.now c.requires.arrays c.args.f c.args.s c.args.array.now c.requires.formula

pub replace-requires : goal.replace-requires
replace-requires c = still_a_formula c.args.cells.now c.requires.arrays c.args.f c.args.s c.args.array.now c.requires.formula c.unspill_block.new.cells c.unspill_block.ensures c.first.result c.first.ensures

pub returns : goal.returns
returns c =
    dynamic_valued c.args.cells.now c.requires.arrays c.args.f c.args.s c.args.array.now c.requires.formula c.args.value c.requires.kind c.unspill_block.new.cells c.replace.new.cells
    (unspilled_all c.args.cells.now c.requires.arrays c.args.f c.args.s c.args.array.now c.requires.formula c.unspill_block.new.cells c.unspill_block.ensures)
    (c.replace.ensures ∙ ap (λ (p : Place). finite.insert c.unspill_block.new.cells p (cells.ArrayFormula kinds.Dynamic c.args.f c.args.s (pos 1, pos 1) c.args.value)) c.first.ensures)
