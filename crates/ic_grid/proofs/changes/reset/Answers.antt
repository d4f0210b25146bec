use Rattle.std.proofs.Common.{◌∙◌, ap, pos, sym}
use Rattle.std.specs.FinMap as finite
use Rattle.ic_cells.specs.declared.cell.Cell.TheVariants as cells
use Rattle.ic_cells.specs.declared.value.FormulaValue.{FormulaValue}
use Rattle.ic_grid.proofs.ReleaseLemmas.{is_reset, none_to_reset}
use Rattle.ic_grid.proofs.changes.reset.Goals as goal

pub returns-in-Some : goal.returns-in-Some
returns-in-Some c =
    c.replace.ensures ∙ ap (λ (v : FormulaValue). finite.insert c.args.cells.now c.args.place (cells.ArrayFormula c.in-Some.array.kind c.in-Some.f c.in-Some.s (pos 1, pos 1) v)) c.unevaluated.ensures
    ∙ is_reset c.args.cells.now c.args.place c.in-Some.f c.in-Some.s c.in-Some.array (sym c.in-Some.ensures)

pub returns-in_default : goal.returns-in_default
returns-in_default c = none_to_reset c.args.cells.now c.args.place (sym c.in_default.ensures)
