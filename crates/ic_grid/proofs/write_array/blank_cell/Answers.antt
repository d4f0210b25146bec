use Rattle.std.proofs.Common.{◌≡◌, ◌∙◌, ap, ap₂, sym, false, List, ℕ, cond, []}
use Rattle.std.proofs.lemmas.Str.{chars-nil}
use Rattle.ic_cells.specs.declared.cell.ArrayKind.TheVariants as kinds
use Rattle.ic_cells.specs.declared.cell.Cell.{Cell}
use Rattle.ic_cells.specs.declared.cell.Cell.TheVariants as cells
use Rattle.ic_cells.specs.declared.value.SpillValue.TheVariants as spills
use Rattle.ic_grid.specs.Block.{Place, first_place, same_place}
use Rattle.ic_grid.specs.Shape.{celled}
use Rattle.ic_grid.proofs.write_array.blank_cell.Goals as goal

pub returns-in_ok-text : goal.returns-in_ok-text
returns-in_ok-text c =
    let apart : same_place c.args.place (first_place c.args.block.now) ≡ false = ap (same_place c.args.place) (sym c.first-anchor.ensures) ∙ sym c.if-is_same.ensures in
    ap₂ (λ (p : Place) (t : List ℕ). cells.SpillCell c.args.s p (spills.Text t)) c.first-anchor.ensures (c.in_ok-text.ensures ∙ chars-nil)
    ∙ sym (ap (λ t. let x : Cell = cond t (celled.array c.args.f c.args.s c.args.block.now.width c.args.block.now.height kinds.Cse) (celled.spill c.args.s (first_place c.args.block.now) (spills.Text [])) in x) apart)
