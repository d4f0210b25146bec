use Rattle.std.proofs.Common.{◌<◌, ◌++◌, ◌∷◌, [], ◌∙◌, ap, length, rules, arith}
use Rattle.ic_laws.specs.CoreBook.{CellPlace}
use Rattle.ic_laws.specs.declared.tree.Formula.{Formula}
use Rattle.ic_parts.specs.Book.{core_of, notations_in}
use Rattle.ic_parts.specs.Lent.{placed}
use Rattle.ic_dump.specs.Lines.{cell_line, english_formula}
use Rattle.ic_dump.proofs.CellLemmas.{mapped_more}
use Rattle.ic_dump.proofs.formulas.push_each.Goals as goal

pub loop-cell-preserved : goal.loop-cell-preserved
loop-cell-preserved c = λ index e.
    let b = c.args.model.now.book in
    let below : c.loop-cell.cell-index < length c.args.cells.now = search (rules, arith) in
    mapped_more (λ (cell : CellPlace × Formula). cell_line index cell.0 (english_formula (notations_in b) (core_of b) cell.0 cell.1)) placed c.args.cells.now c.loop-cell.cell-index c.cell-item.result c.args.lines.now.items c.loop-cell.lines.items c.push.new.self.items below c.cell-item.is
    (c.loop-cell.invariant index e)
    (c.in_ok-push.ensures.items ∙ ap (λ line. c.loop-cell.lines.items ++ line ∷ []) (c.in_ok-line_of_cell.ensures index e))
