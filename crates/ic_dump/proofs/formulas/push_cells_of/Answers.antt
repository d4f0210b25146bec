use Rattle.std.proofs.Common.{◌≡◌, ◌++◌, ◌∙◌, List, OnOk, ap, chars, map, subst}
use Rattle.ic_parts.specs.Book.{core_of, notations_in}
use Rattle.ic_parts.specs.Lent.{placed}
use Rattle.ic_parts.specs.declared.lent.PlacedFormula.{PlacedFormula}
use Rattle.ic_dump.specs.Lines.{lines_of_cells}
use Rattle.ic_dump.proofs.formulas.push_cells_of.Goals as goal

pub returns : goal.returns
returns c =
    let b = c.args.model.now.book in
    subst (λ (cells : List PlacedFormula). OnOk c.push_each.result (c.push_each.new.lines.items ≡ c.args.lines.now.items ++ lines_of_cells (notations_in b) (core_of b) c.args.index (map placed cells))) c.as_slice-cells.ensures.value
    (c.push_each.ensures c.args.index (ap chars c.as_str.ensures.value ∙ c.in_ok-digits.ensures))
