use Rattle.std.proofs.Common.{◌∷◌, ap, rules, w32, ◌∙◌}
use Rattle.std.specs.Str.{chars}
use Rattle.std.proofs.lemmas.Result.{IfOk-weaker}
use mir.Val.{SFits}
use Rattle.ic_laws.specs.Character.{equals}
use Rattle.ic_laws.specs.CoreBook.{CellPlace}
use Rattle.ic_laws.specs.FormulaReading.{shown_formula}
use Rattle.ic_parts.specs.Book.{core_of, notations_in}
use Rattle.ic_cells.proofs.MapLemmas.{stored_pair}
use Rattle.ic_book.proofs.model.Model.show_tree.Goals as goal

pub returns : goal.returns
unfolding chars
returns c =
    let row : SFits w32 c.args.cell.now.row = search rules in
    let column : SFits w32 c.args.cell.now.column = search rules in
    IfOk-weaker c.show.result _ _
    (λ text e. e ∙ ap (λ (p : CellPlace). equals ∷ shown_formula (notations_in c.args.self.now.book) (core_of c.args.self.now.book) p.0 p.1 c.in_ok-formula.formula) (stored_pair c.args.cell.now.row c.args.cell.now.column row column)
    ∙ ap (λ f. equals ∷ shown_formula (notations_in c.args.self.now.book) (core_of c.args.self.now.book) c.args.cell.now.row c.args.cell.now.column f) c.in_ok-formula.ensures)
    c.show.ensures
