use Rattle.std.proofs.Common.{◌∷◌, ap, ◌∙◌}
use Rattle.std.specs.Str.{chars}
use Rattle.std.proofs.lemmas.Result.{IfOk-weaker}
use Rattle.ic_laws.specs.Character.{equals}
use Rattle.ic_laws.specs.CoreBook.{CellPlace}
use Rattle.ic_laws.specs.FormulaReading.{shown_formula}
use Rattle.ic_parts.specs.Book.{core_of, notations_in}
use Rattle.ic_cells.proofs.MapLemmas.{stored_pair}
use Rattle.ic_book.proofs.model.Model.show.Goals as goal

pub returns : goal.returns
unfolding chars
returns c =
    IfOk-weaker c.show_after.result _ _
    (λ text e. e ∙ ap (λ (p : CellPlace). equals ∷ shown_formula (notations_in c.args.self.now.book) (core_of c.args.self.now.book) p.0 p.1 c.args.formula.now) (stored_pair c.args.row c.args.column c.ranges.row c.ranges.column))
    c.show_after.ensures
