use Rattle.std.proofs.Common.{chars, sym, ap, ap₂, ◌++◌, ◌∙◌}
use Rattle.std.proofs.lemmas.Result.{IfOk-weaker}
use Rattle.ic_laws.specs.Binding.{spelled}
use Rattle.ic_laws.specs.CoreBook.{CellPlace}
use Rattle.ic_laws.specs.FormulaReading.{shown_at, shown_formula}
use Rattle.ic_laws.specs.Reading.{printed}
use Rattle.ic_parts.specs.Book.{core_of, notations_in}
use Rattle.ic_cells.proofs.MapLemmas.{stored_pair}
use Rattle.ic_book.proofs.model.Model.show_after.Goals as goal

pub returns-in-Tree : goal.returns-in-Tree
returns-in-Tree c =
    IfOk-weaker c.print_bound.result _ _
    (λ text e. e ∙ ap (λ shown. chars c.args.sign.now ++ shown)
    (ap₂ printed (c.shown-shown.ensures ∙ ap (λ (p : CellPlace). shown_at (notations_in c.args.self.now.book) (core_of c.args.self.now.book) p.0 p.1) (stored_pair c.args.row c.args.column c.ranges.row c.ranges.column)) (ap (λ scene. spelled scene c.in-Tree.tree) c.scene.ensures)
    ∙ ap (shown_formula (notations_in c.args.self.now.book) (core_of c.args.self.now.book) c.args.row c.args.column) (sym c.in-Tree.is)))
    c.print_bound.ensures
