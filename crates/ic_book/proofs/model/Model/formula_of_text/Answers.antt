use Rattle.std.proofs.Common.{Option, Some, chars, option_map, sym, ap, ◌∙◌}
use Rattle.ic_laws.specs.Binding.{bound}
use Rattle.ic_laws.specs.CoreBook.{CellPlace, scene_of}
use Rattle.ic_laws.specs.FormulaReading.{cell_tree, shown_at, tree_or_raw}
use Rattle.ic_laws.specs.Notations.{english_function}
use Rattle.ic_laws.specs.Tree.{Bound}
use Rattle.ic_laws.specs.declared.tree.Formula.{Formula}
use Rattle.ic_laws.specs.declared.tree.Formula.TheVariants as formulas
use Rattle.ic_tree.specs.Typed.{as_typed}
use Rattle.ic_parts.specs.Book.{core_of, notations_in}
use Rattle.ic_cells.proofs.MapLemmas.{stored_pair}
use Rattle.ic_book.proofs.model.Model.formula_of_text.Goals as goal

pub returns-in_ok-settled-in-Some : goal.returns-in_ok-settled-in-Some
returns-in_ok-settled-in-Some c =
    let text = chars c.args.body.now in
    ap (λ (t : Bound). let f : Formula = formulas.Tree t in f) c.in_ok-settled-in-Some.ensures
    ∙ sym (ap (tree_or_raw (λ t. formulas.Tree (bound (english_function (notations_in c.args.self.now.book)) (scene_of (core_of c.args.self.now.book)) (Some c.args.id) t)) text) (ap (λ d. cell_tree d text) (sym (c.shown.ensures ∙ ap (λ (p : CellPlace). shown_at (notations_in c.args.self.now.book) (core_of c.args.self.now.book) p.0 p.1) (stored_pair c.args.row c.args.column c.ranges.row c.ranges.column))) ∙ sym c.in_ok-tree.ensures ∙ ap (λ (o : Option Bound). option_map as_typed o) c.in-Some.is))
