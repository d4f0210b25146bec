use Rattle.std.proofs.Common.{ap, ap₂, chars, sym, ◌++◌, ◌∙◌}
use Rattle.std.proofs.lemmas.Result.{IfOk-weaker}
use Rattle.ic_laws.specs.Binding.{spelled}
use Rattle.ic_laws.specs.CoreBook.{CellPlace, CoreBook, scene_of}
use Rattle.ic_laws.specs.Reading.{printed}
use Rattle.ic_tree.specs.Notations.{notations_of}
use Rattle.ic_parts.specs.Book.{whole_of}
use Rattle.ic_parts.specs.Translated.{shown_in}
use Rattle.ic_parts.proofs.WholeLemmas.{whole_core}
use Rattle.ic_cells.proofs.MapLemmas.{stored_pair}
use Rattle.ic_book.proofs.model.Model.show_in.Goals as goal

pub returns-in-Tree : goal.returns-in-Tree
returns-in-Tree c =
    let target = c.args.target.now in
    IfOk-weaker c.print_bound.result _ _
    (λ text e. e ∙ ap (λ shown. chars c.args.sign.now ++ shown)
    (ap₂ printed
    (c.dialect_in-dialect.ensures ∙ ap (λ (p : CellPlace). (notations_of target.tables).shown target.locale target.language p.0 p.1) (stored_pair c.args.row c.args.column c.ranges.row c.ranges.column)
    ∙ ap (λ t. (notations_of t).shown target.locale target.language c.args.row c.args.column) c.requires)
    (ap (λ scene. spelled scene c.in-Tree.tree) (c.scene.ensures ∙ ap (λ (core : CoreBook). scene_of core) (sym (whole_core c.args.self.now.book))))
    ∙ ap (shown_in target (whole_of c.args.self.now.book) c.args.row c.args.column) (sym c.in-Tree.is)))
    c.print_bound.ensures
