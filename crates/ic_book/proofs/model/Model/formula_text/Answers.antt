use Rattle.std.proofs.Common.{◌∷◌, ap, ◌∙◌}
use Rattle.std.specs.Str.{chars}
use Rattle.std.proofs.lemmas.Result.{IfOk-weaker}
use Rattle.ic_laws.specs.Character.{equals}
use Rattle.ic_laws.specs.CoreBook.{CellPlace}
use Rattle.ic_parts.specs.Translated.{shown_in}
use Rattle.ic_parts.specs.Whole.{whole_of}
use Rattle.ic_cells.proofs.MapLemmas.{stored_pair}
use Rattle.ic_book.proofs.model.Model.formula_text.Goals as goal

pub returns : goal.returns
unfolding chars
returns c =
    IfOk-weaker c.show_in.result _ _
    (λ text so. so ∙ ap (λ (p : CellPlace). equals ∷ shown_in c.args.target.now (whole_of c.args.self.now.book) p.0 p.1 c.args.formula.now) (stored_pair c.args.row c.args.column c.ranges.row c.ranges.column))
    c.show_in.ensures
