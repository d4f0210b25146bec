use Rattle.std.proofs.Common.{◌∷◌, ◌∙◌, ap}
use Rattle.std.proofs.lemmas.Result.{IfOk-weaker}
use Rattle.ic_laws.specs.Character.{equals}
use Rattle.ic_laws.specs.CoreBook.{CellPlace}
use Rattle.ic_parts.specs.Book.{NotationState, whole_of}
use Rattle.ic_parts.specs.Translated.{shown_in}
use Rattle.ic_dump.proofs.EnglishLemmas.{written_english}
use Rattle.ic_cells.proofs.MapLemmas.{stored_pair}
use Rattle.ic_dump.proofs.english.english_formula.Goals as goal

pub formula_text-requires : goal.formula_text-requires
formula_text-requires c = ap (λ (t : NotationState). t.tables) c.requires

pub returns : goal.returns
returns c =
    let book = c.args.model.now.book in
    IfOk-weaker c.formula_text.result _ _
    (λ text is. is
    ∙ ap (λ (p : CellPlace). equals ∷ shown_in c.args.english.now (whole_of book) p.0 p.1 c.args.formula.now) (stored_pair c.args.row c.args.column c.ranges.row c.ranges.column)
    ∙ written_english book c.args.english.now c.requires c.args.row c.args.column c.args.formula.now) c.formula_text.ensures
