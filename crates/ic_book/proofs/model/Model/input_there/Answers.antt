use Rattle.std.proofs.Common.{◌≡◌, IfOk, chars, option_map, subst, sym, ap, ◌∙◌}
use Rattle.std.proofs.lemmas.Result.{IfOk-weaker}
use Rattle.ic_parts.specs.Book.{IsValidBook, ModelState}
use Rattle.ic_changes.proofs.OwnTextLemmas.{input_formula, value_told}
use Rattle.ic_laws.specs.CoreBook.{CellPlace}
use Rattle.ic_parts.specs.Translated.{formula_own}
use Rattle.ic_cells.proofs.MapLemmas.{stored_pair}
use Rattle.ic_book.proofs.model.Model.input_there.Goals as goal

pub returns-in-Some : goal.returns-in-Some
returns-in-Some c =
    IfOk-weaker c.own_formula.result _ _
    (λ own made. input_formula c.args.self.now (subst (λ (m : ModelState). IsValidBook m.book) c.self.view_is c.self.invariant.book) c.args.sheet c.args.row c.args.column (chars c.args.text.now) c.requires
    c.in_ok-typed.typed c.in_ok-typed.ensures (chars c.in-Some.body.now) (sym c.typed_formula.ensures ∙ ap (option_map (λ f. chars f.now)) c.in-Some.is) own made)
    (subst (λ (p : CellPlace). IfOk c.own_formula.result (λ own. own ≡ formula_own c.args.self.now.book c.args.sheet p.0 p.1 (chars c.in-Some.body.now))) (stored_pair c.args.row c.args.column c.ranges.row c.ranges.column) c.own_formula.ensures)

pub returns-in-None : goal.returns-in-None
returns-in-None c =
    value_told c.args.self.now (subst (λ (m : ModelState). IsValidBook m.book) c.self.view_is c.self.invariant.book) c.args.sheet c.args.row c.args.column (chars c.args.text.now) c.requires
    c.in_ok-typed.typed c.in_ok-typed.ensures (sym c.typed_formula.ensures ∙ ap (option_map (λ f. chars f.now)) c.in-None.is)
