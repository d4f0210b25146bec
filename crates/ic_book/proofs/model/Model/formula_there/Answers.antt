use Rattle.std.proofs.Common.{◌≡◌, IfOk, chars, option_map, subst, sym, ap, ◌∙◌}
use Rattle.std.proofs.lemmas.Result.{IfOk-weaker}
use Rattle.ic_machine.specs.InForce.{formula_typed}
use Rattle.ic_parts.specs.Book.{IsValidBook, ModelState, whole_of}
use Rattle.ic_book.proofs.InForceLemmas.{formula_is}
use Rattle.ic_changes.proofs.OwnTextLemmas.{untyped_gone, write_formula}
use Rattle.ic_laws.specs.CoreBook.{CellPlace}
use Rattle.ic_parts.specs.Translated.{formula_own}
use Rattle.ic_cells.proofs.MapLemmas.{stored_pair}
use Rattle.ic_book.proofs.model.Model.formula_there.Goals as goal

pub returns-in-Some : goal.returns-in-Some
returns-in-Some c =
    let text = chars c.args.text.now in
    let typed =
    ap (λ (m : ModelState). formula_typed (whole_of m.book) text) (sym c.self.view_is) ∙ formula_is c.self.inside c.self.invariant.book c.locale.result.now c.locale.ensures.found text
    ∙ sym c.formula_without_prefix.ensures.exact ∙ ap (option_map (λ f. chars f.now)) c.in-Some.is in
    IfOk-weaker c.own_formula.result _ _
    (λ own made. write_formula c.args.self.now (subst (λ (m : ModelState). IsValidBook m.book) c.self.view_is c.self.invariant.book) c.args.sheet c.args.row c.args.column text c.requires (chars c.in-Some.body.now) typed own made)
    (subst (λ (p : CellPlace). IfOk c.own_formula.result (λ own. own ≡ formula_own c.args.self.now.book c.args.sheet p.0 p.1 (chars c.in-Some.body.now))) (stored_pair c.args.row c.args.column c.ranges.row c.ranges.column) c.own_formula.ensures)

pub returns-in-None : goal.returns-in-None
returns-in-None c =
    let text = chars c.args.text.now in
    let typed =
    ap (λ (m : ModelState). formula_typed (whole_of m.book) text) (sym c.self.view_is) ∙ formula_is c.self.inside c.self.invariant.book c.locale.result.now c.locale.ensures.found text
    ∙ sym c.formula_without_prefix.ensures.exact ∙ ap (option_map (λ f. chars f.now)) c.in-None.is in
    untyped_gone c.args.self.now (subst (λ (m : ModelState). IsValidBook m.book) c.self.view_is c.self.invariant.book) c.args.sheet c.args.row c.args.column text c.requires typed
