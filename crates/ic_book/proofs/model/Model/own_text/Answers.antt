use mir.Val.{SFits}
use Rattle.std.proofs.Common.{rules, w32, ◌∷◌, ap, ◌∙◌, string_bytes, refl, subst, sym}
use Rattle.std.specs.Str.{chars}
use Rattle.std.proofs.lemmas.Result.{IfOk-weaker}
use Rattle.ic_machine.specs.Book as machine
use Rattle.ic_machine.specs.Translation.{in_notation}
use Rattle.ic_parts.specs.Book.{IsValidBook, ModelState, whole_of}
use Rattle.ic_parts.specs.Translated.{IsWrittenIn, shown_in}
use Rattle.ic_laws.specs.Character.{equals}
use Rattle.ic_laws.specs.CoreBook.{CellPlace}
use Rattle.ic_cells.proofs.MapLemmas.{stored_pair}
use Rattle.ic_book.proofs.model.Model.own_text.Goals as goal

pub returns-in-Value : goal.returns-in-Value
returns-in-Value c =
    let target = c.args.target.now in
    let book : machine.Book = in_notation target.locale target.language (whole_of c.args.self.now.book) in
    let valid = subst (λ (m : ModelState). IsValidBook m.book) c.self.view_is c.self.invariant.book in
    IfOk-weaker c.typed_text.result _ _ (λ text so. subst (λ own. IsWrittenIn book own (chars (string_bytes text))) (sym c.in-Value.is) so)
    (c.typed_text.ensures book valid.whole.tables (record { tables = sym c.requires; locale = refl; language = refl }))

pub returns-in-Formula : goal.returns-in-Formula
unfolding chars
returns-in-Formula c =
    let target = c.args.target.now in
    let book : machine.Book = in_notation target.locale target.language (whole_of c.args.self.now.book) in
    let row : SFits w32 c.in-Formula.row = search rules in
    let column : SFits w32 c.in-Formula.column = search rules in
    IfOk-weaker c.show_in.result _ _
    (λ text so. subst (λ own. IsWrittenIn book own (chars (string_bytes text))) (sym c.in-Formula.is)
    (so ∙ ap (λ (p : CellPlace). equals ∷ shown_in target (whole_of c.args.self.now.book) p.0 p.1 c.in-Formula.formula) (stored_pair c.in-Formula.row c.in-Formula.column row column)))
    c.show_in.ensures
