use Rattle.std.proofs.Common.{sym, ap, subst, ◌∙◌}
use Rattle.std.proofs.lemmas.Result.{IfOk-weaker}
use Rattle.ic_laws.specs.CoreStep.{index_of_id}
use Rattle.ic_parts.specs.Book.{IsValidBook, ModelState, core_of}
use Rattle.ic_changes.specs.LookUps.{LooksUpWithout}
use Rattle.ic_parts.specs.Mentioned.{DanglesWithout}
use Rattle.ic_parts.proofs.DoesLemmas.{deletes_with_id, deletes_no_id}
use Rattle.ic_parts.proofs.HeldLemmas.{at_some, found_by_id}
use Rattle.ic_book.proofs.model.Model.delete_sheet_by_sheet_id.Goals as goal

pub returns-in_default-clause-does : goal.returns-in_default-clause-does
returns-in_default-clause-does c =
    deletes_no_id c.args.self.now (subst (λ (m : ModelState). IsValidBook m.book) c.self.view_is c.self.invariant.book) c.args.sheet_id
    (ap (λ (m : ModelState). index_of_id (core_of m.book) c.args.sheet_id) (sym c.self.view_is) ∙ sym (found_by_id c.self.inside.contents.sheets c.args.sheet_id) ∙ sym c.index_of_id.ensures ∙ c.in_default.is)

pub returns-clause-does : goal.returns-clause-does
returns-clause-does c =
    deletes_with_id c.delete_at.result c.args.self.now c.delete_at.new.self c.delete_at.ensures.valid c.delete_at.ensures.err c.args.sheet_id c.in-Some.index
    (ap (λ (m : ModelState). index_of_id (core_of m.book) c.args.sheet_id) (sym c.self.view_is) ∙ sym (found_by_id c.self.inside.contents.sheets c.args.sheet_id) ∙ sym c.index_of_id.ensures ∙ c.in-Some.is)
    c.delete_at.ensures.ok c.delete_at.ensures.refused

pub returns-clause-dangles : goal.returns-clause-dangles
returns-clause-dangles c =
    IfOk-weaker c.delete_at.result _ _ (λ done dangles. at_some (λ index. DanglesWithout index c.args.self.now.book c.delete_at.new.self.book) _ c.in-Some.index
    (ap (λ (m : ModelState). index_of_id (core_of m.book) c.args.sheet_id) (sym c.self.view_is) ∙ sym (found_by_id c.self.inside.contents.sheets c.args.sheet_id) ∙ sym c.index_of_id.ensures ∙ c.in-Some.is) dangles) c.delete_at.ensures.dangles

pub returns-clause-looks_up : goal.returns-clause-looks_up
returns-clause-looks_up c =
    IfOk-weaker c.delete_at.result _ _ (λ done looks_up. at_some (λ index. LooksUpWithout index c.args.self.now c.delete_at.new.self) _ c.in-Some.index
    (ap (λ (m : ModelState). index_of_id (core_of m.book) c.args.sheet_id) (sym c.self.view_is) ∙ sym (found_by_id c.self.inside.contents.sheets c.args.sheet_id) ∙ sym c.index_of_id.ensures ∙ c.in-Some.is) looks_up) c.delete_at.ensures.looks_up
