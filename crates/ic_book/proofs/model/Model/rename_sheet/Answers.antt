use Rattle.std.proofs.Common.{chars, sym, ap, subst, ◌∙◌}
use Rattle.std.proofs.lemmas.Result.{IfOk-weaker}
use Rattle.ic_laws.specs.CoreStep.{index_of_name}
use Rattle.ic_parts.specs.Book.{IsValidBook, ModelState, core_of}
use Rattle.ic_changes.specs.LookUps.{LooksUpNamed}
use Rattle.ic_parts.specs.Mentioned.{BindsNamed}
use Rattle.ic_parts.proofs.DoesLemmas.{renames, renames_none}
use Rattle.ic_parts.proofs.HeldLemmas.{at_some, found_by_name}
use Rattle.ic_book.proofs.model.Model.rename_sheet.Goals as goal

pub returns-in_default-clause-does : goal.returns-in_default-clause-does
returns-in_default-clause-does c =
    renames_none c.args.self.now (subst (λ (m : ModelState). IsValidBook m.book) c.self.view_is c.self.invariant.book) (chars c.args.old_name.now) (chars c.args.new_name.now)
    (ap (λ (m : ModelState). index_of_name (core_of m.book) (chars c.args.old_name.now)) (sym c.self.view_is) ∙ sym (found_by_name c.self.inside.contents.sheets (chars c.args.old_name.now)) ∙ sym c.index_of_name.ensures ∙ c.in_default.is)

pub returns-clause-does : goal.returns-clause-does
returns-clause-does c =
    renames c.rename_at.result c.args.self.now c.rename_at.new.self c.rename_at.ensures.valid c.rename_at.ensures.err (chars c.args.old_name.now) (chars c.args.new_name.now) c.in-Some.index
    (ap (λ (m : ModelState). index_of_name (core_of m.book) (chars c.args.old_name.now)) (sym c.self.view_is) ∙ sym (found_by_name c.self.inside.contents.sheets (chars c.args.old_name.now)) ∙ sym c.index_of_name.ensures ∙ c.in-Some.is)
    c.rename_at.ensures.ok c.rename_at.ensures.refused

pub returns-clause-binds : goal.returns-clause-binds
returns-clause-binds c =
    IfOk-weaker c.rename_at.result _ _ (λ done binds. at_some (λ index. BindsNamed index (chars c.args.new_name.now) c.args.self.now.book c.rename_at.new.self.book) _ c.in-Some.index
    (ap (λ (m : ModelState). index_of_name (core_of m.book) (chars c.args.old_name.now)) (sym c.self.view_is) ∙ sym (found_by_name c.self.inside.contents.sheets (chars c.args.old_name.now)) ∙ sym c.index_of_name.ensures ∙ c.in-Some.is) binds) c.rename_at.ensures.binds

pub returns-clause-looks_up : goal.returns-clause-looks_up
returns-clause-looks_up c =
    IfOk-weaker c.rename_at.result _ _ (λ done looks_up. at_some (λ index. LooksUpNamed index (chars c.args.new_name.now) c.args.self.now c.rename_at.new.self) _ c.in-Some.index
    (ap (λ (m : ModelState). index_of_name (core_of m.book) (chars c.args.old_name.now)) (sym c.self.view_is) ∙ sym (found_by_name c.self.inside.contents.sheets (chars c.args.old_name.now)) ∙ sym c.index_of_name.ensures ∙ c.in-Some.is) looks_up) c.rename_at.ensures.looks_up
