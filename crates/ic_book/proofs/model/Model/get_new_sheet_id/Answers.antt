use Rattle.std.proofs.Common.{ap, ap₂, ◌∙◌, subst, All, IfSome, ◌<◌}
use Rattle.std.specs.Prelude.{max}
use Rattle.ic_laws.specs.CoreBook.{fresh_id, used_ids}
use Rattle.ic_parts.specs.Book.{IsValidBook, ModelState, core_of}
use Rattle.ic_parts.proofs.DoesLemmas.{tells_id}
use Rattle.ic_book.proofs.HeldLemmas.{greatest_is}
use Rattle.ic_parts.proofs.HeldLemmas.{next_is, next_of}
use Rattle.ic_parts.proofs.StartLemmas.{above_all}
use Rattle.ic_book.proofs.model.Model.get_new_sheet_id.Goals as goal

pub returns-clause-fresh : goal.returns-clause-fresh
returns-clause-fresh c =
    next_is c.checked_add.result c.max-greatest.result c.checked_add.ensures
    ∙ ap next_of (c.max-greatest.ensures ∙ ap₂ max c.greatest_id.ensures c.greatest_scope.ensures ∙ greatest_is c.self.inside c.self.invariant.book)
    ∙ ap (λ (m : ModelState). fresh_id (core_of m.book)) c.self.view_is

pub returns-clause-unused : goal.returns-clause-unused
returns-clause-unused c =
    subst (λ (m : ModelState). IfSome c.checked_add.result (λ id. All (λ used. used < id) (used_ids (core_of m.book)))) c.self.view_is
    (above_all c.checked_add.result c.max-greatest.result _ c.checked_add.ensures (c.max-greatest.ensures ∙ ap₂ max c.greatest_id.ensures c.greatest_scope.ensures ∙ greatest_is c.self.inside c.self.invariant.book))

pub returns-clause-does : goal.returns-clause-does
returns-clause-does c = tells_id c.args.self.now (subst (λ (m : ModelState). IsValidBook m.book) c.self.view_is c.self.invariant.book) c.checked_add.result (returns-clause-fresh c)
