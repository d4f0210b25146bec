use Rattle.std.proofs.Common.{IfSome, Some, ap, option_and_then, option_map, subst, sym, ◌∙◌}
use Rattle.std.specs.List.{slice_get}
use Rattle.ic_laws.specs.Notations.{AreNotations}
use Rattle.ic_laws.specs.ValidCore.{IsPooled}
use Rattle.ic_sheets.specs.Sheet.{Sheet}
use Rattle.ic_parts.specs.Book.{ModelState, notations_in, scene_in}
use Rattle.ic_book.proofs.HeldLemmas.{formula_in_pool, notations, pooled_of}
use Rattle.ic_book.proofs.model.Model.parsed_formula.Goals as goal

pub returns-in_err-worksheet-clause-notations : goal.returns-in_err-worksheet-clause-notations
returns-in_err-worksheet-clause-notations c = subst (λ (m : ModelState). AreNotations (notations_in m.book)) c.self.view_is (notations c.self.inside c.self.invariant.book)

pub returns-clause-formula : goal.returns-clause-formula
returns-clause-formula c =
    c.get-2.ensures
    ∙ formula_in_pool c.self.inside c.self.invariant.book c.args.sheet c.in_ok-worksheet.worksheet.now c.args.index (sym c.get.ensures ∙ ap (option_map (λ s. s.now)) c.in_ok-worksheet.was)
    ∙ ap (λ (m : ModelState). option_and_then (λ (s : Sheet). slice_get s.pool c.args.index) (slice_get m.book.sheets c.args.sheet)) c.self.view_is

pub returns-clause-pooled : goal.returns-clause-pooled
returns-clause-pooled c =
    subst (λ (m : ModelState). IfSome c.get-2.result (λ f. IfSome (slice_get m.book.sheets c.args.sheet) (λ s. IsPooled (notations_in m.book) (scene_in m.book) (Some s.id) f.now))) c.self.view_is
    (pooled_of c.self.inside c.self.invariant.book c.args.sheet c.in_ok-worksheet.worksheet.now c.get-2.result c.args.index (sym c.get.ensures ∙ ap (option_map (λ s. s.now)) c.in_ok-worksheet.was) c.get-2.ensures)

pub returns-clause-notations : goal.returns-clause-notations
returns-clause-notations c = subst (λ (m : ModelState). AreNotations (notations_in m.book)) c.self.view_is (notations c.self.inside c.self.invariant.book)
