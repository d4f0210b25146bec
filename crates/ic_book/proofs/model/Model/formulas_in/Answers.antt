use Rattle.std.proofs.Common.{◌≡◌, ◌∙◌, None, Some, ap, cond, false, option_map, rules, slice_get, subst, sym, true}
use Rattle.ic_laws.specs.CoreBook.{Sheet as CoreSheet}
use Rattle.ic_laws.specs.CoreStep.{lacks_sheet}
use Rattle.ic_laws.specs.Refusal.{InvalidSheet}
use Rattle.ic_parts.specs.Book.{ModelState, core_of}
use Rattle.ic_parts.specs.Refused.{Refuses}
use Rattle.ic_book.proofs.HeldLemmas.{cells_are, places_of}
use Rattle.ic_book.proofs.StandsLemmas.{none_lacks, some_stands}
use Rattle.ic_book.proofs.model.Model.formulas_in.Goals as goal

pub formulas_of-requires : goal.formulas_of-requires
formulas_of-requires c = places_of c.self.inside c.self.invariant.book c.args.sheet c.in-Some.worksheet.now (sym c.get.ensures ∙ ap (option_map (λ s. s.now)) c.in-Some.is)

pub returns-clause-formulas : goal.returns-clause-formulas
returns-clause-formulas c =
    ap (λ (m : ModelState). option_map (λ (s : CoreSheet). s.cells) (slice_get (core_of m.book).sheets c.args.sheet)) (sym c.self.view_is)
    ∙ cells_are c.self.inside c.self.invariant.book c.args.sheet c.in-Some.worksheet.now (sym c.get.ensures ∙ ap (option_map (λ s. s.now)) c.in-Some.is)
    ∙ ap Some (sym c.in_ok-formulas_of.ensures)

pub returns-in_default-clause-refused : goal.returns-in_default-clause-refused
returns-in_default-clause-refused c =
    let lacks : lacks_sheet (core_of c.args.self.now.book) c.args.sheet ≡ true = ap (λ (m : ModelState). lacks_sheet (core_of m.book) c.args.sheet) (sym c.self.view_is) ∙ none_lacks c.self.inside.contents.sheets c.args.sheet (sym c.get.ensures ∙ ap (option_map (λ s. s.now)) c.in_default.is) in
    ap (λ b. cond b (Some InvalidSheet) None) lacks

pub returns-in_err-formulas_of-clause-refused : goal.returns-in_err-formulas_of-clause-refused
returns-in_err-formulas_of-clause-refused c =
    let stands : lacks_sheet (core_of c.args.self.now.book) c.args.sheet ≡ false = ap (λ (m : ModelState). lacks_sheet (core_of m.book) c.args.sheet) (sym c.self.view_is) ∙ some_stands c.self.inside.contents.sheets c.args.sheet c.in-Some.worksheet.now (sym c.get.ensures ∙ ap (option_map (λ s. s.now)) c.in-Some.is) in
    subst (λ b. Refuses c.from_residual.result (cond b (Some InvalidSheet) None)) (sym stands) (search rules)

pub returns-clause-refused : goal.returns-clause-refused
returns-clause-refused c =
    let stands : lacks_sheet (core_of c.args.self.now.book) c.args.sheet ≡ false = ap (λ (m : ModelState). lacks_sheet (core_of m.book) c.args.sheet) (sym c.self.view_is) ∙ some_stands c.self.inside.contents.sheets c.args.sheet c.in-Some.worksheet.now (sym c.get.ensures ∙ ap (option_map (λ s. s.now)) c.in-Some.is) in
    ap (λ b. cond b (Some InvalidSheet) None) stands
