use Rattle.std.proofs.Common.{Option, Some, ℕ, ap, option_map, sym, ◌∙◌}
use Rattle.ic_parts.specs.Book.{ModelState, core_of}
use Rattle.ic_parts.proofs.NameLemmas.{listed_there}
use Rattle.ic_book.proofs.model.Model.listed_scope.Goals as goal

pub returns-in_err-index-in-Some : goal.returns-in_err-index-in-Some
returns-in_err-index-in-Some c =
    c.from_residual.ensures
    ∙ sym (ap (option_map (λ (index : ℕ). let place : Option ℕ = Some index in place)) c.in_err-index-in-Some.was)
    ∙ listed_there (core_of c.args.self.now.book) c.self.inside.contents.sheets c.args.scope c.in-Some.id c.index_of_id.result (ap (λ (m : ModelState). (core_of m.book).sheets) (sym c.self.view_is)) c.in-Some.is c.index_of_id.ensures

pub returns-in_ok-index-in-Some : goal.returns-in_ok-index-in-Some
returns-in_ok-index-in-Some c =
    sym (ap (option_map (λ (index : ℕ). let place : Option ℕ = Some index in place)) c.in_ok-index-in-Some.was)
    ∙ listed_there (core_of c.args.self.now.book) c.self.inside.contents.sheets c.args.scope c.in-Some.id c.index_of_id.result (ap (λ (m : ModelState). (core_of m.book).sheets) (sym c.self.view_is)) c.in-Some.is c.index_of_id.ensures
