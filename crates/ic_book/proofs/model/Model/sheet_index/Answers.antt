use Rattle.std.proofs.Common.{nat_eq, ap, sym, ◌∙◌}
use Rattle.std.specs.Prelude.{position}
use Rattle.ic_laws.specs.CoreBook.{Sheet as CoreSheet}
use Rattle.ic_parts.specs.Book.{ModelState, core_of}
use Rattle.ic_parts.proofs.HeldLemmas.{found_by_id}
use Rattle.ic_book.proofs.model.Model.sheet_index.Goals as goal

pub returns-in_err-index : goal.returns-in_err-index
returns-in_err-index c =
    c.from_residual.ensures ∙ sym c.in_err-index.was ∙ c.index_of_id.ensures ∙ found_by_id c.self.inside.contents.sheets c.args.id ∙ ap (λ (m : ModelState). position (λ (s : CoreSheet). nat_eq s.id c.args.id) (core_of m.book).sheets) c.self.view_is

pub returns : goal.returns
returns c =
    sym c.in_ok-index.was ∙ c.index_of_id.ensures ∙ found_by_id c.self.inside.contents.sheets c.args.id ∙ ap (λ (m : ModelState). position (λ (s : CoreSheet). nat_eq s.id c.args.id) (core_of m.book).sheets) c.self.view_is
