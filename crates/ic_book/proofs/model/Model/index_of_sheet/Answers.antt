use Rattle.std.proofs.Common.{chars, ap, sym, ◌∙◌}
use Rattle.ic_laws.specs.CoreStep.{index_of_name}
use Rattle.ic_parts.specs.Book.{ModelState, core_of}
use Rattle.ic_parts.proofs.HeldLemmas.{found_by_name}
use Rattle.ic_book.proofs.model.Model.index_of_sheet.Goals as goal

pub returns-in_err-index : goal.returns-in_err-index
returns-in_err-index c =
    c.from_residual.ensures ∙ sym c.in_err-index.was ∙ c.index_of_name.ensures ∙ found_by_name c.self.inside.contents.sheets (chars c.args.name.now) ∙ ap (λ (m : ModelState). index_of_name (core_of m.book) (chars c.args.name.now)) c.self.view_is

pub returns : goal.returns
returns c =
    sym c.in_ok-index.was ∙ c.index_of_name.ensures ∙ found_by_name c.self.inside.contents.sheets (chars c.args.name.now) ∙ ap (λ (m : ModelState). index_of_name (core_of m.book) (chars c.args.name.now)) c.self.view_is
