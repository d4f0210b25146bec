use Rattle.std.proofs.Common.{List, ℕ, ap, ◌∙◌}
use Rattle.std.proofs.lemmas.Result.{IfOk-weaker}
use Rattle.ic_tables.specs.Formats.{decimal_separator}
use Rattle.ic_cells.specs.Cell.{value_of}
use Rattle.ic_cells.specs.Value.{shown_text}
use Rattle.ic_parts.specs.Book.{ModelState}
use Rattle.ic_parts.specs.Shown.{localized}
use Rattle.ic_parts.proofs.ShownLemmas.{localized_is}
use Rattle.ic_book.proofs.model.Model.localized.Goals as goal

pub returns : goal.returns
returns c =
    IfOk-weaker c.get_localized_text.result _ _
    (λ text e. e ∙ ap (λ (strings : List (List ℕ)). shown_text (decimal_separator c.locale.result.now.locale) c.language.result.now (value_of strings c.language.result.now c.args.cell.now)) c.as_items-strings.ensures
    ∙ localized_is _ c.self.invariant.book _ _ c.locale.ensures.found c.language.ensures.found c.args.cell.now
    ∙ ap (λ (m : ModelState). localized m.book c.args.cell.now) c.self.view_is)
    c.get_localized_text.ensures
