use Rattle.std.proofs.Common.{ap, option_map, subst, sym, ◌∙◌}
use Rattle.ic_tables.specs.Tables.{HasGoodFormats}
use Rattle.ic_laws.specs.CoreBook.{CellPlace}
use Rattle.ic_laws.specs.FormulaReading.{shown_at}
use Rattle.ic_tables.proofs.WellFormed.{formats_of_named}
use Rattle.ic_parts.specs.Book.{ModelState, core_of, notations_in}
use Rattle.ic_book.specs.Inside.{held}
use Rattle.ic_parts.proofs.InForceLemmas.{shown_by}
use Rattle.ic_cells.proofs.MapLemmas.{stored_pair}
use Rattle.ic_book.proofs.model.Model.shown.Goals as goal

pub new-requires-clause-locale : goal.new-requires-clause-locale
new-requires-clause-locale c =
    subst (λ t. HasGoodFormats t c.locale.result.now.locale) (sym c.tables.ensures) (formats_of_named c.self.inside.notation.tables c.self.invariant.book.whole.tables c.self.inside.notation.locale c.locale.result.now c.locale.ensures.found)

pub returns : goal.returns
returns c =
    shown_by _ c.self.inside.notation.tables c.tables.ensures c.self.inside.notation.locale c.self.inside.notation.language c.locale.result.now.locale c.language.result.now _ _ _ (ap (option_map (λ n. n.locale)) c.locale.ensures.found) c.language.ensures.found c.new.ensures
    ∙ ap (λ (p : CellPlace). shown_at (notations_in (held c.self.inside)) (core_of (held c.self.inside)) p.0 p.1) (stored_pair c.args.row c.args.column c.ranges.row c.ranges.column)
    ∙ ap (λ (m : ModelState). shown_at (notations_in m.book) (core_of m.book) c.args.row c.args.column) c.self.view_is
