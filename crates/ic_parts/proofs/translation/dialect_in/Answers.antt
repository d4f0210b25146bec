use Rattle.std.proofs.Common.{ap, option_map, subst, sym, ◌∙◌}
use Rattle.ic_laws.specs.CoreBook.{CellPlace}
use Rattle.ic_tables.proofs.WellFormed.{formats_of_named}
use Rattle.ic_tables.specs.Tables.{HasGoodFormats}
use Rattle.ic_tree.specs.Notations.{notations_of}
use Rattle.ic_parts.proofs.InForceLemmas.{shown_by}
use Rattle.ic_cells.proofs.MapLemmas.{stored_pair}
use Rattle.ic_parts.proofs.translation.dialect_in.Goals as goal

pub new-requires-clause-locale : goal.new-requires-clause-locale
new-requires-clause-locale c =
    subst (λ t. HasGoodFormats t c.locale.result.now.locale) (sym c.tables.ensures) (formats_of_named c.args.target.now.tables c.requires c.args.target.now.locale c.locale.result.now c.locale.ensures.found)

pub returns : goal.returns
returns c =
    shown_by _ c.args.target.now.tables c.tables.ensures c.args.target.now.locale c.args.target.now.language c.locale.result.now.locale c.language.result.now _ _ _ (ap (option_map (λ n. n.locale)) c.locale.ensures.found) c.language.ensures.found c.new.ensures
    ∙ ap (λ (p : CellPlace). (notations_of c.args.target.now.tables).shown c.args.target.now.locale c.args.target.now.language p.0 p.1) (stored_pair c.args.row c.args.column c.ranges.row c.ranges.column)
