use Rattle.std.proofs.Common.{◌≡◌, Some, ap, codes, subst, sym, ◌∙◌}
use Rattle.ic_tables.specs.Tables.{HasGoodFormats, language_of}
use Rattle.ic_laws.specs.CoreBook.{CellPlace}
use Rattle.ic_laws.specs.Notations.{english}
use Rattle.ic_tree.specs.Notations.{notations_of}
use Rattle.ic_parts.proofs.HeldLemmas.{language_is}
use Rattle.ic_parts.proofs.InForceLemmas.{shown_by}
use Rattle.ic_cells.proofs.MapLemmas.{stored_pair}
use Rattle.ic_dump.proofs.english.english_at.Goals as goal

pub new-requires-clause-language : goal.new-requires-clause-language
new-requires-clause-language c =
    subst (λ t. language_of t c.get_default_language-language.result.now.code ≡ Some c.get_default_language-language.result.now) (sym c.tables.ensures)
    (language_is c.args.notation.now.tables (codes "en") c.get_default_language-language.result.now c.get_default_language-language.ensures.found).1

pub new-requires-clause-locale : goal.new-requires-clause-locale
new-requires-clause-locale c = subst (λ t. HasGoodFormats t c.get_default_locale-locale.result.now) (sym c.tables.ensures) c.get_default_locale-locale.ensures.formats

pub returns : goal.returns
returns c =
    shown_by _ c.args.notation.now.tables c.tables.ensures (codes "en") (codes "en") c.get_default_locale-locale.result.now c.get_default_language-language.result.now _ _ _ c.get_default_locale-locale.ensures.found c.get_default_language-language.ensures.found c.new.ensures
    ∙ ap (λ (p : CellPlace). (notations_of c.args.notation.now.tables).shown english english p.0 p.1) (stored_pair c.args.row c.args.column c.ranges.row c.ranges.column)
