use Rattle.std.proofs.Common.{codes}
use Rattle.ic_tree.proofs.NotationLaws.{shown_notation}
use Rattle.ic_parts.proofs.HeldLemmas.{language_is}
use Rattle.ic_workbooks.proofs.texts.first_cell.Goals as goal

pub new-requires-clause-language : goal.new-requires-clause-language
new-requires-clause-language c =
    (language_is c.args.tables.now (codes "en") c.get_default_language.result.now c.get_default_language.ensures.found).1

pub returns : goal.returns
returns c =
    shown_notation c.args.tables.now (codes "en") (codes "en") c.get_default_locale-locale.result.now c.get_default_language.result.now _ _ _ c.get_default_locale-locale.ensures.found c.get_default_language.ensures.found c.new.ensures
