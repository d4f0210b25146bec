use Rattle.std.proofs.Common.{ap, chars, ◌∙◌}
use Rattle.ic_tables.specs.Tables.{TableSet}
use Rattle.ic_parts.specs.Book.{ModelState, NotationState}
use Rattle.ic_parts.proofs.HeldLemmas.{language_is}
use Rattle.ic_tables.proofs.WellFormed.{locale_found as locale_is}
use Rattle.ic_book.proofs.model.Model.notation_named.Goals as goal

pub new-requires-clause-locale : goal.new-requires-clause-locale
new-requires-clause-locale c = (locale_is c.tables-tables.result.now (chars c.args.locale_id.now) c.in-Ok.locale.now c.in-Ok.ensures.found).1

pub new-requires-clause-language : goal.new-requires-clause-language
new-requires-clause-language c = (language_is c.tables-tables.result.now (chars c.args.language_id.now) c.in-Ok-get_language.language.now c.in-Ok-get_language.ensures.found).1

pub returns-clause-named : goal.returns-clause-named
returns-clause-named c =
    c.new.ensures
    ∙ ap (λ (t : TableSet). let n : NotationState = record { tables = t; locale = c.in-Ok.locale.now.id; language = c.in-Ok-get_language.language.now.code } in n) (c.tables-tables.ensures ∙ ap (λ (m : ModelState). m.book.tables) c.self.view_is)
    ∙ ap (λ l. let n : NotationState = record { tables = c.args.self.now.book.tables; locale = l; language = c.in-Ok-get_language.language.now.code } in n) (locale_is c.tables-tables.result.now (chars c.args.locale_id.now) c.in-Ok.locale.now c.in-Ok.ensures.found).0
    ∙ ap (λ l. let n : NotationState = record { tables = c.args.self.now.book.tables; locale = chars c.args.locale_id.now; language = l } in n) (language_is c.tables-tables.result.now (chars c.args.language_id.now) c.in-Ok-get_language.language.now c.in-Ok-get_language.ensures.found).0
