use Rattle.std.proofs.Common.{ap, sym, ◌∙◌}
use Rattle.ic_tables.specs.Tables.{TableSet, english, error_words_in}
use Rattle.ic_commands.proofs.answer.english_of.Goals as goal

pub returns : goal.returns
returns c =
    sym (ap error_words_in c.get_default_language.ensures.found) ∙ ap (λ (tables : TableSet). error_words_in (english tables.languages)) c.tables.ensures
