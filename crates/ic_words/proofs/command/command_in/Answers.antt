use Rattle.std.proofs.Common.{chars, ap, sym, ◌∙◌}
use Rattle.std.proofs.lemmas.Result.{IfOk-weaker, on_err_weaker}
use Rattle.ic_tables.specs.Words.{error_words}
use Rattle.ic_machine.specs.Command.{commands}
use Rattle.ic_machine.specs.Row.{spelled}
use Rattle.ic_words.specs.Words.{words_left}
use Rattle.ic_words.proofs.ValueLemmas.{line_asks}
use Rattle.ic_words.proofs.command.command_in.Goals as goal

pub returns-clause-exact : goal.returns-clause-exact
returns-clause-exact c =
    IfOk-weaker c.command_named.result _ _ (λ command e. e ∙ ap (spelled (error_words c.args.english.now) commands) (sym c.first_word.ensures)) c.command_named.ensures.exact

pub returns-clause-memory : goal.returns-clause-memory
returns-clause-memory c =
    on_err_weaker c.command_named.result (line_asks (chars c.first_word.result.0.now) (words_left c.first_word.result.1) _ c.first_word.ensures) c.command_named.ensures.memory
