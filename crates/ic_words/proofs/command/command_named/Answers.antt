use Rattle.std.proofs.Common.{ap, inl, ◌∙◌}
use Rattle.std.proofs.lemmas.Result.{IfOk-weaker, on_err_weaker}
use Rattle.ic_tables.specs.Words.{error_words}
use Rattle.ic_machine.specs.Row.{joined}
use Rattle.ic_words.specs.Words.{words_left}
use Rattle.ic_words.proofs.SubjectLemmas.{known_named, plain_told}
use Rattle.ic_words.proofs.ValueLemmas.{asks_by_chars}
use Rattle.ic_words.proofs.command.command_named.Goals as goal

pub returns-in-Arrays-clause-memory : goal.returns-in-Arrays-clause-memory
returns-in-Arrays-clause-memory c = on_err_weaker c.in_arrays.result (asks_by_chars c.args.name.now (words_left c.args.rest) c.utf8.name) c.in_arrays.ensures.memory

pub returns-in_default : goal.returns-in_default
returns-in_default c =
    let other = plain_told c.args.name.now (λ arrays. c.in_default.not-Arrays (c.subject_of.ensures ∙ arrays)) in
    record {
      exact = IfOk-weaker c.plain_command.result _ _ (λ command e. e ∙ ap joined (known_named (error_words c.args.english.now) c.args.name.now (words_left c.args.rest) c.utf8.name other)) c.plain_command.ensures.exact;
      memory = on_err_weaker c.plain_command.result inl c.plain_command.ensures.memory;
    }
