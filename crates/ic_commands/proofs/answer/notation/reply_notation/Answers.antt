use Rattle.std.proofs.Common.{ap, option_map, sym, ◌∙◌}
use Rattle.ic_machine.specs.Step.{english_errors}
use Rattle.ic_words.specs.Words.{words_left}
use Rattle.ic_words.specs.declared.command.subject.Subject.TheVariants as subjects
use Rattle.ic_words.specs.subjects.Notation.{notation_meant}
use Rattle.ic_words.proofs.SubjectLemmas.{of_plain, notation_first}
use Rattle.ic_parts.specs.Whole.{whole_of}
use Rattle.ic_commands.proofs.LineLemmas.{answered_so, bad_so}
use Rattle.ic_commands.proofs.answer.notation.reply_notation.Goals as goal

pub returns-in-Some : goal.returns-in-Some
returns-in-Some c =
    let made = ap (option_map notation_meant) (sym c.in-Some.is) ∙ c.in_ok-command.ensures.exact in
    let is = of_plain (english_errors (whole_of c.args.model.now.book)) c.args.name.now (words_left c.args.rest) subjects.Notation c.utf8.name notation_first c.requires (λ e. cc) (λ none. none) made in
    answered_so is c.in_ok-reply.ensures.bytes c.answer_notation.ensures

pub returns-in-None : goal.returns-in-None
returns-in-None c =
    let made = ap (option_map notation_meant) (sym c.in-None.is) ∙ c.in_ok-command.ensures.exact in
    let is = of_plain (english_errors (whole_of c.args.model.now.book)) c.args.name.now (words_left c.args.rest) subjects.Notation c.utf8.name notation_first c.requires (λ e. cc) (λ none. none) made in
    bad_so is c.in_ok-reply.ensures.bytes c.bad_line.ensures
