use Rattle.std.proofs.Common.{ap, chars, option_map, sym, ◌∙◌}
use Rattle.ic_tables.specs.Words.{error_words}
use Rattle.ic_machine.specs.Command.{commands}
use Rattle.ic_machine.specs.Row.{joined, named}
use Rattle.ic_words.specs.Words.{words_left}
use Rattle.ic_words.specs.subjects.Arrays.{arrays_meant}
use Rattle.ic_words.proofs.SubjectLemmas.{of_arrays}
use Rattle.ic_commands.proofs.LineLemmas.{answered_so, bad_so}
use Rattle.ic_commands.proofs.answer.arrays.reply_arrays.Goals as goal

pub returns-in-Some : goal.returns-in-Some
returns-in-Some c =
    let name = c.args.name.now in
    let words = words_left c.args.rest in
    let made = ap (option_map arrays_meant) (sym c.in-Some.is) ∙ c.in_ok-command.ensures.exact in
    let is = of_arrays (error_words c.english_of.result.now) name words c.utf8.name c.requires made ∙ ap (λ english. joined (named english commands (chars name) words)) c.english_of.ensures in
    answered_so is c.in_ok-reply.ensures.bytes c.answer_arrays.ensures

pub returns-in-None : goal.returns-in-None
returns-in-None c =
    let name = c.args.name.now in
    let words = words_left c.args.rest in
    let made = ap (option_map arrays_meant) (sym c.in-None.is) ∙ c.in_ok-command.ensures.exact in
    let is = of_arrays (error_words c.english_of.result.now) name words c.utf8.name c.requires made ∙ ap (λ english. joined (named english commands (chars name) words)) c.english_of.ensures in
    bad_so is c.in_ok-reply.ensures.bytes c.bad_line.ensures
