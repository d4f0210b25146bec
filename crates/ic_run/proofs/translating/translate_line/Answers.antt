use Rattle.std.proofs.Common.{◌≡◌, None, Some, ap, chars, option_map, sym, ◌∙◌}
use Rattle.ic_machine.specs.Command.{command_in, commands}
use Rattle.ic_machine.specs.Step.{english_errors}
use Rattle.ic_words.specs.Command.{command_meant}
use Rattle.ic_parts.specs.Whole.{whole_of}
use Rattle.ic_run.proofs.TurnLemmas.{goes_bad}
use Rattle.ic_run.proofs.translating.translate_line.Goals as goal

pub returns-in_default-clause-turn : goal.returns-in_default-clause-turn
returns-in_default-clause-turn c =
    let old = whole_of c.args.model.now.book in
    let english = english_errors old in
    let is : None ≡ command_in english commands c.args.line.now =
    ap (option_map command_meant) (sym c.in_default.is) ∙ c.in_ok-command.ensures.exact ∙ ap (λ words. command_in words commands (chars c.as_str.result.now)) c.english_of-english.ensures ∙ ap (command_in english commands) (c.as_str.ensures.characters ∙ c.text.ensures.same) in
    goes_bad c.args.target.now.locale c.args.target.now.language old c.args.line.now (sym is)

pub do_plan-requires-clause-plan : goal.do_plan-requires-clause-plan
do_plan-requires-clause-plan c =
    let old = whole_of c.args.model.now.book in
    let english = english_errors old in
    let is : Some (command_meant c.in-Some.command) ≡ command_in english commands c.args.line.now =
    ap (option_map command_meant) (sym c.in-Some.is) ∙ c.in_ok-command.ensures.exact ∙ ap (λ words. command_in words commands (chars c.as_str.result.now)) c.english_of-english.ensures ∙ ap (command_in english commands) (c.as_str.ensures.characters ∙ c.text.ensures.same) in
    (command_meant c.in-Some.command, sym is, c.in_ok-plan.ensures)
