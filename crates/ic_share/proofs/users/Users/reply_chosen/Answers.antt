use Rattle.std.proofs.Common.{[], chars, string_bytes, ap, ◌∙◌, true, false}
use Rattle.ic_machine.specs.Book.{Book}
use Rattle.ic_machine.specs.Command.{command_in, commands}
use Rattle.ic_machine.specs.Step.{english_errors, line_step}
use Rattle.ic_parts.specs.Whole.{whole_of}
use Rattle.ic_commands.proofs.AnswerLemmas.{always_err}
use Rattle.ic_share.specs.Share.{UsersState}
use Rattle.ic_share.specs.Shared.{in_language}
use Rattle.ic_share.proofs.ChoiceLemmas.{but_language, choice_made, choice_none, choice_refused}
use Rattle.ic_share.proofs.ReplyLemmas.{told_ok}
use Rattle.ic_share.proofs.users.Users.reply_chosen.Goals as goal
use Rattle.ic_share.proofs.users.Users.reply_chosen.Goals.{then-chooses_language+then-is_ok+in_ok-language_in+in_ok-choose, else-chooses_language, else-chooses_language-via-then-chooses_language+else-is_ok, else-chooses_language-via-else-chooses_language}

pub returns-in_err-language_in-clause-err : goal.returns-in_err-language_in-clause-err
returns-in_err-language_in-clause-err c =
    let book = whole_of c.args.model.now.book in
    always_err c.from_residual-in_err-language_in.result
    (ap (in_language []) c.in_ok-reply.ensures.whole.book ∙ but_language book (command_in (english_errors book) commands (chars c.args.command.now)) (c.chooses_language.ensures.yes c.if-chooses_language.true (english_errors book)))

pub returns-in_err-choose-clause-err : goal.returns-in_err-choose-clause-err
returns-in_err-choose-clause-err c =
    let book = whole_of c.args.model.now.book in
    always_err c.from_residual-in_err-choose.result
    (ap (in_language []) c.in_ok-reply.ensures.whole.book ∙ but_language book (command_in (english_errors book) commands (chars c.args.command.now)) (c.chooses_language.ensures.yes c.if-chooses_language.true (english_errors book)))

pub returns-clause-languages : goal.returns-clause-languages
returns-clause-languages c =
    let book = whole_of c.args.model.now.book in
    let user = chars c.args.user.now in
    let command = command_in (english_errors book) commands (chars c.args.command.now) in
    let done = line_step commands book (chars c.args.command.now) in
    let languages = c.args.self.now.languages in
    let does = c.in_ok-reply.ensures.whole in
    elim c.if-chooses_language.branch [
      | then-chooses_language+then-is_ok+in_ok-language_in+in_ok-choose w ↦
          ap (λ (u : UsersState). u.languages) w.self-is ∙ w.in_ok-choose.ensures.chosen
          ∙ choice_made book user languages (chars (string_bytes w.in_ok-language_in.field-0)) command (c.chooses_language.ensures.yes w.if-chooses_language.true (english_errors book))
          (told_ok (string_bytes c.in_ok-reply.reply) w.as_str.result.now done.1 w.is_ok.result true w.is_ok.ensures w.as_str.ensures.value does.reply w.if-is_ok.true)
          (w.in_ok-language_in.ensures.code ∙ ap (λ (b : Book). b.language) does.book)
      | else-chooses_language w ↦
          ap (λ (u : UsersState). u.languages) w.self-is
          ∙ elim w.else-chooses_language.branch [
            | else-chooses_language-via-then-chooses_language+else-is_ok v ↦
                choice_refused user command done.1 languages
                (told_ok (string_bytes c.in_ok-reply.reply) v.as_str.result.now done.1 v.is_ok.result false v.is_ok.ensures v.as_str.ensures.value does.reply v.if-is_ok.false)
            | else-chooses_language-via-else-chooses_language v ↦ choice_none user command done.1 languages (c.chooses_language.ensures.no v.if-chooses_language.false (english_errors book))
          ]
    ]
