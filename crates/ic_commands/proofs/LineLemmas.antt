-- What a line is answered with.
use Rattle.std.proofs.Common.{◌≡◌, ℕ, List, [], ◌∷◌, ◌++◌, String, Global, Option, Some, None, Result, Ok, Err, refl, string_bytes, ap, subst, sym, ◌∙◌}
use Rattle.std.proofs.lemmas.Result.{IfOk-weaker}
use Rattle.ic_laws.specs.Lines.{words_of}
use Rattle.ic_laws.specs.declared.memory.OutOfMemory.{OutOfMemory}
use Rattle.ic_machine.specs.Command.{Command, commands}
use Rattle.ic_machine.specs.Refusal.{BadLine}
use Rattle.ic_machine.specs.Reply.{reply_bytes, reply_text}
use Rattle.ic_machine.specs.Row.{spelled}
use Rattle.ic_machine.specs.Step.{command_step, english_errors}
use Rattle.ic_words.specs.Reply.{IsLineText}
use Rattle.ic_words.proofs.ReplyLemmas.{refusal_line}
use Rattle.ic_parts.specs.Book.{ModelState}
use Rattle.ic_parts.specs.Whole.{whole_of}
use Rattle.ic_commands.specs.Answered.{Answers, AreValid, DoesCommand, DoesLine, IsAnswered, RepliesTo, StaysAfter, command_of}

-- a command that was answered
command_done : {command : Command} {old new : ModelState} {reply : List ℕ} (made : Option Command) → Some command ≡ made → IsAnswered command old new [] reply → DoesCommand made old new reply
command_done {command} {old} {new} {reply} made is a =
    subst (λ o. DoesCommand o old new reply) is (record { book = a.book; reply = a.reply; is_line = a.line; stays = a.stays; valid = (a.valid_before, a.valid_after) })

-- a line that is no command
bad_done : {state : ModelState} {reply : List ℕ} (made : Option Command) → None ≡ made → reply ≡ reply_bytes (Err BadLine) → DoesCommand made state state reply
bad_done {state} {reply} made is told = subst (λ o. DoesCommand o state state reply) is (record { book = refl; reply = told; is_line = refusal_line BadLine; stays = refl; valid = tt })

module _ {name : List ℕ} {words : List (List ℕ)} {before : List ℕ} where
  pub answered_so : {command : Command} {old new : ModelState} {result : Result (String Global) OutOfMemory} → Some command ≡ command_of old name words → before ≡ [] → Answers command old new before result → RepliesTo name words old new result
  answered_so {command} {old} {new} {result} is none answers =
      record {
        ok = IfOk-weaker result _ _ (λ text a. command_done (command_of old name words) is (subst (λ b. IsAnswered command old new b (string_bytes text)) none a)) answers.ok;
        err = answers.err;
      }

  pub bad_so : {state : ModelState} {text : String Global} → None ≡ command_of state name words → before ≡ [] → string_bytes text ≡ before ++ reply_bytes (Err BadLine) → RepliesTo name words state state (Ok text)
  bad_so {state} is none told = record { ok = bad_done (command_of state name words) is (told ∙ ap (λ b. b ++ reply_bytes (Err BadLine)) none); err = tt }

-- the line of a name and the words after it
pub line_done : {line name : List ℕ} {words : List (List ℕ)} {old new : ModelState} {reply : List ℕ} → words_of line ≡ name ∷ words → DoesCommand (command_of old name words) old new reply → DoesLine line old new reply
line_done {line} {name} {words} {old} {new} {reply} cut d =
    let does = subst (λ o. DoesCommand o old new reply) (ap (spelled (english_errors (whole_of old.book)) commands) (sym cut)) d in
    record { book = does.book; reply = does.reply; is_line = does.is_line; stays = does.stays; valid = does.valid }
