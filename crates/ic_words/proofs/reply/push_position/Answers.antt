use Rattle.std.proofs.Common.{◌≡◌, ◌++◌, OnOk, chars, string_bytes, subst}
use Rattle.std.proofs.lemmas.Int.{to_z-of_z}
use mir.Syntax.{w32}
use Rattle.ic_machine.specs.Reply.{position_text}
use Rattle.ic_words.proofs.ReplyLemmas.{position_characters, position_pushed}
use Rattle.ic_words.proofs.reply.push_position.Goals as goal

pub returns-in_err-push_char-clause-text : goal.returns-in_err-push_char-clause-text
returns-in_err-push_char-clause-text c = position_characters c.args.position

pub returns : goal.returns
returns c =
    let old = chars (string_bytes c.args.reply.now) in
    let first = chars (string_bytes c.push_char.new.text) in
    let new = chars (string_bytes c.push_signed.new.reply) in
    let written = subst (λ z. OnOk c.push_signed.result (new ≡ first ++ position_text z)) (to_z-of_z w32 c.args.position c.ranges.position) c.push_signed.ensures in
    record {
      ok = position_pushed c.push_signed.result old first new c.args.position c.in_ok-push_char.ensures.ok written;
      text = position_characters c.args.position;
    }
