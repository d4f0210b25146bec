use Rattle.std.proofs.Common.{◌≡◌, ◌∙◌, encode_utf8_all, length, string_bytes, string_len}
use Rattle.ic_machine.specs.Command.{commands}
use Rattle.ic_machine.specs.Reply.{reply_text}
use Rattle.ic_machine.specs.Step.{line_step}
use Rattle.ic_parts.specs.Whole.{whole_of}
use Rattle.ic_commands.proofs.ReplyLemmas.{cut_is_line, cut_reply, last_byte, some_byte}
use Rattle.ic_commands.proofs.answer.answer_line.Goals as goal

pub whole-requires : goal.whole-requires
whole-requires c =
    let text = reply_text (line_step commands (whole_of c.args.model.now.book) c.args.line.now).1 in
    let reply = c.in_ok-reply.reply in
    let does = c.in_ok-reply.ensures.whole in
    let front = encode_utf8_all text in
    let is_len : string_len reply ≡ length (string_bytes reply) = reply.bytes.ok.0 in
    cut_is_line text (string_bytes reply) _ (string_len reply) does.is_line does.reply is_len
    (c.pop.ensures.ascii_bytes (some_byte front _ _ does.reply is_len) (last_byte front _ _ does.reply is_len))

pub returns-clause-told : goal.returns-clause-told
returns-clause-told c =
    let text = reply_text (line_step commands (whole_of c.args.model.now.book) c.args.line.now).1 in
    let reply = c.in_ok-reply.reply in
    let does = c.in_ok-reply.ensures.whole in
    let front = encode_utf8_all text in
    let is_len : string_len reply ≡ length (string_bytes reply) = reply.bytes.ok.0 in
    c.whole.ensures
    ∙ cut_reply text (string_bytes reply) _ (string_len reply) does.is_line does.reply is_len
    (c.pop.ensures.ascii_bytes (some_byte front _ _ does.reply is_len) (last_byte front _ _ does.reply is_len))

pub returns-clause-whole : goal.returns-clause-whole
returns-clause-whole c = record { book = c.in_ok-reply.ensures.whole.book; stays = c.in_ok-reply.ensures.whole.stays; valid = c.in_ok-reply.ensures.whole.valid }
