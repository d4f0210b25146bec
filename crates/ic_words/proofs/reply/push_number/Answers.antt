use Rattle.std.proofs.Common.{chars, string_bytes}
use Rattle.ic_words.proofs.ReplyLemmas.{number_characters, number_pushed}
use Rattle.ic_words.proofs.reply.push_number.Goals as goal

pub returns-in_err-push_char-clause-text : goal.returns-in_err-push_char-clause-text
returns-in_err-push_char-clause-text c = number_characters c.args.number

pub returns-in-Some : goal.returns-in-Some
returns-in-Some c = record {
  ok = number_pushed c.push_digits.result (chars (string_bytes c.args.reply.now)) (chars (string_bytes c.push_char.new.text)) (chars (string_bytes c.push_digits.new.reply)) c.args.number c.in-Some.number c.in-Some.is c.in_ok-push_char.ensures.ok c.push_digits.ensures;
  text = number_characters c.args.number;
}
