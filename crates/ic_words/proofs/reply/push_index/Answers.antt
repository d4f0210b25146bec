use Rattle.std.proofs.Common.{Some, chars, refl, string_bytes}
use Rattle.ic_words.proofs.ReplyLemmas.{number_characters, number_pushed}
use Rattle.ic_words.proofs.reply.push_index.Goals as goal

pub returns-in_err-push_char-clause-text : goal.returns-in_err-push_char-clause-text
returns-in_err-push_char-clause-text c = number_characters (Some c.args.index)

pub returns : goal.returns
returns c = record {
  ok = number_pushed c.push_digits.result (chars (string_bytes c.args.reply.now)) (chars (string_bytes c.push_char.new.text)) (chars (string_bytes c.push_digits.new.reply)) (Some c.args.index) c.args.index refl c.in_ok-push_char.ensures.ok c.push_digits.ensures;
  text = number_characters (Some c.args.index);
}
