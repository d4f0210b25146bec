use Rattle.std.proofs.Common.{string_bytes}
use Rattle.std.proofs.lemmas.Str.{IsUtf8-string_bytes}
use Rattle.ic_words.proofs.ReplyLemmas.{fields_line, fields_reply}
use Rattle.ic_words.proofs.reply.ok_reply.Goals as goal

pub returns-clause-ok : goal.returns-clause-ok
returns-clause-ok g c =
    fields_reply (string_bytes c.args.reply) (string_bytes c.append.new.reply) (string_bytes c.write.new.reply) (string_bytes c.push_str.new.self) (g.T.Fields.fields c.args.value.now)
    (IsUtf8-string_bytes c.append.new.reply) (IsUtf8-string_bytes c.write.new.reply) c.append.ensures.bytes c.in_ok-write.ensures.ok c.in_ok-push_str.ensures.bytes

pub returns-clause-line : goal.returns-clause-line
returns-clause-line g c = fields_line (g.T.Fields.fields c.args.value.now) c.in_ok-write.ensures.texts
