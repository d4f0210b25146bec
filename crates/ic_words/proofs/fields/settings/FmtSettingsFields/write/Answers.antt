use Rattle.std.proofs.Common.{chars, string_bytes}
use Rattle.ic_machine.specs.Fields.{back_settings, front_settings}
use Rattle.ic_words.proofs.ReplyLemmas.{more_fields}
use Rattle.ic_words.proofs.fields.settings.FmtSettingsFields.write.Goals as goal

pub returns-clause-ok : goal.returns-clause-ok
returns-clause-ok c =
    more_fields (chars (string_bytes c.args.reply.now)) (chars (string_bytes c.push_front.new.reply)) (chars (string_bytes c.push_back.new.reply))
    (front_settings c.args.self.now) (back_settings c.args.self.now) c.in_ok-push_front.ensures.ok c.in_ok-push_back.ensures.ok
