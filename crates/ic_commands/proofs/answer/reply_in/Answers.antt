use Rattle.std.proofs.Common.{string_bytes, subst, ◌∙◌}
use Rattle.std.specs.Prelude.{IfOk}
use Rattle.ic_commands.specs.Answered.{DoesLine}
use Rattle.ic_commands.proofs.answer.reply_in.Goals as goal

pub returns-clause-whole : goal.returns-clause-whole
returns-clause-whole c =
    subst (λ line. IfOk c.reply_to_text.result (λ reply. DoesLine line c.args.model.now c.reply_to_text.new.model (string_bytes reply))) (c.as_str.ensures.characters ∙ c.text.ensures.same) c.reply_to_text.ensures.whole
