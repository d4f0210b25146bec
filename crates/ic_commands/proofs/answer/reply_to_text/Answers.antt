use Rattle.std.proofs.lemmas.Result.{IfOk-weaker}
use Rattle.ic_commands.proofs.LineLemmas.{line_done}
use Rattle.ic_commands.proofs.answer.reply_to_text.Goals as goal

pub returns-clause-whole : goal.returns-clause-whole
returns-clause-whole c = IfOk-weaker c.reply_to_words.result _ _ (λ reply does. line_done c.first_word.ensures does) c.reply_to_words.ensures.ok
