use Rattle.std.proofs.Common.{ap, sym, ◌∙◌}
use Rattle.ic_machine.specs.Reply.{color_text}
use Rattle.ic_words.proofs.ChoiceLemmas.{minus_itself}
use Rattle.ic_words.proofs.reply.color_text.Goals as goal

pub returns-in-None : goal.returns-in-None
returns-in-None c = minus_itself ∙ sym (ap color_text c.in-None.is)
