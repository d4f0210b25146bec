use Rattle.std.proofs.Common.{codes}
use Rattle.ic_words.proofs.ChoiceLemmas.{no_state, state_text}
use Rattle.ic_words.proofs.choices.state_in.Goals as goal

pub returns-in-visible : goal.returns-in-visible
returns-in-visible c = state_text c.args.text.now (codes "visible") c.utf8.text c.in-visible.is

pub returns-in-hidden : goal.returns-in-hidden
returns-in-hidden c = state_text c.args.text.now (codes "hidden") c.utf8.text c.in-hidden.is

pub returns-in-veryHidden : goal.returns-in-veryHidden
returns-in-veryHidden c = state_text c.args.text.now (codes "veryHidden") c.utf8.text c.in-veryHidden.is

pub returns-in_default : goal.returns-in_default
returns-in_default c = no_state c.args.text.now c.utf8.text c.in_default.not-visible c.in_default.not-hidden c.in_default.not-veryHidden
