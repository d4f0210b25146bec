use Rattle.std.proofs.Common.{codes}
use Rattle.ic_words.proofs.ChoiceLemmas.{bool_text, no_bool}
use Rattle.ic_words.proofs.choices.bool_in.Goals as goal

pub returns-in-true : goal.returns-in-true
returns-in-true c = bool_text c.args.text.now (codes "true") c.utf8.text c.in-true.is

pub returns-in-false : goal.returns-in-false
returns-in-false c = bool_text c.args.text.now (codes "false") c.utf8.text c.in-false.is

pub returns-in_default : goal.returns-in_default
returns-in_default c = no_bool c.args.text.now c.utf8.text c.in_default.not-true c.in_default.not-false
