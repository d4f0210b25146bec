use Rattle.std.proofs.Common.{codes}
use Rattle.ic_words.proofs.ChoiceLemmas.{flag_text, no_flag}
use Rattle.ic_words.proofs.choices.flag_in.Goals as goal

pub returns-in-text : goal.returns-in-text
returns-in-text c = flag_text c.args.text.now (codes "1") c.utf8.text c.in-text.is

pub returns-in-text-2 : goal.returns-in-text-2
returns-in-text-2 c = flag_text c.args.text.now (codes "0") c.utf8.text c.in-text-2.is

pub returns-in_default : goal.returns-in_default
returns-in_default c = no_flag c.args.text.now c.utf8.text c.in_default.not-text c.in_default.not-text-2
