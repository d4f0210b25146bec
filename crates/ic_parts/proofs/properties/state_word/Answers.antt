use Rattle.std.proofs.Common.{rules}
use Rattle.std.specs.Str.{chars}
use Rattle.ic_parts.proofs.properties.state_word.Goals as goal

pub returns-in-Visible : goal.returns-in-Visible
unfolding chars
returns-in-Visible c = search rules

pub returns-in-Hidden : goal.returns-in-Hidden
unfolding chars
returns-in-Hidden c = search rules

pub returns-in-VeryHidden : goal.returns-in-VeryHidden
unfolding chars
returns-in-VeryHidden c = search rules
