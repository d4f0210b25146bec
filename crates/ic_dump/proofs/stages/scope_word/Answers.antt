use Rattle.std.proofs.Common.{ap, sym, ◌∙◌}
use Rattle.std.specs.Str.{chars}
use Rattle.ic_dump.specs.Lines.{scope_word}
use Rattle.ic_dump.proofs.stages.scope_word.Goals as goal

pub returns-in_ok-from_str-in-None : goal.returns-in_ok-from_str-in-None
unfolding chars
returns-in_ok-from_str-in-None c = λ sheets found. ap chars c.in_ok-from_str-in-None.ensures.ok ∙ ap (λ scope. scope_word sheets scope) (sym c.in-None.is)
