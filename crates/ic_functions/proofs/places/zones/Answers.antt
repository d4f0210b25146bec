use Rattle.std.proofs.Common.{refl, ◌∙◌}
use Rattle.std.specs.Str.{chars}
use Rattle.ic_tables.specs.Sample.{sample}
use Rattle.ic_tables.specs.WordList.{words_in}
use Rattle.ic_functions.proofs.places.zones.Goals as goal

pub returns : goal.returns
unfolding sample words_in chars
returns c = c.in_ok-texts_of.ensures ∙ refl
