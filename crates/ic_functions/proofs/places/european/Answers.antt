use Rattle.std.proofs.Common.{refl}
use Rattle.std.specs.Str.{chars}
use Rattle.ic_tables.specs.LocaleWords.{locale_in}
use Rattle.ic_functions.proofs.places.european.Goals as goal

pub returns : goal.returns
unfolding locale_in chars
returns c = refl
