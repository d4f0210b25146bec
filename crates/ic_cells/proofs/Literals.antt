-- Literals of the sources, as characters.
use Rattle.std.proofs.Common.{◌≡◌, codes, [], refl}
use Rattle.std.specs.Str.{chars}

pub nothing : chars [] ≡ []
unfolding chars
nothing = refl

pub unevaluated : chars (codes "#ERROR!") ≡ codes "#ERROR!"
unfolding chars
unevaluated = refl

pub general : chars (codes "General") ≡ codes "General"
unfolding chars
general = refl

pub ruleset literals = (nothing, unevaluated, general)
