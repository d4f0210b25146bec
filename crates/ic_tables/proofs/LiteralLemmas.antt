-- Literals of the sources, as characters.
use Rattle.std.proofs.Common.{◌≡◌, codes, refl}
use Rattle.std.specs.Str.{chars}

pub comma : chars (codes ",") ≡ codes ","
unfolding chars
comma = refl

pub dot : chars (codes ".") ≡ codes "."
unfolding chars
dot = refl

pub semicolon : chars (codes ";") ≡ codes ";"
unfolding chars
semicolon = refl

pub american_date : chars (codes "m/d/yyyy") ≡ codes "m/d/yyyy"
unfolding chars
american_date = refl

pub day_first : chars (codes "dd/mm/yyyy") ≡ codes "dd/mm/yyyy"
unfolding chars
day_first = refl

pub iso_date : chars (codes "yyyy-mm-dd") ≡ codes "yyyy-mm-dd"
unfolding chars
iso_date = refl

pub ruleset literals = (comma, dot, semicolon, american_date, day_first, iso_date)
