-- Literals of the sources, as characters.
use Rattle.std.proofs.Common.{◌≡◌, codes, refl}
use Rattle.std.specs.Str.{chars}
use Rattle.ic_tables.proofs.LiteralLemmas.{comma, american_date, day_first, iso_date}

pub whole_digits : chars (codes "#,##0") ≡ codes "#,##0"
unfolding chars
whole_digits = refl

pub two_decimals : chars (codes ".00") ≡ codes ".00"
unfolding chars
two_decimals = refl

pub digits_with_decimals : chars (codes "#,##0.00") ≡ codes "#,##0.00"
unfolding chars
digits_with_decimals = refl

pub ruleset literals = (american_date, day_first, iso_date, whole_digits, two_decimals, digits_with_decimals, comma)
