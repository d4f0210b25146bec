-- Texts that the code of names has.
use Rattle.std.proofs.Common.{codes, ◌≡◌, refl}
use Rattle.std.specs.Str.{chars}

-- the characters of the words that the code names
pub chars-true : chars (codes "true") ≡ codes "true"
unfolding chars
chars-true = refl

pub chars-false : chars (codes "false") ≡ codes "false"
unfolding chars
chars-false = refl

pub chars-let : chars (codes "LET") ≡ codes "LET"
unfolding chars
chars-let = refl

pub chars-lambda : chars (codes "LAMBDA") ≡ codes "LAMBDA"
unfolding chars
chars-lambda = refl

pub ruleset literals = (chars-true, chars-false, chars-let, chars-lambda)
