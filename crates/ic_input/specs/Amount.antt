-- Amounts with a sign, as command lines and programs write them.
use Rattle.std.specs.Prelude.{ℕ, ℤ, pos, neg_ℤ, List, [], ◌∷◌, ◌==◌, Option, option_map, if◌then◌else◌}
use Rattle.ic_laws.specs.Amount.{unsigned_amount}
use Rattle.ic_laws.specs.Character.{minus}

-- the amount below 0 of so many units
abbrev pub negated : ℕ → ℤ
negated units = neg_ℤ (pos units)

-- the units that a whole text writes: a number, and a minus before it or none
abbrev pub signed_amount : ℕ → List ℕ → Option ℤ
signed_amount separator [] = option_map pos (unsigned_amount separator [])
signed_amount separator (c ∷ cs) =
    if c == minus then option_map negated (unsigned_amount separator cs) else option_map pos (unsigned_amount separator (c ∷ cs))
