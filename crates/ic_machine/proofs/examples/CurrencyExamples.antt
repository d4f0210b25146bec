-- The format of currencies as a code, by example.
use Rattle.std.proofs.Common.{◌≡◌, [], ◌∷◌, ◌++◌, codes, flat_map, refl}
use Rattle.std.specs.Prelude.{map}
use Rattle.ic_machine.specs.subjects.Notation.{as_code, currency_sign, firm_blank, plain_blank}

-- the firm blank between an amount and its symbol
behind : map plain_blank (flat_map (as_code (codes "€")) (codes "#,##0.00" ++ firm_blank ∷ currency_sign ∷ [])) ≡ codes "#,##0.00 \"€\""
behind = refl

-- and the symbol's own one
before : map plain_blank (flat_map (as_code (codes "kr" ++ firm_blank ∷ [])) (currency_sign ∷ codes "#,##0.00")) ≡ codes "\"kr \"#,##0.00"
before = refl
