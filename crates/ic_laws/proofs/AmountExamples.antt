-- Amounts by example.
use Rattle.std.proofs.Common.{◌≡◌, ℕ, ◌∷◌, [], Some, None, codes, map, pos, negsuc, refl, inl, inr, arith}
use Rattle.std.specs.Fmt.{digits}
use Rattle.ic_laws.specs.Amount.{WritesUnits, amount_text, fraction_digits, unsigned_amount}
use Rattle.ic_laws.proofs.AmountReading.{writes-unsigned_amount}

-- a number may end with its separator or begin with it; a lone one is no number
read : map (unsigned_amount 46) (codes "1." ∷ codes ".5" ∷ codes "." ∷ codes "" ∷ codes "007" ∷ codes "1,5" ∷ []) ≡ Some 1000000000 ∷ Some 500000000 ∷ None ∷ None ∷ Some 7000000000 ∷ None ∷ []
read = refl

-- at most nine digits stand after the separator, and the number is below 10^18
limits : map (unsigned_amount 44) (codes "0,123456789" ∷ codes "0,1234567890" ∷ codes "999999999999999999,999999999" ∷ codes "1000000000000000000" ∷ []) ≡ Some 123456789 ∷ None ∷ Some 999999999999999999999999999 ∷ None ∷ []
limits = refl

-- the shortest text
written : map (amount_text 46) (pos 0 ∷ pos 120000000 ∷ pos 1234500000000 ∷ negsuc 0 ∷ []) ≡ codes "0" ∷ codes "0.12" ∷ codes "1234.5" ∷ codes "-0.000000001" ∷ []
unfolding digits fraction_digits
written = refl

-- what a number writes: one and a half, by a separator; seven, without one; a half, with nothing before it
one_and_a_half : WritesUnits 44 (codes "1,50") 1500000000
one_and_a_half = record { whole = codes "1"; fraction = codes "50"; form = inl refl; digits = refl; some = λ e. cc; places = omega arith; number = refl; amount = omega arith }

seven : WritesUnits 46 (codes "007") 7000000000
seven = record { whole = codes "007"; fraction = []; form = inr (refl, refl); digits = refl; some = λ e. cc; places = omega arith; number = refl; amount = omega arith }

half : WritesUnits 46 (codes ".5") 500000000
half = record { whole = []; fraction = codes "5"; form = inl refl; digits = refl; some = λ e. cc; places = omega arith; number = refl; amount = omega arith }

-- a lone separator writes none, nor do ten digits after one, nor a sign
lone : (n : ℕ) → WritesUnits 46 (codes ".") n → ⊥
lone n w = let e : None ≡ Some n = writes-unsigned_amount 46 (codes ".") n refl w in cc

ten_places : (n : ℕ) → WritesUnits 46 (codes "0.1234567890") n → ⊥
ten_places n w = let e : None ≡ Some n = writes-unsigned_amount 46 (codes "0.1234567890") n refl w in cc

signed : (n : ℕ) → WritesUnits 46 (codes "-1") n → ⊥
signed n w = let e : None ≡ Some n = writes-unsigned_amount 46 (codes "-1") n refl w in cc
