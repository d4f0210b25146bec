-- The text without a character, and that a list has nothing past its end.
use Rattle.std.proofs.Common.{◌≡◌, ◌≤◌, ℕ, zero, suc, List, [], ◌∷◌, length, None, refl, arith}
use Rattle.std.specs.List.{slice_get}
use Rattle.std.specs.Str.{chars}

pub nothing : chars [] ≡ []
unfolding chars
nothing = refl

pub none_past : {X : Type 0} (xs : List X) (i : ℕ) → length xs ≤ i → slice_get xs i ≡ None
none_past [] i h = refl
none_past (x ∷ xs) zero h = absurd (omega (arith, h))
none_past (x ∷ xs) (suc i) h = none_past xs i (omega (arith, h))
