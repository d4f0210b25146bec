-- Which ASCII characters are letters.
use Rattle.std.proofs.Common.{◌≡◌, ℕ, ◌<◌, Bool, true, false, not, refl}
use Rattle.ucd_derived.proofs.Computing.{ucd_derived}
use Rattle.ic_laws.specs.Scan.{is_ascii_letter, is_letter}
use Rattle.ic_laws.proofs.tokens.Characters.{all_below, at_below}

abbrev alike : Bool → Bool → Bool
alike true b = b
alike false b = not b

alike_same : (a b : Bool) → alike a b ≡ true → a ≡ b
alike_same true true h = refl
alike_same true false h = absurd (cc)
alike_same false true h = absurd (cc)
alike_same false false h = refl

ascii_letters : all_below (λ c. alike (is_letter c) (is_ascii_letter c)) 128 ≡ true
unfolding ucd_derived
ascii_letters = refl

pub ascii_letter : (c : ℕ) → c < 128 → is_letter c ≡ is_ascii_letter c
ascii_letter c lt = alike_same (is_letter c) (is_ascii_letter c) (at_below (λ c. alike (is_letter c) (is_ascii_letter c)) 128 c ascii_letters lt)
