-- A number at the front of a text. Its characters are taken from left to right while the number stays within a limit.
use Rattle.std.specs.Prelude.{ℕ, ◌+◌, ◌*◌, ◌-◌, List, [], ◌∷◌, Bool, ◌&&◌, nat_le, Option, Some, None, if◌then◌else◌}
use Rattle.ic_laws.specs.Character.{digit_zero}
use Rattle.ic_laws.specs.Position.{letter_digit, column_count}
use Rattle.ic_laws.specs.Scan.{is_digit, is_ascii_letter}

-- the number that the characters write, after one that is written already
abbrev pub number_value : (ℕ → ℕ) → ℕ → ℕ → List ℕ → ℕ
number_value value base n [] = n
number_value value base n (c ∷ cs) = number_value value base (n * base + value c) cs

-- the number and the rest, after one that is read already
abbrev pub number_from : (ℕ → Bool) → (ℕ → ℕ) → ℕ → ℕ → ℕ → List ℕ → ℕ × List ℕ
number_from is value base most n [] = (n, [])
number_from is value base most n (c ∷ cs) =
    if is c && nat_le (n * base + value c) most then number_from is value base most (n * base + value c) cs else (n, c ∷ cs)

-- what a digit counts
abbrev pub digit_number : ℕ → ℕ
digit_number c = c - digit_zero

-- the number of digits, and the rest: digits are taken while the number is at most the limit
abbrev pub decimal_from : ℕ → ℕ → List ℕ → ℕ × List ℕ
decimal_from limit n text = number_from is_digit digit_number 10 limit n text

-- the number of a column's letters, and the rest: letters are taken while the column is one of the sheet
abbrev pub letters_from : ℕ → List ℕ → ℕ × List ℕ
letters_from n text = number_from is_ascii_letter letter_digit 26 column_count n text

-- the number with one more digit, if it is a digit and the number stays within the limit
abbrev pub with_digit : ℕ → ℕ → ℕ → Option ℕ
with_digit limit n c = if is_digit c && nat_le (n * 10 + digit_number c) limit then Some (n * 10 + digit_number c) else None
