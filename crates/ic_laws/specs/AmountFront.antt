-- The longest amount at the front of a text, in one pass: digits while the whole part is below its limit, then the
-- separator and at most nine digits.
use Rattle.std.specs.Prelude.{ℕ, zero, suc, ◌+◌, ◌*◌, List, [], ◌∷◌, ◌++◌, ◌&&◌, ◌==◌, nat_le, pos, Option, option_map, if◌then◌else◌}
use Rattle.std.specs.Char.{digit_value}
use Rattle.ic_laws.specs.Amount.{unsigned_amount}
use Rattle.ic_laws.specs.Scan.{is_digit}
use Rattle.ic_laws.specs.Dialect.{DialectMeaning}
use Rattle.ic_laws.specs.Token.{Token, Num}

-- the largest whole part
abbrev pub last_whole : ℕ
last_whole = 999999999999999999

-- the digits at the front, after those that write n, while all of them write at most this; and what stands after them
abbrev pub digits_to : ℕ → ℕ → List ℕ → List ℕ
digits_to most n [] = []
digits_to most n (c ∷ cs) = if is_digit c && nat_le (n * 10 + digit_value c) most then c ∷ digits_to most (n * 10 + digit_value c) cs else []

-- what stands after those digits
abbrev pub past_to : ℕ → ℕ → List ℕ → List ℕ
past_to most n [] = []
past_to most n (c ∷ cs) = if is_digit c && nat_le (n * 10 + digit_value c) most then past_to most (n * 10 + digit_value c) cs else c ∷ cs

-- at most so many digits
abbrev pub some_digits : ℕ → List ℕ → List ℕ
some_digits zero text = []
some_digits (suc k) [] = []
some_digits (suc k) (c ∷ cs) = if is_digit c then c ∷ some_digits k cs else []

-- what stands after those
abbrev pub past_some : ℕ → List ℕ → List ℕ
past_some zero text = text
past_some (suc k) [] = []
past_some (suc k) (c ∷ cs) = if is_digit c then past_some k cs else c ∷ cs

-- the separator and the fraction
abbrev pub fraction_front : ℕ → List ℕ → List ℕ
fraction_front separator [] = []
fraction_front separator (c ∷ cs) = if c == separator then c ∷ some_digits 9 cs else []

-- what stands after them
abbrev pub past_fraction : ℕ → List ℕ → List ℕ
past_fraction separator [] = []
past_fraction separator (c ∷ cs) = if c == separator then past_some 9 cs else c ∷ cs

-- the amount at the front: whole part, separator and fraction
abbrev pub amount_front : ℕ → List ℕ → List ℕ
amount_front separator text = digits_to last_whole 0 text ++ fraction_front separator (past_to last_whole 0 text)

-- what stands after it
abbrev pub past_amount : ℕ → List ℕ → List ℕ
past_amount separator text = past_fraction separator (past_to last_whole 0 text)

-- the number that it writes, where it is one, and what stands after it
abbrev pub number_in_one_pass : DialectMeaning → List ℕ → Option (Token × List ℕ)
number_in_one_pass d text = option_map (λ units. (Num (pos units), past_amount d.decimal text)) (unsigned_amount d.decimal (amount_front d.decimal text))
