-- How numbers and lists are written as bytes, so that what was written can be told from what follows.
use Rattle.std.specs.Prelude.{ℕ, zero, suc, ◌+◌, ◌/◌, ◌%◌, List, [], ◌∷◌, ◌++◌, length, nat_lt, if◌then◌else◌}

-- a number in groups of seven bits, the lowest first, 128 added to each but the last; at most so many before the last
abbrev pub groups : ℕ → ℕ → List ℕ
groups zero n = n ∷ []
groups (suc turns) n = if nat_lt n 128 then n ∷ [] else (n % 128 + 128) ∷ groups turns (n / 128)

-- A number below 128 is one byte; any other takes a byte for each seven bits.
unfoldable pub number_bytes : ℕ → List ℕ
number_bytes n = groups n n

-- items by their own bytes, one after another
abbrev pub joined : {A : Type 0} → (A → List ℕ) → List A → List ℕ
joined f [] = []
joined f (x ∷ xs) = f x ++ joined f xs

-- the same behind their count
abbrev pub all_bytes : {A : Type 0} → (A → List ℕ) → List A → List ℕ
all_bytes f xs = number_bytes (length xs) ++ joined f xs

-- numbers behind their count; of a text they are its characters
abbrev pub text_bytes : List ℕ → List ℕ
text_bytes numbers = all_bytes number_bytes numbers
