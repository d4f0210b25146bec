-- Digits in groups of three.
use Rattle.std.specs.Prelude.{ℕ, ◌%◌, List, [], ◌∷◌, ◌&&◌, ◌==◌, nat_lt, length, Option, Some, None, if◌then◌else◌}
use Rattle.std.specs.Str.Parse.{digits_value}
use Rattle.ic_laws.specs.Scan.{is_digit}

-- digits in threes: the separator stands after each digit that has 3, 6, 9 .. digits after it
abbrev pub in_threes : ℕ → List ℕ → List ℕ
in_threes group [] = []
in_threes group (c ∷ cs) = c ∷ (if nat_lt 0 (length cs) && length cs % 3 == 0 then group ∷ in_threes group cs else in_threes group cs)

-- the number of a group at the front of a text, three digits after the separator, and what stands after it
abbrev pub group_at : ℕ → List ℕ → Option (ℕ × List ℕ)
group_at group (s ∷ a ∷ b ∷ c ∷ rest) =
    if s == group && is_digit a && is_digit b && is_digit c then Some (digits_value 10 (a ∷ b ∷ c ∷ []), rest) else None
group_at group text = None

-- the digits of all groups at the front of a text, and what stands after them
abbrev pub threes : ℕ → List ℕ → List ℕ
threes group (s ∷ a ∷ b ∷ c ∷ rest) =
    if s == group && is_digit a && is_digit b && is_digit c then a ∷ b ∷ c ∷ threes group rest else []
threes group text = []

abbrev pub past_threes : ℕ → List ℕ → List ℕ
past_threes group (s ∷ a ∷ b ∷ c ∷ rest) =
    if s == group && is_digit a && is_digit b && is_digit c then past_threes group rest else s ∷ a ∷ b ∷ c ∷ rest
past_threes group text = text
