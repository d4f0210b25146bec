-- Digits in groups of three, from the last group on.
use Rattle.std.proofs.Common.{◌≡◌, ℕ, suc, ◌+◌, ◌/◌, ◌%◌, ◌^◌, ◌<◌, ◌≤◌, List, [], ◌∷◌, ◌++◌, Bool, true, false, ◌&&◌, ◌==◌, nat_lt, length, refl, ap, ◌∙◌, append_assoc, inl, inr, arith, cond}
use Rattle.std.specs.Fmt.{decimal}
use Rattle.std.proofs.lemmas.Bool.Decides.{leb_tells, nat_tests}
use Rattle.std.proofs.lemmas.Fmt.{decimal_digit, decimal_step_wide, length-decimal-le_wide}
use Rattle.std.proofs.lemmas.List.{length-append}
use Rattle.ic_input.specs.Date.{two_digits}
use Rattle.ic_input.specs.Group.{in_threes}

-- up to three digits are one group
pub one_group : (group : ℕ) (ds : List ℕ) → length ds ≤ 3 → in_threes group ds ≡ ds
one_group group [] h = refl
one_group group (a ∷ []) h = refl
one_group group (a ∷ b ∷ []) h = refl
one_group group (a ∷ b ∷ c ∷ []) h = refl
one_group group (a ∷ b ∷ c ∷ d ∷ ds) h = absurd (omega arith)

-- three more digits in front make no difference to where a separator stands
same_place : (k : ℕ) → (nat_lt 0 (suc k + 3) && (suc k + 3) % 3 == 0) ≡ (nat_lt 0 (suc k) && suc k % 3 == 0)
same_place k =
    let a : nat_lt 0 (suc k + 3) ≡ true = grind (arith, nat_tests) in
    let b : nat_lt 0 (suc k) ≡ true = grind (arith, nat_tests) in
    let c : (suc k + 3) % 3 ≡ suc k % 3 = omega arith in
    rw (a, b, c) refl

-- a last group stands after a separator
pub last_group : (group d : ℕ) (ds : List ℕ) (a b c : ℕ) → in_threes group ((d ∷ ds) ++ a ∷ b ∷ c ∷ []) ≡ in_threes group (d ∷ ds) ++ group ∷ a ∷ b ∷ c ∷ []
last_group group d [] a b c = refl
last_group group d (e ∷ ds) a b c =
    let n : length ((e ∷ ds) ++ a ∷ b ∷ c ∷ []) ≡ suc (length ds) + 3 = length-append (e ∷ ds) (a ∷ b ∷ c ∷ []) in
    let test : (nat_lt 0 (length ((e ∷ ds) ++ a ∷ b ∷ c ∷ [])) && length ((e ∷ ds) ++ a ∷ b ∷ c ∷ []) % 3 == 0) ≡ (nat_lt 0 (suc (length ds)) && suc (length ds) % 3 == 0) =
    ap (λ k. nat_lt 0 k && k % 3 == 0) n ∙ same_place (length ds) in
    let rest = last_group group e ds a b c in
    go _ _ test rest
  where
    go : (t u : Bool) → t ≡ u → in_threes group ((e ∷ ds) ++ a ∷ b ∷ c ∷ []) ≡ in_threes group (e ∷ ds) ++ group ∷ a ∷ b ∷ c ∷ []
        → d ∷ cond t (group ∷ in_threes group ((e ∷ ds) ++ a ∷ b ∷ c ∷ [])) (in_threes group ((e ∷ ds) ++ a ∷ b ∷ c ∷ []))
        ≡ (d ∷ cond u (group ∷ in_threes group (e ∷ ds)) (in_threes group (e ∷ ds))) ++ group ∷ a ∷ b ∷ c ∷ []
    go t true h r = rw h (ap (λ x. d ∷ group ∷ x) r)
    go t false h r = rw h (ap (λ x. d ∷ x) r)

-- the digits of a number below 1,000 are one group
pub small_grouped : (group n : ℕ) → n < 1000 → in_threes group (decimal n) ≡ decimal n
small_grouped group n h = one_group group (decimal n) (length-decimal-le_wide 3 n (omega arith) h (omega arith))

-- the last three digits of a number
last_digits : (n : ℕ) → 1000 ≤ n → n < 10 ^ 64 → decimal n ≡ decimal (n / 1000) ++ (48 + n % 1000 / 100) ∷ two_digits (n % 1000 % 100)
last_digits n low high =
    let a = decimal_step_wide n (omega arith) high in
    let b = decimal_step_wide (n / 10) (omega arith) (omega arith) in
    let c = decimal_step_wide (n / 10 / 10) (omega arith) (omega arith) in
    let front : n / 10 / 10 / 10 ≡ n / 1000 = omega arith in
    let x : n / 10 / 10 % 10 ≡ n % 1000 / 100 = omega arith in
    let y : n / 10 % 10 ≡ n % 1000 % 100 / 10 = omega arith in
    let z : n % 10 ≡ n % 1000 % 100 % 10 = omega arith in
    a ∙ rw (b, c, front, x, y, z, append_assoc, append_assoc) refl

pub nonempty : (n : ℕ) → n < 10 ^ 64 → 0 < length (decimal n)
nonempty n high =
    elim (leb_tells 10 n) [
      | inl p ↦ rw (decimal_step_wide n p.1 high) (omega (arith, length-append (decimal (n / 10)) ((48 + n % 10) ∷ [])))
      | inr p ↦ rw (decimal_digit n p.1) (omega arith)
    ]

-- the groups of a number are those of its thousands, and one more
pub more_grouped : (group n : ℕ) → 1000 ≤ n → n < 10 ^ 64 → in_threes group (decimal n) ≡ in_threes group (decimal (n / 1000)) ++ group ∷ (48 + n % 1000 / 100) ∷ two_digits (n % 1000 % 100)
more_grouped group n low high = rw (last_digits n low high) (go (decimal (n / 1000)) (nonempty (n / 1000) (omega arith)))
  where
    go : (ds : List ℕ) → 0 < length ds → in_threes group (ds ++ (48 + n % 1000 / 100) ∷ two_digits (n % 1000 % 100)) ≡ in_threes group ds ++ group ∷ (48 + n % 1000 / 100) ∷ two_digits (n % 1000 % 100)
    go [] h = absurd (omega arith)
    go (d ∷ ds) h = last_group group d ds _ _ _

-- a text with a number's thousands, the separator and the last group is the text with the number
pub grouped_more : (old one two new : List ℕ) (group n : ℕ) → 1000 ≤ n → n < 10 ^ 64 → one ≡ old ++ in_threes group (decimal (n / 1000)) → two ≡ one ++ group ∷ [] → new ≡ two ++ (48 + n % 1000 / 100) ∷ two_digits (n % 1000 % 100) → new ≡ old ++ in_threes group (decimal n)
grouped_more old one two new group n low high a b c =
    rw (c, b, a, more_grouped group n low high, append_assoc, append_assoc) refl
