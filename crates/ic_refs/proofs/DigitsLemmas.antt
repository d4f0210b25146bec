-- Numbers at the front of a text.
use Rattle.std.proofs.Common.{◌≡◌, ℕ, ◌+◌, ◌*◌, ◌≤◌, List, [], ◌∷◌, ◌++◌, Bool, true, false, ◌&&◌, nat_le, length, refl, ap, arith, inl, inr}
use Rattle.std.specs.List.{list_all}
use Rattle.std.proofs.Math.Nat.{mul-le-mul_left}
use Rattle.std.proofs.lemmas.Bool.{and_parts, and_from, le-leb, leb-true, cases_Bool}
use Rattle.ic_laws.specs.Scan.{first_is}
use Rattle.ic_refs.specs.Digits.{number_value, number_from}

-- a number only grows
pub number_grows : (value : ℕ → ℕ) (base n : ℕ) (cs : List ℕ) → 1 ≤ base → n ≤ number_value value base n cs
number_grows value base n [] h = omega arith
number_grows value base n (c ∷ cs) h =
    omega (arith, number_grows value base (n * base + value c) cs h, mul-le-mul_left n h)

-- what is within the limit is read whole
pub read_past : (is : ℕ → Bool) (value : ℕ → ℕ) (base most n : ℕ) (front rest : List ℕ) → 1 ≤ base → list_all is front ≡ true → number_value value base n front ≤ most
    → number_from is value base most n (front ++ rest) ≡ number_from is value base most (number_value value base n front) rest
read_past is value base most n [] rest h a w = refl
read_past is value base most n (c ∷ cs) rest h a w =
    let parts = and_parts (is c) (list_all is cs) a in
    let small : n * base + value c ≤ most = omega (arith, number_grows value base (n * base + value c) cs h) in
    rw (parts.0, le-leb (n * base + value c) most small) (read_past is value base most (n * base + value c) cs rest h parts.1 w)

-- reading stops at another character
pub read_stops : (is : ℕ → Bool) (value : ℕ → ℕ) (base most n : ℕ) (rest : List ℕ) → first_is is rest ≡ false → number_from is value base most n rest ≡ (n, rest)
read_stops is value base most n [] h = refl
read_stops is value base most n (c ∷ cs) h = rw h refl

-- what was taken, and that it couldn't be more
pub record IsNumberTaken (is : ℕ → Bool) (value : ℕ → ℕ) (base most n : ℕ) (text : List ℕ) (read : ℕ × List ℕ) : Type 0 where
  pub front : List ℕ
  pub whole : text ≡ front ++ read.1
  pub all : list_all is front ≡ true
  pub number : read.0 ≡ number_value value base n front
  pub within : n ≤ most → read.0 ≤ most
  pub shorter : length read.1 ≤ length text
  pub grown : 1 ≤ base → n ≤ read.0

pub number_taken : (is : ℕ → Bool) (value : ℕ → ℕ) (base most n : ℕ) (text : List ℕ) → IsNumberTaken is value base most n text (number_from is value base most n text)
number_taken is value base most n [] = record { front = []; whole = refl; all = refl; number = refl; within = λ h. h; shorter = omega arith; grown = λ h. omega arith }
number_taken is value base most n (c ∷ cs) =
    elim (cases_Bool (is c && nat_le (n * base + value c) most)) [
      | inl p ↦ let more = number_taken is value base most (n * base + value c) cs in
          let parts = and_parts (is c) (nat_le (n * base + value c) most) p in
          rw p (record {
            front = c ∷ more.front;
            whole = ap (λ v. c ∷ v) more.whole;
            all = and_from (is c) (list_all is more.front) parts.0 more.all;
            number = more.number;
            within = λ h. more.within (leb-true (n * base + value c) most parts.1);
            shorter = omega (arith, more.shorter);
            grown = λ h. omega (arith, more.grown h, mul-le-mul_left n h);
          })
      | inr q ↦ rw q (record { front = []; whole = refl; all = refl; number = refl; within = λ h. h; shorter = omega arith; grown = λ h. omega arith })
    ]
