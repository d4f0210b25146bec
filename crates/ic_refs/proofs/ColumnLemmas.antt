-- Columns as they are written.
use Rattle.std.proofs.Common.{◌≡◌, ℕ, ℤ, pos, negsuc, ◌+◌, ◌*◌, ◌-◌, ◌/◌, ◌%◌, ◌≤◌, ◌<◌, List, [], ◌∷◌, ◌++◌, true, ◌&&◌, nat_lt, nat_le, nat_abs, length, Some, refl, sym, ◌∙◌, ap, arith, inl, inr}
use Rattle.std.specs.List.{list_all}
use Rattle.std.proofs.lemmas.Bool.{and_parts, and_from, le-leb, lt-ltb, or_left}
use Rattle.std.proofs.lemmas.Bool.Decides.{leb_tells, nat_tests}
use Rattle.std.proofs.lemmas.Int.{ints}
use Rattle.ic_laws.specs.Position.{is_column, is_row, letter_digit, letters_number, names_column}
use Rattle.ic_laws.specs.Scan.{is_upper, is_ascii_letter}
use Rattle.ic_refs.specs.Column.{letter, column_letters, column_name}

-- a letter of a digit from 1 to 26
letter_upper : (d : ℕ) → 0 < d → d ≤ 26 → is_upper (letter d) ≡ true
letter_upper d l h = and_from (nat_le 65 (64 + d)) (nat_le (64 + d) 90) (le-leb 65 (64 + d) (omega arith)) (le-leb (64 + d) 90 (omega arith))

letter_back : (d : ℕ) → d ≤ 26 → letter_digit (letter d) ≡ d
letter_back d h = rw (lt-ltb (64 + d) 97 (omega arith)) (omega arith)

-- the letters of a number: how many, their kind, and their number
pub record AreLettersOf (n : ℕ) (letters : List ℕ) : Type 0 where
  pub some : 0 < length letters
  pub upper : list_all is_upper letters ≡ true
  pub number : letters_number letters ≡ n

one_letter : (a : ℕ) → 0 < a → a ≤ 26 → AreLettersOf a (letter a ∷ [])
one_letter a l h = record { some = omega arith; upper = rw (letter_upper a l h) refl; number = rw (letter_back a h) (omega arith) }

two_letters : (n a b : ℕ) → 0 < a → a ≤ 26 → 0 < b → b ≤ 26 → a * 26 + b ≡ n → AreLettersOf n (letter a ∷ letter b ∷ [])
two_letters n a b la ha lb hb e = record {
  some = omega arith;
  upper = rw (letter_upper a la ha, letter_upper b lb hb) refl;
  number = rw (letter_back a ha, letter_back b hb) (omega (arith, e));
}

three_letters : (n a b c : ℕ) → 0 < a → a ≤ 26 → 0 < b → b ≤ 26 → 0 < c → c ≤ 26 → a * 676 + b * 26 + c ≡ n → AreLettersOf n (letter a ∷ letter b ∷ letter c ∷ [])
three_letters n a b c la ha lb hb lc hc e = record {
  some = omega arith;
  upper = rw (letter_upper a la ha, letter_upper b lb hb, letter_upper c lc hc) refl;
  number = rw (letter_back a ha, letter_back b hb, letter_back c hc) (omega (arith, e));
}

-- three places
in_base_26 : (n : ℕ) → 702 < n → (n - 27) / 676 * 676 + ((n - 27) / 26 % 26 + 1) * 26 + ((n - 1) % 26 + 1) ≡ n
in_base_26 n h =
    let m : ℕ = n - 27 in
    let high : m / 676 ≡ m / 26 / 26 = omega arith in
    let low : (n - 1) % 26 ≡ m % 26 = omega arith in
    omega (arith, high, low)

-- The letters of each column of the sheet are in upper case and have its number.
pub column_letters-AreLettersOf : (n : ℕ) → 0 < n → n ≤ 16384 → AreLettersOf n (column_letters n)
unfolding column_letters
column_letters-AreLettersOf n l h =
    elim (leb_tells n 26) [
      | inl p ↦ rw p.0 (one_letter n l p.1)
      | inr p ↦ elim (leb_tells n 702) [
        | inl q ↦ rw (p.0, q.0) (two_letters n ((n - 1) / 26) ((n - 1) % 26 + 1) (omega (arith, p.1, q.1)) (omega (arith, p.1, q.1)) (omega arith) (omega arith) (omega (arith, p.1)))
        | inr q ↦ rw (p.0, q.0) (three_letters n ((n - 27) / 676) ((n - 27) / 26 % 26 + 1) ((n - 1) % 26 + 1) (omega (arith, q.1)) (omega (arith, q.1)) (omega arith) (omega arith) (omega arith) (omega arith) (in_base_26 n q.1))
      ]
    ]

-- letters in upper case are letters
pub upper_letters : (cs : List ℕ) → list_all is_upper cs ≡ true → list_all is_ascii_letter cs ≡ true
upper_letters [] h = refl
upper_letters (c ∷ cs) h =
    let parts = and_parts (is_upper c) (list_all is_upper cs) h in
    and_from (is_ascii_letter c) (list_all is_ascii_letter cs) (or_left (is_upper c) (nat_le 97 c && nat_le c 122) parts.0) (upper_letters cs parts.1)

-- the laws of a column's letters
pub letters_number-column_letters : (n : ℕ) → 1 ≤ n → n ≤ 16384 → letters_number (column_letters n) ≡ n
letters_number-column_letters n l h = AreLettersOf.number (column_letters-AreLettersOf n l h)

pub names_column-column_letters : (n : ℕ) → 1 ≤ n → n ≤ 16384 → names_column (column_letters n) ≡ true
names_column-column_letters n l h =
    let a = column_letters-AreLettersOf n l h in
    let cs = column_letters n in
    and_from (nat_lt 0 (length cs) && list_all is_ascii_letter cs) (nat_le (letters_number cs) 16384)
    (and_from (nat_lt 0 (length cs)) (list_all is_ascii_letter cs) (lt-ltb 0 (length cs) a.some) (upper_letters cs a.upper))
    (le-leb (letters_number cs) 16384 (omega (arith, a.number)))

-- a row and a column of the sheet as numbers
pub record IsNaturalUpTo (most : ℕ) (z : ℤ) : Type 0 where
  pub same : z ≡ pos (nat_abs z)
  pub low : 1 ≤ nat_abs z
  pub high : nat_abs z ≤ most

pub number_of_column : (z : ℤ) → is_column z ≡ true → IsNaturalUpTo 16384 z
number_of_column (pos n) h = record { same = refl; low = grind (arith, ints, nat_tests); high = grind (arith, ints, nat_tests) }
number_of_column (negsuc n) h = absurd (grind (arith, ints, nat_tests))

pub number_of_row : (z : ℤ) → is_row z ≡ true → IsNaturalUpTo 1048576 z
number_of_row (pos n) h = record { same = refl; low = grind (arith, ints, nat_tests); high = grind (arith, ints, nat_tests) }
number_of_row (negsuc n) h = absurd (grind (arith, ints, nat_tests))

-- what is written for a column
pub column_named : (z y : ℤ) (old name : List ℕ) → is_column z ≡ true → y ≡ z → old ≡ [] → name ≡ old ++ column_letters (nat_abs y) → Some name ≡ column_name z
column_named z y old name h e none written =
    rw h (ap Some (written ∙ ap (λ v. v ++ column_letters (nat_abs y)) none ∙ ap (λ n. column_letters (nat_abs n)) e))

pub column_letters_named : (z : ℤ) (name : List ℕ) → Some name ≡ column_name z → is_column z ≡ true → (list_all is_upper name ≡ true) × (pos (letters_number name) ≡ z)
column_letters_named z name e h =
    let n = number_of_column z h in
    let a = column_letters-AreLettersOf (nat_abs z) n.low n.high in
    let same : Some name ≡ Some (column_letters (nat_abs z)) = rw h at e in
    let letters : name ≡ column_letters (nat_abs z) = cc in
    (ap (list_all is_upper) letters ∙ a.upper, ap (λ v. pos (letters_number v)) letters ∙ ap pos a.number ∙ sym n.same)
