-- Rows and columns that are read with a limit.
use Rattle.std.proofs.Common.{Bool, true, false, ◌&&◌, ◌≡◌, ℕ, ◌+◌, ◌*◌, ◌^◌, ◌≤◌, ◌<◌, min, List, [], ◌∷◌, length, suc, nat_lt, nat_le, refl, sym, ◌∙◌, ap, inl, inr, arith}
use Rattle.std.specs.Char.{digit_value, is_ascii_digit}
use Rattle.std.specs.Str.{all_ascii_digits}
use Rattle.std.specs.Str.Parse.{digits_value, digits_value_after}
use Rattle.std.specs.List.{list_all}
use Rattle.std.proofs.lemmas.Bool.{cases_Bool, le-ltb, lt-ltb}
use Rattle.std.proofs.Math.Bool.{and_assoc}
use Rattle.std.proofs.Math.Nat.{pow-suc}
use Rattle.std.proofs.lemmas.Bool.Decides.{nat_tests, leb_tells}
use Rattle.ic_laws.specs.Name.{names_row}
use Rattle.ic_laws.specs.Position.{names_column, letter_digit, letters_number}
use Rattle.ic_laws.specs.Scan.{is_ascii_letter}

-- the digits from a row so far, up to one past the last
abbrev pub row_from : ℕ → List ℕ → Bool
row_from n [] = nat_lt 0 n && nat_le n 1048576
row_from n (c ∷ cs) = nat_lt (digit_value c) 10 && row_from (min (n * 10 + digit_value c) 1048577) cs

digit_test : (c : ℕ) → is_ascii_digit c ≡ nat_lt (digit_value c) 10
digit_test c = grind (arith, nat_tests)

row_grows : (cs : List ℕ) (n : ℕ) → n ≤ digits_value_after 10 n cs
row_grows [] n = omega arith
row_grows (c ∷ cs) n = omega (arith, row_grows cs (n * 10 + digit_value c))

abbrev is_row_after : ℕ → List ℕ → Bool
is_row_after n cs = nat_lt 0 (digits_value_after 10 n cs) && nat_le (digits_value_after 10 n cs) 1048576

row_capped : (m : ℕ) (cs : List ℕ) → is_row_after (min m 1048577) cs ≡ is_row_after m cs
row_capped m cs =
    elim (leb_tells m 1048577) [
      | inl p ↦ ap (λ n. is_row_after n cs) (min-small m p.1)
      | inr p ↦ past_both (digits_value_after 10 (min m 1048577) cs) (digits_value_after 10 m cs) (omega (arith, row_grows cs (min m 1048577))) (omega (arith, row_grows cs m))
    ]
  where
    min-small : (m : ℕ) → m ≤ 1048577 → min m 1048577 ≡ m
    min-small m h = omega arith

    past_both : (a b : ℕ) → 1048577 ≤ a → 1048577 ≤ b → (nat_lt 0 a && nat_le a 1048576) ≡ (nat_lt 0 b && nat_le b 1048576)
    past_both a b h k = grind (arith, nat_tests)

row_from_is : (n : ℕ) (cs : List ℕ) → row_from n cs ≡ (all_ascii_digits cs && is_row_after n cs)
row_from_is n [] = refl
row_from_is n (c ∷ cs) =
    elim (cases_Bool (nat_lt (digit_value c) 10)) [
      | inl e ↦ rw (digit_test c, e) (row_from_is (min (n * 10 + digit_value c) 1048577) cs ∙ ap (λ b. all_ascii_digits cs && b) (row_capped (n * 10 + digit_value c) cs))
      | inr e ↦ rw (digit_test c, e) refl
    ]

-- read with the limit the digits name the same rows
pub row_from_start : (cs : List ℕ) → row_from 0 cs ≡ names_row cs
row_from_start cs = row_from_is 0 cs ∙ sym (and_assoc (all_ascii_digits cs) (nat_lt 0 (digits_value 10 cs)) (nat_le (digits_value 10 cs) 1048576))

-- the letters from a column so far, up to one past the last
abbrev pub column_from : ℕ → List ℕ → Bool
column_from n [] = nat_lt 0 n && nat_le n 16384
column_from n (c ∷ cs) = is_ascii_letter c && column_from (min (n * 26 + letter_digit c) 16385) cs

letters_after : ℕ → List ℕ → ℕ
letters_after n [] = n
letters_after n (c ∷ cs) = letters_after (n * 26 + letter_digit c) cs

letters_after_is : (n : ℕ) (cs : List ℕ) → letters_after n cs ≡ n * 26 ^ length cs + letters_number cs
unfolding letters_after
letters_after_is n [] = omega arith
letters_after_is n (c ∷ cs) =
    letters_after_is (n * 26 + letter_digit c) cs ∙ spread n (letter_digit c) (26 ^ length cs) (letters_number cs) ∙ ap (λ p. n * p + (letter_digit c * 26 ^ length cs + letters_number cs)) (sym (pow-suc 26 (length cs)))
  where
    spread : (n d p m : ℕ) → (n * 26 + d) * p + m ≡ n * (p * 26) + (d * p + m)
    spread n d p m = omega arith

column_grows : (cs : List ℕ) (n : ℕ) → n ≤ letters_after n cs
unfolding letters_after
column_grows [] n = omega arith
column_grows (c ∷ cs) n = omega (arith, column_grows cs (n * 26 + letter_digit c))

abbrev is_column_after : ℕ → List ℕ → Bool
is_column_after n cs = nat_lt 0 (letters_after n cs) && nat_le (letters_after n cs) 16384

column_capped : (m : ℕ) (cs : List ℕ) → is_column_after (min m 16385) cs ≡ is_column_after m cs
column_capped m cs =
    elim (leb_tells m 16385) [
      | inl p ↦ ap (λ n. is_column_after n cs) (min-small m p.1)
      | inr p ↦ past_both (letters_after (min m 16385) cs) (letters_after m cs) (omega (arith, column_grows cs (min m 16385))) (omega (arith, column_grows cs m))
    ]
  where
    min-small : (m : ℕ) → m ≤ 16385 → min m 16385 ≡ m
    min-small m h = omega arith

    past_both : (a b : ℕ) → 16385 ≤ a → 16385 ≤ b → (nat_lt 0 a && nat_le a 16384) ≡ (nat_lt 0 b && nat_le b 16384)
    past_both a b h k = grind (arith, nat_tests)

column_from_is : (n : ℕ) (cs : List ℕ) → column_from n cs ≡ (list_all is_ascii_letter cs && is_column_after n cs)
unfolding letters_after
column_from_is n [] = refl
column_from_is n (c ∷ cs) =
    elim (cases_Bool (is_ascii_letter c)) [
      | inl e ↦ rw e (column_from_is (min (n * 26 + letter_digit c) 16385) cs ∙ ap (λ b. list_all is_ascii_letter cs && b) (column_capped (n * 26 + letter_digit c) cs))
      | inr e ↦ rw e refl
    ]

-- a letter counts
letter_counts : (c : ℕ) → is_ascii_letter c ≡ true → 1 ≤ letter_digit c
letter_counts c h = grind (arith, nat_tests)

none_between : (a b : Bool) → false ≡ (a && false && b)
none_between true b = refl
none_between false b = refl

all_between : (a b x y : Bool) → x ≡ true → y ≡ true → (b && (x && a)) ≡ (y && b && a)
all_between a b x y e f = rw (e, f) refl

some_letters : (n : ℕ) → nat_lt 0 (suc n) ≡ true
some_letters n = grind (arith, nat_tests)

-- read with the limit the letters name the same columns
pub column_from_start : (cs : List ℕ) → column_from 0 cs ≡ names_column cs
unfolding letters_after
column_from_start [] = refl
column_from_start (c ∷ cs) =
    elim (cases_Bool (is_ascii_letter c)) [
      | inl e ↦ column_from_is 0 (c ∷ cs)
          ∙ all_between (nat_le (letters_after 0 (c ∷ cs)) 16384) (list_all is_ascii_letter (c ∷ cs)) (nat_lt 0 (letters_after 0 (c ∷ cs))) (nat_lt 0 (suc (length cs)))
          (lt-ltb 0 (letters_after 0 (c ∷ cs)) (omega (arith, column_grows cs (0 * 26 + letter_digit c), letter_counts c e))) (some_letters (length cs))
          ∙ ap (λ m. nat_lt 0 (suc (length cs)) && list_all is_ascii_letter (c ∷ cs) && nat_le m 16384) (letters_after_is 0 (c ∷ cs) ∙ zero_times (26 ^ length (c ∷ cs)) (letters_number (c ∷ cs)))
      | inr e ↦ rw e (none_between (nat_lt 0 (suc (length cs))) (nat_le (letter_digit c * 26 ^ length cs + letters_number cs) 16384))
    ]
  where
    zero_times : (p m : ℕ) → 0 * p + m ≡ m
    zero_times p m = omega arith

-- a character that is no digit ends it
pub row_stops : (n c : ℕ) (left more digits : List ℕ) → left ≡ c ∷ more → (digit_value c < 10 → ⊥) → row_from n left ≡ row_from 0 digits → false ≡ names_row digits
row_stops n c left more digits e low h =
    let f : nat_lt (digit_value c) 10 ≡ false = le-ltb (digit_value c) 10 (omega (arith, low)) in
    let g : row_from n (c ∷ more) ≡ false = rw f refl in
    sym g ∙ ap (row_from n) (sym e) ∙ h ∙ row_from_start digits
