-- A text names a column exactly where the column has these letters.
use Rattle.std.proofs.Common.{◌≡◌, ◌≢◌, ℕ, ℤ, pos, ◌+◌, ◌*◌, ◌-◌, ◌/◌, ◌%◌, ◌^◌, ◌≤◌, ◌<◌, List, [], ◌∷◌, true, false, nat_lt, nat_le, nat_abs, length, Option, Some, Result, Ok, Err, MatchResult, refl, sym, subst, ◌∙◌, ap, arith, inl, inr, zero, suc}
use Rattle.std.specs.List.{list_all}
use Rattle.std.proofs.Math.Nat.{pow-suc, le-mul_of_pos_right}
use Rattle.std.proofs.lemmas.Bool.{and_parts, and_from, cases_Bool, le-leb, leb-true, lt-leb}
use Rattle.std.proofs.lemmas.Bool.Decides.{nat_tests}
use Rattle.ic_laws.specs.Position.{is_column, letter_digit, letters_number}
use Rattle.ic_laws.specs.Scan.{is_upper}
use Rattle.ic_refs.specs.Column.{column_letters, column_name, column_number, letter}
use Rattle.ic_refs.specs.declared.error.ColumnError.{ColumnError}
use Rattle.ic_refs.proofs.ColumnLemmas.{AreLettersOf, column_letters-AreLettersOf, number_of_column}

-- a letter in upper case is that of its digit
record IsLetterOf (c : ℕ) : Type 0 where
  low : 0 < letter_digit c
  high : letter_digit c ≤ 26
  back : letter (letter_digit c) ≡ c

letter_of : (c : ℕ) → is_upper c ≡ true → IsLetterOf c
letter_of c h = record { low = grind (arith, nat_tests); high = grind (arith, nat_tests); back = grind (arith, nat_tests) }

one_back : (a x : ℕ) → x ≤ 26 → letter x ≡ a → column_letters x ≡ a ∷ []
unfolding column_letters
one_back a x h e = rw (le-leb x 26 h) (ap (λ c. c ∷ []) e)

two_back : (n a b x y : ℕ) → n ≡ x * 26 + y → 0 < x → x ≤ 26 → 0 < y → y ≤ 26 → letter x ≡ a → letter y ≡ b → column_letters n ≡ a ∷ b ∷ []
unfolding column_letters
two_back n a b x y e lx hx ly hy p q =
    let more : nat_le n 26 ≡ false = lt-leb n 26 (omega arith) in
    let few : nat_le n 702 ≡ true = le-leb n 702 (omega arith) in
    let one : (n - 1) / 26 ≡ x = omega arith in
    let two : (n - 1) % 26 + 1 ≡ y = omega arith in
    rw (more, few) (ap (λ v. letter v ∷ letter ((n - 1) % 26 + 1) ∷ []) one ∙ ap (λ v. letter x ∷ letter v ∷ []) two ∙ ap (λ v. v ∷ letter y ∷ []) p ∙ ap (λ v. a ∷ v ∷ []) q)

three_back : (n a b c x y z : ℕ) → n ≡ x * 676 + y * 26 + z → 0 < x → 0 < y → y ≤ 26 → 0 < z → z ≤ 26 → letter x ≡ a → letter y ≡ b → letter z ≡ c → column_letters n ≡ a ∷ b ∷ c ∷ []
unfolding column_letters
three_back n a b c x y z e lx ly hy lz hz p q r =
    let more : nat_le n 26 ≡ false = lt-leb n 26 (omega arith) in
    let many : nat_le n 702 ≡ false = lt-leb n 702 (omega arith) in
    let one : (n - 27) / 676 ≡ x = omega arith in
    let two : (n - 27) / 26 % 26 + 1 ≡ y = omega arith in
    let three : (n - 1) % 26 + 1 ≡ z = omega arith in
    rw (more, many)
    (ap (λ v. letter v ∷ letter ((n - 27) / 26 % 26 + 1) ∷ letter ((n - 1) % 26 + 1) ∷ []) one ∙ ap (λ v. letter x ∷ letter v ∷ letter ((n - 1) % 26 + 1) ∷ []) two
    ∙ ap (λ v. letter x ∷ letter y ∷ letter v ∷ []) three ∙ ap (λ v. v ∷ letter y ∷ letter z ∷ []) p ∙ ap (λ v. a ∷ v ∷ letter z ∷ []) q ∙ ap (λ v. a ∷ b ∷ v ∷ []) r)

-- four letters and more are past the last column
power_some : (k : ℕ) → 0 < 26 ^ k
power_some zero = omega arith
power_some (suc k) = rw (pow-suc 26 k) (let h = power_some k in omega arith)

many_letters : (a b c d : ℕ) (rest : List ℕ) → 0 < letter_digit a → 16384 < letters_number (a ∷ b ∷ c ∷ d ∷ rest)
many_letters a b c d rest h =
    let p = 26 ^ length rest in
    let some = power_some (length rest) in
    let e : 26 ^ suc (suc (suc (length rest))) ≡ p * 26 * 26 * 26 = pow-suc 26 (suc (suc (length rest))) ∙ ap (λ v. v * 26) (pow-suc 26 (suc (length rest))) ∙ ap (λ v. v * 26 * 26) (pow-suc 26 (length rest)) in
    rw e (omega (arith, le-mul_of_pos_right (p * 26 * 26 * 26) h))

letters_back : (cs : List ℕ) → cs ≢ [] → list_all is_upper cs ≡ true → letters_number cs ≤ 16384 → column_letters (letters_number cs) ≡ cs
letters_back [] n u h = absurd (n refl)
letters_back (a ∷ []) n u h =
    let p = and_parts (is_upper a) true u in
    let x = letter_of a p.0 in
    let e : letters_number (a ∷ []) ≡ letter_digit a = omega arith in
    ap column_letters e ∙ one_back a (letter_digit a) x.high x.back
letters_back (a ∷ b ∷ []) n u h =
    let p = and_parts (is_upper a) (list_all is_upper (b ∷ [])) u in
    let q = and_parts (is_upper b) true p.1 in
    let x = letter_of a p.0 in
    let y = letter_of b q.0 in
    two_back (letters_number (a ∷ b ∷ [])) a b (letter_digit a) (letter_digit b) (omega arith) x.low x.high y.low y.high x.back y.back
letters_back (a ∷ b ∷ c ∷ []) n u h =
    let p = and_parts (is_upper a) (list_all is_upper (b ∷ c ∷ [])) u in
    let q = and_parts (is_upper b) (list_all is_upper (c ∷ [])) p.1 in
    let r = and_parts (is_upper c) true q.1 in
    let x = letter_of a p.0 in
    let y = letter_of b q.0 in
    let z = letter_of c r.0 in
    three_back (letters_number (a ∷ b ∷ c ∷ [])) a b c (letter_digit a) (letter_digit b) (letter_digit c) (omega arith) x.low y.low y.high z.low z.high x.back y.back z.back
letters_back (a ∷ b ∷ c ∷ d ∷ rest) n u h =
    let p = and_parts (is_upper a) (list_all is_upper (b ∷ c ∷ d ∷ rest)) u in
    absurd (omega (arith, many_letters a b c d rest (letter_of a p.0).low))

some_letters : (cs : List ℕ) → cs ≢ [] → list_all is_upper cs ≡ true → 0 < letters_number cs
some_letters [] n u = absurd (n refl)
some_letters (c ∷ cs) n u =
    let p = and_parts (is_upper c) (list_all is_upper cs) u in
    let some = power_some (length cs) in
    omega (arith, le-mul_of_pos_right (26 ^ length cs) (letter_of c p.0).low)

-- upper case is ASCII
upper_ascii : (cs : List ℕ) → list_all is_upper cs ≡ true → list_all (λ c. nat_lt c 128) cs ≡ true
upper_ascii [] h = refl
upper_ascii (c ∷ cs) h =
    let p = and_parts (is_upper c) (list_all is_upper cs) h in
    let low : nat_lt c 128 ≡ true = grind (arith, nat_tests, p.0) in
    and_from (nat_lt c 128) (list_all (λ c. nat_lt c 128) cs) low (upper_ascii cs p.1)

number_complete : (cs : List ℕ) → 0 < length cs → list_all is_upper cs ≡ true → letters_number cs ≤ 16384 → column_number cs ≡ Ok (pos (letters_number cs))
number_complete [] n u h = absurd (omega arith)
number_complete (c ∷ cs) n u h = rw (upper_ascii (c ∷ cs) u, u, le-leb _ _ h) refl

-- what a column's number was read from
record IsRead (cs : List ℕ) (n : ℤ) : Type 0 where
  some : cs ≢ []
  upper : list_all is_upper cs ≡ true
  few : letters_number cs ≤ 16384
  number : n ≡ pos (letters_number cs)

number_sound : (cs : List ℕ) (n : ℤ) → column_number cs ≡ Ok n → IsRead cs n
number_sound [] n e = absurd (cc)
number_sound (c ∷ cs) n e =
    elim (cases_Bool (list_all (λ x. nat_lt x 128) (c ∷ cs))) [
      | inr f ↦ let k = rw f at e in absurd (cc)
      | inl a ↦ elim (cases_Bool (list_all is_upper (c ∷ cs))) [
        | inr f ↦ let k = rw (a, f) at e in absurd (cc)
        | inl u ↦ elim (cases_Bool (nat_le (letters_number (c ∷ cs)) 16384)) [
          | inr f ↦ let k = rw (a, u, f) at e in absurd (cc)
          | inl l ↦
              let k : ◌≡◌ {A = Result ℤ ColumnError} (Ok (pos (letters_number (c ∷ cs)))) (Ok n) = rw (a, u, l) at e in
              record { some = λ e. cc; upper = u; few = leb-true _ _ l; number = (let same : n ≡ pos (letters_number (c ∷ cs)) = cc in same) }
        ]
      ]
    ]

named_sound : (cs : List ℕ) (n : ℤ) → column_number cs ≡ Ok n → column_name n ≡ Some cs
named_sound cs n e =
    let r = number_sound cs n e in
    let column : is_column (pos (letters_number cs)) ≡ true = and_from (nat_le 1 (letters_number cs)) (nat_le (letters_number cs) 16384) (le-leb _ _ (some_letters cs r.some r.upper)) (le-leb _ _ r.few) in
    let step : column_name (pos (letters_number cs)) ≡ Some (column_letters (letters_number cs)) = rw column refl in
    ap column_name r.number ∙ step ∙ ap Some (letters_back cs r.some r.upper r.few)

named_complete : (cs : List ℕ) (n : ℤ) → column_name n ≡ Some cs → column_number cs ≡ Ok n
named_complete cs n e =
    elim (cases_Bool (is_column n)) [
      | inr f ↦ let k = rw f at e in absurd (cc)
      | inl t ↦
          let k : ◌≡◌ {A = Option (List ℕ)} (Some (column_letters (nat_abs n))) (Some cs) = rw t at e in
          let same : column_letters (nat_abs n) ≡ cs = cc in
          let z = number_of_column n t in
          let a : AreLettersOf (nat_abs n) cs = subst (AreLettersOf (nat_abs n)) same (column_letters-AreLettersOf (nat_abs n) z.low z.high) in
          number_complete cs a.some a.upper (omega (arith, a.number, z.high)) ∙ ap (λ k. Ok (pos k)) a.number ∙ ap Ok (sym z.same)
    ]

pub column_spelled : (cs : List ℕ) (r : Result ℤ ColumnError) → r ≡ column_number cs → MatchResult r (λ n. column_name n ≡ Some cs) (λ e. (n : ℤ) → column_name n ≡ Some cs → ⊥)
column_spelled cs (Ok n) e = named_sound cs n (sym e)
column_spelled cs (Err x) e = λ n k. let some = named_complete cs n k in cc
