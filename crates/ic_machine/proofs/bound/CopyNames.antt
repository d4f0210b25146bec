-- The name of a copy of a sheet is one, and no sheet has it.
use Rattle.std.proofs.Common.{◌≡◌, ℕ, zero, suc, ◌+◌, ◌-◌, ◌<◌, ◌≤◌, ◌^◌, ◌%◌, ◌==◌, List, [], ◌∷◌, ◌++◌, map, length, take, Bool, true, false, not, refl, sym, ap, ◌∙◌, arith, inl, inr, length-append}
use lib.ListN.{length-take}
use Rattle.std.proofs.lemmas.Bool.{and_parts, cases_Bool}
use Rattle.std.proofs.lemmas.Bool.Decides.{nat_tests}
use Rattle.std.proofs.lemmas.Fmt.{decimal_by_steps, decimal_injective, length-decimal-le}
use Rattle.std.proofs.lemmas.List.{length-map}
use Rattle.std.specs.Fmt.{decimal}
use Rattle.std.specs.List.{find, list_all, list_any, range_with_len}
use Rattle.std.specs.Prelude.{codes, nat_le, nat_lt}
use Rattle.ic_laws.proofs.FoldLaws.{fold-fixed, fold_append, is_fixed}
use Rattle.ic_laws.proofs.binding.SceneLemmas.{agree_from}
use Rattle.ic_laws.specs.CoreBook as core_book
use Rattle.ic_laws.specs.CoreBook.{has_sheet, names_of}
use Rattle.ic_laws.specs.Name.{agrees, fold, is_forbidden, is_sheet_name}
use Rattle.ic_machine.specs.Book.{Book, core_of, core_sheet}
use Rattle.ic_machine.specs.Valid.{IsValidBook}
use Rattle.ic_machine.specs.subjects.Sheets.{copy_name, free_number, name_of_copy, suffix_of}
use Rattle.ic_machine.proofs.bound.NewNames.{all_joined, below_ten, digits_fixed, digits_good, free_of}
use Rattle.ic_machine.proofs.bound.NumberLemmas.{small}
use Rattle.ic_refs.proofs.StoredTextLemmas.{none_append as none_joined}

-- what stands behind the last bracket of a text ----

abbrev pub opens : ℕ → Bool
opens c = c == 40

none_opens : (front rest : List ℕ) → list_any opens (front ++ 40 ∷ rest) ≡ true
none_opens [] rest = refl
none_opens (c ∷ front) rest = elim (cases_Bool (opens c)) [
  | inl t ↦ rw t refl
  | inr f ↦ rw f (none_opens front rest)
]

pub tail_is : (c d : ℕ) (xs ys : List ℕ) → c ∷ xs ≡ d ∷ ys → xs ≡ ys
tail_is c d xs ys e = cc

behind_last : (front other a n : List ℕ) → list_any opens a ≡ false → list_any opens n ≡ false → front ++ 40 ∷ a ≡ other ++ 40 ∷ n → a ≡ n
behind_last [] [] a n x y e = tail_is 40 40 a n e
behind_last [] (c ∷ other) a n x y e =
    let no : false ≡ true = sym x ∙ ap (list_any opens) (tail_is 40 c a (other ++ 40 ∷ n) e) ∙ none_opens other n in cc
behind_last (c ∷ front) [] a n x y e =
    let no : false ≡ true = sym y ∙ ap (list_any opens) (sym (tail_is c 40 (front ++ 40 ∷ a) n e)) ∙ none_opens front a in cc
behind_last (c ∷ front) (d ∷ other) a n x y e = behind_last front other a n x y (tail_is c d (front ++ 40 ∷ a) (other ++ 40 ∷ n) e)

digit_apart : (n : ℕ) → n < 10 → list_any opens ((48 + n) ∷ []) ≡ false
digit_apart = below_ten (λ n. list_any opens ((48 + n) ∷ []) ≡ false) refl refl refl refl refl refl refl refl refl refl

pub digits_apart : (n : ℕ) → n < 2 ^ 64 → list_any opens (decimal n) ≡ false
digits_apart = decimal_by_steps (λ n ds. list_any opens ds ≡ false) digit_apart (λ n ds more h. none_joined opens ds ((48 + n % 10) ∷ []) h (digit_apart (n % 10) (omega (arith))))

cut_last : (xs ys : List ℕ) (c : ℕ) → xs ++ c ∷ [] ≡ ys ++ c ∷ [] → xs ≡ ys
cut_last [] [] c e = refl
cut_last [] (y ∷ ys) c e = absurd (longer ys (tail_is c y [] (ys ++ c ∷ []) e))
  where
    longer : (ys : List ℕ) → [] ≡ ys ++ c ∷ [] → ⊥
    longer [] e = cc
    longer (z ∷ ys) e = cc
cut_last (x ∷ xs) [] c e = absurd (longer xs (tail_is x c (xs ++ c ∷ []) [] e))
  where
    longer : (ys : List ℕ) → ys ++ c ∷ [] ≡ [] → ⊥
    longer [] e = cc
    longer (z ∷ ys) e = cc
cut_last (x ∷ xs) (y ∷ ys) c e =
    let same : x ≡ y = cc in
    ap (λ z. z ∷ xs) same ∙ ap (λ (zs : List ℕ). y ∷ zs) (cut_last xs ys c (tail_is x y (xs ++ c ∷ []) (ys ++ c ∷ []) e))

-- names with a number in brackets ----

pub suffix_fixed : (n : ℕ) → n < 2 ^ 64 → list_all is_fixed (suffix_of n) ≡ true
suffix_fixed n x = all_joined is_fixed (codes " (") (decimal n ++ codes ")") refl (all_joined is_fixed (decimal n) (codes ")") (digits_fixed n x) refl)

joined : (front rest : List ℕ) → front ++ 32 ∷ 40 ∷ rest ≡ (front ++ 32 ∷ []) ++ 40 ∷ rest
joined [] rest = refl
joined (c ∷ front) rest = ap (λ (xs : List ℕ). c ∷ xs) (joined front rest)

folded : (front : List ℕ) (n : ℕ) → n < 2 ^ 64 → fold (front ++ suffix_of n) ≡ (fold front ++ 32 ∷ []) ++ 40 ∷ (decimal n ++ 41 ∷ [])
folded front n x = fold_append front (suffix_of n) ∙ ap (λ (xs : List ℕ). fold front ++ xs) (fold-fixed (suffix_of n) (suffix_fixed n x)) ∙ joined (fold front) (decimal n ++ 41 ∷ [])

pub copies_apart : (source : List ℕ) (a n : ℕ) → a < 2 ^ 64 → n < 2 ^ 64 → agrees (copy_name source a) (copy_name source n) ≡ true → a ≡ n
copies_apart source a n x y e =
    let one : List ℕ = take (31 - length (suffix_of a)) source in
    let other : List ℕ = take (31 - length (suffix_of n)) source in
    let same : (fold one ++ 32 ∷ []) ++ 40 ∷ (decimal a ++ 41 ∷ []) ≡ (fold other ++ 32 ∷ []) ++ 40 ∷ (decimal n ++ 41 ∷ []) =
    sym (folded one a x) ∙ agree_from (copy_name source a) (copy_name source n) e ∙ folded other n y in
    decimal_injective a n x y
    (cut_last (decimal a) (decimal n) 41
    (behind_last (fold one ++ 32 ∷ []) (fold other ++ 32 ∷ []) (decimal a ++ 41 ∷ []) (decimal n ++ 41 ∷ [])
    (none_joined opens (decimal a) (41 ∷ []) (digits_apart a x) refl) (none_joined opens (decimal n) (41 ∷ []) (digits_apart n y) refl) same))

none_taken : (p : ℕ → Bool) (k : ℕ) (xs : List ℕ) → list_any p xs ≡ false → list_any p (take k xs) ≡ false
none_taken p zero xs e = refl
none_taken p (suc k) [] e = refl
none_taken p (suc k) (x ∷ xs) e = elim (cases_Bool (p x)) [
  | inl t ↦ let no : true ≡ false = rw t at e in cc
  | inr f ↦ rw f (none_taken p k xs (rw f at e))
]

pub copy_good : (source : List ℕ) (n : ℕ) → is_sheet_name source ≡ true → n < 10 ^ 12 → is_sheet_name (copy_name source n) ≡ true
copy_good source n is less =
    let most : length (decimal n) ≤ 12 = length-decimal-le 12 n (omega (arith)) less (omega (arith, less)) in
    let long : length (suffix_of n) ≡ 2 + (length (decimal n) + 1) = length-append (codes " (") (decimal n ++ codes ")") ∙ ap (λ k. 2 + k) (length-append (decimal n) (codes ")")) in
    let front : List ℕ = take (31 - length (suffix_of n)) source in
    let count : length (front ++ suffix_of n) ≡ length front + length (suffix_of n) = length-append front (suffix_of n) in
    let fits : length front ≤ 31 - length (suffix_of n) = omega (arith, length-take (31 - length (suffix_of n)) source) in
    let one : nat_lt 0 (length (front ++ suffix_of n)) ≡ true = grind (arith, nat_tests) in
    let two : nat_le (length (front ++ suffix_of n)) 31 ≡ true = grind (arith, nat_tests) in
    let none : list_any is_forbidden source ≡ false = not_true (list_any is_forbidden source) (and_parts _ (not (list_any is_forbidden source)) is).1 in
    let three : list_any is_forbidden (front ++ suffix_of n) ≡ false =
    none_joined is_forbidden front (suffix_of n) (none_taken is_forbidden (31 - length (suffix_of n)) source none)
    (none_joined is_forbidden (codes " (") (decimal n ++ codes ")") refl (none_joined is_forbidden (decimal n) (codes ")") (digits_good n (omega (arith, less))) refl)) in
    rw (one, two, three) refl
  where
    not_true : (t : Bool) → not t ≡ true → t ≡ false
    not_true true e = cc
    not_true false e = refl

module _ (b : Book) (valid : IsValidBook b) (source : List ℕ) (is : is_sheet_name source ≡ true) where
  pub copy_is_free : has_sheet (core_of b) (name_of_copy b source) ≡ false
  copy_is_free =
      let few : length b.sheets ≤ 4294967295 = valid.sheets.few in
      let count : length (names_of (core_of b)) ≡ length b.sheets = length-map (map core_sheet b.sheets) (λ (s : core_book.Sheet). s.name) ∙ length-map b.sheets core_sheet in
      free_of (names_of (core_of b)) (copy_name source) (length b.sheets + 2) (λ a n x y e. copies_apart source a n (omega (arith, x, few)) (omega (arith, y, few)) e) 1 (suc (length b.sheets))
      (find (λ n. not (has_sheet (core_of b) (copy_name source n))) (range_with_len 1 (suc (length b.sheets)))) (suc (length b.sheets)) refl (omega (arith, count)) (omega (arith))

  pub copy_is_good : is_sheet_name (name_of_copy b source) ≡ true
  copy_is_good =
      let few : length b.sheets ≤ 4294967295 = valid.sheets.few in
      let most : free_number b (copy_name source) ≤ length b.sheets + 1 = small b (copy_name source) in
      copy_good source (free_number b (copy_name source)) is (omega (arith, few, most))
