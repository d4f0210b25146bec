-- Numerals that no name agrees with.
use Rattle.std.proofs.Common.{◌||◌, ◌==◌, nat_lt, ◌%◌, ◌/◌, not, inl, inr, bytes_eq, chars, encode_utf8_all, IsUtf8, String, ◌≡◌, ℕ, zero, suc, ◌+◌, ◌-◌, ◌<◌, ◌≤◌, List, [], ◌∷◌, ◌++◌, Bool, true, false, cond, filter, length, map, take, refl, sym, ap, ◌∙◌, append_assoc, append-nil, length-append, arith}
use Rattle.std.proofs.lemmas.Bool.{cases_Bool}
use Rattle.std.proofs.lemmas.Bool.Decides.{nat_tests}
use Rattle.std.proofs.lemmas.List.Folds.{list_any-append}
use Rattle.std.proofs.lemmas.Map.Text.{btree_set_updates_text}
use Rattle.std.proofs.lemmas.Str.{encodes-chars}
use Rattle.std.specs.BTreeSet as sorted
use Rattle.std.specs.BTreeSet.{BTreeSet, contains_text}
use Rattle.std.specs.Cmp.Lexicographic.{slice_cmp}
use Rattle.std.specs.Ordering.{nat_cmp}
use Rattle.std.specs.String.{string_bytes, string_cmp}
use Rattle.std.specs.declared.alloc.Global.{Global}
use Rattle.std.specs.Fmt.{decimal, digit_glyph, digits, digits_onto}
use Rattle.std.specs.List.{list_all, list_any, range_with_len}
use Rattle.ic_laws.proofs.FoldLaws.{fold-fixed, is_fixed}
use Rattle.ic_laws.specs.Name.{agrees, fold}
use Rattle.ic_tables.specs.Words.{FindsFoldings}
use Rattle.ic_dump.specs.Passing.{is_free}
use Rattle.ic_cells.proofs.TextLemmas.{same_bytes as same_encoded}
use Rattle.ic_laws.proofs.General.{bytes_eq-flip}

module _ (taken : List (List ℕ)) where
  -- the numerals that are free among so many, from a number on
  abbrev pub free_from : ℕ → ℕ → List (List ℕ)
  free_from number many = filter (is_free taken) (map decimal (range_with_len number many))

  kept : (x : List ℕ) (b : Bool) (rest : List (List ℕ)) → is_free taken x ≡ b → filter (is_free taken) (x ∷ rest) ≡ cond b (x ∷ []) [] ++ filter (is_free taken) rest
  kept x true rest e = rw e refl
  kept x false rest e = rw e refl

  next_free : (number many : ℕ) → free_from number (suc many) ≡ cond (is_free taken (decimal number)) (decimal number ∷ []) [] ++ free_from (number + 1) many
  next_free number many = kept (decimal number) (is_free taken (decimal number)) (map decimal (range_with_len (number + 1) many)) refl

  -- one that is free is one of those that are asked for, and another isn't
  pub one_further : (count number many left : ℕ) (names new all : List (List ℕ)) → length names < count → many ≡ suc left → new ≡ names ++ cond (is_free taken (decimal number)) (decimal number ∷ []) []
      → names ++ take (count - length names) (free_from number many) ≡ all → (length new ≤ count) × (new ++ take (count - length new) (free_from (number + 1) left) ≡ all)
  one_further count number many left names new all below one put so_far = by_test (is_free taken (decimal number)) refl
    where
      by_test : (b : Bool) → is_free taken (decimal number) ≡ b → (length new ≤ count) × (new ++ take (count - length new) (free_from (number + 1) left) ≡ all)
      by_test true e =
          let is : new ≡ names ++ decimal number ∷ [] = put ∙ ap (λ b. names ++ cond b (decimal number ∷ []) []) e in
          let long : length new ≡ length names + 1 = ap length is ∙ length-append names (decimal number ∷ []) in
          let more : count - length names ≡ suc (count - length new) = omega arith in
          let opened : free_from number many ≡ decimal number ∷ free_from (number + 1) left = ap (free_from number) one ∙ next_free number left ∙ ap (λ b. cond b (decimal number ∷ []) [] ++ free_from (number + 1) left) e in (
            omega arith,
            ap (λ ns. ns ++ take (count - length new) (free_from (number + 1) left)) is
                ∙ append_assoc names (decimal number ∷ []) (take (count - length new) (free_from (number + 1) left))
                ∙ sym (ap (λ k. names ++ take k (free_from number many)) more ∙ ap (λ ns. names ++ take (suc (count - length new)) ns) opened)
                ∙ so_far,
          )
      by_test false e =
          let is : new ≡ names = put ∙ ap (λ b. names ++ cond b (decimal number ∷ []) []) e ∙ append-nil names in
          let long : length new ≡ length names = ap length is in
          let opened : free_from number many ≡ free_from (number + 1) left = ap (free_from number) one ∙ next_free number left ∙ ap (λ b. cond b (decimal number ∷ []) [] ++ free_from (number + 1) left) e in (
            omega arith,
            ap (λ ns. ns ++ take (count - length new) (free_from (number + 1) left)) is
                ∙ ap (λ k. names ++ take (count - k) (free_from (number + 1) left)) long
                ∙ ap (λ ns. names ++ take (count - length names) ns) (sym opened) ∙ so_far,
          )

-- ---- a numeral folds to itself

digit_fixed : (d : ℕ) → d < 10 → is_fixed (digit_glyph false d) ≡ true
digit_fixed d small =
    let low : nat_lt d 10 ≡ true = grind (arith, nat_tests) in
    let fixed : nat_lt (48 + d) 65 ≡ true = grind (arith, nat_tests) in rw (low, fixed) refl

onto_fixed : (k n : ℕ) (acc : List ℕ) → list_all is_fixed acc ≡ true → list_all is_fixed (digits_onto k 10 false n acc) ≡ true
onto_fixed zero n acc h = h
onto_fixed (suc k) n acc h =
    let first : is_fixed (digit_glyph false (n % 10)) ≡ true = digit_fixed (n % 10) (omega arith) in
    let more : list_all is_fixed (digit_glyph false (n % 10) ∷ acc) ≡ true = rw (first, h) refl in
    elim (cases_Bool (n / 10 == 0)) [ inl e ↦ rw e more | inr e ↦ rw e (onto_fixed k (n / 10) (digit_glyph false (n % 10) ∷ acc) more) ]

pub fold-decimal : (n : ℕ) → fold (decimal n) ≡ decimal n
unfolding digits
fold-decimal n = fold-fixed (decimal n) (onto_fixed 64 n [] refl)

-- ---- the foldings of names, in a set

abbrev Folded : Type 0
Folded = BTreeSet (String Global)

-- a numeral is in it exactly where it agrees with a name
pub tested : (folded : Folded) (taken : List (List ℕ)) (bytes : List ℕ) (n : ℕ) → FindsFoldings folded taken → IsUtf8 bytes → chars bytes ≡ decimal n → contains_text folded bytes ≡ list_any (agrees (decimal n)) taken
tested folded taken bytes n finds utf8 is =
    ap (contains_text folded) (sym (encodes-chars bytes utf8) ∙ ap encode_utf8_all (is ∙ sym (fold-decimal n))) ∙ finds (decimal n)

-- one that is in it isn't taken, and another is
pub not_put : {X : Type 0} (taken : List (List ℕ)) (numeral : List ℕ) (x : X) (xs : List X) → list_any (agrees numeral) taken ≡ true → xs ≡ xs ++ cond (is_free taken numeral) (x ∷ []) []
not_put taken numeral x xs e = sym (ap (λ b. xs ++ cond (not b) (x ∷ []) []) e ∙ append-nil xs)

pub was_put : {X : Type 0} (taken : List (List ℕ)) (numeral : List ℕ) (x : X) (xs new : List X) → list_any (agrees numeral) taken ≡ false → new ≡ xs ++ x ∷ [] → new ≡ xs ++ cond (is_free taken numeral) (x ∷ []) []
was_put taken numeral x xs new e put = put ∙ sym (ap (λ b. xs ++ cond (not b) (x ∷ []) []) e)

same_choice : (a b c : Bool) → a ≡ b → cond a true c ≡ (c || (b || false))
same_choice true true true e = refl
same_choice true true false e = refl
same_choice true false c e = cc
same_choice false true c e = cc
same_choice false false true e = refl
same_choice false false false e = refl

-- one more name
pub one_folded : (before after : Folded) (taken : List (List ℕ)) (name bytes : List ℕ) → FindsFoldings before taken → bytes ≡ encode_utf8_all (fold name) → sorted.UpdatesBy string_cmp (λ k. slice_cmp nat_cmp bytes (string_bytes k)) before after true → FindsFoldings after (taken ++ name ∷ [])
one_folded before after taken name bytes finds is updates = λ other.
    let key = encode_utf8_all (fold other) in
    btree_set_updates_text bytes before after true updates key
    ∙ ap (λ rest. cond (bytes_eq bytes key) true rest) (finds other)
    ∙ same_choice (bytes_eq bytes key) (agrees other name) (list_any (agrees other) taken)
    (ap (λ (b : List ℕ). bytes_eq b key) is ∙ same_encoded (fold name) (fold other) ∙ bytes_eq-flip (fold name) (fold other))
    ∙ sym (list_any-append (agrees other) taken (name ∷ []))
