-- The number behind a word, or in brackets at the end, in the folding of a name.
use Rattle.std.proofs.Common.{◌≡◌, ◌≢◌, ℕ, zero, suc, ◌-◌, ◌<◌, ◌≤◌, ◌^◌, List, [], ◌∷◌, ◌++◌, length, get_or, take, drop}
use Rattle.std.proofs.Common.{true, false, Some, Result, encode_utf8_all, append_assoc, refl, sym, ap, ap₂, subst, ◌∙◌, arith}
use Rattle.std.proofs.lemmas.Bool.{or_parts}
use Rattle.std.proofs.lemmas.Fmt.{IsAscii-decimal, first_decimal, parse-decimal}
use Rattle.std.proofs.lemmas.List.{take-append-drop}
use Rattle.std.proofs.lemmas.Str.{IsUtf8-from_ascii, chars-IsAscii, encode_ascii, encodes-append, encodes-chars}
use Rattle.std.specs.Fmt.{decimal}
use Rattle.std.specs.List.{list_any}
use Rattle.std.specs.Prelude.{codes}
use Rattle.std.specs.Result.{result_ok}
use Rattle.std.specs.Str.Parse.{ParsesUnsigned}
use Rattle.ic_laws.proofs.FoldLaws.{fold-fixed, fold_append}
use Rattle.ic_laws.proofs.binding.SceneLemmas.{agree_from}
use Rattle.ic_laws.specs.Name.{agrees, fold}
use Rattle.ic_machine.specs.subjects.Sheets.{copy_name, suffix_of}
use Rattle.ic_machine.proofs.bound.CopyNames.{digits_apart, opens, suffix_fixed, tail_is}
use Rattle.ic_machine.proofs.bound.NewNames.{digits_fixed}

-- ---- digits

-- no digits of a number from 1 on begin so low
pub first_high : (bytes : List ℕ) (n : ℕ) → 0 < n → n < 2 ^ 64 → bytes ≡ decimal n → get_or bytes 0 0 ≤ 48 → ⊥
first_high bytes n some small is low =
    let first : get_or bytes 0 0 ≡ get_or (decimal n) 0 0 = ap (λ bs. get_or bs 0 0) is in
    omega (arith, low, first, first_decimal n some small)

pub number_read : {E : Type 0} (bytes : List ℕ) (r : Result ℕ E) → ParsesUnsigned 64 10 bytes r
    → (n : ℕ) → n < 2 ^ 64 → bytes ≡ decimal n → result_ok r ≡ Some n
number_read bytes r parsed n small is = ap result_ok (parse-decimal 64 n bytes r small small is parsed)

encoded_digits : (n : ℕ) → n < 2 ^ 64 → encode_utf8_all (decimal n) ≡ decimal n
encoded_digits n small =
    let plain = IsAscii-decimal n small in
    ap encode_utf8_all (sym (chars-IsAscii (decimal n) plain)) ∙ encodes-chars (decimal n) (IsUtf8-from_ascii (decimal n) plain)

-- ---- behind a word

pub behind_word : (word gone front folded : List ℕ) → front ≡ encode_utf8_all (fold word) → folded ≡ encode_utf8_all (fold gone)
    → (n : ℕ) → n < 2 ^ 64 → agrees (word ++ decimal n) gone ≡ true → folded ≡ front ++ decimal n
behind_word word gone front folded front_is folded_is n small agree =
    let so : fold gone ≡ fold word ++ decimal n =
    sym (agree_from (word ++ decimal n) gone agree) ∙ fold_append word (decimal n)
    ∙ ap (λ (ds : List ℕ). fold word ++ ds) (fold-fixed (decimal n) (digits_fixed n small)) in
    folded_is ∙ ap encode_utf8_all so ∙ encodes-append (fold word) (decimal n)
    ∙ ap₂ (λ (a b : List ℕ). a ++ b) (sym front_is) (encoded_digits n small)

-- ---- in brackets

encoded_suffix : (n : ℕ) → n < 2 ^ 64 → encode_utf8_all (suffix_of n) ≡ (32 ∷ 40 ∷ []) ++ (decimal n ++ 41 ∷ [])
encoded_suffix n small =
    encodes-append (codes " (") (decimal n ++ codes ")")
    ∙ ap₂ (λ (a b : List ℕ). a ++ b) (ap₂ (λ (a b : List ℕ). a ++ (b ++ [])) (encode_ascii 32 (omega arith)) (encode_ascii 40 (omega arith)))
    (encodes-append (decimal n) (codes ")")
    ∙ ap₂ (λ (a b : List ℕ). a ++ b) (encoded_digits n small) (ap (λ (a : List ℕ). a ++ []) (encode_ascii 41 (omega arith))))

-- what stands before the bracket in the folding of a copy's name
abbrev pub before_bracket : List ℕ → ℕ → List ℕ
before_bracket source n = encode_utf8_all (fold (take (31 - length (suffix_of n)) source)) ++ 32 ∷ []

joined : (front digits : List ℕ) → front ++ ((32 ∷ 40 ∷ []) ++ (digits ++ 41 ∷ [])) ≡ ((front ++ 32 ∷ []) ++ 40 ∷ digits) ++ 41 ∷ []
joined front digits = simp append_assoc

pub in_brackets : (source gone folded : List ℕ) → folded ≡ encode_utf8_all (fold gone)
    → (n : ℕ) → n < 2 ^ 64 → agrees (copy_name source n) gone ≡ true → folded ≡ (before_bracket source n ++ 40 ∷ decimal n) ++ 41 ∷ []
in_brackets source gone folded folded_is n small agree =
    let front : List ℕ = take (31 - length (suffix_of n)) source in
    let so : fold gone ≡ fold front ++ suffix_of n =
    sym (agree_from (copy_name source n) gone agree) ∙ fold_append front (suffix_of n)
    ∙ ap (λ (ds : List ℕ). fold front ++ ds) (fold-fixed (suffix_of n) (suffix_fixed n small)) in
    folded_is ∙ ap encode_utf8_all so ∙ encodes-append (fold front) (suffix_of n)
    ∙ ap (λ (b : List ℕ). encode_utf8_all (fold front) ++ b) (encoded_suffix n small) ∙ joined (encode_utf8_all (fold front)) (decimal n)

-- ---- what stands behind the last bracket of a text

-- none is there
abbrev HasNoBracket : List ℕ → Type 0
HasNoBracket xs = (i : ℕ) → i < length xs → get_or xs i 0 ≢ 40

none_from : (xs : List ℕ) → list_any opens xs ≡ false → HasNoBracket xs
none_from [] e i less is = omega (arith, less)
none_from (x ∷ xs) e zero less is = let no : true ≡ false = sym (ap opens is) ∙ (or_parts (opens x) (list_any opens xs) e).0 in cc
none_from (x ∷ xs) e (suc i) less is = none_from xs (or_parts (opens x) (list_any opens xs) e).1 i (omega (arith, less)) is

one_stands : (front rest : List ℕ) → HasNoBracket (front ++ 40 ∷ rest) → ⊥
one_stands [] rest none = none 0 (omega arith) refl
one_stands (c ∷ front) rest none = one_stands front rest (λ i less is. none (suc i) (omega (arith, less)) is)

behind_last : (front other a n : List ℕ) → HasNoBracket a → HasNoBracket n → front ++ 40 ∷ a ≡ other ++ 40 ∷ n → a ≡ n
behind_last [] [] a n x y e = tail_is 40 40 a n e
behind_last [] (c ∷ other) a n x y e = absurd (one_stands other n (subst HasNoBracket (tail_is 40 c a (other ++ 40 ∷ n) e) x))
behind_last (c ∷ front) [] a n x y e = absurd (one_stands front a (subst HasNoBracket (sym (tail_is c 40 (front ++ 40 ∷ a) n e)) y))
behind_last (c ∷ front) (d ∷ other) a n x y e = behind_last front other a n x y (tail_is c d (front ++ 40 ∷ a) (other ++ 40 ∷ n) e)

-- in such a text one is found, and behind it the digits
pub bracket_there : (front digits text : List ℕ) → text ≡ front ++ 40 ∷ digits → HasNoBracket text → ⊥
bracket_there front digits text is none = one_stands front digits (subst HasNoBracket is none)

pub digits_behind : (front text : List ℕ) (n i : ℕ) (digits : List ℕ) → n < 2 ^ 64 → text ≡ front ++ 40 ∷ decimal n
    → drop i text ≡ 40 ∷ digits → HasNoBracket digits → digits ≡ decimal n
digits_behind front text n i digits small is at none =
    behind_last (take i text) front digits (decimal n) none (none_from (decimal n) (digits_apart n small))
    (ap (λ (b : List ℕ). take i text ++ b) (sym at) ∙ take-append-drop i text ∙ is)
