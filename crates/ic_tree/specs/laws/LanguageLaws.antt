-- The laws of words, for any notation whose words are those of a language.
use Rattle.std.proofs.Common.{codes, inl, inr, ◌≡◌, ◌≢◌, ℕ, zero, suc, ◌<◌, List, [], ◌∷◌, ◌++◌, Bool, true, false, not, ◌&&◌, ◌||◌, ◌==◌, nat_lt, length, map, Some, IsSome, refl, sym, subst, ◌∙◌, ap, arith}
use Rattle.std.specs.List.{list_all, list_any, slice_get}
use Rattle.std.proofs.lemmas.Bool.{or_cases, and_parts, and_from, or_parts, or_from, both_ways, eqb-true, not-true}
use Rattle.std.proofs.lemmas.Bool.Decides.{nat_tests}
use Rattle.std.proofs.lemmas.Option.{slice_get_within}
use Rattle.ic_laws.specs.Name.{Agree, agrees, fold, is_variable_form}
use Rattle.ic_laws.specs.Scan.{is_blank}
use Rattle.ic_laws.specs.Dialect.{has_error_shape, has_function_shape, is_sign}
use Rattle.ic_laws.specs.declared.dialect.WordKind.{WordKind}
use Rattle.ic_laws.specs.declared.dialect.WordKind.TheVariants as kinds
use Rattle.ic_tables.specs.Words.{boolean_words, differ, error_words, has_boolean_words, has_error_words, has_function_words, is_prefix_free, is_proper_prefix, named_numbers, no_two_agree, numbers_functions, tells_booleans, tells_errors, first_agreeing, words_of}
use Rattle.ic_tables.specs.declared.language.Language.{Language}
use Rattle.ic_tree.specs.Stored.{SpeaksWell}
use Rattle.ic_tables.proofs.WordLemmas.{AgreesWithOne, agrees_after, found_at, finds, finds_alike, not_prefix, passes_at, proper_prefix}
use Rattle.ic_laws.proofs.FoldLaws.{fold_append, fold_empty, is_fixed, listed_fixed, second_stays}

pub some_at : {X : Type 0} (xs : List X) (n : ℕ) → n < length xs → IsSome (slice_get xs n)
some_at [] n h = absurd (omega arith)
some_at (x ∷ xs) zero h = refl
some_at (x ∷ xs) (suc n) h = some_at xs n (omega arith)

pub law_booleans : (l : Language) (n : ℕ) → n < 2 → IsSome (slice_get (words_of l kinds.Boolean) n)
law_booleans l n h = some_at (boolean_words l) n h

pub law_errors : (l : Language) (n : ℕ) → n < 12 → IsSome (slice_get (words_of l kinds.Error) n)
law_errors l n h = some_at (error_words l) n h

record Special (l : Language) : Type 0 where
  pub let_below : l.functions.let_fn < length l.functions.words
  pub lambda_below : l.functions.lambda_fn < length l.functions.words
  pub apart : l.functions.let_fn ≢ l.functions.lambda_fn

special_of : (l : Language) (count : ℕ) → numbers_functions count l ≡ true → Special l
unfolding numbers_functions
special_of l count h =
    let f = l.functions in
    let outer = and_parts (length f.words == count && list_all (λ n. nat_lt n count) (named_numbers l)) (differ (named_numbers l)) h in
    let inner = and_parts (length f.words == count) (list_all (λ n. nat_lt n count) (named_numbers l)) outer.0 in
    let size : length f.words ≡ count = eqb-true _ _ inner.0 in
    let a = and_parts (nat_lt f.let_fn count) (list_all (λ n. nat_lt n count) (f.lambda_fn ∷ f.true_fn ∷ f.false_fn ∷ [])) inner.1 in
    let b = and_parts (nat_lt f.lambda_fn count) (list_all (λ n. nat_lt n count) (f.true_fn ∷ f.false_fn ∷ [])) a.1 in
    let c = not-true _ (and_parts (not (list_any (λ m. m == f.let_fn) (f.lambda_fn ∷ f.true_fn ∷ f.false_fn ∷ []))) (differ (f.lambda_fn ∷ f.true_fn ∷ f.false_fn ∷ [])) outer.1).0 in
    let d = (or_parts (f.lambda_fn == f.let_fn) (list_any (λ m. m == f.let_fn) (f.true_fn ∷ f.false_fn ∷ [])) c).0 in
    record {
      let_below = subst (λ n. f.let_fn < n) (sym size) (below f.let_fn count a.0);
      lambda_below = subst (λ n. f.lambda_fn < n) (sym size) (below f.lambda_fn count b.0);
      apart = λ e. both_ways (f.lambda_fn == f.let_fn) d (equal f.lambda_fn f.let_fn (sym e));
    }
  where
    below : (a b : ℕ) → nat_lt a b ≡ true → a < b
    below a b h = grind (arith, nat_tests)

    equal : (a b : ℕ) → a ≡ b → (a == b) ≡ true
    equal a b e = grind (arith, nat_tests)

pub law_special : (l : Language) → SpeaksWell l → IsSome (slice_get l.functions.words l.functions.let_fn) × IsSome (slice_get l.functions.words l.functions.lambda_fn)
law_special l w =
    let s = special_of l (length l.functions.words) w.numbers in
    (some_at l.functions.words l.functions.let_fn s.let_below, some_at l.functions.words l.functions.lambda_fn s.lambda_below)

pub law_differ : (l : Language) → SpeaksWell l → l.functions.let_fn ≢ l.functions.lambda_fn
law_differ l w = (special_of l (length l.functions.words) w.numbers).apart

-- no two words of a kind agree
no_two : (l : Language) (kind : WordKind) → SpeaksWell l → no_two_agree (words_of l kind) ≡ true
unfolding tells_booleans has_error_words has_function_words
no_two l kinds.Boolean w =
    let t = l.booleans.true_word in
    let f = l.booleans.false_word in
    and_from (not (agrees t f || false)) true (apart (agrees t f) w.booleans_told) refl
  where
    apart : (b : Bool) → not b ≡ true → not (b || false) ≡ true
    apart true h = h
    apart false h = refl
no_two l kinds.Error w = (and_parts (list_all has_error_shape (error_words l)) (no_two_agree (error_words l)) w.errors).1
no_two l kinds.Function w = (and_parts (list_all has_function_shape l.functions.words) (no_two_agree l.functions.words) w.functions).1

pub law_finds_word : (l : Language) → SpeaksWell l → (kind : WordKind) (n : ℕ) (word : List ℕ) → slice_get (words_of l kind) n ≡ Some word → first_agreeing (words_of l kind) word ≡ Some n
law_finds_word l w kind n word e = finds (words_of l kind) n word (no_two l kind w) e

pub law_finds_agreeing : (l : Language) (kind : WordKind) (a b : List ℕ) → Agree a b → first_agreeing (words_of l kind) a ≡ first_agreeing (words_of l kind) b
law_finds_agreeing l kind a b h = finds_alike (words_of l kind) a b h

pub law_boolean_shape : (l : Language) → SpeaksWell l → (n : ℕ) (word : List ℕ) → slice_get (words_of l kinds.Boolean) n ≡ Some word → is_variable_form word ≡ true
unfolding has_boolean_words
law_boolean_shape l w n word e = passes_at is_variable_form (boolean_words l) n word w.booleans e

pub law_function_shape : (l : Language) → SpeaksWell l → (n : ℕ) (word : List ℕ) → slice_get (words_of l kinds.Function) n ≡ Some word → has_function_shape word ≡ true
unfolding has_function_words
law_function_shape l w n word e =
    passes_at has_function_shape l.functions.words n word (and_parts (list_all has_function_shape l.functions.words) (no_two_agree l.functions.words) w.functions).0 e

-- what no error's word has after its `#`: a sign or a blank; each of them folds to itself
abbrev is_mark : ℕ → Bool
is_mark c = is_sign c || is_blank c

blank_fixed : (c : ℕ) → is_blank c ≡ true → is_fixed c ≡ true
blank_fixed c h =
    elim (or_cases (c == 32 || c == 9 || c == 10) (c == 13) h) [
      | inr e ↦ ap is_fixed (eqb-true c 13 e)
      | inl a ↦ elim (or_cases (c == 32 || c == 9) (c == 10) a) [
        | inr e ↦ ap is_fixed (eqb-true c 10 e)
        | inl b ↦ elim (or_cases (c == 32) (c == 9) b) [ inl e ↦ ap is_fixed (eqb-true c 32 e) | inr e ↦ ap is_fixed (eqb-true c 9 e) ]
      ]
    ]

mark_fixed : (c : ℕ) → is_mark c ≡ true → is_fixed c ≡ true
mark_fixed c h = elim (or_cases (is_sign c) (is_blank c) h) [ inl s ↦ listed_fixed (codes "+-*/^&=<>%#@,;.(){}\"'") refl c s | inr b ↦ blank_fixed c b ]

-- a word of an error by its first two characters
error_parts : (word : List ℕ) → has_error_shape word ≡ true → (d : ℕ) × (ds : List ℕ) × (word ≡ 35 ∷ d ∷ ds) × (is_mark d ≡ false)
error_parts [] h = absurd (cc)
error_parts (c ∷ []) h = absurd (cc)
error_parts (c ∷ d ∷ ds) h =
    let p = and_parts (c == 35 && not (is_sign d)) (not (is_blank d)) h in
    let q = and_parts (c == 35) (not (is_sign d)) p.0 in
    (d, ds, ap (λ x. x ∷ d ∷ ds) (eqb-true c 35 q.0), or_from (is_sign d) (is_blank d) (not-true _ q.1) (not-true _ p.1))

shape_of : (c : ℕ) (cs : List ℕ) → is_mark c ≡ false → has_error_shape (35 ∷ c ∷ cs) ≡ true
shape_of c cs h =
    let p = or_parts (is_sign c) (is_blank c) h in
    and_from (35 == 35 && not (is_sign c)) (not (is_blank c)) (and_from (35 == 35) (not (is_sign c)) refl (ap not p.0)) (ap not p.1)

pub error_shape_of : (l : Language) → has_error_words l ≡ true → (text : List ℕ) (n : ℕ) → first_agreeing (error_words l) text ≡ Some n → has_error_shape text ≡ true
unfolding has_error_words
error_shape_of l h text n e =
    let f = found_at (error_words l) text n e in
    let good = (and_parts (list_all has_error_shape (error_words l)) (no_two_agree (error_words l)) h).0 in
    let p = error_parts f.0 (passes_at has_error_shape (error_words l) n f.0 good f.1) in
    let q = second_stays is_mark mark_fixed text p.1 35 p.0 refl p.3 (sym f.2 ∙ ap fold p.2) in
    ap has_error_shape q.2 ∙ shape_of q.0 q.1 q.3

pub law_error_shape : (l : Language) → SpeaksWell l → (text : List ℕ) (n : ℕ) → first_agreeing (words_of l kinds.Error) text ≡ Some n → has_error_shape text ≡ true
law_error_shape l w text n e = error_shape_of l w.errors text n e

nothing_more : (a more : List ℕ) → is_proper_prefix a (a ++ more) ≡ false → more ≡ []
nothing_more a [] h = refl
nothing_more a (c ∷ cs) h = absurd (both_ways (is_proper_prefix a (a ++ c ∷ cs)) h (proper_prefix a c cs))

-- of the words that a text and a longer one agree with
pub errors_apart_of : (l : Language) (others : List (List ℕ)) → tells_errors others l ≡ true → (text more : List ℕ) → AgreesWithOne (others ++ error_words l) text → AgreesWithOne (others ++ error_words l) (text ++ more) → more ≡ []
unfolding tells_errors
errors_apart_of l others told text more f g =
    let apart = not_prefix (others ++ error_words l) f.0 g.0 f.1 g.1 told f.2 g.2 in
    let longer : fold g.1 ≡ fold f.1 ++ fold more = g.3 ∙ fold_append text more ∙ ap (λ t. t ++ fold more) (sym f.3) in
    fold_empty more (nothing_more (fold f.1) (fold more) (sym (ap (is_proper_prefix (fold f.1)) longer) ∙ apart))

pub law_errors_apart : (l : Language) → SpeaksWell l → (text more : List ℕ) (m n : ℕ) → first_agreeing (words_of l kinds.Error) text ≡ Some m → first_agreeing (words_of l kinds.Error) (text ++ more) ≡ Some n → more ≡ []
law_errors_apart l w text more m n e h =
    errors_apart_of l [] w.errors_told text more (agrees_after [] (error_words l) text m e) (agrees_after [] (error_words l) (text ++ more) n h)

-- ---- the facts from those on tables

pub size_of : (l : Language) (count : ℕ) → numbers_functions count l ≡ true → length l.functions.words ≡ count
unfolding numbers_functions
size_of l count h =
    let f = l.functions in
    let outer = and_parts (length f.words == count && list_all (λ n. nat_lt n count) (named_numbers l)) (differ (named_numbers l)) h in
    eqb-true _ _ (and_parts (length f.words == count) (list_all (λ n. nat_lt n count) (named_numbers l)) outer.0).0

pub numbers_own : (l : Language) (count : ℕ) → numbers_functions count l ≡ true → numbers_functions (length l.functions.words) l ≡ true
numbers_own l count h = subst (λ n. numbers_functions n l ≡ true) (sym (size_of l count h)) h

fewer : (p : List ℕ → List ℕ → Bool) (others ws texts : List (List ℕ)) → list_all (λ a. list_all (p a) (others ++ texts)) ws ≡ true → list_all (λ a. list_all (p a) texts) ws ≡ true
fewer p others [] texts h = refl
fewer p others (w ∷ ws) texts h =
    let q = and_parts (list_all (p w) (others ++ texts)) (list_all (λ a. list_all (p a) (others ++ texts)) ws) h in
    and_from (list_all (p w) texts) (list_all (λ a. list_all (p a) texts) ws) (later (p w) others texts q.0) (fewer p others ws texts q.1)
  where
    later : (p : List ℕ → Bool) (xs ys : List (List ℕ)) → list_all p (xs ++ ys) ≡ true → list_all p ys ≡ true
    later p [] ys h = h
    later p (x ∷ xs) ys h = later p xs ys (and_parts (p x) (list_all p (xs ++ ys)) h).1

later_all : (p : List ℕ → Bool) (xs ys : List (List ℕ)) → list_all p (xs ++ ys) ≡ true → list_all p ys ≡ true
later_all p [] ys h = h
later_all p (x ∷ xs) ys h = later_all p xs ys (and_parts (p x) (list_all p (xs ++ ys)) h).1

map_both : (xs ys : List (List ℕ)) → map fold (xs ++ ys) ≡ map fold xs ++ map fold ys
map_both [] ys = refl
map_both (x ∷ xs) ys = ap (λ t. fold x ∷ t) (map_both xs ys)

pub told_alone : (l : Language) (others : List (List ℕ)) → tells_errors others l ≡ true → tells_errors [] l ≡ true
unfolding tells_errors
told_alone l others h =
    let a = map fold others in
    let b = map fold (error_words l) in
    let both : list_all (λ x. list_all (λ y. not (is_proper_prefix x y)) (a ++ b)) (a ++ b) ≡ true = subst (λ t. is_prefix_free t ≡ true) (map_both others (error_words l)) h in
    fewer (λ x y. not (is_proper_prefix x y)) a b b (later_all (λ x. list_all (λ y. not (is_proper_prefix x y)) (a ++ b)) a b both)

-- ---- what is found is a word

pub found_below : (l : Language) (kind : WordKind) (text : List ℕ) (n : ℕ) → first_agreeing (words_of l kind) text ≡ Some n → n < length (words_of l kind)
found_below l kind text n e = let f = found_at (words_of l kind) text n e in slice_get_within (words_of l kind) n f.0 f.1

pub found_is_word : (l : Language) (kind : WordKind) (text : List ℕ) (n : ℕ) → first_agreeing (words_of l kind) text ≡ Some n → IsSome (slice_get (words_of l kind) n)
found_is_word l kind text n e = some_at (words_of l kind) n (found_below l kind text n e)
