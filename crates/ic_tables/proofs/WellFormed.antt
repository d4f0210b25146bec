-- What tables that meet every condition have: each condition as a fact, for the crates above.
use Rattle.std.proofs.Common.{◌≡◌, ℕ, suc, ◌+◌, List, [], ◌∷◌, Bool, true, false, not, ◌&&◌, ◌||◌, nat_lt, Option, Some, None, Result, Ok, Err, MatchResult, IfOk, Bor, bytes_eq, cond, codes, find, is_some, length, option_map, refl, suc-le-suc, zero-lt-suc, sym, ap, subst, ◌∙◌, arith}
use Rattle.std.proofs.lemmas.Bool.{and_from, and_parts, not-true, or_parts}
use Rattle.std.proofs.lemmas.List.Sums.{AllPass-from_list_all}
use Rattle.std.proofs.lemmas.Slice.Eq.{bytes_eq-Decides}
use Rattle.std.specs.Option.{IfSome}
use Rattle.std.specs.List.{AllByRecursion, AllPass, IsAmong, IsDistinct, list_all, list_any, slice_get}
use Rattle.ic_laws.specs.Name.{agrees}
use Rattle.ic_tables.specs.Formats.{has_dates, has_group, has_separators, has_symbol}
use Rattle.ic_tables.proofs.Lookups.{is_some-option_map}
use Rattle.ic_tables.specs.declared.language.Language.{Language}
use Rattle.ic_tables.specs.declared.locale.Locale.{Locale}
use Rattle.ic_tables.specs.declared.locale.NamedLocale.{NamedLocale}
use Rattle.ic_tables.specs.Tables.{TableSet, HasGoodFormats, HasGoodWords, IsWellFormed, codes_of, conditions, english, error_words_in, first_false, has_english_words, has_ids, has_numbers, has_text, has_zones, have_boolean_words, have_dates, have_error_words, have_function_words, have_groups, have_separators, have_symbols, ids_of, language_of, locale_of, tell_booleans, tell_errors}
use Rattle.ic_tables.specs.Words.{differ, has_boolean_words, has_error_words, has_function_words, has_stored_booleans, has_stored_functions, has_stored_words, is_text, named_numbers, no_two_agree, numbers_functions, share_numbers, tells_booleans, tells_errors}

-- each condition holds
pub record Conditions (t : TableSet) : Type 0 where
  pub ids : has_ids t ≡ true
  pub zones : has_zones t ≡ true
  pub numbers : has_numbers t ≡ true
  pub english_words : has_english_words t.languages ≡ true
  pub boolean_words : have_boolean_words t.languages ≡ true
  pub booleans_told : tell_booleans t.languages ≡ true
  pub function_words : have_function_words t.languages ≡ true
  pub error_words : have_error_words t.languages ≡ true
  pub errors_told : tell_errors t.languages ≡ true
  pub separators : have_separators t.locales ≡ true
  pub groups : have_groups t.locales ≡ true
  pub symbols : have_symbols t.languages t.locales ≡ true
  pub dates : have_dates t.locales ≡ true

true_first : (n : ℕ) (b : Bool) (bs : List Bool) → first_false n (b ∷ bs) ≡ None → (b ≡ true) × (first_false (n + 1) bs ≡ None)
true_first n true bs h = (refl, h)
true_first n false bs h = absurd (cc)

all_true : (n : ℕ) (bs : List Bool) → first_false n bs ≡ None → AllByRecursion (λ b. b ≡ true) bs
all_true n [] h = tt
all_true n (b ∷ bs) h = let parts = true_first n b bs h in (parts.0, all_true (n + 1) bs parts.1)

pub all_hold : (t : TableSet) → IsWellFormed t → Conditions t
all_hold t h =
    let all = all_true 1 (conditions t) h in
    let words = all.1.1.1 in
    let lists = words.1.1.1 in
    let locales = lists.1.1.1 in
    record {
      ids = all.0;
      zones = all.1.0;
      numbers = all.1.1.0;
      english_words = words.0;
      boolean_words = words.1.0;
      booleans_told = words.1.1.0;
      function_words = lists.0;
      error_words = lists.1.0;
      errors_told = lists.1.1.0;
      separators = locales.0;
      groups = locales.1.0;
      symbols = locales.1.1.0;
      dates = locales.1.1.1.0;
    }

-- ---- what is among the languages

-- an item of a list passes the test that all pass
passes : {X : Type 0} (p : X → Bool) (xs : List X) (x : X) → list_all p xs ≡ true → IsAmong xs x → p x ≡ true
passes p xs x h among = subst (λ y. p y ≡ true) (sym among.1.1) (AllPass-from_list_all p xs h among.0 x among.1.0)

found_here : {X : Type 0} (p : X → Bool) (y x : X) (ys : List X) (b : Bool) → p y ≡ b → cond b (Some y) (find p ys) ≡ Some x
    → (find p ys ≡ Some x → IsAmong ys x × (p x ≡ true)) → IsAmong (y ∷ ys) x × (p x ≡ true)
found_here p y x ys true h e later = let same : y ≡ x = cc in ((0, (zero-lt-suc _, sym same)), subst (λ z. p z ≡ true) same h)
found_here p y x ys false h e later = let found = later e in ((suc found.0.0, (suc-le-suc found.0.1.0, found.0.1.1)), found.1)

found_among : {X : Type 0} (p : X → Bool) (xs : List X) (x : X) → find p xs ≡ Some x → IsAmong xs x × (p x ≡ true)
found_among p [] x h = absurd (cc)
found_among p (y ∷ ys) x h = found_here p y x ys (p y) refl h (found_among p ys x)

pub bytes_same : (a b : List ℕ) → bytes_eq a b ≡ true → a ≡ b
bytes_same a b h = (bytes_eq-Decides a b).0 h

-- the language of a code is one of them, and has this code
pub language_among : (t : TableSet) (code : List ℕ) (l : Language) → language_of t code ≡ Some l → IsAmong t.languages l × (l.code ≡ code)
language_among t code l h = let found = found_among (λ m. bytes_eq m.code code) t.languages l h in (found.0, bytes_same l.code code found.1)

-- the language that a code finds has this code, and its own code finds it
pub language_found : (t : TableSet) (code : List ℕ) (l : Language) → language_of t code ≡ Some l → (l.code ≡ code) × (language_of t l.code ≡ Some l)
language_found t code l h = let same = (language_among t code l h).1 in (same, ap (language_of t) same ∙ h)

-- the locale that an id finds has this id, and its own id finds it
pub locale_found : (t : TableSet) (id : List ℕ) (l : NamedLocale) → locale_of t id ≡ Some l → (l.id ≡ id) × (locale_of t l.id ≡ Some l)
locale_found t id l h =
    let same : l.id ≡ id = bytes_same l.id id (found_among (λ n. bytes_eq n.id id) t.locales l h).1 in
    (same, ap (locale_of t) same ∙ h)

-- a text that is found among some is that text, and it is found where they have it
pub text_found : {A : Type 0} (f : A → List ℕ) (t : List ℕ) (texts : List (List ℕ)) (o : Option A) → option_map f o ≡ find (λ x. bytes_eq x t) texts → (is_some o ≡ has_text texts t) × IfSome o (λ x. f x ≡ t)
text_found {A} f t texts o h = (is_some-option_map f o ∙ ap is_some h ∙ among texts, named o h)
  where
    among : (texts : List (List ℕ)) → is_some (find (λ x. bytes_eq x t) texts) ≡ has_text texts t
    among [] = refl
    among (x ∷ xs) = elim (bytes_eq x t) as (λ b. is_some (cond b (Some x) (find (λ y. bytes_eq y t) xs)) ≡ (b || has_text xs t)) [ true ↦ refl | false ↦ among xs ]

    named : (o : Option A) → option_map f o ≡ find (λ x. bytes_eq x t) texts → IfSome o (λ x. f x ≡ t)
    named None h = tt
    named (Some x) h = bytes_same (f x) t (found_among (λ y. bytes_eq y t) texts (f x) (sym h)).1

-- ---- 1

and_first : (a b c d e f : Bool) → (a && b && c && d && e && f) ≡ true → (a ≡ true) × (b ≡ true)
and_first true true c d e f h = (refl, refl)
and_first true false c d e f h = absurd (cc)
and_first false b c d e f h = absurd (cc)

pub has_english : (t : TableSet) → IsWellFormed t → (has_text (codes_of t) (codes "en") ≡ true) × (has_text (ids_of t) (codes "en") ≡ true)
has_english t h = and_first _ _ _ _ _ _ (all_hold t h).ids

-- ---- 2

-- ---- 3

-- a language numbers so many functions
pub record Numbers (count : ℕ) (l : Language) : Type 0 where
  pub words : length l.functions.words ≡ count
  pub below : AllPass (λ n. nat_lt n count) (named_numbers l)
  pub apart : differ (named_numbers l) ≡ true

shared_with_first : (first : Language) (others : List Language) → share_numbers (first ∷ others) ≡ true → (l : Language) → IsAmong (first ∷ others) l → named_numbers l ≡ named_numbers first
unfolding share_numbers
shared_with_first first others h l among =
    bytes_same _ _
    (passes (λ m. bytes_eq (named_numbers m) (named_numbers first)) (first ∷ others) l
    (and_from (bytes_eq (named_numbers first) (named_numbers first)) (list_all (λ m. bytes_eq (named_numbers m) (named_numbers first)) others)
    ((bytes_eq-Decides (named_numbers first) (named_numbers first)).1 refl) h) among)

shared : (ls : List Language) → share_numbers ls ≡ true → (l m : Language) → IsAmong ls l → IsAmong ls m → named_numbers l ≡ named_numbers m
shared [] h l m a b = absurd (omega (arith, a.1.0))
shared (first ∷ others) h l m a b = shared_with_first first others h l a ∙ sym (shared_with_first first others h m b)

-- LET, LAMBDA, TRUE and FALSE have the same numbers in any two languages
pub numbers_shared : (t : TableSet) → IsWellFormed t → (l m : Language) → IsAmong t.languages l → IsAmong t.languages m → named_numbers l ≡ named_numbers m
numbers_shared t h l m a b =
    shared t.languages (and_parts (list_all (numbers_functions (length t.kinds)) t.languages) (share_numbers t.languages) (all_hold t h).numbers).1 l m a b

-- ---- 4

-- a language has the words of stored formulas
pub record Stores (l : Language) : Type 0 where
  pub true_word : l.booleans.true_word ≡ codes "TRUE"
  pub false_word : l.booleans.false_word ≡ codes "FALSE"
  pub let_word : slice_get l.functions.words l.functions.let_fn ≡ Some (codes "LET")
  pub lambda_word : slice_get l.functions.words l.functions.lambda_fn ≡ Some (codes "LAMBDA")

text_there : (o : Option (List ℕ)) (text : List ℕ) → is_text o text ≡ true → o ≡ Some text
text_there None text h = absurd (cc)
text_there (Some word) text h = ap (λ w. Some w) (bytes_same word text h)

stores_parts : (l : Language) → has_stored_words l ≡ true → Stores l
unfolding has_stored_words
stores_parts l h =
    let both = and_parts (has_stored_booleans l.booleans) (has_stored_functions l.functions) h in
    let b = and_parts (bytes_eq l.booleans.true_word (codes "TRUE")) (bytes_eq l.booleans.false_word (codes "FALSE")) both.0 in
    let f = and_parts (is_text (slice_get l.functions.words l.functions.let_fn) (codes "LET")) (is_text (slice_get l.functions.words l.functions.lambda_fn) (codes "LAMBDA")) both.1 in
    record {
      true_word = bytes_same _ _ b.0;
      false_word = bytes_same _ _ b.1;
      let_word = text_there _ _ f.0;
      lambda_word = text_there _ _ f.1;
    }

other_or : (b c : Bool) → (not b || c) ≡ true → b ≡ true → c ≡ true
other_or true c h e = h
other_or false c h e = absurd (cc)

pub english_stores : (t : TableSet) → IsWellFormed t → (l : Language) → IsAmong t.languages l → l.code ≡ codes "en" → Stores l
english_stores t h l among e =
    stores_parts l
    (other_or (bytes_eq l.code (codes "en")) (has_stored_words l)
    (passes (λ m. not (bytes_eq m.code (codes "en")) || has_stored_words m) t.languages l (all_hold t h).english_words among)
    ((bytes_eq-Decides l.code (codes "en")).1 e))

-- ---- 5

-- ---- 6

-- ---- 7 and 8

none_agrees : (p : List ℕ → Bool) (ws : List (List ℕ)) → list_any p ws ≡ false → AllByRecursion (λ v. p v ≡ false) ws
none_agrees p [] h = tt
none_agrees p (w ∷ ws) h = let parts = or_parts (p w) (list_any p ws) h in (parts.0, none_agrees p ws parts.1)

distinct : (ws : List (List ℕ)) → no_two_agree ws ≡ true → IsDistinct agrees ws
unfolding IsDistinct
distinct [] h = tt
distinct (w ∷ ws) h =
    let parts = and_parts (not (list_any (agrees w) ws)) (no_two_agree ws) h in
    (none_agrees (agrees w) ws (not-true _ parts.0), distinct ws parts.1)

-- ---- of one language, all together

pub good_words : (t : TableSet) → IsWellFormed t → (l : Language) → IsAmong t.languages l → HasGoodWords t l
good_words t h l among =
    let all = all_hold t h in
    let numbers = and_parts (list_all (numbers_functions (length t.kinds)) t.languages) (share_numbers t.languages) all.numbers in
    record {
      numbers = passes (numbers_functions (length t.kinds)) t.languages l numbers.0 among;
      booleans = passes has_boolean_words t.languages l all.boolean_words among;
      booleans_told = passes tells_booleans t.languages l all.booleans_told among;
      functions = passes has_function_words t.languages l all.function_words among;
      errors = passes has_error_words t.languages l all.error_words among;
      errors_told = passes (tells_errors (error_words_in (english t.languages))) t.languages l all.errors_told among;
      shared = numbers.1;
    }

pub words_of_found : {E : Type 0} (t : TableSet) → IsWellFormed t → (code : List ℕ) (Q : E → Type 0) (r : Result (Bor Language) E) → MatchResult r (λ l. language_of t code ≡ Some l.now) Q → IfOk r (λ l. HasGoodWords t l.now)
words_of_found t h code Q (Ok l) found = good_words t h l.now (language_among t code l.now found).0
words_of_found t h code Q (Err e) found = tt

-- English has the words of stored formulas
pub english_words : (t : TableSet) → IsWellFormed t → (l : Language) → language_of t (codes "en") ≡ Some l → has_stored_words l ≡ true
english_words t h l found =
    let among = language_among t (codes "en") l found in
    other_or (bytes_eq l.code (codes "en")) (has_stored_words l)
    (passes (λ m. not (bytes_eq m.code (codes "en")) || has_stored_words m) t.languages l (all_hold t h).english_words among.0)
    ((bytes_eq-Decides l.code (codes "en")).1 among.1)

-- ---- 10 to 13

pub good_formats : (t : TableSet) → IsWellFormed t → (n : NamedLocale) → IsAmong t.locales n → HasGoodFormats t n.locale
good_formats t h n among =
    let all = all_hold t h in
    record {
      separators = passes (λ m. has_separators m.locale) t.locales n all.separators among;
      group = passes (λ m. has_group m.locale) t.locales n all.groups among;
      symbol = passes (λ m. has_symbol t.languages m.locale) t.locales n all.symbols among;
      dates = passes (λ m. has_dates m.locale) t.locales n all.dates among;
    }

found_formats : (t : TableSet) → IsWellFormed t → (id : List ℕ) (o : Option NamedLocale) (l : Locale)
    → locale_of t id ≡ o → option_map (λ n. n.locale) o ≡ Some l → HasGoodFormats t l
found_formats t h id None l e found = absurd (cc)
found_formats t h id (Some n) l e found =
    let same : n.locale ≡ l = cc in
    subst (λ m. HasGoodFormats t m) same (good_formats t h n (found_among (λ m. bytes_eq m.id id) t.locales n e).0)

-- the locale that is found under an id
pub formats_of_found : (t : TableSet) → IsWellFormed t → (id : List ℕ) (l : Locale) → option_map (λ n. n.locale) (locale_of t id) ≡ Some l → HasGoodFormats t l
formats_of_found t h id l found = found_formats t h id (locale_of t id) l refl found

pub formats_of_named : (t : TableSet) → IsWellFormed t → (id : List ℕ) (n : NamedLocale) → locale_of t id ≡ Some n → HasGoodFormats t n.locale
formats_of_named t h id n e = good_formats t h n (found_among (λ m. bytes_eq m.id id) t.locales n e).0
