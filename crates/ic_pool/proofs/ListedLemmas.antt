-- The formulas of a pool that pass a test, by their places and by their keys.
use Rattle.std.proofs.Common.{◌≡◌, ℕ, zero, suc, ◌<◌, ◌+◌, List, [], ◌∷◌, ◌++◌, Bool, true, false, cond, ◌||◌, Some, option_map, refl, sym, ap, ap₂, subst, ◌∙◌, bytes_eq, length, arith}
use Rattle.std.specs.Prelude.{nat_eq, not, if◌then◌else◌}
use Rattle.std.specs.List.{AllByRecursion, list_any, slice_get}
use Rattle.std.proofs.lemmas.Bool.{eq-eqb, eqb-true}
use Rattle.std.proofs.lemmas.Slice.Eq.{bytes_eq-Decides}
use Rattle.ic_laws.specs.declared.tree.Formula.{Formula}
use Rattle.ic_pool.specs.Code.{code}
use Rattle.ic_pool.specs.Pool.{is_among, places_from, places_where}
use Rattle.ic_pool.specs.Rewrites.{is_key_among, is_nothing, keys_of, old_places, places_of, replaced_from}
use Rattle.ic_pool.specs.declared.pool.rewrites.OldKey.{OldKey}
use Rattle.ic_pool.specs.declared.pool.rewrites.Replacement.{Replacement}
use Rattle.ic_pool.proofs.CodeLaws.{code_determines}

-- a number is no greater one, and no smaller one
pub below : (n at : ℕ) → n < at → (b : Bool) → nat_eq n at ≡ b → nat_eq n at ≡ false
below n at lt true e = let same = eqb-true n at e in absurd (omega arith)
below n at lt false e = e

pub above : (n at : ℕ) → at < n → (b : Bool) → nat_eq n at ≡ b → nat_eq n at ≡ false
above n at lt true e = let same = eqb-true n at e in absurd (omega arith)
above n at lt false e = e

module _ (test : Formula → Bool) where
  -- the keys of those that pass
  abbrev pub keys_where : List Formula → List (List ℕ)
  keys_where [] = []
  keys_where (x ∷ xs) = if test x then code x ∷ keys_where xs else keys_where xs

  none_below : (n at : ℕ) (xs : List Formula) → n < at → is_among n (places_from test at xs) ≡ false
  none_below n at [] lt = refl
  none_below n at (x ∷ xs) lt = after (test x) (none_below n (suc at) xs (omega arith))
    where
      after : (b : Bool) → is_among n (places_from test (suc at) xs) ≡ false → is_among n (cond b (at ∷ places_from test (suc at) xs) (places_from test (suc at) xs)) ≡ false
      after true rest = ap₂ (λ a b. a || b) (below n at lt (nat_eq n at) refl) rest
      after false rest = rest

  passes_from : (at : ℕ) (xs : List Formula) (k n : ℕ) (x : Formula) → at + k ≡ n → slice_get xs k ≡ Some x → is_among n (places_from test at xs) ≡ test x
  passes_from at [] k n x is e = cc
  passes_from at (y ∷ xs) zero n x is e = after (test y) ∙ ap test (let same : y ≡ x = cc in same)
    where
      after : (b : Bool) → is_among n (cond b (at ∷ places_from test (suc at) xs) (places_from test (suc at) xs)) ≡ b
      after true = ap (λ c. c || is_among n (places_from test (suc at) xs)) (eq-eqb n at (omega arith))
      after false = none_below n (suc at) xs (omega arith)
  passes_from at (y ∷ xs) (suc k) n x is e = after (test y) (passes_from (suc at) xs k n x (omega arith) e)
    where
      after : (b : Bool) → is_among n (places_from test (suc at) xs) ≡ test x → is_among n (cond b (at ∷ places_from test (suc at) xs) (places_from test (suc at) xs)) ≡ test x
      after true rest = ap (λ c. c || is_among n (places_from test (suc at) xs)) (above n at (omega arith) (nat_eq n at) refl) ∙ rest
      after false rest = rest

  -- a formula is at one of the places exactly where it passes
  pub passes_there : (xs : List Formula) (k : ℕ) (x : Formula) → slice_get xs k ≡ Some x → is_among k (places_where test xs) ≡ test x
  passes_there xs k x e = passes_from 0 xs k k x (omega arith) e

  only_passing : (xs : List Formula) (x : Formula) → is_key_among (code x) (keys_where xs) ≡ true → test x ≡ true
  only_passing [] x e = cc
  only_passing (y ∷ xs) x e = by_test (test y) refl e (λ f. only_passing xs x f)
    where
      by_head : (b : Bool) → bytes_eq (code x) (code y) ≡ b → test y ≡ true → (b || is_key_among (code x) (keys_where xs)) ≡ true → (is_key_among (code x) (keys_where xs) ≡ true → test x ≡ true) → test x ≡ true
      by_head true same passes e rest = ap test (code_determines x y ((bytes_eq-Decides (code x) (code y)).0 same)) ∙ passes
      by_head false other passes e rest = rest e

      by_test : (b : Bool) → test y ≡ b → is_key_among (code x) (cond b (code y ∷ keys_where xs) (keys_where xs)) ≡ true → (is_key_among (code x) (keys_where xs) ≡ true → test x ≡ true) → test x ≡ true
      by_test true passes e rest = by_head (bytes_eq (code x) (code y)) refl passes e rest
      by_test false fails e rest = rest e

  or_true : (b : Bool) → (b || true) ≡ true
  or_true true = refl
  or_true false = refl

  all_passing : (xs : List Formula) (k : ℕ) (x : Formula) → slice_get xs k ≡ Some x → test x ≡ true → is_key_among (code x) (keys_where xs) ≡ true
  all_passing [] k x e passes = cc
  all_passing (y ∷ xs) zero x e passes =
      let same : y ≡ x = cc in
      ap (λ b. is_key_among (code x) (cond b (code y ∷ keys_where xs) (keys_where xs))) (ap test same ∙ passes)
      ∙ ap (λ b. b || is_key_among (code x) (keys_where xs)) ((bytes_eq-Decides (code x) (code y)).1 (ap code (sym same)))
  all_passing (y ∷ xs) (suc k) x e passes = after (test y) (all_passing xs k x e passes)
    where
      after : (b : Bool) → is_key_among (code x) (keys_where xs) ≡ true → is_key_among (code x) (cond b (code y ∷ keys_where xs) (keys_where xs)) ≡ true
      after true e = ap (λ c. bytes_eq (code x) (code y) || c) e ∙ or_true (bytes_eq (code x) (code y))
      after false e = e

  -- its key is one of the keys exactly there
  pub key_passes : (xs : List Formula) (k : ℕ) (x : Formula) → slice_get xs k ≡ Some x → is_key_among (code x) (keys_where xs) ≡ test x
  key_passes xs k x e = by_test (test x) refl (is_key_among (code x) (keys_where xs)) refl
    where
      by_test : (b : Bool) → test x ≡ b → (c : Bool) → is_key_among (code x) (keys_where xs) ≡ c → is_key_among (code x) (keys_where xs) ≡ test x
      by_test true passes c found = all_passing xs k x e passes ∙ sym passes
      by_test false fails true found = let no : true ≡ false = sym (only_passing xs x found) ∙ fails in cc
      by_test false fails false found = found ∙ sym fails

-- ---- the same formulas with their places and their keys

module _ (test : Formula → Bool) where
  -- the keys of those that pass, with their places, where the first stands at this place
  abbrev pub olds_from : ℕ → List Formula → List OldKey
  olds_from at [] = []
  olds_from at (x ∷ xs) = if test x then record { at = at; key = code x } ∷ olds_from (suc at) xs else olds_from (suc at) xs

  -- these have the places of the formulas that pass
  pub olds_places : (at : ℕ) (xs : List Formula) → old_places (olds_from at xs) ≡ places_from test at xs
  olds_places at [] = refl
  olds_places at (x ∷ xs) = after (test x) (olds_places (suc at) xs)
    where
      after : (b : Bool) → old_places (olds_from (suc at) xs) ≡ places_from test (suc at) xs
          → old_places (cond b (record { at = at; key = code x } ∷ olds_from (suc at) xs) (olds_from (suc at) xs))
          ≡ cond b (at ∷ places_from test (suc at) xs) (places_from test (suc at) xs)
      after true rest = ap (λ ps. at ∷ ps) rest
      after false rest = rest

  -- and their keys
  pub olds_keys : (at : ℕ) (xs : List Formula) → keys_of (olds_from at xs) ≡ keys_where test xs
  olds_keys at [] = refl
  olds_keys at (x ∷ xs) = after (test x) (olds_keys (suc at) xs)
    where
      after : (b : Bool) → keys_of (olds_from (suc at) xs) ≡ keys_where test xs
          → keys_of (cond b (record { at = at; key = code x } ∷ olds_from (suc at) xs) (olds_from (suc at) xs))
          ≡ cond b (code x ∷ keys_where test xs) (keys_where test xs)
      after true rest = ap (λ ks. code x ∷ ks) rest
      after false rest = rest

  -- each key is that of the formula at its place
  pub olds_own : (ys : List Formula) (at : ℕ) (xs : List Formula) → ((k : ℕ) (y : Formula) → slice_get xs k ≡ Some y → slice_get ys (at + k) ≡ Some y)
      → AllByRecursion (λ old. option_map code (slice_get ys old.at) ≡ Some old.key) (olds_from at xs)
  olds_own ys at [] there = tt
  olds_own ys at (x ∷ xs) there = after (test x) (olds_own ys (suc at) xs further)
    where
      further : (k : ℕ) (y : Formula) → slice_get xs k ≡ Some y → slice_get ys (suc at + k) ≡ Some y
      further k y e = subst (λ n. slice_get ys n ≡ Some y) (let n : at + suc k ≡ suc at + k = omega arith in n) (there (suc k) y e)

      here_is : option_map code (slice_get ys at) ≡ Some (code x)
      here_is = ap (λ n. option_map code (slice_get ys n)) (let n : at ≡ at + 0 = omega arith in n) ∙ ap (option_map code) (there zero x refl)

      after : (b : Bool) → AllByRecursion (λ old. option_map code (slice_get ys old.at) ≡ Some old.key) (olds_from (suc at) xs)
          → AllByRecursion (λ old. option_map code (slice_get ys old.at) ≡ Some old.key)
          (cond b (record { at = at; key = code x } ∷ olds_from (suc at) xs) (olds_from (suc at) xs))
      after true rest = (here_is, rest)
      after false rest = rest

  -- a formula is put at the end
  abbrev its_key : ℕ → Formula → List OldKey
  its_key at x = cond (test x) (record { at = at; key = code x } ∷ []) []

  pub olds_from-push : (at : ℕ) (xs : List Formula) (x : Formula) → olds_from at (xs ++ x ∷ []) ≡ olds_from at xs ++ its_key (at + length xs) x
  olds_from-push at [] x = ap (λ n. its_key n x) (omega arith)
  olds_from-push at (y ∷ xs) x = after (test y) (olds_from-push (suc at) xs x)
    where
      moved : olds_from (suc at) xs ++ its_key (suc at + length xs) x ≡ olds_from (suc at) xs ++ its_key (at + suc (length xs)) x
      moved = ap (λ n. olds_from (suc at) xs ++ its_key n x) (let s : suc at + length xs ≡ at + suc (length xs) = omega arith in s)

      after : (b : Bool) → olds_from (suc at) (xs ++ x ∷ []) ≡ olds_from (suc at) xs ++ its_key (suc at + length xs) x
          → cond b (record { at = at; key = code y } ∷ olds_from (suc at) (xs ++ x ∷ [])) (olds_from (suc at) (xs ++ x ∷ []))
          ≡ cond b (record { at = at; key = code y } ∷ olds_from (suc at) xs) (olds_from (suc at) xs) ++ its_key (at + suc (length xs)) x
      after true e = ap (λ os. record { at = at; key = code y } ∷ os) (e ∙ moved)
      after false e = e ∙ moved

-- ---- the same formulas with what they become

module _ (test : Formula → Bool) (becomes : Formula → Formula) where
  -- these have the places of the formulas that pass
  pub replaced_places : (at : ℕ) (xs : List Formula) → places_of (replaced_from test becomes at xs) ≡ places_from test at xs
  replaced_places at [] = refl
  replaced_places at (x ∷ xs) = after (test x) (replaced_places (suc at) xs)
    where
      after : (b : Bool) → places_of (replaced_from test becomes (suc at) xs) ≡ places_from test (suc at) xs
          → places_of (cond b (record { at = at; formula = becomes x } ∷ replaced_from test becomes (suc at) xs) (replaced_from test becomes (suc at) xs)) ≡ cond b (at ∷ places_from test (suc at) xs) (places_from test (suc at) xs)
      after true rest = ap (λ ps. at ∷ ps) rest
      after false rest = rest

  -- there is none exactly where no formula passes
  pub replaced_none : (at : ℕ) (xs : List Formula) → is_nothing (replaced_from test becomes at xs) ≡ not (list_any test xs)
  replaced_none at [] = refl
  replaced_none at (x ∷ xs) = after (test x) (replaced_none (suc at) xs)
    where
      after : (b : Bool) → is_nothing (replaced_from test becomes (suc at) xs) ≡ not (list_any test xs)
          → is_nothing (cond b (record { at = at; formula = becomes x } ∷ replaced_from test becomes (suc at) xs) (replaced_from test becomes (suc at) xs)) ≡ not (b || list_any test xs)
      after true rest = refl
      after false rest = rest

  -- a formula is put at the end
  abbrev here : ℕ → Formula → List Replacement
  here at x = cond (test x) (record { at = at; formula = becomes x } ∷ []) []

  pub replaced_from-push : (at : ℕ) (xs : List Formula) (x : Formula) → replaced_from test becomes at (xs ++ x ∷ []) ≡ replaced_from test becomes at xs ++ here (at + length xs) x
  replaced_from-push at [] x = ap (λ n. here n x) (omega arith)
  replaced_from-push at (y ∷ xs) x = after (test y) (replaced_from-push (suc at) xs x)
    where
      moved : replaced_from test becomes (suc at) xs ++ here (suc at + length xs) x ≡ replaced_from test becomes (suc at) xs ++ here (at + suc (length xs)) x
      moved = ap (λ n. replaced_from test becomes (suc at) xs ++ here n x) (let s : suc at + length xs ≡ at + suc (length xs) = omega arith in s)

      after : (b : Bool) → replaced_from test becomes (suc at) (xs ++ x ∷ []) ≡ replaced_from test becomes (suc at) xs ++ here (suc at + length xs) x
          → cond b (record { at = at; formula = becomes y } ∷ replaced_from test becomes (suc at) (xs ++ x ∷ [])) (replaced_from test becomes (suc at) (xs ++ x ∷ []))
          ≡ cond b (record { at = at; formula = becomes y } ∷ replaced_from test becomes (suc at) xs) (replaced_from test becomes (suc at) xs) ++ here (at + suc (length xs)) x
      after true e = ap (λ ps. record { at = at; formula = becomes y } ∷ ps) (e ∙ moved)
      after false e = e ∙ moved
