-- A look-up that is made from the last formula to the first, and one that is kept up with the formulas.
use Rattle.std.proofs.Common.{◌≡◌, ◌<◌, ◌≤◌, ◌+◌, ◌-◌, ℕ, zero, suc, List, [], ◌∷◌, ◌++◌, Bool, true, false, cond, Option, Some, None, option_map, refl, sym, ap, ap₂, subst, ◌∙◌, length, length-append, drop, get_or, set, take, bytes_eq, arith}
use Rattle.std.specs.List.{slice_get}
use Rattle.std.proofs.Math.Seq.{drop-cons}
use Rattle.std.proofs.lemmas.List.{drop_all, length-set, take_more}
use Rattle.std.proofs.lemmas.Option.{slice_get-get_or}
use Rattle.ic_laws.specs.declared.tree.Formula.{Formula}
use Rattle.ic_pool.specs.Code.{code}
use Rattle.ic_pool.specs.LookUp.{AreHashed, IsEmpty, IsPut, found}
use Rattle.ic_pool.specs.Mentions.{has_dangling}
use Rattle.ic_pool.specs.Pool.{IsLookUp, KeepsPlaces, dangling_count, dangling_places, dangling_weight, first_place, places_from}
use Rattle.ic_pool.specs.declared.look_up.LookUp.{LookUp}
use Rattle.ic_pool.proofs.FoundLemmas.{StandsIn, empty_found, empty_hashed, last_stands, put_found, put_hashed, stands_before, stands_itself}
use Rattle.ic_pool.proofs.LateLemmas.{whole_knows}
use Rattle.ic_pool.proofs.PlacedLemmas.{Finds, KeepsPlaces-push}
use Rattle.ic_laws.proofs.General.{bytes_eq-flip}

-- by each key the first place of a formula with that key is found, of those that stand at this place or after
pub record KeepsFrom (find : List ℕ → Option ℕ) (at : ℕ) (formulas : List Formula) : Type 0 where
  pub finds : (key : List ℕ) → find key ≡ option_map (λ n. at + n) (first_place key (drop at formulas))

next_place : (at : ℕ) (b : Bool) (o : Option ℕ) → cond b (Some at) (option_map (λ n. at + 1 + n) o) ≡ option_map (λ n. at + n) (cond b (Some 0) (option_map suc o))
next_place at true o = ap (λ n. Some n) (omega arith)
next_place at false None = refl
next_place at false (Some n) = ap (λ k. Some k) (let e : at + 1 + n ≡ at + suc n = omega arith in e)

pub KeepsFrom-step : (before after : List ℕ → Option ℕ) (at next : ℕ) (formulas : List Formula) (x : Formula) (key : List ℕ) → KeepsFrom before next formulas → at + 1 ≡ next → at < length formulas → x ≡ get_or formulas at x → key ≡ code x
    → Finds before after key (Some at) → KeepsFrom after at formulas
KeepsFrom-step before after at next formulas x key kept is_next within item same u = record {
  finds = λ q.
      let rest = drop next formulas in
      let moved : suc at ≡ next = omega arith in
      let here : drop at formulas ≡ x ∷ rest = drop-cons formulas at x within ∙ ap₂ ◌∷◌ (sym item) (ap (λ n. drop n formulas) moved) in
      u q ∙ ap₂ (λ b o. cond b (Some at) o) (bytes_eq-flip key q ∙ ap (bytes_eq q) same) (kept.finds q)
      ∙ ap (λ m. cond (bytes_eq q (code x)) (Some at) (option_map (λ n. m + n) (first_place q rest))) (sym is_next)
      ∙ next_place at (bytes_eq q (code x)) (first_place q rest) ∙ sym (ap (λ xs. option_map (λ n. at + n) (first_place q xs)) here);
}

pub empty_from : (look : LookUp) (xs : List Formula) (at : ℕ) → IsEmpty look → length xs ≤ at → KeepsFrom (found look xs) at xs × AreHashed look xs
empty_from look xs at none end = (
  record { finds = λ q. empty_found look xs none q ∙ sym (ap (λ ys. option_map (λ n. at + n) (first_place q ys)) (drop_all at xs end)) },
  empty_hashed look xs none,
)

pub put_from : (before after : LookUp) (at next : ℕ) (xs : List Formula) (x : Formula) (key : List ℕ) → KeepsFrom (found before xs) next xs → AreHashed before xs → at + 1 ≡ next → at < length xs → x ≡ get_or xs at x → key ≡ code x → IsPut key at before after
    → KeepsFrom (found after xs) at xs × AreHashed after xs
put_from before after at next xs x key kept hashed is_next within item same put =
    let is : slice_get xs at ≡ Some x = slice_get-get_or xs at x within ∙ ap (λ z. Some z) (sym item) in (
      KeepsFrom-step (found before xs) (found after xs) at next xs x key kept is_next within item same (put_found before after xs xs x key at hashed is same (stands_itself xs) put),
      put_hashed before after xs xs x key at hashed is same (stands_itself xs) put,
    )

-- ---- a formula is put at the end

pub places_from-push : (test : Formula → Bool) (at : ℕ) (xs : List Formula) (x : Formula) → places_from test at (xs ++ x ∷ []) ≡ places_from test at xs ++ cond (test x) ((at + length xs) ∷ []) []
places_from-push test at [] x = ap (λ n. cond (test x) (n ∷ []) []) (omega arith)
places_from-push test at (y ∷ xs) x = after (test y) (places_from-push test (suc at) xs x)
  where
    after : (b : Bool) → places_from test (suc at) (xs ++ x ∷ []) ≡ places_from test (suc at) xs ++ cond (test x) ((suc at + length xs) ∷ []) []
        → cond b (at ∷ places_from test (suc at) (xs ++ x ∷ [])) (places_from test (suc at) (xs ++ x ∷ []))
        ≡ cond b (at ∷ places_from test (suc at) xs) (places_from test (suc at) xs) ++ cond (test x) ((at + suc (length xs)) ∷ []) []
    after true e = ap (λ ps. at ∷ ps) (e ∙ ap (λ n. places_from test (suc at) xs ++ cond (test x) (n ∷ []) []) (let s : suc at + length xs ≡ at + suc (length xs) = omega arith in s))
    after false e = e ∙ ap (λ n. places_from test (suc at) xs ++ cond (test x) (n ∷ []) []) (let s : suc at + length xs ≡ at + suc (length xs) = omega arith in s)

pub IsLookUp-push : (before after : LookUp) (is_whole knows_rest : Bool) (late : List ℕ) (xs list : List Formula) (x : Formula) (key : List ℕ) (at : ℕ) → IsLookUp before is_whole knows_rest late xs → is_whole ≡ true → first_place key xs ≡ None → key ≡ code x
    → at ≡ length xs → IsPut key at before after → list ≡ xs ++ x ∷ [] → IsLookUp after is_whole knows_rest late list
IsLookUp-push before after is_whole knows_rest late xs list x key at kept whole none same end put pushed =
    let is : slice_get list at ≡ Some x = ap₂ slice_get pushed end ∙ last_stands xs x in
    let stands : StandsIn xs list = subst (StandsIn xs) (sym pushed) (stands_before xs x) in
    let u : Finds (found before xs) (found after list) key (Some at) = put_found before after xs list x key at kept.hashed is same stands put in
    let places : KeepsPlaces (found after list) list = KeepsPlaces-push (found before xs) (found after list) xs list x key at (kept.finds whole) (sym (ap (λ k. first_place k xs) same) ∙ none) same end u pushed in
    record {
      finds = λ w. places;
      rest = λ k. whole_knows (found after list) late list places;
      hashed = put_hashed before after xs list x key at kept.hashed is same stands put;
    }

-- ---- how many formulas mention something that wasn't found

one_more_if : (b : Bool) (at : ℕ) (places : List ℕ) → length (cond b (at ∷ places) places) ≡ length places + cond b 1 0
one_more_if true at places = omega arith
one_more_if false at places = omega arith

one_if : (b : Bool) (at : ℕ) → length (cond b (at ∷ []) []) ≡ cond b 1 0
one_if true at = refl
one_if false at = refl

pub dangling_count-push : (xs : List Formula) (x : Formula) → dangling_count (xs ++ x ∷ []) ≡ dangling_count xs + dangling_weight x
dangling_count-push xs x =
    ap length (places_from-push has_dangling 0 xs x) ∙ length-append (dangling_places xs) (cond (has_dangling x) ((0 + length xs) ∷ []) [])
    ∙ ap (λ n. dangling_count xs + n) (one_if (has_dangling x) (0 + length xs))

at_most : (b : Bool) → cond b 1 0 ≤ 1
at_most true = omega arith
at_most false = omega arith

few_from : (at : ℕ) (xs : List Formula) → length (places_from has_dangling at xs) ≤ length xs
few_from at [] = omega arith
few_from at (x ∷ xs) =
    omega (arith, one_more_if (has_dangling x) at (places_from has_dangling (suc at) xs), at_most (has_dangling x), few_from (suc at) xs)

-- no more than there are
pub dangling_few : (xs : List Formula) → dangling_count xs ≤ length xs
dangling_few xs = few_from 0 xs

-- one becomes another
set_from : (at : ℕ) (xs : List Formula) (k : ℕ) (x y : Formula) → slice_get xs k ≡ Some x
    → length (places_from has_dangling at (set xs k y)) + dangling_weight x ≡ length (places_from has_dangling at xs) + dangling_weight y
set_from at [] k x y e = cc
set_from at (z ∷ xs) zero x y e =
    let same : z ≡ x = cc in
    let rest = places_from has_dangling (suc at) xs in
    let old : length (cond (has_dangling z) (at ∷ rest) rest) ≡ length rest + dangling_weight x = one_more_if (has_dangling z) at rest ∙ ap (λ (w : Formula). length rest + dangling_weight w) same in
    omega (arith, one_more_if (has_dangling y) at rest, old)
set_from at (z ∷ xs) (suc k) x y e =
    omega
    (arith, one_more_if (has_dangling z) at (places_from has_dangling (suc at) (set xs k y)), one_more_if (has_dangling z) at (places_from has_dangling (suc at) xs), set_from (suc at) xs k x y e)

pub dangling_count-set : (xs : List Formula) (k : ℕ) (x y : Formula) → slice_get xs k ≡ Some x → dangling_count (set xs k y) + dangling_weight x ≡ dangling_count xs + dangling_weight y
dangling_count-set xs k x y e = set_from 0 xs k x y e

one_at_least : (at : ℕ) (xs : List Formula) (k : ℕ) (x : Formula) → slice_get xs k ≡ Some x → dangling_weight x ≤ length (places_from has_dangling at xs)
one_at_least at [] k x e = cc
one_at_least at (z ∷ xs) zero x e =
    let same : z ≡ x = cc in
    let counted = one_more_if (has_dangling z) at (places_from has_dangling (suc at) xs) in
    let its : dangling_weight z ≡ dangling_weight x = ap (λ (w : Formula). dangling_weight w) same in
    omega (arith, counted, its)
one_at_least at (z ∷ xs) (suc k) x e =
    omega (arith, one_more_if (has_dangling z) at (places_from has_dangling (suc at) xs), one_at_least (suc at) xs k x e)

-- one that does is one of them
pub dangling_there : (xs : List Formula) (k : ℕ) (x : Formula) → slice_get xs k ≡ Some x → dangling_weight x ≤ dangling_count xs
dangling_there xs k x e = one_at_least 0 xs k x e

-- one formula after another
pub dangling_count-take : (xs : List Formula) (i : ℕ) (x : Formula) → i < length xs → x ≡ get_or xs i x → dangling_count (take (i + 1) xs) ≡ dangling_count (take i xs) + dangling_weight x
dangling_count-take xs i x below item =
    ap dangling_count (take_more xs i x below ∙ ap (λ y. take i xs ++ y ∷ []) (sym item)) ∙ dangling_count-push (take i xs) x

-- one is put in the place of another
module _ (xs : List Formula) (at : ℕ) (x y : Formula) (n gone come : ℕ) (below : at < length xs) (item : x ≡ get_or xs at x) (counted : n ≡ dangling_count xs) (gone_was : gone ≡ dangling_weight (get_or xs at x)) (come_is : come ≡ dangling_weight y) where
  gone_is : gone ≡ dangling_weight x
  gone_is = gone_was ∙ ap dangling_weight (sym item)

  there : slice_get xs at ≡ Some x
  there = slice_get-get_or xs at x below ∙ ap (λ z. Some z) (sym item)

  pub put_takes : gone ≤ n
  put_takes = omega (arith, dangling_there xs at x there, counted, gone_is)

  pub put_counts : n - gone + come ≡ dangling_count (set xs at y)
  put_counts = omega (arith, put_takes, dangling_count-set xs at x y there, counted, gone_is, come_is)

  length_same : length (set xs at y) ≡ length xs
  length_same = length-set xs at y

  pub put_few : n - gone + come ≤ length xs
  put_few = omega (arith, put_counts, dangling_few (set xs at y), length_same)
