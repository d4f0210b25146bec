-- An index by mention keeps up with the formulas.
use Rattle.std.proofs.Common.{◌≡◌, ℕ, zero, suc, ◌<◌, List, [], ◌∷◌, ◌++◌, Bool, true, false, ◌&&◌, ◌||◌, OnOk, Some, refl, sym, ap, ◌∙◌, subst, length, set, arith, ◌⊎◌, inl, inr}
use Rattle.std.specs.Prelude.{nat_eq, ◌==◌}
use Rattle.std.specs.List.{AllByRecursion, slice_get}
use Rattle.std.specs.declared.result.Result.{Result}
use Rattle.std.specs.declared.result.Result.TheVariants.{Err, Ok}
use Rattle.std.specs.Result.{is_ok}
use Rattle.std.proofs.lemmas.Bool.{eqb-true}
use Rattle.std.proofs.lemmas.Option.{slice_get_within}
use Rattle.ic_laws.specs.declared.tree.Formula.{Formula}
use Rattle.ic_pool.specs.MentionPlaces.{HasAt, HasPassing, KeepsAll, KnowsAll, MentionsNone, Noted, has_place, has_place_of}
use Rattle.ic_pool.specs.Pool.{is_among}
use Rattle.ic_pool.specs.Rewrites.{changed_by}
use Rattle.ic_pool.specs.Topics.{mentions_some, topics_in}
use Rattle.ic_pool.specs.declared.pool.rewrites.Replacement.{Replacement}
use Rattle.ic_pool.proofs.KeyLemmas.{clash}
use Rattle.ic_pool.proofs.LateLemmas.{both_true, set_other}

pub knows_still : (before after : Noted) (xs : List Formula) → KnowsAll before xs → KeepsAll before after → KnowsAll after xs
knows_still before after xs knows keeps at x e topic mentions = keeps topic at (knows at x e topic mentions)

-- ---- a formula is put at the end, and goes from there

pushed : (xs : List Formula) (x : Formula) (k : ℕ) (y : Formula) → slice_get (xs ++ x ∷ []) k ≡ Some y → (slice_get xs k ≡ Some y) ⊎ ((k ≡ length xs) × (y ≡ x))
pushed [] x zero y e = inr (refl, cc)
pushed [] x (suc k) y e = cc
pushed (z ∷ xs) x zero y e = inl e
pushed (z ∷ xs) x (suc k) y e =
    elim (pushed xs x k y e) [
      | inl before ↦ inl before
      | inr last ↦ inr (ap suc last.0, last.1)
    ]

pub knows_pushed : (before after : Noted) (xs list : List Formula) (x : Formula) (at : ℕ) → KnowsAll before xs → KeepsAll before after → HasAt after at (topics_in x) → at ≡ length xs → list ≡ xs ++ x ∷ [] → KnowsAll after list
knows_pushed before after xs list x at knows keeps has end put k y e =
    elim (pushed xs x k y (sym (ap (λ ys. slice_get ys k) put) ∙ e)) [
      | inl there ↦ knows_still before after xs knows keeps k y there
      | inr last ↦ subst (λ n. HasAt after n (topics_in y)) (end ∙ sym last.0) (subst (λ z. HasAt after at (topics_in z)) (sym last.1) has)
    ]

before_last : (xs : List Formula) (x : Formula) (k : ℕ) (y : Formula) → slice_get xs k ≡ Some y → slice_get (xs ++ x ∷ []) k ≡ Some y
before_last [] x k y e = cc
before_last (z ∷ xs) x zero y e = e
before_last (z ∷ xs) x (suc k) y e = before_last xs x k y e

pub knows_back : (index : Noted) (xs ys : List Formula) (x : Formula) → xs ≡ ys ++ x ∷ [] → KnowsAll index xs → KnowsAll index ys
knows_back index xs ys x is knows k y e = knows k y (ap (λ zs. slice_get zs k) is ∙ before_last ys x k y e)

-- ---- formulas become others, whose topics were noted

set_here : (xs : List Formula) (at : ℕ) (y z : Formula) → slice_get (set xs at y) at ≡ Some z → z ≡ y
set_here [] at y z e = cc
set_here (x ∷ xs) zero y z e = cc
set_here (x ∷ xs) (suc at) y z e = set_here xs at y z e

knows_set : (index : Noted) (xs : List Formula) (at : ℕ) (y : Formula) → KnowsAll index xs → HasAt index at (topics_in y) → KnowsAll index (set xs at y)
knows_set index xs at y knows has k z e = by_test (nat_eq k at) refl
  where
    by_test : (b : Bool) → nat_eq k at ≡ b → HasAt index k (topics_in z)
    by_test true same =
        let here = eqb-true k at same in
        let is : z ≡ y = set_here xs at y z (ap (slice_get (set xs at y)) (sym here) ∙ e) in
        subst (λ n. HasAt index n (topics_in z)) (sym here) (subst (λ w. HasAt index at (topics_in w)) (sym is) has)
    by_test false other = knows k z (sym (set_other xs at y k other) ∙ e)

knows_changed : (index : Noted) (changes : List Replacement) (xs : List Formula) → KnowsAll index xs → AllByRecursion (λ change. HasAt index change.at (topics_in change.formula)) changes → KnowsAll index (changed_by changes xs)
knows_changed index [] xs knows has = knows
knows_changed index (change ∷ changes) xs knows has = knows_changed index changes (set xs change.at change.formula) (knows_set index xs change.at change.formula knows has.0) has.1

told : {E P : Type 0} (r : Result (Unit {0}) E) → OnOk r P → is_ok r ≡ true → P
told (Ok u) p e = p
told (Err x) p e = cc

-- where that found memory
pub noted_rewritten : {E : Type 0} (before after : Noted) (changes : List Replacement) (xs list : List Formula) (knows noted : Bool) (r : Result (Unit {0}) E) → (knows ≡ true → KnowsAll before xs) → KeepsAll before after
    → noted ≡ is_ok r → OnOk r (AllByRecursion (λ change. HasAt after change.at (topics_in change.formula)) changes) → list ≡ changed_by changes xs → (knows && noted) ≡ true → KnowsAll after list
noted_rewritten before after changes xs list knows noted r known keeps is has made e =
    let both = both_true knows noted e in
    subst (KnowsAll after) (sym made) (knows_changed after changes xs (knows_still before after xs (known both.0) keeps) (told r has (sym is ∙ both.1)))

-- the same where a formula is put at the end
pub noted_pushed : {E : Type 0} (before after : Noted) (xs list : List Formula) (x : Formula) (at : ℕ) (knows noted : Bool) (r : Result (Unit {0}) E) → (knows ≡ true → KnowsAll before xs) → KeepsAll before after → noted ≡ is_ok r
    → OnOk r (HasAt after at (topics_in x)) → at ≡ length xs → list ≡ xs ++ x ∷ [] → (knows && noted) ≡ true → KnowsAll after list
noted_pushed before after xs list x at knows noted r known keeps is has end put e =
    let both = both_true knows noted e in
    knows_pushed before after xs list x at (known both.0) keeps (told r has (sym is ∙ both.1)) end put

-- ---- where something is mentioned

pub some_place : (index : Noted) (at : ℕ) (x : Formula) (topics : List ℕ) → HasAt index at (topics_in x) → mentions_some topics x ≡ true → has_place_of index topics at ≡ true
some_place index at x [] has e = e
some_place index at x (topic ∷ topics) has e = by_head (is_among topic (topics_in x)) refl e (λ f. some_place index at x topics has f)
  where
    or_true : (b : Bool) → (b || true) ≡ true
    or_true true = refl
    or_true false = refl

    by_head : (b : Bool) → is_among topic (topics_in x) ≡ b → (b || mentions_some topics x) ≡ true → (mentions_some topics x ≡ true → has_place_of index topics at ≡ true) → has_place_of index (topic ∷ topics) at ≡ true
    by_head true is f rest = ap (λ b. b || has_place_of index topics at) (has topic is)
    by_head false is f rest = ap (λ b. has_place index topic at || b) (rest f) ∙ or_true (has_place index topic at)

-- there are none
pub none_there : (xs : List Formula) (n : ℕ) → n ≡ length xs → (n == 0) ≡ true → (k : ℕ) (x : Formula) → slice_get xs k ≡ Some x → ⊥
none_there xs n counted none k x e =
    let within = slice_get_within xs k x e in
    let nought = eqb-true n 0 none in
    omega (arith, within, counted, nought)

-- where it has no place of any of the topics
pub none_mentioned : (index : Noted) (topics : List ℕ) (xs : List Formula) → KnowsAll index xs → ((at : ℕ) → has_place_of index topics at ≡ false) → MentionsNone topics xs
none_mentioned index topics xs knows none at x e = by_test (mentions_some topics x) refl
  where
    by_test : (b : Bool) → mentions_some topics x ≡ b → mentions_some topics x ≡ false
    by_test false is = is
    by_test true is = absurd (clash (has_place_of index topics at) (some_place index at x topics (knows at x e) is) (none at))

pub places_found : (index : Noted) (topics : List ℕ) (xs : List Formula) (places : List ℕ) → KnowsAll index xs
    → ((at : ℕ) → has_place_of index topics at ≡ true → is_among at places ≡ true) → HasPassing (mentions_some topics) places xs
places_found index topics xs places knows found at x e passes = found at (some_place index at x topics (knows at x e) passes)

pub places_all : (topics : List ℕ) (xs : List Formula) (places : List ℕ) (end : ℕ) → end ≡ length xs
    → ((at : ℕ) → at < end → is_among at places ≡ true) → HasPassing (mentions_some topics) places xs
places_all topics xs places end counted all at x e passes = all at (subst (λ n. at < n) (sym counted) (slice_get_within xs at x e))

-- a test that fails where a formula doesn't mention the topics
pub narrower : (test other : Formula → Bool) (places : List ℕ) (xs : List Formula) → ((x : Formula) → test x ≡ false → other x ≡ false)
    → HasPassing test places xs → HasPassing other places xs
narrower test other places xs fails has at x e passes = by_test (test x) refl
  where
    by_test : (b : Bool) → test x ≡ b → is_among at places ≡ true
    by_test true is = has at x e is
    by_test false is = absurd (clash (other x) passes (fails x is))
