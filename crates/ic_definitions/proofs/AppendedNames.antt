-- What the definitions keep beside them stays true when several come at once, and when only the first ones stay.
use Rattle.std.proofs.Common.{◌≡◌, ℕ, zero, suc, ◌<◌, ◌≤◌, List, [], ◌∷◌, ◌++◌, Bool, true, false, cond, ◌||◌, Option, Some, None, option_map, length, take, refl, sym, ap, ap₂, subst, ◌∙◌, arith, ltb}
use Rattle.std.specs.BTreeMap.{IsOrdered}
use Rattle.std.specs.List.{AllByRecursion, IsDistinct, filter, list_any}
use Rattle.std.proofs.lemmas.Bool.{or_parts}
use Rattle.std.proofs.lemmas.Bool.Decides.{nat_tests}
use Rattle.std.proofs.lemmas.List.{length-append, take-map}
use Rattle.std.proofs.lemmas.List.Folds.{list_any-append}
use Rattle.std.proofs.lemmas.Map.Entries.{option_filter}
use Rattle.std.proofs.lemmas.Map.Keys.{IsDistinct-cons, IsDistinct-head, IsDistinct-tail}
use Rattle.ic_laws.proofs.core.Lists.{length_updated}
use Rattle.ic_laws.specs.CoreBook.{Definition}
use Rattle.ic_laws.specs.CoreStep.{is_named, updated_at}
use Rattle.ic_laws.specs.Greatest.{greatest}
use Rattle.ic_laws.specs.Scene.{same_key}
use Rattle.ic_laws.specs.declared.tree.NameKey.{NameKey}
use Rattle.ic_definitions.specs.Bodies.{FitsBodies, HasFoundAll, with_bodies}
use Rattle.ic_definitions.specs.Named.{AreNamed, FindsNames, Places, index_with_key, key_in, scopes_of}
use Rattle.ic_definitions.specs.declared.bodies.BodyRewrites.{BodyRewrites}
use Rattle.ic_definitions.specs.declared.bodies.NewBody.{NewBody}
use Rattle.ic_definitions.proofs.BodyLemmas.{with_body}
use Rattle.ic_definitions.proofs.HeldKeys.{held_cmp, taken_by_values}
use Rattle.ic_definitions.proofs.NamedLemmas.{keys}

-- ---- several come

-- no definition of these has the key of this one
abbrev pub IsFree : List Definition → Definition → Type 0
IsFree ds d = list_any (is_named d.name d.scope) ds ≡ false

-- where the first of several stands at the end, the others are free as before
pub still_free : (ds : List Definition) (d : Definition) (rest : List Definition) → AllByRecursion (IsFree ds) rest → AllByRecursion (λ k. same_key (key_in d) k ≡ false) (keys rest) → AllByRecursion (IsFree (ds ++ d ∷ [])) rest
still_free ds d [] free apart = tt
still_free ds d (e ∷ rest) free apart =
    (list_any-append (is_named e.name e.scope) ds (d ∷ []) ∙ ap₂ (λ a b. a || (b || false)) free.0 apart.0, still_free ds d rest free.1 apart.1)

module _ {X : Type 0} where
  pub taken_first : (front xs : List X) (x : X) → take (length front) xs ≡ front → take (length front) (xs ++ x ∷ []) ≡ front
  taken_first [] xs x e = refl
  taken_first (y ∷ front) [] x e = cc
  taken_first (y ∷ front) (z ∷ xs) x e =
      let first : z ≡ y = cc in
      let rest : take (length front) xs ≡ front = cc in
      ap₂ ◌∷◌ first (taken_first front xs x rest)

-- ---- the others get their bodies

pub updated_first : (f : Definition → Definition) (at : ℕ) (ds more : List Definition) → at < length ds → updated_at f at (ds ++ more) ≡ updated_at f at ds ++ more
updated_first f at [] more lt = absurd (omega arith)
updated_first f zero (d ∷ ds) more lt = refl
updated_first f (suc at) (d ∷ ds) more lt = ap (λ rest. d ∷ rest) (updated_first f at ds more (omega arith))

with_bodies_first : (news : List NewBody) (ds more : List Definition) → AllByRecursion (λ new. new.at < length ds) news → with_bodies news (ds ++ more) ≡ with_bodies news ds ++ more
with_bodies_first [] ds more h = refl
with_bodies_first (new ∷ news) ds more h =
    ap (with_bodies news) (updated_first (with_body new.body) new.at ds more h.0)
    ∙ with_bodies_first news (updated_at (with_body new.body) new.at ds) more (subst (λ n. AllByRecursion (λ x. x.at < n) news) (sym (length_updated (with_body new.body) new.at ds)) h.1)

all_joined : {X : Type 0} (P : X → Type 0) (xs ys : List X) → AllByRecursion P xs → AllByRecursion P ys → AllByRecursion P (xs ++ ys)
all_joined P [] ys h k = k
all_joined P (x ∷ xs) ys h k = (h.0, all_joined P xs ys h.1 k)

within_more : (n m : ℕ) (news : List NewBody) → AllByRecursion (λ new. new.at < n) news → n ≤ m → AllByRecursion (λ new. new.at < m) news
within_more n m [] h le = tt
within_more n m (new ∷ news) h le = (omega (arith, h.0, le), within_more n m news h.1 le)

-- what was prepared for the first ones fits where others stand behind them
pub fits_first : (w : BodyRewrites) (ds more joined : List Definition) (more_may may : Bool) → FitsBodies w ds → may ≡ (w.may_dangle || more_may) → (more_may ≡ false → AllByRecursion HasFoundAll more) → joined ≡ ds ++ more
    → (with_bodies w.bodies.items joined ≡ with_bodies w.bodies.items ds ++ more) × FitsBodies (record w { may_dangle = may }) joined
fits_first w ds more joined more_may may fits both clean is =
    let news : List NewBody = w.bodies.items in
    let made : with_bodies news joined ≡ with_bodies news ds ++ more = ap (with_bodies news) is ∙ with_bodies_first news ds more fits.within in (
      made,
      record {
        within = subst (λ xs. AllByRecursion (λ (new : NewBody). new.at < length xs) news) (sym is) (within_more (length ds) (length (ds ++ more)) news fits.within (omega (arith, length-append ds more)));
        dangles = λ e.
            let parts = or_parts w.may_dangle more_may (sym both ∙ e) in
            subst (AllByRecursion HasFoundAll) (sym made) (all_joined HasFoundAll (with_bodies news ds) more (fits.dangles parts.0) (clean parts.1));
      },
    )

-- ---- the first ones stay

place_taken : (q : NameKey) (n : ℕ) (ds : List Definition) → index_with_key q (take n ds) ≡ option_filter (λ p. ltb p n) (index_with_key q ds)
place_taken q zero ds = none_below (index_with_key q ds)
  where
    none_below : (place : Option ℕ) → None ≡ option_filter (λ p. ltb p 0) place
    none_below None = refl
    none_below (Some p) = let e : ltb p 0 ≡ false = grind (arith, nat_tests) in ap (λ b. cond b (Some p) None) (sym e)
place_taken q (suc n) [] = refl
place_taken q (suc n) (d ∷ ds) = ap (λ place. cond (same_key (key_in d) q) (Some 0) (option_map suc place)) (place_taken q n ds) ∙ step (same_key (key_in d) q) (index_with_key q ds)
  where
    step : (b : Bool) (place : Option ℕ) → cond b (Some 0) (option_map suc (option_filter (λ p. ltb p n) place)) ≡ option_filter (λ p. ltb p (suc n)) (cond b (Some 0) (option_map suc place))
    step true place = let e : ltb 0 (suc n) ≡ true = grind (arith, nat_tests) in ap (λ b. cond b (Some 0) None) (sym e)
    step false None = refl
    step false (Some p) = let e : ltb p n ≡ ltb (suc p) (suc n) = grind (arith, nat_tests) in later (ltb p n) ∙ ap (λ b. cond b (Some (suc p)) None) e
      where
        later : (t : Bool) → option_map suc (cond t (Some p) None) ≡ cond t (Some (suc p)) None
        later true = refl
        later false = refl

module _ {X : Type 0} where
  pub all_taken : (P : X → Type 0) (n : ℕ) (xs : List X) → AllByRecursion P xs → AllByRecursion P (take n xs)
  all_taken P zero xs h = tt
  all_taken P (suc n) [] h = tt
  all_taken P (suc n) (x ∷ xs) h = (h.0, all_taken P n xs h.1)

  distinct_taken : (same : X → X → Bool) (n : ℕ) (xs : List X) → IsDistinct same xs → IsDistinct same (take n xs)
  unfolding IsDistinct
  distinct_taken same zero xs h = tt
  distinct_taken same (suc n) [] h = tt
  distinct_taken same (suc n) (x ∷ xs) h = IsDistinct-cons same x (take n xs) (all_taken (λ y. same x y ≡ false) n xs (IsDistinct-head same x xs h)) (distinct_taken same n xs (IsDistinct-tail same x xs h))

pub finds_taken : (before after : Places) (n : ℕ) (ds list : List Definition) → FindsNames before ds → IsOrdered held_cmp before → after.entries ≡ filter (λ e. ltb e.1 n) before.entries → list ≡ take n ds → FindsNames after list
finds_taken before after n ds list finds ordered left is q =
    taken_by_values before after (λ p. ltb p n) ordered left q
    ∙ ap (option_filter (λ p. ltb p n)) (finds q)
    ∙ sym (place_taken q n ds)
    ∙ ap (index_with_key q) (sym is)

pub named_taken : (last now_last n : ℕ) (may : Bool) (ds list : List Definition) → AreNamed last may ds → now_last ≡ greatest (scopes_of list) → list ≡ take n ds → AreNamed now_last may list
named_taken last now_last n may ds list named most is = record {
  differ = subst (λ xs. IsDistinct same_key (keys xs)) (sym is) (subst (IsDistinct same_key) (take-map key_in n ds) (distinct_taken same_key n (keys ds) named.differ));
  greatest = most;
  dangles = λ e. subst (AllByRecursion HasFoundAll) (sym is) (all_taken HasFoundAll n ds (named.dangles e));
}
