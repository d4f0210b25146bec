-- Rewriting the formulas of a pool, one after another.
use Rattle.std.proofs.Common.{◌≡◌, ◌<◌, ◌≤◌, ◌+◌, ◌-◌, ℕ, zero, suc, List, [], ◌∷◌, ◌++◌, Bool, true, false, cond, ◌||◌, Option, Some, None, option_map, refl, sym, ap, ap₂, subst, ◌∙◌, map, length, take, drop, get_or, set, arith, append_assoc, append-nil, ◌⊎◌, inl, inr}
use Rattle.std.specs.Prelude.{MatchOption, nat_eq}
use Rattle.std.specs.List.{AllByRecursion, slice_get}
use Rattle.std.proofs.lemmas.Bool.{cases_lt, eqb-true}
use Rattle.std.proofs.lemmas.List.{drop_all, drop_more, length-map, length-take, map_more, set_at, take_all, take_more}
use Rattle.std.proofs.lemmas.Option.{get_or_from_slice_get, slice_get_within}
use Rattle.ic_laws.specs.declared.tree.Formula.{Formula}
use Rattle.ic_pool.specs.Code.{code}
use Rattle.ic_pool.specs.MentionPlaces.{AscendFrom, HasPassing}
use Rattle.ic_pool.specs.Pool.{is_among, places_where}
use Rattle.ic_pool.specs.Rewrites.{FitsPool, IsNoted, IsNotedAt, KnowsOldKeys, RewritesState, changed_by, is_key_among, keys_of, old_places, places_of, replaced_from, rewritten_by}
use Rattle.ic_pool.specs.declared.pool.rewrites.Replacement.{Replacement}
use Rattle.ic_pool.proofs.IndexLemmas.{places_from-push}
use Rattle.ic_pool.proofs.KeyLemmas.{clash}
use Rattle.ic_pool.proofs.ListedLemmas.{above, below, key_passes, olds_from, olds_from-push, olds_keys, olds_own, olds_places, passes_there, replaced_from-push, replaced_places}

-- a change behind others is made after them
changed_by-push : (changes : List Replacement) (change : Replacement) (formulas : List Formula) → changed_by (changes ++ change ∷ []) formulas ≡ set (changed_by changes formulas) change.at change.formula
changed_by-push [] change formulas = refl
changed_by-push (first ∷ changes) change formulas = changed_by-push changes change (set formulas first.at first.formula)

all-push : {X : Type 0} (P : X → Type 0) (xs : List X) (x : X) → AllByRecursion P xs → P x → AllByRecursion P (xs ++ x ∷ [])
all-push P [] x h p = (p, tt)
all-push P (y ∷ xs) x h p = (h.0, all-push P xs x h.1 p)

module _ (f : Formula → Formula) (test : Formula → Bool) (formulas : List Formula) where
  abbrev Within : Replacement → Type 0
  Within change = change.at < length formulas

  -- the formulas before this place are rewritten, the others are as they were
  pub record RewrittenTo (i : ℕ) (s : RewritesState) : Type 0 where
    pub made : rewritten_by s formulas ≡ map f (take i formulas) ++ drop i formulas
    pub within : AllByRecursion Within s.changes
    pub changes : s.changes ≡ replaced_from test f 0 (take i formulas)
    pub places : s.keeps_keys ≡ true → s.places ≡ places_where test (take i formulas)
    pub olds : s.keeps_keys ≡ true → s.old_keys ≡ olds_from test 0 (take i formulas)

  -- all are rewritten, and the changes are those of the ones that pass
  pub record Rewritten (s : RewritesState) : Type 0 where
    pub made : rewritten_by s formulas ≡ map f formulas
    pub changes : s.changes ≡ replaced_from test f 0 formulas
    pub listed : places_of s.changes ≡ places_where test formulas
    pub fits : FitsPool s formulas

  pub rewritten_end : (i : ℕ) (s : RewritesState) → RewrittenTo i s → length formulas ≤ i → Rewritten s
  rewritten_end i s done end =
      let all : take i formulas ≡ formulas = take_all i formulas end in
      let made : rewritten_by s formulas ≡ map f formulas =
      done.made ∙ ap₂ (λ a b. map f a ++ b) all (drop_all i formulas end) ∙ append-nil (map f formulas) in
      let changes : s.changes ≡ replaced_from test f 0 formulas = done.changes ∙ ap (replaced_from test f 0) all in
      let listed : places_of s.changes ≡ places_where test formulas = ap places_of changes ∙ replaced_places test f 0 formulas in
      record {
        made = made;
        changes = changes;
        listed = listed;
        fits = record {
          within = done.within;
          known = λ kept. known listed (done.places kept ∙ ap (places_where test) all) (done.olds kept ∙ ap (olds_from test 0) all);
        };
      }
    where
      its : (k : ℕ) (y : Formula) → slice_get formulas k ≡ Some y → slice_get formulas (0 + k) ≡ Some y
      its k y e = subst (λ n. slice_get formulas n ≡ Some y) (let n : k ≡ 0 + k = omega arith in n) e

      known : places_of s.changes ≡ places_where test formulas → s.places ≡ places_where test formulas → s.old_keys ≡ olds_from test 0 formulas
          → KnowsOldKeys s formulas
      known listed places olds = record {
        places = places ∙ sym listed;
        stand = ap old_places olds ∙ olds_places test 0 formulas ∙ sym listed;
        own = subst (AllByRecursion (λ old. option_map code (slice_get formulas old.at) ≡ Some old.key)) (sym olds)
            (olds_own test formulas 0 formulas its);
        together = λ at x e.
            ap (is_key_among (code x)) (ap keys_of olds ∙ olds_keys test 0 formulas) ∙ key_passes test formulas at x e
            ∙ sym (ap (is_among at) listed ∙ passes_there test formulas at x e);
      }

  module _ (i next : ℕ) (x : Formula) (s t : RewritesState) (is_next : i + 1 ≡ next) (below : i < length formulas) (item : x ≡ get_or formulas i x) where
    front : List Formula
    front = map f (take i formulas)

    length-front : length front ≡ i
    unfolding front
    length-front = length-map (take i formulas) f ∙ omega (arith, length-take i formulas)

    rest : drop i formulas ≡ x ∷ drop next formulas
    rest = drop_more formulas i x below ∙ ap₂ (λ y n. y ∷ drop n formulas) (sym item) is_next

    more : map f (take next formulas) ≡ front ++ f x ∷ []
    unfolding front
    more = ap (λ n. map f (take n formulas)) (sym is_next) ∙ map_more f formulas i x below ∙ ap (λ y. front ++ f y ∷ []) (sym item)

    seam : front ++ f x ∷ drop next formulas ≡ map f (take next formulas) ++ drop next formulas
    seam = sym (append_assoc front (f x ∷ []) (drop next formulas)) ∙ ap (λ xs. xs ++ drop next formulas) (sym more)

    step_made : RewrittenTo i s → ((f x ≡ x) × (t.changes ≡ s.changes)) ⊎ (t.changes ≡ s.changes ++ record { at = i; formula = f x } ∷ []) → rewritten_by t formulas ≡ map f (take next formulas) ++ drop next formulas
    unfolding front
    step_made done (inl same) = ap (λ changes. changed_by changes formulas) same.1 ∙ done.made ∙ ap (λ xs. front ++ xs) (rest ∙ ap (λ y. y ∷ drop next formulas) (sym same.0)) ∙ seam
    step_made done (inr put) =
        ap (λ changes. changed_by changes formulas) put ∙ changed_by-push s.changes (record { at = i; formula = f x }) formulas
        ∙ ap (λ xs. set xs i (f x)) (done.made ∙ ap (λ xs. front ++ xs) rest) ∙ set_at front x (drop next formulas) (f x) i length-front ∙ seam

    step_within : RewrittenTo i s → ((f x ≡ x) × (t.changes ≡ s.changes)) ⊎ (t.changes ≡ s.changes ++ record { at = i; formula = f x } ∷ []) → AllByRecursion Within t.changes
    step_within done (inl same) = subst (AllByRecursion Within) (sym same.1) done.within
    step_within done (inr put) = subst (AllByRecursion Within) (sym put) (all-push Within s.changes (record { at = i; formula = f x }) done.within below)

    one_more : take next formulas ≡ take i formulas ++ x ∷ []
    one_more = ap (λ n. take n formulas) (sym is_next) ∙ take_more formulas i x below ∙ ap (λ y. take i formulas ++ y ∷ []) (sym item)

    counted : i ≡ 0 + length (take i formulas)
    counted = let before : length (take i formulas) ≡ i = omega (arith, length-take i formulas) in omega (arith, before)

    -- it stays, or its change stands behind the others
    either : IsNoted i x (f x) (test x) s t → (b : Bool) → test x ≡ b → ((f x ≡ x) × (t.changes ≡ s.changes)) ⊎ (t.changes ≡ s.changes ++ record { at = i; formula = f x } ∷ [])
    either noted true passes = inr (noted.change ∙ ap (λ b. s.changes ++ cond b (record { at = i; formula = f x } ∷ []) []) passes)
    either noted false fails = inl (noted.same fails, noted.change ∙ ap (λ b. s.changes ++ cond b (record { at = i; formula = f x } ∷ []) []) fails ∙ append-nil s.changes)

    pub rewritten_step : RewrittenTo i s → IsNoted i x (f x) (test x) s t → RewrittenTo next t
    unfolding front
    rewritten_step done noted = record {
      made = step_made done (either noted (test x) refl);
      within = step_within done (either noted (test x) refl);
      changes = noted.change ∙ ap₂ (λ changes n. changes ++ cond (test x) (record { at = n; formula = f x } ∷ []) []) done.changes counted
          ∙ sym (ap (replaced_from test f 0) one_more ∙ replaced_from-push test f 0 (take i formulas) x);
      places = λ kept. let was = sym noted.keeps ∙ kept in
          noted.listed was ∙ ap₂ (λ ps n. ps ++ cond (test x) (n ∷ []) []) (done.places was) counted
          ∙ sym (ap (places_where test) one_more ∙ places_from-push test 0 (take i formulas) x);
      olds = λ kept. let was = sym noted.keeps ∙ kept in
          noted.key was ∙ ap₂ (λ os n. os ++ cond (test x) (record { at = n; key = code x } ∷ []) []) (done.olds was) counted
          ∙ sym (ap (olds_from test 0) one_more ∙ olds_from-push test 0 (take i formulas) x);
    }

  -- ---- where those that pass stand at some places

  -- those of the formulas that pass, from one place on, are among the places that are left, which ascend
  pub record Awaits (i : ℕ) (ps : List ℕ) : Type 0 where
    pub ascend : AscendFrom i ps
    pub passing : (k : ℕ) (x : Formula) → i ≤ k → slice_get formulas k ≡ Some x → test x ≡ true → is_among k ps ≡ true

  -- the formulas up to some place are rewritten, and the others await
  pub record RewrittenSoFar (ps : List ℕ) (s : RewritesState) : Type 0 where
    pub i : ℕ
    pub done : RewrittenTo i s
    pub awaits : Awaits i ps

  ascend_later : (i j : ℕ) (ps : List ℕ) → i ≤ j → AscendFrom j ps → AscendFrom i ps
  ascend_later i j [] le h = tt
  ascend_later i j (p ∷ ps) le h = (let first = h.0 in omega (arith, le, first), h.1)

  -- before the first
  not_begun : (s : RewritesState) → s.changes ≡ [] → s.places ≡ [] → s.old_keys ≡ [] → RewrittenTo 0 s
  not_begun s no_changes no_places no_keys = record {
    made = ap (λ changes. changed_by changes formulas) no_changes;
    within = subst (AllByRecursion Within) (sym no_changes) tt;
    changes = no_changes;
    places = λ kept. no_places;
    olds = λ kept. no_keys;
  }

  module _ (leaves : (k : ℕ) (x : Formula) → slice_get formulas k ≡ Some x → test x ≡ false → f x ≡ x) where
    stays : (i : ℕ) (x : Formula) (s : RewritesState) → f x ≡ x → test x ≡ false → IsNoted i x (f x) (test x) s s
    stays i x s same fails = record {
      same = λ e. same;
      change = sym (append-nil s.changes) ∙ ap (λ b. s.changes ++ cond b (record { at = i; formula = f x } ∷ []) []) (sym fails);
      keeps = refl;
      listed = λ kept. sym (append-nil s.places) ∙ ap (λ b. s.places ++ cond b (i ∷ []) []) (sym fails);
      key = λ kept. sym (append-nil s.old_keys) ∙ ap (λ b. s.old_keys ++ cond b (record { at = i; key = code x } ∷ []) []) (sym fails);
    }

    item_at : (xs : List Formula) (i : ℕ) → i < length xs → (x : Formula) × (slice_get xs i ≡ Some x)
    item_at [] i lt = absurd (omega arith)
    item_at (x ∷ xs) zero lt = (x, refl)
    item_at (x ∷ xs) (suc i) lt = item_at xs i (omega arith)

    -- past some that fail
    past : (n i : ℕ) (s : RewritesState) → RewrittenTo i s → i + n ≤ length formulas → ((k : ℕ) (x : Formula) → i ≤ k → k < i + n → slice_get formulas k ≡ Some x → test x ≡ false) → RewrittenTo (i + n) s
    past zero i s done within fail = subst (λ k. RewrittenTo k s) (let e : i ≡ i + 0 = omega arith in e) done
    past (suc n) i s done within fail =
        let below : i < length formulas = omega (arith, within) in
        let item = item_at formulas i below in
        let fails = fail i item.0 (omega arith) (omega arith) item.1 in
        let at : item.0 ≡ get_or formulas i item.0 = sym (get_or_from_slice_get formulas i item.0 item.0 item.1) in
        let is_next : i + 1 ≡ suc i = omega arith in
        let one = rewritten_step i (suc i) item.0 s s is_next below at done (stays i item.0 s (leaves i item.0 item.1 fails) fails) in
        let rest = past n (suc i) s one (omega (arith, within)) (λ k x le lt. fail k x (omega (arith, le)) (omega (arith, lt))) in
        subst (λ k. RewrittenTo k s) (let e : suc i + n ≡ i + suc n = omega arith in e) rest

    past_to : (i at : ℕ) (s : RewritesState) → RewrittenTo i s → i ≤ at → at ≤ length formulas → ((k : ℕ) (x : Formula) → i ≤ k → k < at → slice_get formulas k ≡ Some x → test x ≡ false) → RewrittenTo at s
    past_to i at s done le within fail =
        let whole : i + (at - i) ≡ at = omega (arith, le) in
        subst (λ k. RewrittenTo k s) whole
        (past (at - i) i s done (omega (arith, whole, within)) (λ k x from to. fail k x from (omega (arith, whole, to))))

    none_passes : (i : ℕ) (ps : List ℕ) → Awaits i ps → (k : ℕ) (x : Formula) → i ≤ k → slice_get formulas k ≡ Some x → is_among k ps ≡ false → test x ≡ false
    none_passes i ps awaits k x from is other = by_test (test x) refl
      where
        by_test : (b : Bool) → test x ≡ b → test x ≡ false
        by_test false fails = fails
        by_test true passes = absurd (clash (is_among k ps) (awaits.passing k x from is passes) other)

    below_all : (i at k : ℕ) (ps : List ℕ) → AscendFrom at ps → k < at → is_among k ps ≡ false
    below_all i at k [] h lt = refl
    below_all i at k (p ∷ ps) h lt =
        ap₂ (λ a b. a || b) (below k p (let le = h.0 in omega (arith, le, lt)) (nat_eq k p) refl) (below_all i (suc p) k ps h.1 (let le = h.0 in omega (arith, le, lt)))

    not_here : (k p : ℕ) (ps : List ℕ) → nat_eq k p ≡ false → is_among k (p ∷ ps) ≡ true → is_among k ps ≡ true
    not_here k p ps other e = sym (ap (λ b. b || is_among k ps) other) ∙ e

    -- the first of the places that are left was looked at
    pub one_looked : (left : List ℕ) (at : ℕ) (ps : List ℕ) (s t : RewritesState) → left ≡ at ∷ ps → RewrittenSoFar left s → IsNotedAt f test formulas at s t → RewrittenSoFar ps t
    one_looked left at ps s t begins before noted = by_item (slice_get formulas at) refl noted
      where
        so_far : RewrittenSoFar (at ∷ ps) s
        so_far = subst (λ qs. RewrittenSoFar qs s) begins before

        here : RewrittenTo so_far.i s
        here = so_far.done

        from : so_far.i ≤ at
        from = so_far.awaits.ascend.0

        further : AscendFrom (suc at) ps
        further = so_far.awaits.ascend.1

        by_item : (o : Option Formula) → slice_get formulas at ≡ o → MatchOption o (t ≡ s) (λ x. IsNoted at x (f x) (test x) s t) → RewrittenSoFar ps t
        by_item None is same = record {
          i = so_far.i;
          done = subst (RewrittenTo so_far.i) (sym same) here;
          awaits = record {
            ascend = ascend_later so_far.i (suc at) ps (omega (arith, from)) further;
            passing = λ k x le e passes. not_here k at ps (apart_from k x e (nat_eq k at) refl) (so_far.awaits.passing k x le e passes);
          };
        }
          where
            apart_from : (k : ℕ) (x : Formula) → slice_get formulas k ≡ Some x → (b : Bool) → nat_eq k at ≡ b → nat_eq k at ≡ false
            apart_from k x e true equal = let no : None ≡ Some x = sym is ∙ ap (slice_get formulas) (sym (eqb-true k at equal)) ∙ e in cc
            apart_from k x e false other = other
        by_item (Some x) is seen =
            let below = slice_get_within formulas at x is in
            let arrived = past_to so_far.i at s here from (omega (arith, below)) (λ k y le lt e. none_passes so_far.i (at ∷ ps) so_far.awaits k y le e (below_all 0 at k (at ∷ ps) (omega arith, further) lt)) in
            let item : x ≡ get_or formulas at x = sym (get_or_from_slice_get formulas at x x is) in
            let is_next : at + 1 ≡ suc at = omega arith in
            record {
              i = suc at;
              done = rewritten_step at (suc at) x s t is_next below item arrived seen;
              awaits = record {
                ascend = further;
                passing = λ k y le e passes. not_here k at ps (above k at (omega (arith, le)) (nat_eq k at) refl) (so_far.awaits.passing k y (omega (arith, from, le)) e passes);
              };
            }

    -- and none is left
    pub all_looked : (left : List ℕ) (s : RewritesState) → left ≡ [] → RewrittenSoFar left s → Rewritten s
    all_looked left s none before = by_end (cases_lt so_far.i (length formulas))
      where
        so_far : RewrittenSoFar [] s
        so_far = subst (λ qs. RewrittenSoFar qs s) none before

        by_end : (so_far.i < length formulas) ⊎ (length formulas ≤ so_far.i) → Rewritten s
        by_end (inr end) = rewritten_end so_far.i s so_far.done end
        by_end (inl more) =
            rewritten_end (length formulas) s
            (past_to so_far.i (length formulas) s so_far.done (omega (arith, more)) (omega arith) (λ k x le lt e. none_passes so_far.i [] so_far.awaits k x le e refl)) (omega arith)

    -- where none passes there is nothing to do
    pub none_changed : (s : RewritesState) → s.changes ≡ [] → s.places ≡ [] → s.old_keys ≡ [] → ((k : ℕ) (x : Formula) → slice_get formulas k ≡ Some x → test x ≡ false) → Rewritten s
    none_changed s no_changes no_places no_keys fail = all_looked [] s refl (record {
      i = 0;
      done = not_begun s no_changes no_places no_keys;
      awaits = record { ascend = tt; passing = λ k x le e passes. absurd (clash (test x) passes (fail k x e)) };
    })

  -- where all await
  pub none_looked : (places : List ℕ) (s : RewritesState) → s.changes ≡ [] → s.places ≡ [] → s.old_keys ≡ [] → AscendFrom 0 places
      → HasPassing test places formulas → RewrittenSoFar places s
  none_looked places s no_changes no_places no_keys ascend has = record {
    i = 0;
    done = not_begun s no_changes no_places no_keys;
    awaits = record { ascend = ascend; passing = λ k x le e passes. has k x e passes };
  }
