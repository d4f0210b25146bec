-- A look-up that lacks the formulas at some places.
use Rattle.std.proofs.Common.{◌≡◌, ℕ, zero, suc, ◌<◌, ◌≤◌, ◌+◌, List, [], ◌∷◌, ◌++◌, Bool, true, false, cond, ◌||◌, Option, Some, None, option_map, refl, sym, ap, ap₂, subst, ◌∙◌, bytes_eq, set, length, take, drop, get_or, ◌&&◌, arith}
use Rattle.std.specs.Prelude.{MatchOption, nat_eq}
use Rattle.std.specs.BTreeMap.{get}
use Rattle.std.specs.List.{AllByRecursion, slice_get}
use Rattle.std.specs.Ordering.{nat_cmp}
use Rattle.std.proofs.lemmas.Bool.{eq-eqb, eqb-true, or_parts}
use Rattle.std.proofs.lemmas.List.{drop_all, drop_more, take_at}
use Rattle.std.proofs.lemmas.List.Folds.{list_any-append}
use Rattle.std.proofs.lemmas.Slice.Eq.{bytes_eq-Decides}
use Rattle.ic_laws.specs.declared.tree.Formula.{Formula}
use Rattle.ic_pool.specs.Code.{code}
use Rattle.ic_pool.specs.Hash.{hash_of, key_cmp}
use Rattle.ic_pool.specs.LookUp.{AreHashed, IsEmpty, IsLeftOut, apart_from, checked, first_of, found, has_key}
use Rattle.ic_pool.specs.Pool.{IsLookUp, KeepsPlaces, KnowsRest, first_place, is_among}
use Rattle.ic_pool.specs.Rewrites.{AreOut, FitsPool, KnowsOldKeys, RewritesState, left_by_hash, left_by_key, changed_by, is_key_among, keys_of, old_places, places_of, rewritten_by}
use Rattle.ic_pool.specs.declared.pool.rewrites.OldKey.{OldKey}
use Rattle.ic_pool.specs.declared.pool.rewrites.Replacement.{Replacement}
use Rattle.ic_pool.specs.declared.look_up.LookUp.{LookUp}
use Rattle.ic_pool.proofs.FoundLemmas.{empty_hashed, same_both}
use Rattle.ic_pool.proofs.KeyLemmas.{clash}
use Rattle.ic_pool.proofs.PlacedLemmas.{Finds}
use Rattle.ic_laws.proofs.General.{bytes_eq-flip}

abbrev Index : Type 0
Index = List ℕ → Option ℕ

abbrev at_key : Index → List ℕ → Option ℕ
at_key index key = index key

-- ---- first places

pub first_is_there : (key : List ℕ) (xs : List Formula) (at : ℕ) → first_place key xs ≡ Some at → option_map code (slice_get xs at) ≡ Some key
first_is_there key [] at e = cc
first_is_there key (x ∷ xs) at e = by_test (bytes_eq key (code x)) refl e (λ n f. first_is_there key xs n f)
  where
    further : (o : Option ℕ) → first_place key xs ≡ o → option_map suc o ≡ Some at → ((n : ℕ) → first_place key xs ≡ Some n → option_map code (slice_get xs n) ≡ Some key) → option_map code (slice_get (x ∷ xs) at) ≡ Some key
    further None f g rest = cc
    further (Some n) f g rest = let next : suc n ≡ at = cc in subst (λ k. option_map code (slice_get (x ∷ xs) k) ≡ Some key) next (rest n f)

    by_test : (b : Bool) → bytes_eq key (code x) ≡ b → cond b (Some 0) (option_map suc (first_place key xs)) ≡ Some at → ((n : ℕ) → first_place key xs ≡ Some n → option_map code (slice_get xs n) ≡ Some key) → option_map code (slice_get (x ∷ xs) at) ≡ Some key
    by_test true same f rest =
        let here : zero ≡ at = cc in
        subst (λ k. option_map code (slice_get (x ∷ xs) k) ≡ Some key) here (ap (λ k. Some k) (sym ((bytes_eq-Decides key (code x)).0 same)))
    by_test false other f rest = further (first_place key xs) refl f rest

pub first_up_to : (xs : List Formula) (at : ℕ) (x : Formula) → slice_get xs at ≡ Some x → (first : ℕ) × (first ≤ at) × (first_place (code x) xs ≡ Some first)
first_up_to [] at x e = cc
first_up_to (y ∷ xs) zero x e =
    let same : y ≡ x = cc in
    (zero, omega arith, ap (λ b. cond b (Some 0) (option_map suc (first_place (code x) xs))) ((bytes_eq-Decides (code x) (code y)).1 (ap code (sym same))))
first_up_to (y ∷ xs) (suc at) x e = by_test (bytes_eq (code x) (code y)) (first_up_to xs at x e)
  where
    by_test : (b : Bool) → (first : ℕ) × (first ≤ at) × (first_place (code x) xs ≡ Some first) → (first : ℕ) × (first ≤ suc at) × (cond b (Some 0) (option_map suc (first_place (code x) xs)) ≡ Some first)
    by_test true rest = (zero, omega arith, refl)
    by_test false rest = (suc rest.0, omega (arith, rest.1), ap (option_map suc) rest.2)

-- ---- whole or not

pub whole_knows : (index : Index) (late : List ℕ) (xs : List Formula) → KeepsPlaces index xs → KnowsRest index late xs
whole_knows index late xs kept = record {
  is_true = λ key at e. first_is_there key xs at (sym (kept.finds key) ∙ e);
  has_rest = λ at x e l. let first = first_up_to xs at x e in (first.0, first.1, kept.finds (code x) ∙ first.2);
}

there : (o : Option Formula) (key : List ℕ) → option_map code o ≡ Some key → (x : Formula) × (o ≡ Some x) × (code x ≡ key)
there None key e = cc
there (Some x) key e = (x, refl, cc)

pub knows_whole : (index : Index) (xs : List Formula) → KnowsRest index [] xs → KeepsPlaces index xs
knows_whole index xs knows = record { finds = λ key. same key (at_key index key) refl (first_place key xs) refl }
  where
    -- a formula that is there with this key is found
    found : (key : List ℕ) (x : Formula) (k : ℕ) → slice_get xs k ≡ Some x → code x ≡ key → (f : ℕ) × (f ≤ k) × (at_key index key ≡ Some f)
    found key x k e is = let has = knows.has_rest k x e refl in (has.0, has.1, ap (at_key index) (sym is) ∙ has.2)

    same : (key : List ℕ) (o : Option ℕ) → at_key index key ≡ o → (p : Option ℕ) → first_place key xs ≡ p → at_key index key ≡ first_place key xs
    same key None e None f = e ∙ sym f
    same key None e (Some j) f =
        let x = there (slice_get xs j) key (first_is_there key xs j f) in
        let has = found key x.0 j x.1 x.2 in
        let no : None ≡ Some has.0 = sym e ∙ has.2 in cc
    same key (Some k) e None f =
        let x = there (slice_get xs k) key (knows.is_true key k e) in
        let first = first_up_to xs k x.0 x.1 in
        let no : None ≡ Some first.0 = sym f ∙ ap (λ q. first_place q xs) (sym x.2) ∙ first.2 in cc
    same key (Some k) e (Some j) f =
        let x = there (slice_get xs k) key (knows.is_true key k e) in
        let first = first_up_to xs k x.0 x.1 in
        let y = there (slice_get xs j) key (first_is_there key xs j f) in
        let has = found key y.0 j y.1 y.2 in
        let one : Some k ≡ Some has.0 = sym e ∙ has.2 in
        let two : Some j ≡ Some first.0 = sym f ∙ ap (λ q. first_place q xs) (sym x.2) ∙ first.2 in
        let k_is : k ≡ has.0 = cc in
        let j_is : j ≡ first.0 = cc in
        let equal : k ≡ j = omega (arith, has.1, first.1, k_is, j_is) in
        e ∙ ap (λ n. Some n) equal ∙ sym f

-- ---- a late place is put in

module _ (before : Index) (at : ℕ) (xs : List Formula) (late : List ℕ) (knows : KnowsRest before (at ∷ late) xs) where
  past : (k : ℕ) (y : Formula) → slice_get xs k ≡ Some y → is_among k late ≡ false → nat_eq k at ≡ false → (first : ℕ) × (first ≤ k) × (at_key before (code y) ≡ Some first)
  past k y e l other = knows.has_rest k y e (ap₂ (λ a b. a || b) other l)

  -- past the end there is nothing to put in
  pub put_nothing : slice_get xs at ≡ None → KnowsRest before late xs
  put_nothing none = record { is_true = knows.is_true; has_rest = λ k y e l. by_test k y e l (nat_eq k at) refl }
    where
      by_test : (k : ℕ) (y : Formula) → slice_get xs k ≡ Some y → is_among k late ≡ false → (b : Bool) → nat_eq k at ≡ b → (first : ℕ) × (first ≤ k) × (at_key before (code y) ≡ Some first)
      by_test k y e l true same = let no : None ≡ Some y = sym none ∙ ap (slice_get xs) (sym (eqb-true k at same)) ∙ e in cc
      by_test k y e l false other = past k y e l other

  module _ (x : Formula) (is : slice_get xs at ≡ Some x) where
    same_item : (k : ℕ) (y : Formula) → slice_get xs k ≡ Some y → k ≡ at → y ≡ x
    same_item k y e same = let two : Some y ≡ Some x = sym e ∙ ap (slice_get xs) same ∙ is in cc

    -- an equal formula is found there or before
    pub put_before : (first : ℕ) → at_key before (code x) ≡ Some first → first ≤ at → KnowsRest before late xs
    put_before first found le = record { is_true = knows.is_true; has_rest = λ k y e l. by_test k y e l (nat_eq k at) refl }
      where
        by_test : (k : ℕ) (y : Formula) → slice_get xs k ≡ Some y → is_among k late ≡ false → (b : Bool) → nat_eq k at ≡ b → (first : ℕ) × (first ≤ k) × (at_key before (code y) ≡ Some first)
        by_test k y e l true same =
            let here = eqb-true k at same in
            (first, omega (arith, le, here), ap (λ z. at_key before (code z)) (same_item k y e here) ∙ found)
        by_test k y e l false other = past k y e l other

    -- none is, or one after it
    pub put_here : (after : Index) (key : List ℕ) → key ≡ code x → ((first : ℕ) → at_key before key ≡ Some first → at ≤ first) → Finds before after key (Some at) → KnowsRest after late xs
    put_here after key is_key earlier u = record {
      is_true = λ q k e. true_by_test q k e (bytes_eq key q) refl;
      has_rest = λ k y e l. rest_by_test k y e l (bytes_eq key (code y)) refl;
    }
      where
        now_at : (q : List ℕ) → at_key after q ≡ cond (bytes_eq key q) (Some at) (at_key before q)
        now_at q = u q

        true_by_test : (q : List ℕ) (k : ℕ) → at_key after q ≡ Some k → (b : Bool) → bytes_eq key q ≡ b → option_map code (slice_get xs k) ≡ Some q
        true_by_test q k e true same =
            let here : Some at ≡ Some k = sym (now_at q ∙ ap (λ b. cond b (Some at) (at_key before q)) same) ∙ e in
            let place : at ≡ k = cc in
            ap (λ n. option_map code (slice_get xs n)) (sym place) ∙ ap (option_map code) is ∙ ap (λ c. Some c) (sym is_key ∙ (bytes_eq-Decides key q).0 same)
        true_by_test q k e false other = knows.is_true q k (sym (now_at q ∙ ap (λ b. cond b (Some at) (at_key before q)) other) ∙ e)

        up_to : (k : ℕ) (y : Formula) → slice_get xs k ≡ Some y → is_among k late ≡ false → bytes_eq key (code y) ≡ true → (b : Bool) → nat_eq k at ≡ b → at ≤ k
        up_to k y e l same true here = let place = eqb-true k at here in omega (arith, place)
        up_to k y e l same false other =
            let has = past k y e l other in
            let le = earlier has.0 (ap (at_key before) ((bytes_eq-Decides key (code y)).0 same) ∙ has.2) in
            omega (arith, has.1, le)

        not_here : (k : ℕ) (y : Formula) → slice_get xs k ≡ Some y → bytes_eq key (code y) ≡ false → (b : Bool) → nat_eq k at ≡ b → nat_eq k at ≡ false
        not_here k y e other true here =
            absurd (clash (bytes_eq key (code y)) ((bytes_eq-Decides key (code y)).1 (is_key ∙ ap code (sym (same_item k y e (eqb-true k at here))))) other)
        not_here k y e other false here = here

        rest_by_test : (k : ℕ) (y : Formula) → slice_get xs k ≡ Some y → is_among k late ≡ false → (b : Bool) → bytes_eq key (code y) ≡ b → (first : ℕ) × (first ≤ k) × (at_key after (code y) ≡ Some first)
        rest_by_test k y e l true same = (at, up_to k y e l same (nat_eq k at) refl, now_at (code y) ∙ ap (λ b. cond b (Some at) (at_key before (code y))) same)
        rest_by_test k y e l false other =
            let has = past k y e l (not_here k y e other (nat_eq k at) refl) in
            (has.0, has.1, now_at (code y) ∙ ap (λ b. cond b (Some at) (at_key before (code y))) other ∙ has.2)

-- ---- formulas become others, whose keys were taken out

pub set_other : (xs : List Formula) (at : ℕ) (y : Formula) (k : ℕ) → nat_eq k at ≡ false → slice_get (set xs at y) k ≡ slice_get xs k
set_other [] at y k e = refl
set_other (x ∷ xs) zero y zero e = absurd (clash (nat_eq zero zero) (eq-eqb zero zero refl) e)
set_other (x ∷ xs) zero y (suc k) e = refl
set_other (x ∷ xs) (suc at) y zero e = refl
set_other (x ∷ xs) (suc at) y (suc k) e = set_other xs at y k (apart (nat_eq k at) refl)
  where
    apart : (b : Bool) → nat_eq k at ≡ b → nat_eq k at ≡ false
    apart true same = absurd (clash (nat_eq (suc k) (suc at)) (eq-eqb (suc k) (suc at) (ap suc (eqb-true k at same))) e)
    apart false other = other

pub stays : (changes : List Replacement) (xs : List Formula) (k : ℕ) → is_among k (places_of changes) ≡ false → slice_get (changed_by changes xs) k ≡ slice_get xs k
stays [] xs k e = refl
stays (c ∷ changes) xs k e =
    let parts = or_parts (nat_eq k c.at) (is_among k (places_of changes)) e in
    stays changes (set xs c.at c.formula) k parts.1 ∙ set_other xs c.at c.formula k parts.0

-- whether an equal formula is found at a place up to this one, as a test answers
abbrev Tells : Index → List ℕ → ℕ → Bool → Type 0
Tells index key at r = MatchOption (at_key index key) (r ≡ false) (λ first. (r ≡ true → first ≤ at) × (r ≡ false → at ≤ first))

module _ (before : Index) (at : ℕ) (xs : List Formula) (late : List ℕ) (knows : KnowsRest before (at ∷ late) xs) (x : Formula) (is : slice_get xs at ≡ Some x) (key : List ℕ) (is_key : key ≡ code x) (r : Bool) (tells : Tells before key at r) where
  pub put_before_it : r ≡ true → KnowsRest before late xs
  put_before_it e = by_option (at_key before key) refl tells
    where
      by_option : (o : Option ℕ) → at_key before key ≡ o → MatchOption o (r ≡ false) (λ first. (r ≡ true → first ≤ at) × (r ≡ false → at ≤ first)) → KnowsRest before late xs
      by_option None f t = absurd (clash r e t)
      by_option (Some first) f t = put_before before at xs late knows x is first (ap (at_key before) (sym is_key) ∙ f) (t.0 e)

  pub put_in_place : r ≡ false → (after : Index) → Finds before after key (Some at) → KnowsRest after late xs
  put_in_place e after u = put_here before at xs late knows x is after key is_key (λ first f. by_option (at_key before key) refl tells first f) u
    where
      by_option : (o : Option ℕ) → at_key before key ≡ o → MatchOption o (r ≡ false) (λ first. (r ≡ true → first ≤ at) × (r ≡ false → at ≤ first)) → (first : ℕ) → at_key before key ≡ Some first → at ≤ first
      by_option None f t first g = cc
      by_option (Some found) f t first g =
          let same : Some found ≡ Some first = sym f ∙ g in
          let equal : found ≡ first = cc in
          let le : at ≤ found = t.1 e in omega (arith, le, equal)

-- ---- formulas become others, and their places are late

not_taken : {X : Type 0} (b : Bool) (o : Option X) (x : X) → cond b None o ≡ Some x → (b ≡ false) × (o ≡ Some x)
not_taken true o x e = cc
not_taken false o x e = (refl, e)

pub taken_knows : (before after : Index) (late more : List ℕ) (w : RewritesState) (xs : List Formula) → KnowsRest before late xs → KnowsOldKeys w xs
    → ((key : List ℕ) → at_key after key ≡ cond (is_key_among key (keys_of w.old_keys)) None (at_key before key))
    → more ≡ late ++ w.places → KnowsRest after more (rewritten_by w xs)
taken_knows before after late more w xs knows known taken moved = record {
  is_true = λ key at e.
      let parts = not_taken (is_key_among key (keys_of w.old_keys)) (at_key before key) at (sym (taken key) ∙ e) in
      let x = there (slice_get xs at) key (knows.is_true key at parts.1) in
      let left : is_among at (places_of w.changes) ≡ false = sym (known.together at x.0 x.1) ∙ ap (λ k. is_key_among k (keys_of w.old_keys)) x.2 ∙ parts.0 in
      ap (option_map code) (stays w.changes xs at left) ∙ knows.is_true key at parts.1;
  has_rest = λ at y e l.
      let parts = or_parts (is_among at late) (is_among at w.places) (sym (list_any-append (nat_eq at) late w.places) ∙ ap (is_among at) (sym moved) ∙ l) in
      let left : is_among at (places_of w.changes) ≡ false = ap (is_among at) (sym known.places) ∙ parts.1 in
      let is = sym (stays w.changes xs at left) ∙ e in
      let has = knows.has_rest at y is parts.0 in
      (has.0, has.1, taken (code y) ∙ ap (λ b. cond b None (at_key before (code y))) (known.together at y is ∙ left) ∙ has.2);
}

-- ---- what is left of a look-up after the keys of changed formulas were taken out

none_left_by_hash : (olds : List OldKey) (hash : ℕ) → left_by_hash olds hash None ≡ None
none_left_by_hash [] hash = refl
none_left_by_hash (o ∷ olds) hash = ap (left_by_hash olds hash) (either (nat_eq (hash_of o.key) hash)) ∙ none_left_by_hash olds hash
  where
    either : (b : Bool) → cond b (apart_from o.at None) None ≡ None
    either true = refl
    either false = refl

apart_stays : (b : Bool) (at k : ℕ) → nat_eq k at ≡ false → cond b (apart_from at (Some k)) (Some k) ≡ Some k
apart_stays true at k other = ap (λ c. cond c None (Some k)) other
apart_stays false at k other = refl

others_left_by_hash : (olds : List OldKey) (hash k : ℕ) → is_among k (old_places olds) ≡ false → left_by_hash olds hash (Some k) ≡ Some k
others_left_by_hash [] hash k e = refl
others_left_by_hash (o ∷ olds) hash k e =
    let parts = or_parts (nat_eq k o.at) (is_among k (old_places olds)) e in
    ap (left_by_hash olds hash) (apart_stays (nat_eq (hash_of o.key) hash) o.at k parts.0) ∙ others_left_by_hash olds hash k parts.1

gone_by_hash : (olds : List OldKey) (xs : List Formula) (hash k : ℕ) → AllByRecursion (λ old. option_map code (slice_get xs old.at) ≡ Some old.key) olds
    → option_map (λ x. hash_of (code x)) (slice_get xs k) ≡ Some hash → is_among k (old_places olds) ≡ true → left_by_hash olds hash (Some k) ≡ None
gone_by_hash [] xs hash k own its e = cc
gone_by_hash (o ∷ olds) xs hash k own its e = by_test (λ f. gone_by_hash olds xs hash k own.1 its f) (nat_eq k o.at) refl
  where
    by_test : (is_among k (old_places olds) ≡ true → left_by_hash olds hash (Some k) ≡ None) → (b : Bool) → nat_eq k o.at ≡ b → left_by_hash (o ∷ olds) hash (Some k) ≡ None
    by_test later true same =
        let place : k ≡ o.at = eqb-true k o.at same in
        let x = there (slice_get xs o.at) o.key own.0 in
        let one : Some (hash_of (code x.0)) ≡ Some hash = ap (option_map (λ z. hash_of (code z))) (sym (ap (slice_get xs) place ∙ x.1)) ∙ its in
        let equal : hash_of (code x.0) ≡ hash = cc in
        ap₂ (λ b d. left_by_hash olds hash (cond b (cond d None (Some k)) (Some k))) (eq-eqb (hash_of o.key) hash (ap hash_of (sym x.2) ∙ equal)) same
        ∙ none_left_by_hash olds hash
    by_test later false other =
        ap (left_by_hash olds hash) (apart_stays (nat_eq (hash_of o.key) hash) o.at k other)
        ∙ later (sym (ap (λ b. b || is_among k (old_places olds)) other) ∙ e)

one_more_out : (a b : Bool) (o : Option ℕ) → cond b None (cond a None o) ≡ cond (a || b) None o
one_more_out true true o = refl
one_more_out true false o = refl
one_more_out false true o = refl
one_more_out false false o = refl

left_keys : (olds : List OldKey) (key : List ℕ) (p : Option ℕ) → left_by_key olds key p ≡ cond (is_key_among key (keys_of olds)) None p
left_keys [] key p = refl
left_keys (o ∷ olds) key p =
    left_keys olds key (cond (bytes_eq o.key key) None p)
    ∙ ap (λ b. cond (is_key_among key (keys_of olds)) None (cond b None p)) (bytes_eq-flip o.key key)
    ∙ one_more_out (bytes_eq key o.key) (is_key_among key (keys_of olds)) p

-- the keys of these are still to be taken out of what is there now, where all were to be
pub record AreLeft (olds left : List OldKey) (before now : LookUp) : Type 0 where
  pub by_hash : (hash : ℕ) → left_by_hash left hash (get nat_cmp now.by_hash hash) ≡ left_by_hash olds hash (get nat_cmp before.by_hash hash)
  pub by_key : (key : List ℕ) → left_by_key left key (get key_cmp now.by_key key) ≡ left_by_key olds key (get key_cmp before.by_key key)

pub one_out : (before now after : LookUp) (olds : List OldKey) (i : ℕ) (x : OldKey) → i < length olds → x ≡ get_or olds i x → AreLeft olds (drop i olds) before now → IsLeftOut x.key x.at now after → AreLeft olds (drop (i + 1) olds) before after
one_out before now after olds i x within item left out =
    let rest : drop i olds ≡ x ∷ drop (i + 1) olds = drop_more olds i x within ∙ ap (λ y. y ∷ drop (i + 1) olds) (sym item) in
    record {
      by_hash = λ hash. ap (left_by_hash (drop (i + 1) olds) hash) (out.by_hash hash) ∙ sym (ap (λ os. left_by_hash os hash (get nat_cmp now.by_hash hash)) rest) ∙ left.by_hash hash;
      by_key = λ key. ap (left_by_key (drop (i + 1) olds) key) (out.by_key key) ∙ sym (ap (λ os. left_by_key os key (get key_cmp now.by_key key)) rest) ∙ left.by_key key;
    }

pub all_out : (before now : LookUp) (olds : List OldKey) (i : ℕ) → length olds ≤ i → AreLeft olds (drop i olds) before now → AreOut olds before now
all_out before now olds i end left = record {
  by_hash = λ hash. ap (λ os. left_by_hash os hash (get nat_cmp now.by_hash hash)) (sym (drop_all i olds end)) ∙ left.by_hash hash;
  by_key = λ key. ap (λ os. left_by_key os key (get key_cmp now.by_key key)) (sym (drop_all i olds end)) ∙ left.by_key key;
}

module _ (before after : LookUp) (changes : List Replacement) (olds : List OldKey) (stand : old_places olds ≡ places_of changes) (xs : List Formula) (hashed : AreHashed before xs) (own : AllByRecursion (λ old. option_map code (slice_get xs old.at) ≡ Some old.key) olds) where
  gone_out : (hash k : ℕ) → option_map (λ x. hash_of (code x)) (slice_get xs k) ≡ Some hash
      → is_among k (places_of changes) ≡ true → left_by_hash olds hash (Some k) ≡ None
  gone_out hash k its gone = gone_by_hash olds xs hash k own its (ap (is_among k) stand ∙ gone)

  others_stay : (hash k : ℕ) → is_among k (places_of changes) ≡ false → left_by_hash olds hash (Some k) ≡ Some k
  others_stay hash k left = others_left_by_hash olds hash k (ap (is_among k) stand ∙ left)

  pub out_hashed : AreOut olds before after → AreHashed after (changed_by changes xs)
  out_hashed out hash n e = by_place (get nat_cmp before.by_hash hash) refl (sym (out.by_hash hash) ∙ e)
    where
      by_place : (o : Option ℕ) → get nat_cmp before.by_hash hash ≡ o → left_by_hash olds hash o ≡ Some n → option_map (λ x. hash_of (code x)) (slice_get (changed_by changes xs) n) ≡ Some hash
      by_place None f g = let no : None ≡ Some n = sym (none_left_by_hash olds hash) ∙ g in cc
      by_place (Some k) f g = by_test (is_among k (places_of changes)) refl
        where
          by_test : (b : Bool) → is_among k (places_of changes) ≡ b → option_map (λ x. hash_of (code x)) (slice_get (changed_by changes xs) n) ≡ Some hash
          by_test true gone = let no : None ≡ Some n = sym (gone_out hash k (hashed hash k f) gone) ∙ g in cc
          by_test false left =
              let place : Some k ≡ Some n = sym (others_stay hash k left) ∙ g in
              let moved : k ≡ n = cc in
              ap (λ m. option_map (λ x. hash_of (code x)) (slice_get (changed_by changes xs) m)) (sym moved) ∙ ap (option_map (λ x. hash_of (code x))) (stays changes xs k left) ∙ hashed hash k f

  module _ (together : (at : ℕ) (formula : Formula) → slice_get xs at ≡ Some formula → is_key_among (code formula) (keys_of olds) ≡ is_among at (places_of changes)) where
    -- a formula with this key is at one of the places exactly where the key is one of the keys
    with_key : (key : List ℕ) (k : ℕ) (o : Option Formula) → slice_get xs k ≡ o → has_key key o ≡ true → is_key_among key (keys_of olds) ≡ is_among k (places_of changes)
    with_key key k None f has = cc
    with_key key k (Some x) f has = ap (λ q. is_key_among q (keys_of olds)) ((bytes_eq-Decides key (code x)).0 has) ∙ together k x f

    checked_out : (key : List ℕ) (o : Option ℕ) → get nat_cmp before.by_hash (hash_of key) ≡ o → checked (changed_by changes xs) key (left_by_hash olds (hash_of key) o) ≡ cond (is_key_among key (keys_of olds)) None (checked xs key o)
    checked_out key None f = ap (checked (changed_by changes xs) key) (none_left_by_hash olds (hash_of key)) ∙ same_both (is_key_among key (keys_of olds)) None
    checked_out key (Some k) f = by_test (is_among k (places_of changes)) refl (has_key key (slice_get xs k)) refl (is_key_among key (keys_of olds)) refl
      where
        stay : is_among k (places_of changes) ≡ false → checked (changed_by changes xs) key (left_by_hash olds (hash_of key) (Some k)) ≡ checked xs key (Some k)
        stay left = ap (checked (changed_by changes xs) key) (others_stay (hash_of key) k left) ∙ ap (λ o. cond (has_key key o) (Some k) None) (stays changes xs k left)

        by_test : (b : Bool) → is_among k (places_of changes) ≡ b → (c : Bool) → has_key key (slice_get xs k) ≡ c → (d : Bool) → is_key_among key (keys_of olds) ≡ d
            → checked (changed_by changes xs) key (left_by_hash olds (hash_of key) (Some k)) ≡ cond d None (cond c (Some k) None)
        by_test true gone c has true among = ap (checked (changed_by changes xs) key) (gone_out (hash_of key) k (hashed (hash_of key) k f) gone)
        by_test true gone false has false among = ap (checked (changed_by changes xs) key) (gone_out (hash_of key) k (hashed (hash_of key) k f) gone)
        by_test true gone true has false among = absurd (clash (is_key_among key (keys_of olds)) (with_key key k (slice_get xs k) refl has ∙ gone) among)
        by_test false left true has true among = absurd (clash (is_key_among key (keys_of olds)) among (with_key key k (slice_get xs k) refl has ∙ left))
        by_test false left false has true among = stay left ∙ ap (λ c. cond c (Some k) None) has
        by_test false left c has false among = stay left ∙ ap (λ c. cond c (Some k) None) has

    both_out : (b : Bool) (m n : Option ℕ) → first_of (cond b None m) (cond b None n) ≡ cond b None (first_of m n)
    both_out true m n = refl
    both_out false m n = refl

    pub out_found : AreOut olds before after → (key : List ℕ) → found after (changed_by changes xs) key ≡ cond (is_key_among key (keys_of olds)) None (found before xs key)
    out_found out key =
        ap₂ (λ a b. first_of a (checked (changed_by changes xs) key b)) (out.by_key key ∙ left_keys olds key (get key_cmp before.by_key key)) (out.by_hash (hash_of key))
        ∙ ap (first_of (cond (is_key_among key (keys_of olds)) None (get key_cmp before.by_key key))) (checked_out key (get nat_cmp before.by_hash (hash_of key)) refl)
        ∙ both_out (is_key_among key (keys_of olds)) (get key_cmp before.by_key key) (checked xs key (get nat_cmp before.by_hash (hash_of key)))

-- ---- what a pool keeps

length_set : (xs : List Formula) (at : ℕ) (y : Formula) → length (set xs at y) ≡ length xs
length_set [] at y = refl
length_set (x ∷ xs) zero y = refl
length_set (x ∷ xs) (suc at) y = ap suc (length_set xs at y)

length_changed : (changes : List Replacement) (xs : List Formula) → length (changed_by changes xs) ≡ length xs
length_changed [] xs = refl
length_changed (c ∷ changes) xs = length_changed changes (set xs c.at c.formula) ∙ length_set xs c.at c.formula

-- a vector whose formulas were rewritten through a slice
pub written_back : (n : ℕ) (changes : List Replacement) (new xs : List Formula) → new ≡ changed_by changes xs → n ≡ length xs → take n (new ++ drop (length new) xs) ≡ changed_by changes xs
written_back n changes new xs made counted =
    ap (λ k. take k (new ++ drop (length new) xs)) (counted ∙ sym (ap length made ∙ length_changed changes xs)) ∙ take_at new (drop (length new) xs) (length new) refl ∙ made

pub both_true : (a b : Bool) → (a && b) ≡ true → (a ≡ true) × (b ≡ true)
both_true true b e = (refl, e)
both_true false b e = (e, cc)

pub look_up_taken : (before after : LookUp) (late more : List ℕ) (w : RewritesState) (knows moved : Bool) (xs list : List Formula)
    → (knows ≡ true → KnowsRest (found before xs) late xs) → AreHashed before xs → FitsPool w xs
    → (w.keeps_keys ≡ true → AreOut w.old_keys before after) → (w.keeps_keys ≡ false → IsEmpty after)
    → (moved ≡ true → w.keeps_keys ≡ true) → (moved ≡ true → more ≡ late ++ w.places) → list ≡ rewritten_by w xs
    → IsLookUp after false (knows && moved) more list
look_up_taken before after late more w knows moved xs list rest hashed fits out empty kept put made = record {
  finds = λ e. cc;
  rest = λ e.
      let both = both_true knows moved e in
      let known = fits.known (kept both.1) in
      let taken = out_found before after w.changes w.old_keys known.stand xs hashed known.own known.together (out (kept both.1)) in
      subst (λ ys. KnowsRest (found after ys) more ys) (sym made)
      (taken_knows (found before xs) (found after (rewritten_by w xs)) late more w xs (rest both.0) known taken (put both.1));
  hashed = subst (AreHashed after) (sym made) (still_hashed w.keeps_keys refl);
}
  where
    still_hashed : (b : Bool) → w.keeps_keys ≡ b → AreHashed after (rewritten_by w xs)
    still_hashed true is = let known = fits.known is in out_hashed before after w.changes w.old_keys known.stand xs hashed known.own (out is)
    still_hashed false is = empty_hashed after (rewritten_by w xs) (empty is)

pub look_up_late : (index : LookUp) (knows : Bool) (late : List ℕ) (xs list : List Formula) → KnowsRest (found index xs) late xs → AreHashed index xs → late ≡ [] → list ≡ xs → IsLookUp index true knows late list
look_up_late index knows late xs list rest hashed none same = record {
  finds = λ e. subst (λ ys. KeepsPlaces (found index ys) ys) (sym same) (knows_whole (found index xs) xs (subst (λ l. KnowsRest (found index xs) l xs) none rest));
  rest = λ e. subst (λ ys. KnowsRest (found index ys) late ys) (sym same) rest;
  hashed = subst (AreHashed index) (sym same) hashed;
}

pub look_up_anew : (index : LookUp) (knows : Bool) (late : List ℕ) (xs list : List Formula) → KeepsPlaces (found index xs) xs → AreHashed index xs → list ≡ xs → IsLookUp index true knows late list
look_up_anew index knows late xs list places hashed same = record {
  finds = λ e. subst (λ ys. KeepsPlaces (found index ys) ys) (sym same) places;
  rest = λ e. subst (λ ys. KnowsRest (found index ys) late ys) (sym same) (whole_knows (found index xs) late xs places);
  hashed = subst (AreHashed index) (sym same) hashed;
}
