-- Ids that stand among those of sheets in the same order, and how they are gathered.
use Rattle.std.proofs.Common.{◌≡◌, ◌⊎◌, ℕ, zero, suc, ◌≤◌, List, [], ◌∷◌, ◌++◌, Bool, true, false, cond, ◌||◌, Some, None, take, nat_eq, refl, sym, ap, subst, ◌∙◌, arith, inl, inr}
use Rattle.std.proofs.lemmas.Bool.{eqb-true}
use Rattle.std.proofs.lemmas.List.Folds.{list_any-append}
use Rattle.std.proofs.lemmas.Map.Keys.{IsDistinct-cons, IsDistinct-head, IsDistinct-tail, sorted_head}
use Rattle.std.specs.BTreeMap.{is_at}
use Rattle.std.specs.BTreeSet.{BTreeSet}
use Rattle.std.specs.Cmp.{nat_eq_equiv, ranked, unsigned_tied}
use Rattle.std.specs.List.{AllByRecursion, IsDistinct, list_any, slice_get}
use Rattle.std.specs.List.Sorted.{IsStrictlySortedBy}
use Rattle.std.specs.Ordering.{nat_cmp}
use Rattle.std.specs.declared.cmp.Ordering.TheVariants.{Less}
use Rattle.ic_sheets.proofs.DanglingLemmas.{none_apart, or_true}
use Rattle.ic_sheets.proofs.SearchLemmas.{ids}
use Rattle.ic_sheets.specs.Index.{is_listed, is_part}
use Rattle.ic_sheets.specs.declared.sheet.Sheet.{Sheet}

-- ---- a part of a list

pub part_same : (xs : List ℕ) → is_part xs xs ≡ true
part_same [] = refl
part_same (x ∷ xs) = ap (λ b. cond b (is_part xs xs) (is_part (x ∷ xs) xs)) (nat_eq_equiv.refl x) ∙ part_same xs

-- each of it is in the list
pub part_known : (xs ys : List ℕ) → is_part xs ys ≡ true → AllByRecursion (λ x. list_any (nat_eq x) ys ≡ true) xs
part_known [] ys e = tt
part_known (x ∷ xs) [] e = cc
part_known (x ∷ xs) (y ∷ ys) e = step (nat_eq x y) refl e (part_known xs ys) (part_known (x ∷ xs) ys)
  where
    later : (zs : List ℕ) → AllByRecursion (λ z. list_any (nat_eq z) ys ≡ true) zs → AllByRecursion (λ z. list_any (nat_eq z) (y ∷ ys) ≡ true) zs
    later [] h = tt
    later (z ∷ zs) h = (ap (λ b. nat_eq z y || b) h.0 ∙ or_true (nat_eq z y), later zs h.1)

    step : (b : Bool) → nat_eq x y ≡ b → cond b (is_part xs ys) (is_part (x ∷ xs) ys) ≡ true → (is_part xs ys ≡ true → AllByRecursion (λ z. list_any (nat_eq z) ys ≡ true) xs)
        → (is_part (x ∷ xs) ys ≡ true → AllByRecursion (λ z. list_any (nat_eq z) ys ≡ true) (x ∷ xs)) → AllByRecursion (λ z. list_any (nat_eq z) (y ∷ ys) ≡ true) (x ∷ xs)
    step true is e one all = (ap (λ b. b || list_any (nat_eq x) ys) is, later xs (one e))
    step false is e one all = later (x ∷ xs) (all e)

pub all_part : (P : ℕ → Type 0) (xs ys : List ℕ) → is_part xs ys ≡ true → AllByRecursion P ys → AllByRecursion P xs
all_part P [] ys e h = tt
all_part P (x ∷ xs) [] e h = cc
all_part P (x ∷ xs) (y ∷ ys) e h = step (nat_eq x y) refl e (λ f. all_part P xs ys f h.1) (λ f. all_part P (x ∷ xs) ys f h.1)
  where
    step : (b : Bool) → nat_eq x y ≡ b → cond b (is_part xs ys) (is_part (x ∷ xs) ys) ≡ true → (is_part xs ys ≡ true → AllByRecursion P xs) → (is_part (x ∷ xs) ys ≡ true → AllByRecursion P (x ∷ xs)) → AllByRecursion P (x ∷ xs)
    step true is e one all = (subst P (sym (eqb-true x y is)) h.0, one e)
    step false is e one all = all e

-- no two of it are equal, if no two of the list are
pub part_distinct : (xs ys : List ℕ) → is_part xs ys ≡ true → IsDistinct nat_eq ys → IsDistinct nat_eq xs
part_distinct [] ys e d = none_apart
part_distinct (x ∷ xs) [] e d = cc
part_distinct (x ∷ xs) (y ∷ ys) e d = step (nat_eq x y) refl e (λ f. part_distinct xs ys f (IsDistinct-tail nat_eq y ys d)) (λ f. part_distinct (x ∷ xs) ys f (IsDistinct-tail nat_eq y ys d))
  where
    step : (b : Bool) → nat_eq x y ≡ b → cond b (is_part xs ys) (is_part (x ∷ xs) ys) ≡ true → (is_part xs ys ≡ true → IsDistinct nat_eq xs) → (is_part (x ∷ xs) ys ≡ true → IsDistinct nat_eq (x ∷ xs)) → IsDistinct nat_eq (x ∷ xs)
    step true is e one all =
        IsDistinct-cons nat_eq x xs (all_part (λ z. nat_eq x z ≡ false) xs ys e (subst (λ k. AllByRecursion (λ z. nat_eq k z ≡ false) ys) (sym (eqb-true x y is)) (IsDistinct-head nat_eq y ys d)))
        (one e)
    step false is e one all = all e

-- of a longer list, too
part_longer : (xs ys more : List ℕ) → is_part xs ys ≡ true → is_part xs (ys ++ more) ≡ true
part_longer [] ys more e = refl
part_longer (x ∷ xs) [] more e = cc
part_longer (x ∷ xs) (y ∷ ys) more e = step (nat_eq x y) e (part_longer xs ys more) (part_longer (x ∷ xs) ys more)
  where
    step : (b : Bool) → cond b (is_part xs ys) (is_part (x ∷ xs) ys) ≡ true → (is_part xs ys ≡ true → is_part xs (ys ++ more) ≡ true) → (is_part (x ∷ xs) ys ≡ true → is_part (x ∷ xs) (ys ++ more) ≡ true)
        → cond b (is_part xs (ys ++ more)) (is_part (x ∷ xs) (ys ++ more)) ≡ true
    step true e one all = one e
    step false e one all = all e

part_last : (z : ℕ) (ys : List ℕ) → is_part (z ∷ []) (ys ++ z ∷ []) ≡ true
part_last z [] = ap (λ b. cond b true false) (nat_eq_equiv.refl z)
part_last z (y ∷ ys) = step (nat_eq z y) (part_last z ys)
  where
    step : (b : Bool) → is_part (z ∷ []) (ys ++ z ∷ []) ≡ true → cond b true (is_part (z ∷ []) (ys ++ z ∷ [])) ≡ true
    step true rest = refl
    step false rest = rest

-- one more comes behind both
part_pushed : (xs ys : List ℕ) (z : ℕ) → is_part xs ys ≡ true → is_part (xs ++ z ∷ []) (ys ++ z ∷ []) ≡ true
part_pushed [] ys z e = part_last z ys
part_pushed (x ∷ xs) [] z e = cc
part_pushed (x ∷ xs) (y ∷ ys) z e = step (nat_eq x y) e (part_pushed xs ys z) (part_pushed (x ∷ xs) ys z)
  where
    step : (b : Bool) → cond b (is_part xs ys) (is_part (x ∷ xs) ys) ≡ true → (is_part xs ys ≡ true → is_part (xs ++ z ∷ []) (ys ++ z ∷ []) ≡ true) → (is_part (x ∷ xs) ys ≡ true → is_part (x ∷ xs ++ z ∷ []) (ys ++ z ∷ []) ≡ true)
        → cond b (is_part (xs ++ z ∷ []) (ys ++ z ∷ [])) (is_part (x ∷ xs ++ z ∷ []) (ys ++ z ∷ [])) ≡ true
    step true e one all = one e
    step false e one all = all e

take_further : (i k : ℕ) (xs : List ℕ) → i ≤ k → (more : List ℕ) × (take k xs ≡ take i xs ++ more)
take_further zero k xs le = (take k xs, refl)
take_further (suc i) zero [] le = absurd (omega (arith, le))
take_further (suc i) (suc k) [] le = ([], refl)
take_further (suc i) zero (x ∷ xs) le = absurd (omega (arith, le))
take_further (suc i) (suc k) (x ∷ xs) le = let rest = take_further i k xs (omega (arith, le)) in (rest.0, ap (λ (ys : List ℕ). x ∷ ys) rest.1)

part_further : (xs ys : List ℕ) (i k : ℕ) → i ≤ k → is_part xs (take i ys) ≡ true → is_part xs (take k ys) ≡ true
part_further xs ys i k le e = let more = take_further i k ys le in ap (is_part xs) more.1 ∙ part_longer xs (take i ys) more.0 e

take_rest : (i : ℕ) (xs : List ℕ) → (more : List ℕ) × (xs ≡ take i xs ++ more)
take_rest zero xs = (xs, refl)
take_rest (suc i) [] = ([], refl)
take_rest (suc i) (x ∷ xs) = let rest = take_rest i xs in (rest.0, ap (λ (ys : List ℕ). x ∷ ys) rest.1)

part_whole : (xs ys : List ℕ) (i : ℕ) → is_part xs (take i ys) ≡ true → is_part xs ys ≡ true
part_whole xs ys i e = let more = take_rest i ys in ap (is_part xs) more.1 ∙ part_longer xs (take i ys) more.0 e

-- ---- gathered at indexes in ascending order

-- an index is one of these
abbrev pub is_key : ℕ → List ℕ → Bool
is_key k ks = list_any (is_at (nat_cmp k)) ks

-- The ids at the indexes before are gathered, and these indexes are left.
pub record GatheredSoFar (sheets : List Sheet) (all left now : List ℕ) : Type 0 where
  pub i : ℕ
  pub part : is_part now (take i (ids sheets)) ≡ true
  pub later : AllByRecursion (λ k. i ≤ k) left
  pub sorted : IsStrictlySortedBy nat_cmp left
  pub done : (k : ℕ) (s : Sheet) → slice_get sheets k ≡ Some s → is_key k all ≡ true → (is_key k left ≡ true) ⊎ (is_listed s.id now ≡ true)

pub none_gathered : (sheets : List Sheet) (places : BTreeSet ℕ) (left now : List ℕ) → left ≡ places.keys → IsStrictlySortedBy nat_cmp places.keys → now ≡ [] → GatheredSoFar sheets places.keys left now
none_gathered sheets places left now all sorted none =
    subst (λ ks. GatheredSoFar sheets places.keys ks now) (sym all)
    (subst (GatheredSoFar sheets places.keys places.keys) (sym none) (record { i = 0; part = refl; later = from_zero places.keys; sorted = sorted; done = λ k s at in_all. inl in_all }))
  where
    from_zero : (ks : List ℕ) → AllByRecursion (λ k. 0 ≤ k) ks
    from_zero [] = tt
    from_zero (k ∷ ks) = (omega arith, from_zero ks)

module _ (sheets : List Sheet) (all left ks now : List ℕ) (k : ℕ) (begins : left ≡ k ∷ ks) (before : GatheredSoFar sheets all left now) where
  so_far : GatheredSoFar sheets all (k ∷ ks) now
  so_far = subst (λ qs. GatheredSoFar sheets all qs now) begins before

  from : so_far.i ≤ k
  from = so_far.later.0

  sorted_rest : IsStrictlySortedBy nat_cmp ks
  unfolding IsStrictlySortedBy
  sorted_rest = so_far.sorted.1

  later_rest : AllByRecursion (λ q. suc k ≤ q) ks
  later_rest = go ks (sorted_head nat_cmp k ks so_far.sorted)
    where
      go : (qs : List ℕ) → AllByRecursion (λ q. nat_cmp k q ≡ Less) qs → AllByRecursion (λ q. suc k ≤ q) qs
      go [] h = tt
      go (q ∷ qs) h = (let lt = ranked k q Less (sym h.0) in omega (arith, lt), go qs h.1)

  other : (q : ℕ) → is_key q (k ∷ ks) ≡ true → (nat_eq q k ≡ true) ⊎ (is_key q ks ≡ true)
  other q e = step (nat_eq q k) refl e
    where
      step : (b : Bool) → nat_eq q k ≡ b → (is_at (nat_cmp q) k || is_key q ks) ≡ true → (nat_eq q k ≡ true) ⊎ (is_key q ks ≡ true)
      step true is e = inl is
      step false is e = inr (sym (ap (λ b. b || is_key q ks) (unsigned_tied q k ∙ is)) ∙ e)

  -- there is a sheet at the first of them
  pub one_gathered : (after : List ℕ) (s : Sheet) → slice_get sheets k ≡ Some s → after ≡ now ++ s.id ∷ [] → GatheredSoFar sheets all ks after
  one_gathered after s at pushed =
      subst (GatheredSoFar sheets all ks) (sym pushed)
      (record {
        i = suc k;
        part = ap (is_part (now ++ s.id ∷ [])) (next sheets k at) ∙ part_pushed now (take k (ids sheets)) s.id (part_further now (ids sheets) so_far.i k from so_far.part);
        later = later_rest;
        sorted = sorted_rest;
        done = λ q t there in_all. listed q t there (so_far.done q t there in_all);
      })
    where
      next : (xs : List Sheet) (j : ℕ) → slice_get xs j ≡ Some s → take (suc j) (ids xs) ≡ take j (ids xs) ++ s.id ∷ []
      next [] j e = cc
      next (x ∷ xs) zero e = let same : x ≡ s = cc in ap (λ (y : Sheet). y.id ∷ []) same
      next (x ∷ xs) (suc j) e = ap (λ (ys : List ℕ). x.id ∷ ys) (next xs j e)

      here : (q : ℕ) (t : Sheet) → slice_get sheets q ≡ Some t → nat_eq q k ≡ true → is_listed t.id (now ++ s.id ∷ []) ≡ true
      here q t there same =
          let one : Some t ≡ Some s = sym there ∙ ap (slice_get sheets) (eqb-true q k same) ∙ at in
          let is : t ≡ s = cc in
          list_any-append (nat_eq t.id) now (s.id ∷ []) ∙ ap (λ (n : ℕ). is_listed t.id now || (nat_eq t.id n || false)) (sym (ap (λ (x : Sheet). x.id) is))
          ∙ ap (λ b. is_listed t.id now || (b || false)) (nat_eq_equiv.refl t.id) ∙ or_true (is_listed t.id now)

      listed : (q : ℕ) (t : Sheet) → slice_get sheets q ≡ Some t → (is_key q (k ∷ ks) ≡ true) ⊎ (is_listed t.id now ≡ true) → (is_key q ks ≡ true) ⊎ (is_listed t.id (now ++ s.id ∷ []) ≡ true)
      listed q t there (inr before) = inr (list_any-append (nat_eq t.id) now (s.id ∷ []) ∙ ap (λ b. b || (nat_eq t.id s.id || false)) before)
      listed q t there (inl left) =
          elim (other q left) [
            | inl same ↦ inr (here q t there same)
            | inr rest ↦ inl rest
          ]

  -- there is none
  pub none_there : (after : List ℕ) → slice_get sheets k ≡ None → after ≡ now → GatheredSoFar sheets all ks after
  none_there after none same =
      subst (GatheredSoFar sheets all ks) (sym same)
      (record {
        i = so_far.i;
        part = so_far.part;
        later = earlier ks later_rest;
        sorted = sorted_rest;
        done = λ q t there in_all. listed q t there (so_far.done q t there in_all);
      })
    where
      earlier : (qs : List ℕ) → AllByRecursion (λ q. suc k ≤ q) qs → AllByRecursion (λ q. so_far.i ≤ q) qs
      earlier [] h = tt
      earlier (q ∷ qs) h = (let first = h.0 in omega (arith, first, from), earlier qs h.1)

      listed : (q : ℕ) (t : Sheet) → slice_get sheets q ≡ Some t → (is_key q (k ∷ ks) ≡ true) ⊎ (is_listed t.id now ≡ true) → (is_key q ks ≡ true) ⊎ (is_listed t.id now ≡ true)
      listed q t there (inr before) = inr before
      listed q t there (inl left) =
          elim (other q left) [
            | inl same ↦ let no : Some t ≡ None = sym there ∙ ap (slice_get sheets) (eqb-true q k same) ∙ none in cc
            | inr rest ↦ inl rest
          ]

-- none is left
pub all_gathered : (sheets : List Sheet) (all left now : List ℕ) → left ≡ [] → GatheredSoFar sheets all left now
    → (is_part now (ids sheets) ≡ true) × ((k : ℕ) (s : Sheet) → slice_get sheets k ≡ Some s → is_key k all ≡ true → is_listed s.id now ≡ true)
all_gathered sheets all left now none before = (
  part_whole now (ids sheets) so_far.i so_far.part,
  λ k s at in_all. elim (so_far.done k s at in_all) [
    | inl there ↦ let no : false ≡ true = there in cc
    | inr listed ↦ listed
  ],
)
  where
    so_far : GatheredSoFar sheets all [] now
    so_far = subst (λ qs. GatheredSoFar sheets all qs now) none before
