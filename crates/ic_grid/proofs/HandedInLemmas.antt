-- Whether each entry of an ordered map, each number of a row and each pair of merges passes, found one after another.
use Rattle.std.proofs.Common.{◌≡◌, ◌∙◌, refl, sym, ap, subst, ℕ, zero, suc, ◌+◌, ◌≤◌, ℤ, pos, Bool, true, false, cond, ◌||◌, ◌<◌, length, take, List, [], ◌∷◌, Option, Some, arith}
use Rattle.std.proofs.lemmas.Bool.{both_ways}
use Rattle.std.proofs.lemmas.Bool.Decides.{Decides-eqb, Decides-int_eq}
use Rattle.std.proofs.lemmas.Int.{ints}
use Rattle.std.proofs.lemmas.Option.{slice_get_within}
use Rattle.std.proofs.lemmas.List.Elements.{All-cons, All-head, All-nil, All-tail, All-weaker}
use Rattle.std.proofs.lemmas.Map.Views.{All-found}
use Rattle.std.specs.BTreeMap as tree
use Rattle.std.specs.BTreeMap.{BTreeMap, IsOrdered, is_at}
use Rattle.std.specs.Bool.{Decides}
use Rattle.std.specs.Cmp.{IsTotalOrder}
use Rattle.std.specs.FinMap as finite
use Rattle.std.specs.List.{All, list_any, slice_get}
use Rattle.std.specs.Map.{lookup}
use Rattle.std.specs.Ordering.{int_eq}
use Rattle.std.specs.Prelude.{◌+ℤ◌, ◌≤ℤ◌, ◌<ℤ◌, nat_eq}
use Rattle.std.specs.declared.cmp.Ordering.{Ordering}
use Rattle.std.specs.declared.cmp.Ordering.TheVariants.{Equal}
use Rattle.ic_cells.specs.declared.layout.Merge.{Merge}
use Rattle.ic_grid.proofs.WalkLemmas.{by_side, map_get}
use Rattle.ic_grid.specs.Block.{blocks_meet}
use Rattle.ic_grid.specs.HandedIn.{AreApart}
use Rattle.ic_grid.specs.Merges.{meets_merge, merged_block}
use Rattle.ic_cells.proofs.ColumnLemmas.{tie as equal}

-- what is decided is decided of what says the same
pub decided_as : {P Q : Type 0} (r : Bool) → Decides r P → (P → Q) → (Q → P) → Decides r Q
decided_as r d f g = (λ t. f (d.0 t), λ q. d.1 (g q))

pub decided_no : {P : Type 0} → (P → ⊥) → Decides false P
decided_no fails = (λ t. cc, λ p. absurd (fails p))

pub refused : {P : Type 0} (r : Bool) → r ≡ false → (P → ⊥) → Decides r P
refused r e fails = (λ t. absurd (both_ways r e t), λ p. absurd (fails p))

pub decided_yes : {P : Type 0} → P → Decides true P
decided_yes p = (λ t. p, λ q. refl)

-- what isn't decided to be so isn't
pub never : {P : Type 0} (r : Bool) → Decides r P → r ≡ false → P → ⊥
never r d fails p = both_ways r fails (d.1 p)

module _ {X : Type 0} (P : X → Type 0) where
  -- all are so where those that are left are
  pub record AsLeft (left whole : List X) : Type 0 where
    pub so : All P left → All P whole
    pub back : All P whole → All P left

  pub left_begun : (left whole : List X) → left ≡ whole → AsLeft left whole
  left_begun left whole e = record {
    so = λ all. subst (λ (xs : List X). All P xs) e all;
    back = λ all. subst (λ (xs : List X). All P xs) (sym e) all;
  }

  module _ (x : X) (left more whole : List X) (e : left ≡ x ∷ more) (h : AsLeft left whole) where
    pub left_next : P x → AsLeft more whole
    left_next p = record {
      so = λ all. h.so (subst (λ (xs : List X). All P xs) (sym e) (All-cons P x more p all));
      back = λ all. All-tail P x more (subst (λ (xs : List X). All P xs) e (h.back all));
    }

    pub left_failed : (P x → ⊥) → Decides false (All P whole)
    left_failed fails = decided_no (λ all. fails (All-head P x more (subst (λ (xs : List X). All P xs) e (h.back all))))

  pub left_done : (left whole : List X) → left ≡ [] → AsLeft left whole → Decides true (All P whole)
  left_done left whole e h = decided_yes (h.so (subst (λ (xs : List X). All P xs) (sym e) (All-nil P)))

module _ {K X : Type 0} (P : K → X → Type 0) where
  found_so : (R : K → K → Ordering) → ((a b : K) → R a b ≡ Equal → a ≡ b) → (es : List (K × X)) → All (λ f. P f.0 f.1) es → (q : K) (x : X) → lookup (is_at (R q)) es ≡ Some x → P q x
  found_so R tied [] all q x e = cc
  found_so R tied (f ∷ es) all q x e =
      by_side (is_at (R q) f.0)
      (λ t.
      let one : Some f.1 ≡ Some x = sym (ap (λ b. let o : Option X = cond b (Some f.1) (lookup (is_at (R q)) es) in o) t) ∙ e in
      let same : f.1 ≡ x = cc in
      subst (λ (k : K). P k x) (sym (tied q f.0 (equal (R q f.0) t))) (subst (λ (y : X). P f.0 y) same (All-head (λ f. P f.0 f.1) f es all)))
      (λ t. found_so R tied es (All-tail (λ f. P f.0 f.1) f es all) q x (sym (ap (λ b. let o : Option X = cond b (Some f.1) (lookup (is_at (R q)) es) in o) t) ∙ e))

  -- so it is of an ordered map's entries, where it is of what the finite map has at each key
  pub entries_decided : {R : K → K → Ordering} → IsTotalOrder R → ((a b : K) → R a b ≡ Equal → a ≡ b) → (m : BTreeMap K X) (v : finite.FinMap R X) → finite.from_entries m.entries ≡ v
      → (r : Bool) → Decides r (All (λ f. P f.0 f.1) m.entries) → IsOrdered R m → Decides r ((q : K) (x : X) → finite.get v q ≡ Some x → P q x)
  entries_decided {R = R} o tied m v e r d ordered =
      decided_as r d (λ all q x found. found_so R tied m.entries all q x (map_get o m v e q ∙ found))
      (λ each. All-weaker (λ f. tree.get R m f.0 ≡ Some f.1) (λ f. P f.0 f.1) (λ f found. each f.0 f.1 (sym (map_get o m v e f.0) ∙ found)) m.entries (All-found o m ordered))

-- numbers so far
module _ (P : ℤ → Type 0) (first : ℤ) where
  pub record AreSo (at : ℤ) : Type 0 where
    pub low : first ≤ℤ at
    pub so : (n : ℤ) → first ≤ℤ n → n <ℤ at → P n

  pub so_begun : (at : ℤ) → at ≡ first → AreSo at
  so_begun at e = record { low = omega (arith, ints, e); so = λ n low high. absurd (omega (arith, ints, e, low, high)) }

  pub so_more : (at next : ℤ) → AreSo at → P at → next ≡ (at +ℤ pos 1) → AreSo next
  so_more at next h p step = record {
    low = let low = h.low in omega (arith, ints, step, low);
    so = λ n low high.
        by_side (int_eq n at) (λ t. subst P (sym ((Decides-int_eq n at).0 t)) p) (λ t. h.so n low (below n high (λ e. both_ways (int_eq n at) t ((Decides-int_eq n at).1 e))));
  }
    where
      below : (n : ℤ) → n <ℤ next → (n ≡ at → ⊥) → n <ℤ at
      below n high fails = grind (arith, ints, step, high, fails)

-- merges ----

module _ (test : Merge → Bool) where
  found_in : (merges : List Merge) (i : ℕ) (one : Merge) → slice_get merges i ≡ Some one → test one ≡ true → list_any test merges ≡ true
  found_in [] i one e t = cc
  found_in (m ∷ merges) zero one e t = let same : m ≡ one = cc in ap (λ b. b || list_any test merges) (ap test same ∙ t)
  found_in (m ∷ merges) (suc i) one e t = or_right (test m) (list_any test merges) (found_in merges i one e t)
    where
      or_right : (a b : Bool) → b ≡ true → (a || b) ≡ true
      or_right true b e = refl
      or_right false b e = e

  one_of : (merges : List Merge) → list_any test merges ≡ true → (i : ℕ) × (one : Merge) × (slice_get merges i ≡ Some one) × (test one ≡ true)
  one_of [] e = cc
  one_of (m ∷ merges) e =
      by_side (test m) (λ t. (0, m, refl, t))
      (λ t. let more = one_of merges (sym (ap (λ b. b || list_any test merges) t) ∙ e) in (suc more.0, more.1, more.2, more.3))

-- those before an index
before_to : (merges : List Merge) (n i : ℕ) (one : Merge) → i < n → slice_get merges i ≡ Some one → slice_get (take n merges) i ≡ Some one
before_to [] n i one lt e = cc
before_to (m ∷ merges) zero i one lt e = absurd (omega (arith, lt))
before_to (m ∷ merges) (suc n) zero one lt e = e
before_to (m ∷ merges) (suc n) (suc i) one lt e = before_to merges n i one (omega (arith, lt)) e

before_from : (merges : List Merge) (n i : ℕ) (one : Merge) → slice_get (take n merges) i ≡ Some one → (i < n) × (slice_get merges i ≡ Some one)
before_from [] zero i one e = cc
before_from [] (suc n) i one e = cc
before_from (m ∷ merges) zero i one e = cc
before_from (m ∷ merges) (suc n) zero one e = (omega arith, e)
before_from (m ∷ merges) (suc n) (suc i) one e = let more = before_from merges n i one e in (omega (arith, more.0), more.1)

module _ (merges : List Merge) where
  -- those before an index have no cell in common
  abbrev pub AreApartTo : ℕ → Type 0
  AreApartTo n = (i j : ℕ) (one other : Merge) → i < j → j < n → slice_get merges i ≡ Some one → slice_get merges j ≡ Some other → blocks_meet (merged_block one) (merged_block other) ≡ false

  pub apart_begun : AreApartTo 0
  apart_begun i j one other lt below e f = absurd (omega (arith, below))

  module _ (n : ℕ) (merge : Merge) (there : slice_get merges n ≡ Some merge) where
    pub apart_more : AreApartTo n → meets_merge (take n merges) (merged_block merge) ≡ false → AreApartTo (n + 1)
    apart_more so fails i j one other lt below e f =
        by_side (nat_eq j n) last earlier
      where
        last : nat_eq j n ≡ true → blocks_meet (merged_block one) (merged_block other) ≡ false
        last t =
            let at : j ≡ n = (Decides-eqb j n).0 t in
            let both : Some other ≡ Some merge = sym f ∙ ap (slice_get merges) at ∙ there in
            let same : other ≡ merge = cc in
            let before : i < n = omega (arith, at, lt) in
            by_side (blocks_meet (merged_block one) (merged_block other))
            (λ meet.
            absurd (both_ways (meets_merge (take n merges) (merged_block merge)) fails
            (found_in (λ m. blocks_meet (merged_block m) (merged_block merge)) (take n merges) i one (before_to merges n i one before e) (ap (λ (m : Merge). blocks_meet (merged_block one) (merged_block m)) (sym same) ∙ meet))))
            (λ apart. apart)

        earlier : nat_eq j n ≡ false → blocks_meet (merged_block one) (merged_block other) ≡ false
        earlier t = so i j one other lt (let fails : (j ≡ n) → ⊥ = λ q. both_ways (nat_eq j n) t ((Decides-eqb j n).1 q) in below_of fails) e f
          where
            below_of : ((j ≡ n) → ⊥) → j < n
            below_of fails = grind (arith, below, fails)

    pub apart_failed : meets_merge (take n merges) (merged_block merge) ≡ true → Decides false (AreApart merges)
    apart_failed meet =
        let w = one_of (λ m. blocks_meet (merged_block m) (merged_block merge)) (take n merges) meet in
        let at = before_from merges n w.0 w.1 w.2 in
        decided_no (λ all. both_ways (blocks_meet (merged_block w.1) (merged_block merge)) (all w.0 n w.1 merge at.0 at.1 there) w.3)

  pub apart_done : (n : ℕ) → length merges ≤ n → AreApartTo n → Decides true (AreApart merges)
  apart_done n all so = decided_yes (λ i j one other lt e f. so i j one other lt (let in_list : j < length merges = slice_get_within merges j other f in omega (arith, in_list, all)) e f)
