-- Copies: of a finite map, entry by entry, and of a list of styles.
use Rattle.std.proofs.Common.{◌≡◌, ◌+◌, ◌<◌, ◌++◌, ◌⊎◌, inl, inr, ℕ, zero, suc, List, [], ◌∷◌, Bool, true, false, not, cond, map, Option, Some, None, is_some, option_map, refl, sym, ap, ap₂, ◌∙◌, ◌≤◌, length, get_or, take, arith}
use Rattle.std.proofs.lemmas.Bool.{and_parts}
use Rattle.std.proofs.lemmas.List.{map-append, take_more}
use Rattle.std.proofs.lemmas.Map.Keys.{IsDistinct-from_sorted}
use Rattle.std.proofs.lemmas.Map.Lookups.{CmpEqualImpliesEq}
use Rattle.std.proofs.lemmas.Map.Made.{update_all_none}
use Rattle.std.proofs.lemmas.Option.{get_or_from_slice_get, slice_get_cases, slice_get_within}
use Rattle.std.specs.BTreeMap as tree
use Rattle.std.specs.BTreeMap.{BTreeMap}
use Rattle.std.specs.Cmp.{IsTotalOrder, eq_by_cmp_equiv}
use Rattle.std.specs.FinMap.{FinMap, empty, from_entries, get, get-empty, get-insert, insert, same_map}
use Rattle.std.specs.List.{slice_get}
use Rattle.std.specs.Map.{update_all}
use Rattle.std.specs.Ordering.{eq_by_cmp}
use Rattle.std.specs.declared.cmp.Ordering.{Ordering}
use Rattle.ic_cells.specs.Listed.{IsPlaced, are_apart, place_in}
use Rattle.ic_cells.specs.Style.{AreStyles, is_style}
use Rattle.ic_cells.specs.declared.style.Style.{Style}
use Rattle.ic_grid.proofs.WalkLemmas.{map_get}
use Rattle.ic_cells.proofs.StyleLemmas.{style_again as style_itself}

-- a finite map with these entries put in, one after another
pub inserted : {K X : Type 0} {R : K → K → Ordering} → FinMap R X → List (K × X) → FinMap R X
inserted m [] = m
inserted m (e ∷ es) = inserted (insert m e.0 e.1) es

module _ {K X : Type 0} {R : K → K → Ordering} (v : FinMap R X) where
  -- one more is put in; and none is left
  pub inserted_next : (out after : FinMap R X) (es rest : List (K × X)) (k : K) (x : X) → inserted out es ≡ v → es ≡ (k, x) ∷ rest → after ≡ insert out k x → inserted after rest ≡ v
  unfolding inserted
  inserted_next out after es rest k x so_far next put = ap (λ m. inserted m rest) put ∙ sym (ap (inserted out) next) ∙ so_far

  pub inserted_last : (out : FinMap R X) (es : List (K × X)) → inserted out es ≡ v → es ≡ [] → out ≡ v
  unfolding inserted
  inserted_last out es so_far none = sym (ap (inserted out) none) ∙ so_far

module _ {K X : Type 0} {R : K → K → Ordering} (total : IsTotalOrder R) where
  get-inserted : (m : FinMap R X) (es : List (K × X)) (q : K) → get (inserted m es) q ≡ update_all (eq_by_cmp R) (get m) es q
  unfolding inserted
  get-inserted m [] q = refl
  get-inserted m (e ∷ es) q =
      get-inserted (insert m e.0 e.1) es q
      ∙ ap (λ (f : K → Option X). update_all (eq_by_cmp R) f es q) (λ i k. (get-insert total m e.0 e.1 k ∙ ap (λ b. cond b (Some e.1) (get m k)) ((eq_by_cmp_equiv total).symm k e.0)) i)

  -- all entries of an ordered map, put into an empty one, are the map
  pub inserted_all : CmpEqualImpliesEq R → (m : BTreeMap K X) (v out : FinMap R X) (es : List (K × X)) → tree.IsOrdered R m → from_entries m.entries ≡ v → out ≡ empty → es ≡ m.entries → inserted out es ≡ v
  inserted_all exact m v out es ordered e none all =
      ap₂ (λ (x : FinMap R X) (ys : List (K × X)). inserted x ys) none all
      ∙ same_map total exact (inserted empty m.entries) v
      (λ q. get-inserted empty m.entries q ∙ ap (λ (f : K → Option X). update_all (eq_by_cmp R) f m.entries q) (λ i k. get-empty R k i)
      ∙ update_all_none (eq_by_cmp_equiv total) (eq_by_cmp R) (λ x y. refl) m.entries q (IsDistinct-from_sorted R (tree.keys m) ordered) ∙ map_get total m v e q)

-- what stands in a list in which no two are the same stands at one place ----

module _ {X : Type 0} (same : X → X → Bool) (itself : (x : X) → same x x ≡ true) where
  later : (b : Bool) (o : Option ℕ) → is_some o ≡ true → is_some (cond b (Some 0) (option_map suc o)) ≡ true
  later true o e = refl
  later false None e = e
  later false (Some k) e = refl

  present : (x : X) (xs : List X) (at : ℕ) → slice_get xs at ≡ Some x → is_some (place_in same x xs) ≡ true
  present x [] at e = cc
  present x (y ∷ ys) zero e =
      let is : y ≡ x = cc in
      ap (λ b. is_some (cond b (Some 0) (option_map suc (place_in same x ys)))) (ap (same x) is ∙ itself x)
  present x (y ∷ ys) (suc at) e = later (same x y) (place_in same x ys) (present x ys at e)

  stands_once : (x : X) (xs : List X) (at other : ℕ) → are_apart same xs ≡ true → at < other → slice_get xs at ≡ Some x → slice_get xs other ≡ Some x → ⊥
  stands_once x [] at other apart lt e f = cc
  stands_once x (y ∷ ys) at zero apart lt e f = absurd (omega arith)
  stands_once x (y ∷ ys) zero (suc other) apart lt e f =
      let both = and_parts (not (is_some (place_in same y ys))) (are_apart same ys) apart in
      let is : y ≡ x = cc in
      let there = present y ys other (f ∙ ap (λ z. let o : Option X = Some z in o) (sym is)) in
      let no : false ≡ true = sym (ap not there) ∙ both.0 in
      cc
  stands_once x (y ∷ ys) (suc at) (suc other) apart lt e f =
      let both = and_parts (not (is_some (place_in same y ys))) (are_apart same ys) apart in
      stands_once x ys at other both.1 (omega arith) e f

taken : {X : Type 0} (x : X) (xs : List X) (count at : ℕ) → slice_get (take count xs) at ≡ Some x → (at < count) × (slice_get xs at ≡ Some x)
taken x xs zero at e = cc
taken x [] (suc count) at e = cc
taken x (y ∷ ys) (suc count) zero e = (omega arith, e)
taken x (y ∷ ys) (suc count) (suc at) e = let rest = taken x ys count at e in (omega arith, rest.1)

-- styles ----

-- the next of a list of styles comes to those before it
pub next_style : (styles before after : List Style) (at number : ℕ) (s : Style) → AreStyles styles → slice_get styles at ≡ Some s → before ≡ take at styles → IsPlaced s number before after → after ≡ take (at + 1) styles
next_style styles before after at number s are e so_far placed = by_number (slice_get_cases before number).1
  where
    by_number : ((x : Style) × (number < length before) × (slice_get before number ≡ Some x) × (get_or before number x ≡ x)) ⊎ ((length before ≤ number) × (slice_get before number ≡ None)) → after ≡ take (at + 1) styles
    by_number (inl found) =
        let there = taken s styles at number (ap (λ xs. slice_get xs number) (sym so_far) ∙ ap (λ xs. slice_get xs number) (sym (placed.found found.1)) ∙ placed.first.here) in
        absurd (stands_once is_style style_itself s styles number at are.different there.0 there.1 e)
    by_number (inr past) =
        placed.pushed past.0 ∙ ap (λ xs. xs ++ s ∷ []) so_far
        ∙ sym (take_more styles at s (slice_get_within styles at s e) ∙ ap (λ x. take at styles ++ x ∷ []) (get_or_from_slice_get styles at s s e))

-- where a list is longer, something stands
pub within : {X : Type 0} (xs : List X) (at : ℕ) → at < length xs → slice_get xs at ≡ None → ⊥
within [] at lt e = absurd (omega arith)
within (x ∷ xs) zero lt e = cc
within (x ∷ xs) (suc at) lt e = within xs at (omega arith) e

-- the next of a list, as something of it, comes to those of the ones before it
pub next_mapped : {X Y : Type 0} (f : X → Y) (xs : List X) (before after : List Y) (at : ℕ) (x : X) (y : Y) → slice_get xs at ≡ Some x → y ≡ f x → before ≡ map f (take at xs) → after ≡ before ++ y ∷ [] → after ≡ map f (take (at + 1) xs)
next_mapped f xs before after at x y e is so_far pushed =
    pushed ∙ ap₂ (λ ys z. ys ++ z ∷ []) so_far is ∙ sym (map-append f (take at xs) (x ∷ []))
    ∙ sym (ap (map f) (take_more xs at x (slice_get_within xs at x e) ∙ ap (λ z. take at xs ++ z ∷ []) (get_or_from_slice_get xs at x x e)))
