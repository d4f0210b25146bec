-- An ordered map as a finite map.
use Rattle.std.proofs.Common.{◌≡◌, Bool, true, false, IsSome, Option, ℤ, SFits, to_z, of_z, w32, ap₂, List, [], ◌∷◌, cond, Some, None, refl, sym, ap, ◌∙◌}
use Rattle.std.proofs.lemmas.Cmp.{int_cmp_total, on_total, then_total}
use Rattle.std.proofs.lemmas.Map.Lookups.{CmpEqualImpliesEq, exact_pairs, exact_signed}
use Rattle.std.proofs.lemmas.Int.{to_z-of_z}
use Rattle.std.specs.BTreeMap as tree
use Rattle.std.specs.BTreeMap.{BTreeMap, is_at}
use Rattle.std.specs.BTreeMap.Entry.{IsEntryFor, map_with_value}
use Rattle.std.specs.Cmp.{IsTotalOrder, eq_by_cmp_equiv}
use Rattle.std.specs.FinMap.{FinMap, find, from_entries, get, get-from_entries, get-insert, get-remove, insert, remove, same_map}
use Rattle.std.specs.Map.{lookup}
use Rattle.std.specs.Ordering.{int_cmp, is_lt}
use Rattle.std.specs.Prelude.{Result, Ok, Err, OnErr}
use Rattle.std.specs.declared.cmp.Ord as ord
use Rattle.std.specs.declared.cmp.Ordering.{Ordering}
use Rattle.std.specs.declared.cmp.PartialEq as eq
use Rattle.std.specs.declared.cmp.PartialOrd as partial
use Rattle.std.specs.declared.collections.btree_map.Entry.{Entry}
use Rattle.ic_cells.specs.Maps.{place_cmp}

-- places are in one order, in which no two different ones tie
pub places_total : IsTotalOrder place_cmp
places_total = then_total (on_total (λ p. p.0) int_cmp_total) (on_total (λ p. p.1) int_cmp_total)

pub places_exact : CmpEqualImpliesEq place_cmp
places_exact = exact_pairs int_cmp int_cmp exact_signed exact_signed

none_unless : {X : Type 0} (found : Option X) (b : Bool) → (IsSome found → b ≡ false) → b ≡ true → found ≡ None
none_unless None b ahead behind = refl
none_unless (Some x) b ahead behind = let no : false ≡ true = sym (ahead refl) ∙ behind in cc

module _ {K X : Type 0} {R : K → K → Ordering} (total : IsTotalOrder R) where
  find_is : (es : List (K × X)) (q : K) → find R q es ≡ lookup (is_at (R q)) es
  find_is [] q = refl
  find_is (e ∷ es) q = ap (cond (is_at (R q) e.0) (Some e.1)) (find_is es q)

  -- what the finite map has is what the ordered map has
  map_get : (m : BTreeMap K X) (q : K) → get (from_entries {R = R} m.entries) q ≡ tree.get R m q
  map_get m q = get-from_entries total m.entries q ∙ find_is m.entries q

  -- the key of the code, k, is q
  pub read_at : (m : BTreeMap K X) (v : FinMap R X) (k q : K) → k ≡ q → from_entries m.entries ≡ v → tree.get R m k ≡ get v q
  read_at m v k q same e = sym (ap (λ w. get w q) (sym e) ∙ map_get m q ∙ ap (tree.get R m) (sym same))

  -- behind the last key nothing stands
  pub none_behind : (m : BTreeMap K X) (v : FinMap R X) (last k q : K) → k ≡ q → from_entries m.entries ≡ v → tree.IsUpperBound R m last → is_lt (R last k) ≡ true → get v q ≡ None
  none_behind m v last k q same e ahead behind = sym (read_at m v k q same e) ∙ none_unless (tree.get R m k) (is_lt (R last k)) (ahead k) behind

  insert_here : CmpEqualImpliesEq R → (before after : BTreeMap K X) (k : K) (v : X) → tree.Updates R before after k (Some v) → from_entries {R = R} after.entries ≡ insert (from_entries before.entries) k v
  insert_here exact before after k v u = same_map total exact _ _ (λ q.
      map_get after q ∙ u.0 q ∙ ap (λ b. cond b (Some v) (tree.get R before q)) ((eq_by_cmp_equiv total).symm k q)
      ∙ sym (get-insert total (from_entries before.entries) k v q ∙ ap (cond (is_at (R q) k) (Some v)) (map_get before q)))

  pub map_insert : CmpEqualImpliesEq R → (before after : BTreeMap K X) (m : FinMap R X) (k q : K) (v : X) → k ≡ q → from_entries before.entries ≡ m → tree.Updates R before after k (Some v) → from_entries {R = R} after.entries ≡ insert m q v
  map_insert exact before after m k q v same e u =
      insert_here exact before after k v u ∙ ap (λ l. insert (from_entries before.entries) l v) same ∙ ap (λ n. insert n q v) e

  remove_here : CmpEqualImpliesEq R → (before after : BTreeMap K X) (k : K) → tree.Updates R before after k None → from_entries {R = R} after.entries ≡ remove (from_entries before.entries) k
  remove_here exact before after k u = same_map total exact _ _ (λ q.
      map_get after q ∙ u.0 q ∙ ap (λ b. cond b None (tree.get R before q)) ((eq_by_cmp_equiv total).symm k q)
      ∙ sym (get-remove total (from_entries before.entries) k q ∙ ap (cond (is_at (R q) k) None) (map_get before q)))

  pub map_remove : CmpEqualImpliesEq R → (before after : BTreeMap K X) (m : FinMap R X) (k q : K) → k ≡ q → from_entries before.entries ≡ m → tree.Updates R before after k None → from_entries {R = R} after.entries ≡ remove m q
  map_remove exact before after m k q same e u =
      remove_here exact before after k u ∙ ap (λ l. remove (from_entries before.entries) l) same ∙ ap (λ n. remove n q) e

  -- the same of an entry of it that is free
  pub map_filled : CmpEqualImpliesEq R → {Z : Type 0} {g : ord.Ghosts K} {g' : eq.Ghosts K} {g'' : partial.Ghosts K} (before : BTreeMap K X) (after : List (K × X)) (m : FinMap R X) (k q : K) (e : Entry K X Z g g' g'') (v : X)
      → k ≡ q → from_entries before.entries ≡ m → IsEntryFor R before k e → after ≡ (map_with_value e v).entries → from_entries after ≡ insert m q v
  map_filled exact before after m k q e v same is h written = ap from_entries written ∙ map_insert exact before (map_with_value e v) m k q v same is (h.0 v)

  -- and where the map is left alone
  pub map_left : (before : BTreeMap K X) (after : List (K × X)) (m : FinMap R X) → from_entries before.entries ≡ m → after ≡ before.entries → from_entries after ≡ m
  map_left before after m is same = ap from_entries same ∙ is

-- a number as it is stored, and two of them
pub stored : (z : ℤ) → SFits w32 z → to_z w32 (of_z w32 z) ≡ z
stored z fits = to_z-of_z w32 z fits

pub stored_pair : (r c : ℤ) → SFits w32 r → SFits w32 c → ◌≡◌ {A = ℤ × ℤ} (to_z w32 (of_z w32 r), to_z w32 (of_z w32 c)) (r, c)
stored_pair r c fits fits_too = ap₂ (λ (x y : ℤ). (x, y)) (stored r fits) (stored c fits_too)

-- what holds at all holds where an error is answered
pub on_any_error : {X E P : Type 0} (r : Result X E) → P → OnErr r P
on_any_error (Ok x) p = tt
on_any_error (Err e) p = p
