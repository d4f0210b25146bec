-- Contents that are held in one way, seen as contents that are held in another: what holds of arrays and merged cells holds
-- of both, and what clears a block, gives a value, spills or writes an array does the same to both.
use Rattle.std.proofs.Common.{◌≡◌, ◌∙◌, refl, sym, ap, ap₂, subst, ℕ, zero, suc, pos, Bool, true, false, cond, not, ◌||◌, List, [], ◌∷◌, map, Option, Some, None}
use Rattle.std.specs.FinMap as finite
use Rattle.std.specs.Option.{option_and_then, option_map, unwrap_or}
use Rattle.ic_laws.proofs.core.CellWritten.{place_cmp_total}
use Rattle.ic_cells.specs.Maps.{place_cmp}
use Rattle.ic_cells.specs.declared.layout.ColumnProps.{ColumnProps}
use Rattle.ic_cells.specs.declared.layout.Merge.{Merge}
use Rattle.ic_cells.specs.declared.layout.RowProps.{RowProps}
use Rattle.ic_cells.specs.declared.value.FormulaValue.{FormulaValue}
use Rattle.ic_cells.specs.declared.value.FormulaValue.TheVariants as fvalues
use Rattle.ic_cells.specs.declared.value.SpillValue.{SpillValue}
use Rattle.ic_grid.proofs.ArrayLemmas.{array_there}
use Rattle.ic_grid.proofs.ContentsLemmas.{get-remade}
use Rattle.ic_grid.specs.Arrays.{anchor_at, anchor_of, array_at, array_from, array_of, reaches}
use Rattle.ic_grid.specs.Block.{Place, first_place, is_in_block, is_in_sheet, is_single, next_place, same_place}
use Rattle.ic_grid.specs.Clear.{cleared, wiped}
use Rattle.ic_grid.specs.Conditions.{AreArrays, AreInSheet, AreMerges, Has}
use Rattle.ic_grid.specs.Contents.{Contents, remade}
use Rattle.ic_grid.specs.Merges.{is_merged}
use Rattle.ic_grid.specs.Prepare.{loosened, loosened_in, unspilled, without_spill}
use Rattle.ic_grid.specs.Shape.{Anchor, Empty, Holding, Shape, SpillOf, emptied, gathered, is_anchor, is_spill_of, reset, spread}
use Rattle.ic_grid.specs.Spill.{filled, first_blocking, first_of_blocking, is_free, spilled, with_first}
use Rattle.ic_grid.specs.Style.{Columns, Rows, first_style, style_at}
use Rattle.ic_grid.specs.Value.{is_cse_anchor, shape_at, valued, valued_cell}
use Rattle.ic_grid.specs.declared.block.Block.{Block}
use Rattle.ic_machine.specs.Alike.{HoldsAlike}

-- contents with the same shapes at the same places ----

module _ {X Y : Type 0} (h : Holding X) (k : Holding Y) (m : Contents X) (c : Contents Y) (to : (p : Place) (s : Shape) → Has h m p s → Has k c p s) (back : (p : Place) (s : Shape) → Has k c p s → Has h m p s) where
  pub same_inside : AreInSheet h m → AreInSheet k c
  same_inside inside p y e = let x = back p (k.shape y) (y, e, refl) in inside p x.0 x.1

  pub same_arrays : AreArrays h m → AreArrays k c
  same_arrays ok = record {
    areas = λ a w t kind has. ok.areas a w t kind (back a (Anchor w t kind) has);
    filled = λ a p w t kind has within other. to p (SpillOf a) (ok.filled a p w t kind (back a (Anchor w t kind) has) within other);
    owned = λ a p has. let o = ok.owned a p (back p (SpillOf a) has) in (o.0, o.1, o.2, to a (Anchor o.0 o.1 o.2) o.3, o.4);
  }

  pub same_merges : (merges : List Merge) → AreMerges h m merges → AreMerges k c merges
  same_merges merges ok = record {
    areas = ok.areas;
    apart = ok.apart;
    arrays = λ a array e many.
        let t = array_there k c a array e in
        let has = back a (Anchor t.0 t.1 t.2) t.3 in
        ok.arrays a array (ap (option_and_then (λ x. array_from a (h.shape x))) has.1 ∙ ap (array_from a) has.2 ∙ ap Some t.4) many;
  }

-- the contents that others are seen as ----

module _ {X Y : Type 0} (f : X → Y) where
  abbrev pub IsSeen : Contents X → Contents Y → Type 0
  IsSeen m c = (q : Place) → finite.get c q ≡ option_map f (finite.get m q)

  abbrev pub seen_as : Contents X → Contents Y
  seen_as m = finite.from_entries (map (λ e. (e.0, f e.1)) (finite.entries m))

  some_seen : (t : Bool) (x : X) (o : Option X) → cond t (Some (f x)) (option_map f o) ≡ option_map f (cond t (Some x) o)
  some_seen true x o = refl
  some_seen false x o = refl

  find_seen : (es : List (Place × X)) (q : Place) → finite.find place_cmp q (map (λ e. (e.0, f e.1)) es) ≡ option_map f (finite.find place_cmp q es)
  find_seen [] q = refl
  find_seen (e ∷ es) q = ap (cond (same_place q e.0) (Some (f e.1))) (find_seen es q) ∙ some_seen (same_place q e.0) e.1 (finite.find place_cmp q es)

  pub is_seen_as : (m : Contents X) → IsSeen m (seen_as m)
  is_seen_as m q =
      finite.get-from_entries place_cmp_total (map (λ e. (e.0, f e.1)) (finite.entries m)) q ∙ find_seen (finite.entries m) q ∙ ap (option_map f) (sym (finite.get-entries m q))

  through : {B : Type 0} (g : Y → Option B) (j : X → Option B) → ((x : X) → g (f x) ≡ j x) → (o : Option X) → option_and_then g (option_map f o) ≡ option_and_then j o
  through g j same None = refl
  through g j same (Some x) = same x

  through_map : {B : Type 0} (g : Y → B) (j : X → B) → ((x : X) → g (f x) ≡ j x) → (o : Option X) → option_map g (option_map f o) ≡ option_map j o
  through_map g j same None = refl
  through_map g j same (Some x) = ap Some (same x)

  made : (g : Y → Option Y) (j : X → Option X) → ((x : X) → g (f x) ≡ option_map f (j x)) → (o : Option X) → option_and_then g (option_map f o) ≡ option_map f (option_and_then j o)
  made g j same None = refl
  made g j same (Some x) = same x

  there_seen : (o : Option X) (y : Y) → option_map f o ≡ Some y → (x : X) × (o ≡ Some x) × (f x ≡ y)
  there_seen None y e = cc
  there_seen (Some x) y e = let same : f x ≡ y = cc in (x, refl, same)

  by_test : (t u : Bool) (x y : X) (v w : Y) → t ≡ u → v ≡ f x → w ≡ f y → cond t v w ≡ f (cond u x y)
  by_test t u x y v w e p q = ap (λ z. cond z v w) e ∙ chosen u
    where
      chosen : (u : Bool) → cond u v w ≡ f (cond u x y)
      chosen true = p
      chosen false = q

  by_side : (t : Bool) (x y : Option X) (v w : Option Y) → v ≡ option_map f x → w ≡ option_map f y → cond t v w ≡ option_map f (cond t x y)
  by_side true x y v w p q = p
  by_side false x y v w p q = q

  module _ (m : Contents X) (c : Contents Y) (seen : IsSeen m c) where
    pub insert_seen : (p : Place) (x : X) (y : Y) → y ≡ f x → IsSeen (finite.insert m p x) (finite.insert c p y)
    insert_seen p x y e q =
        finite.get-insert place_cmp_total c p y q ∙ ap₂ (λ (z : Y) (o : Option Y). cond (same_place q p) (Some z) o) e (seen q) ∙ some_seen (same_place q p) x (finite.get m q)
        ∙ ap (option_map f) (sym (finite.get-insert place_cmp_total m p x q))

    pub remade_seen : (g : Place → Y → Option Y) (j : Place → X → Option X) → ((q : Place) (x : X) → g q (f x) ≡ option_map f (j q x)) → IsSeen (remade j m) (remade g c)
    remade_seen g j same q = get-remade g c q ∙ ap (option_and_then (g q)) (seen q) ∙ made (g q) (j q) (same q) (finite.get m q) ∙ ap (option_map f) (sym (get-remade j m q))

-- where both are held alike ----

module _ {X Y : Type 0} (f : X → Y) (h : Holding X) (k : Holding Y) (alike : HoldsAlike f h k) where
  emptied_seen : (x : X) → emptied k (f x) ≡ f (emptied h x)
  emptied_seen x = ap k.empty (alike.style x) ∙ alike.empty (h.style x)

  reset_seen : (x : X) → reset k (f x) ≡ f (reset h x)
  reset_seen x = ap (k.with_area (pos 1) (pos 1)) (alike.with_value fvalues.Unevaluated x) ∙ alike.with_area (pos 1) (pos 1) (h.with_value fvalues.Unevaluated x)

  unspilled_seen : (a : Place) (x : X) → unspilled k a (f x) ≡ f (unspilled h a x)
  unspilled_seen a x = by_test f (is_spill_of a (k.shape (f x))) (is_spill_of a (h.shape x)) (emptied h x) x (emptied k (f x)) (f x) (ap (is_spill_of a) (alike.shape x)) (emptied_seen x) refl

  loosened_seen : (x : X) → loosened k (f x) ≡ f (loosened h x)
  loosened_seen x = by_test f (is_anchor (k.shape (f x))) (is_anchor (h.shape x)) (reset h x) (emptied h x) (reset k (f x)) (emptied k (f x)) (ap is_anchor (alike.shape x)) (reset_seen x) (emptied_seen x)

  wiped_seen : (all : Bool) (x : X) → wiped k all (f x) ≡ option_map f (wiped h all x)
  wiped_seen true x = refl
  wiped_seen false x = ap Some (emptied_seen x)

  valued_one : (cse : Bool) (value : FormulaValue) (a q : Place) (x : X) → valued_cell k cse value a q (f x) ≡ f (valued_cell h cse value a q x)
  valued_one cse value a q x =
      by_test f (same_place q a) (same_place q a) (h.with_value value (cond cse x (h.with_area (pos 1) (pos 1) x))) (cond (is_spill_of a (h.shape x)) (cond cse (h.spill (h.style x) a (spread value)) (emptied h x)) x)
      (k.with_value value (cond cse (f x) (k.with_area (pos 1) (pos 1) (f x)))) (cond (is_spill_of a (k.shape (f x))) (cond cse (k.spill (k.style (f x)) a (spread value)) (emptied k (f x))) (f x)) refl
      (ap (k.with_value value) (by_test f cse cse x (h.with_area (pos 1) (pos 1) x) (f x) (k.with_area (pos 1) (pos 1) (f x)) refl refl (alike.with_area (pos 1) (pos 1) x)) ∙ alike.with_value value (cond cse x (h.with_area (pos 1) (pos 1) x)))
      (by_test f (is_spill_of a (k.shape (f x))) (is_spill_of a (h.shape x)) (cond cse (h.spill (h.style x) a (spread value)) (emptied h x)) x
      (cond cse (k.spill (k.style (f x)) a (spread value)) (emptied k (f x))) (f x) (ap (is_spill_of a) (alike.shape x))
      (by_test f cse cse (h.spill (h.style x) a (spread value)) (emptied h x) (k.spill (k.style (f x)) a (spread value)) (emptied k (f x)) refl
      (ap (λ s. k.spill s a (spread value)) (alike.style x) ∙ alike.spill (h.style x) a (spread value)) (emptied_seen x)) refl)

  module _ (m : Contents X) (c : Contents Y) (seen : IsSeen f m c) where
    pub seen_to : (p : Place) (s : Shape) → Has h m p s → Has k c p s
    seen_to p s has = (f has.0, seen p ∙ ap (option_map f) has.1, alike.shape has.0 ∙ has.2)

    pub seen_back : (p : Place) (s : Shape) → Has k c p s → Has h m p s
    seen_back p s has = let x = there_seen f (finite.get m p) has.0 (sym (seen p) ∙ has.1) in (x.0, x.1, sym (alike.shape x.0) ∙ ap k.shape x.2 ∙ has.2)

    anchor_same : (q : Place) → anchor_at k c q ≡ anchor_at h m q
    anchor_same q =
        ap (option_and_then (λ y. anchor_of q (k.shape y))) (seen q) ∙ through f (λ y. anchor_of q (k.shape y)) (λ x. anchor_of q (h.shape x)) (λ x. ap (anchor_of q) (alike.shape x)) (finite.get m q)

    array_same : (a : Place) → array_of k c a ≡ array_of h m a
    array_same a =
        ap (option_and_then (λ y. array_from a (k.shape y))) (seen a) ∙ through f (λ y. array_from a (k.shape y)) (λ x. array_from a (h.shape x)) (λ x. ap (array_from a) (alike.shape x)) (finite.get m a)

    array_at_same : (q : Place) → array_at k c q ≡ array_at h m q
    array_at_same q = ap (option_and_then (array_of k c)) (anchor_same q) ∙ each (anchor_at h m q)
      where
        each : (o : Option Place) → option_and_then (array_of k c) o ≡ option_and_then (array_of h m) o
        each None = refl
        each (Some a) = array_same a

    pub shape_same : (q : Place) → shape_at k c q ≡ shape_at h m q
    shape_same q = ap (λ (o : Option Y). unwrap_or (option_map k.shape o) Empty) (seen q) ∙ ap (λ (o : Option Shape). unwrap_or o Empty) (through_map f k.shape h.shape alike.shape (finite.get m q))

    style_same : (rows : Rows) (columns : Columns) (q : Place) → style_at k c rows columns q ≡ style_at h m rows columns q
    style_same rows columns q =
        ap (λ (o : Option ℕ). first_style o (option_and_then (λ (row : RowProps). row.style) (finite.get rows q.0)) (option_and_then (λ (column : ColumnProps). column.style) (finite.get columns q.1)))
        (ap (option_map k.style) (seen q) ∙ through_map f k.style h.style alike.style (finite.get m q))

    pub cleared_seen : (b : Block) (all : Bool) → IsSeen f (cleared h b all m) (cleared k b all c)
    cleared_seen b all =
        remade_seen f m c seen _ _
        (λ q x. by_side f (is_in_block b q) (wiped h all x) (Some (cond (reaches b (array_at h m q)) (loosened h x) x)) (wiped k all (f x)) (Some (cond (reaches b (array_at k c q)) (loosened k (f x)) (f x))) (wiped_seen all x)
        (ap Some (by_test f (reaches b (array_at k c q)) (reaches b (array_at h m q)) (loosened h x) x (loosened k (f x)) (f x) (ap (reaches b) (array_at_same q)) (loosened_seen x) refl)))

    pub released_seen : (b : Block) → IsSeen f (loosened_in h b m) (loosened_in k b c)
    released_seen b =
        remade_seen f m c seen _ _
        (λ q x. ap Some (by_test f (reaches b (array_at k c q)) (reaches b (array_at h m q)) (loosened h x) x (loosened k (f x)) (f x) (ap (reaches b) (array_at_same q)) (loosened_seen x) refl))

    pub valued_seen : (a : Place) (value : FormulaValue) → IsSeen f (valued h a value m) (valued k a value c)
    valued_seen a value =
        remade_seen f m c seen _ _
        (λ q x. ap Some (ap (λ s. valued_cell k (is_cse_anchor s) value a q (f x)) (shape_same a) ∙ valued_one (is_cse_anchor (shape_at h m a)) value a q x))

    pub without_seen : (a : Place) → IsSeen f (without_spill h a m) (without_spill k a c)
    without_seen a = remade_seen f m c seen _ _ (λ q x. ap Some (unspilled_seen a x))

    -- what keeps a formula from spilling
    first_same : (merges : List Merge) (a : Place) (b : Block) (n : ℕ) (q : Place) → first_of_blocking k merges c a b n q ≡ first_of_blocking h merges m a b n q
    first_same merges a b zero q = refl
    first_same merges a b (suc n) q =
        ap₂ (λ (s : Shape) (o : Option Place). cond (not (is_in_sheet q) || is_merged merges q || not (same_place q a || is_free a s)) (Some q) o) (shape_same q) (first_same merges a b n (next_place b q))

    pub blocking_same : (merges : List Merge) (b : Block) (count : ℕ) → first_blocking k merges c b count ≡ first_blocking h merges m b count
    blocking_same merges b count =
        ap₂ (λ (s : Shape) (o : Option Place). cond (is_cse_anchor s || is_single b) None o) (shape_same (first_place b)) (first_same merges (first_place b) b count (first_place b))

  module _ (rows : Rows) (columns : Columns) (b : Block) where
    filled_seen : (vs : List SpillValue) (q : Place) (m : Contents X) (c : Contents Y) → IsSeen f m c → IsSeen f (filled h rows columns b q vs m) (filled k rows columns b q vs c)
    filled_seen [] q m c seen = seen
    filled_seen (v ∷ vs) q m c seen =
        filled_seen vs (next_place b q) (finite.insert m q (h.spill (style_at h m rows columns q) (first_place b) v)) (finite.insert c q (k.spill (style_at k c rows columns q) (first_place b) v))
        (insert_seen f m c seen q (h.spill (style_at h m rows columns q) (first_place b) v) (k.spill (style_at k c rows columns q) (first_place b) v)
        (ap (λ s. k.spill s (first_place b) v) (style_same m c seen rows columns q) ∙ alike.spill (style_at h m rows columns q) (first_place b) v))

    first_seen : (v : SpillValue) (o : Option X) (m : Contents X) (c : Contents Y) → IsSeen f m c → IsSeen f (with_first h b v o m) (with_first k b v (option_map f o) c)
    first_seen v None m c seen = seen
    first_seen v (Some x) m c seen =
        insert_seen f m c seen (first_place b) (h.with_value (gathered v) (h.with_area b.width b.height x)) (k.with_value (gathered v) (k.with_area b.width b.height (f x)))
        (ap (k.with_value (gathered v)) (alike.with_area b.width b.height x) ∙ alike.with_value (gathered v) (h.with_area b.width b.height x))

    pub spilled_seen : (vs : List SpillValue) (m : Contents X) (c : Contents Y) → IsSeen f m c → IsSeen f (spilled h rows columns b vs m) (spilled k rows columns b vs c)
    spilled_seen [] m c seen = seen
    spilled_seen (v ∷ vs) m c seen =
        filled_seen vs (next_place b (first_place b)) (with_first h b v (finite.get m (first_place b)) (without_spill h (first_place b) m)) (with_first k b v (finite.get c (first_place b)) (without_spill k (first_place b) c))
        (subst (λ (o : Option Y). IsSeen f (with_first h b v (finite.get m (first_place b)) (without_spill h (first_place b) m)) (with_first k b v o (without_spill k (first_place b) c))) (sym (seen (first_place b)))
        (first_seen v (finite.get m (first_place b)) (without_spill h (first_place b) m) (without_spill k (first_place b) c) (without_seen m c seen (first_place b))))
