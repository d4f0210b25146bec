-- Contents that are seen as others, where the one way to hold them is seen as the other: what the rules on arrays, spills
-- and styles find among them is the same, what they make is seen as the same, and what holds of the seen ones holds of them.
use Rattle.std.proofs.Common.{◌≡◌, ℤ, suc, pos, length, List, [], ◌∷◌, map, Bool, true, false, cond, ◌&&◌, Option, Some, None, T, refl, sym, ap, ap₂, subst, ◌∙◌}
use Rattle.std.specs.FinMap as finite
use Rattle.std.specs.FinMap.{find, is_sorted}
use Rattle.std.specs.FinMap.Entries.{below_all}
use Rattle.std.specs.List.{list_any}
use Rattle.std.specs.Ordering.{eq_by_cmp, is_lt}
use Rattle.std.specs.Prelude.{◌||◌, option_and_then, option_map, unwrap_or}
use Rattle.ic_laws.proofs.core.CellWritten.{place_cmp_total}
use Rattle.ic_cells.specs.Maps.{place_cmp}
use Rattle.ic_cells.specs.declared.layout.ColumnProps.{ColumnProps}
use Rattle.ic_cells.specs.declared.layout.Merge.{Merge}
use Rattle.ic_cells.specs.declared.layout.RowProps.{RowProps}
use Rattle.ic_cells.specs.declared.value.FormulaValue.{FormulaValue}
use Rattle.ic_cells.specs.declared.value.FormulaValue.TheVariants as formulas
use Rattle.ic_cells.specs.declared.value.SpillValue.{SpillValue}
use Rattle.ic_grid.proofs.ContentsLemmas.{get-remade, same_contents}
use Rattle.ic_grid.specs.Arrays.{anchor_at, anchor_of, array_at, array_from, array_of, has_in, is_fixed, is_fixed_at, reaches}
use Rattle.ic_grid.specs.Block.{Place, is_in_block, same_place}
use Rattle.ic_grid.specs.Clear.{cleared, cleared_cell, wiped}
use Rattle.ic_grid.specs.Conditions.{AreArrays, AreInSheet, AreMerges, Has}
use Rattle.ic_grid.specs.Contents.{Contents, changed_where, remade}
use Rattle.ic_grid.specs.Prepare.{anchor_reset, loosened, loosened_in, prepared, released, released_if, unspilled, without_spill, written}
use Rattle.ic_grid.specs.Shape.{Empty, Holding, Shape, emptied, is_anchor, is_spill_of, reset, spread}
use Rattle.ic_grid.specs.Style.{Columns, Rows, first_style, style_at}
use Rattle.ic_grid.specs.Value.{is_cse_anchor, shape_at, valued, valued_cell}
use Rattle.ic_grid.specs.declared.block.Array.{Array}
use Rattle.ic_grid.specs.declared.block.Block.{Block}
use Rattle.ic_machine.specs.Alike.{HoldsAlike, seen_by}

-- nothing stands in no contents
pub entries-empty : (X : Type 0) → finite.entries (finite.empty {X = X} {R = place_cmp}) ≡ []
entries-empty X = none (finite.entries (finite.empty {X = X} {R = place_cmp})) (sym (finite.len-entries (finite.empty {X = X} {R = place_cmp})) ∙ finite.len-empty place_cmp X)
  where
    none : (es : List (Place × X)) → length es ≡ 0 → es ≡ []
    none [] e = refl
    none (x ∷ es) e = let longer : suc (length es) ≡ 0 = e in cc

module _ {X Y : Type 0} (f : X → Y) where
  -- what stands where ----

  abbrev read : Place × X → Place × Y
  read e = (e.0, f e.1)

  below_read : (p : Place) (es : List (Place × X)) → below_all place_cmp p (map read es) ≡ below_all place_cmp p es
  below_read p [] = refl
  below_read p (e ∷ es) = ap (λ b. is_lt (place_cmp p e.0) && b) (below_read p es)

  sorted_read : (es : List (Place × X)) → is_sorted place_cmp (map read es) ≡ is_sorted place_cmp es
  sorted_read [] = refl
  sorted_read (e ∷ es) = ap₂ (λ (a b : Bool). a && b) (below_read e.0 es) (sorted_read es)

  cond_map : (t : Bool) (x : X) (o : Option X) → cond t (Some (f x)) (option_map f o) ≡ option_map f (cond t (Some x) o)
  cond_map true x o = refl
  cond_map false x o = refl

  find_read : (q : Place) (es : List (Place × X)) → find place_cmp q (map read es) ≡ option_map f (find place_cmp q es)
  find_read q [] = refl
  find_read q (e ∷ es) = ap (cond (eq_by_cmp place_cmp q e.0) (Some (f e.1))) (find_read q es) ∙ cond_map (eq_by_cmp place_cmp q e.0) e.1 (find place_cmp q es)

  sorted_seen : (m : Contents X) → T (is_sorted place_cmp (map read (finite.entries m)))
  sorted_seen m = subst T (sym (sorted_read (finite.entries m))) (finite.entries_sorted m)

  pub entries-seen : (m : Contents X) → finite.entries (seen_by f m) ≡ map (λ (e : Place × X). let read : Place × Y = (e.0, f e.1) in read) (finite.entries m)
  unfolding seen_by
  entries-seen m = finite.entries-from_sorted place_cmp (map read (finite.entries m)) (sorted_seen m)

  pub get-seen : (m : Contents X) (q : Place) → finite.get (seen_by f m) q ≡ option_map f (finite.get m q)
  unfolding seen_by
  get-seen m q =
      finite.get-from_sorted place_cmp (map read (finite.entries m)) q (sorted_seen m) ∙ find_read q (finite.entries m) ∙ ap (option_map f) (sym (finite.get-entries m q))

  -- what is seen at a place stands there
  pub stands_seen : (o : Option X) (y : Y) → option_map f o ≡ Some y → (x : X) × (o ≡ Some x) × (f x ≡ y)
  stands_seen None y e = cc
  stands_seen (Some x) y e = (x, refl, cc)

  pub empty-seen : seen_by f (finite.empty {R = place_cmp}) ≡ finite.empty
  empty-seen = same_contents _ _ (λ q. get-seen finite.empty q ∙ ap (option_map f) (finite.get-empty place_cmp q) ∙ sym (finite.get-empty place_cmp q))

  pub insert-seen : (m : Contents X) (p : Place) (x : X) → seen_by f (finite.insert m p x) ≡ finite.insert (seen_by f m) p (f x)
  insert-seen m p x =
      same_contents _ _ (λ q.
      get-seen (finite.insert m p x) q ∙ ap (option_map f) (finite.get-insert place_cmp_total m p x q)
      ∙ sym (cond_map (same_place q p) x (finite.get m q))
      ∙ ap (cond (same_place q p) (Some (f x))) (sym (get-seen m q)) ∙ sym (finite.get-insert place_cmp_total (seen_by f m) p (f x) q))

  made_so : (g : X → Option X) (h : Y → Option Y) → ((x : X) → h (f x) ≡ option_map f (g x)) → (o : Option X) → option_and_then h (option_map f o) ≡ option_map f (option_and_then g o)
  made_so g h alike None = refl
  made_so g h alike (Some x) = alike x

  pub remade-seen : (g : Place → X → Option X) (h : Place → Y → Option Y) (m : Contents X) → ((q : Place) (x : X) → h q (f x) ≡ option_map f (g q x)) → remade h (seen_by f m) ≡ seen_by f (remade g m)
  remade-seen g h m alike =
      same_contents _ _ (λ q.
      get-remade h (seen_by f m) q ∙ ap (option_and_then (h q)) (get-seen m q) ∙ made_so (g q) (h q) (alike q) (finite.get m q)
      ∙ ap (option_map f) (sym (get-remade g m q)) ∙ sym (get-seen (remade g m) q))

  cond_seen : (t : Bool) (x y : X) → cond t (f x) (f y) ≡ f (cond t x y)
  cond_seen true x y = refl
  cond_seen false x y = refl

  changed-seen : (test : Place → Bool) (g : X → X) (h : Y → Y) (m : Contents X) → ((x : X) → h (f x) ≡ f (g x)) → changed_where test h (seen_by f m) ≡ seen_by f (changed_where test g m)
  changed-seen test g h m alike =
      remade-seen (λ q x. Some (cond (test q) (g x) x)) (λ q y. Some (cond (test q) (h y) y)) m
      (λ q x. ap (λ (y : Y). let o : Option Y = Some y in o) (ap (λ y. cond (test q) y (f x)) (alike x) ∙ cond_seen (test q) (g x) x))

-- One way to hold things is seen as another, whatever numbers their styles have. ----

pub record IsSeenAs {X Y : Type 0} (f : X → Y) (one : Holding X) (other : Holding Y) : Type 0 where
  pub shape : (x : X) → other.shape (f x) ≡ one.shape x
  pub empty : (x : X) → emptied other (f x) ≡ f (emptied one x)
  pub with_value : (value : FormulaValue) (x : X) → other.with_value value (f x) ≡ f (one.with_value value x)
  pub with_area : (width height : ℤ) (x : X) → other.with_area width height (f x) ≡ f (one.with_area width height x)
  pub spill : (x : X) (a : Place) (value : SpillValue) → other.spill (other.style (f x)) a value ≡ f (one.spill (one.style x) a value)

module _ {X Y : Type 0} (f : X → Y) (one : Holding X) (other : Holding Y) (seen : IsSeenAs f one other) where
  -- what becomes of one thing ----

  reset_as : (x : X) → reset other (f x) ≡ f (reset one x)
  reset_as x = ap (other.with_area (pos 1) (pos 1)) (seen.with_value formulas.Unevaluated x) ∙ seen.with_area (pos 1) (pos 1) (one.with_value formulas.Unevaluated x)

  unspilled_as : (a : Place) (x : X) → unspilled other a (f x) ≡ f (unspilled one a x)
  unspilled_as a x =
      ap₂ (λ (t : Bool) (y : Y). cond t y (f x)) (ap (is_spill_of a) (seen.shape x)) (seen.empty x) ∙ cond_seen f (is_spill_of a (one.shape x)) (emptied one x) x

  anchor_reset_as : (x : X) → anchor_reset other (f x) ≡ f (anchor_reset one x)
  anchor_reset_as x =
      ap₂ (λ (t : Bool) (y : Y). cond t y (f x)) (ap is_anchor (seen.shape x)) (reset_as x) ∙ cond_seen f (is_anchor (one.shape x)) (reset one x) x

  loosened_as : (x : X) → loosened other (f x) ≡ f (loosened one x)
  loosened_as x =
      ap (λ (t : Bool). cond t (reset other (f x)) (emptied other (f x))) (ap is_anchor (seen.shape x))
      ∙ ap₂ (λ (y z : Y). cond (is_anchor (one.shape x)) y z) (reset_as x) (seen.empty x) ∙ cond_seen f (is_anchor (one.shape x)) (reset one x) (emptied one x)

  pub without_spill_as : (a : Place) (m : Contents X) → without_spill other a (seen_by f m) ≡ seen_by f (without_spill one a m)
  without_spill_as a m = changed-seen f (λ q. true) (unspilled one a) (unspilled other a) m (unspilled_as a)

  released_as : (a : Place) (m : Contents X) → released other a (seen_by f m) ≡ seen_by f (released one a m)
  released_as a m =
      ap (changed_where (λ q. same_place q a) (anchor_reset other)) (without_spill_as a m)
      ∙ changed-seen f (λ q. same_place q a) (anchor_reset one) (anchor_reset other) (without_spill one a m) anchor_reset_as

  module _ (m : Contents X) where
    -- shapes and arrays ----

    found_so : {A : Type 0} (look : Shape → Option A) (o : Option X) → option_and_then (λ y. look (other.shape y)) (option_map f o) ≡ option_and_then (λ x. look (one.shape x)) o
    found_so look None = refl
    found_so look (Some x) = ap look (seen.shape x)

    pub shape_at_as : (p : Place) → shape_at other (seen_by f m) p ≡ shape_at one m p
    shape_at_as p = ap (λ (o : Option Y). unwrap_or (option_map other.shape o) Empty) (get-seen f m p) ∙ by_thing (finite.get m p)
      where
        by_thing : (o : Option X) → unwrap_or (option_map other.shape (option_map f o)) Empty ≡ unwrap_or (option_map one.shape o) Empty
        by_thing None = refl
        by_thing (Some x) = seen.shape x

    pub anchor_at_as : (p : Place) → anchor_at other (seen_by f m) p ≡ anchor_at one m p
    anchor_at_as p = ap (option_and_then (λ y. anchor_of p (other.shape y))) (get-seen f m p) ∙ found_so (anchor_of p) (finite.get m p)

    pub array_of_as : (a : Place) → array_of other (seen_by f m) a ≡ array_of one m a
    array_of_as a = ap (option_and_then (λ y. array_from a (other.shape y))) (get-seen f m a) ∙ found_so (array_from a) (finite.get m a)

    pub array_at_as : (p : Place) → array_at other (seen_by f m) p ≡ array_at one m p
    array_at_as p = ap (option_and_then (array_of other (seen_by f m))) (anchor_at_as p) ∙ by_anchor (anchor_at one m p)
      where
        by_anchor : (o : Option Place) → option_and_then (array_of other (seen_by f m)) o ≡ option_and_then (array_of one m) o
        by_anchor None = refl
        by_anchor (Some a) = array_of_as a

    pub is_fixed_at_as : (p : Place) → is_fixed_at other (seen_by f m) p ≡ is_fixed_at one m p
    is_fixed_at_as p = ap is_fixed (array_at_as p)

    pub has_in_as : (b : Block) (test : Option Array → Bool) → has_in other (seen_by f m) b test ≡ has_in one m b test
    has_in_as b test = ap (λ (es : List (Place × Y)). list_any (λ p. is_in_block b p && test (array_at other (seen_by f m) p)) (map (λ e. e.0) es)) (entries-seen f m) ∙ by_entries (finite.entries m)
      where
        by_entries : (es : List (Place × X))
            → list_any (λ p. is_in_block b p && test (array_at other (seen_by f m) p)) (map (λ (e : Place × Y). e.0) (map (λ (e : Place × X). let read : Place × Y = (e.0, f e.1) in read) es))
            ≡ list_any (λ p. is_in_block b p && test (array_at one m p)) (map (λ (e : Place × X). e.0) es)
        by_entries [] = refl
        by_entries (e ∷ es) = ap₂ (λ (s t : Bool). s || t) (ap (λ array. is_in_block b e.0 && test array) (array_at_as e.0)) (by_entries es)

    -- what is written, cleared and valued ----

    pub prepared_as : (p : Place) → prepared other p (seen_by f m) ≡ seen_by f (prepared one p m)
    prepared_as p = ap (λ o. released_if other o (seen_by f m)) (anchor_at_as p) ∙ by_anchor (anchor_at one m p)
      where
        by_anchor : (o : Option Place) → released_if other o (seen_by f m) ≡ seen_by f (released_if one o m)
        by_anchor None = refl
        by_anchor (Some a) = released_as a m

    pub written_as : (p : Place) (x : X) → written other p (f x) (seen_by f m) ≡ seen_by f (written one p x m)
    written_as p x = ap (λ (c : Contents Y). finite.insert c p (f x)) (prepared_as p) ∙ sym (insert-seen f (prepared one p m) p x)

    pub loosened_in_as : (b : Block) → loosened_in other b (seen_by f m) ≡ seen_by f (loosened_in one b m)
    loosened_in_as b =
        remade-seen f (λ q x. Some (cond (reaches b (array_at one m q)) (loosened one x) x)) (λ q y. Some (cond (reaches b (array_at other (seen_by f m) q)) (loosened other y) y)) m
        (λ q x. ap (λ (y : Y). let o : Option Y = Some y in o) (in_reach (array_at other (seen_by f m) q) (array_at one m q) (array_at_as q) x))
      where
        in_reach : (a c : Option Array) → a ≡ c → (x : X) → cond (reaches b a) (loosened other (f x)) (f x) ≡ f (cond (reaches b c) (loosened one x) x)
        in_reach a c e x = ap₂ (λ (t : Bool) (y : Y). cond t y (f x)) (ap (reaches b) e) (loosened_as x) ∙ cond_seen f (reaches b c) (loosened one x) x

    wiped_as : (all : Bool) (x : X) → wiped other all (f x) ≡ option_map f (wiped one all x)
    wiped_as true x = refl
    wiped_as false x = ap (λ (y : Y). let o : Option Y = Some y in o) (seen.empty x)

    pub cleared_as : (b : Block) (all : Bool) → cleared other b all (seen_by f m) ≡ seen_by f (cleared one b all m)
    cleared_as b all = remade-seen f (cleared_cell one m b all) (cleared_cell other (seen_by f m) b all) m (λ q x. in_block q x (is_in_block b q))
      where
        in_block : (q : Place) (x : X) (t : Bool)
            → cond t (wiped other all (f x)) (Some (cond (reaches b (array_at other (seen_by f m) q)) (loosened other (f x)) (f x)))
            ≡ option_map f (cond t (wiped one all x) (Some (cond (reaches b (array_at one m q)) (loosened one x) x)))
        in_block q x true = wiped_as all x
        in_block q x false =
            ap (λ (y : Y). let o : Option Y = Some y in o)
            (ap₂ (λ (t : Bool) (y : Y). cond t y (f x)) (ap (reaches b) (array_at_as q)) (loosened_as x) ∙ cond_seen f (reaches b (array_at one m q)) (loosened one x) x)

    pub valued_as : (a : Place) (value : FormulaValue) → valued other a value (seen_by f m) ≡ seen_by f (valued one a value m)
    valued_as a value =
        ap (λ (s : Shape). remade (λ q y. Some (valued_cell other (is_cse_anchor s) value a q y)) (seen_by f m)) (shape_at_as a)
        ∙ remade-seen f (λ q x. Some (valued_cell one (is_cse_anchor (shape_at one m a)) value a q x)) (λ q y. Some (valued_cell other (is_cse_anchor (shape_at one m a)) value a q y)) m
        (λ q x. ap (λ (y : Y). let o : Option Y = Some y in o) (by_place (is_cse_anchor (shape_at one m a)) (same_place q a) x))
      where
        own : (cse : Bool) (x : X) → other.with_value value (cond cse (f x) (other.with_area (pos 1) (pos 1) (f x))) ≡ f (one.with_value value (cond cse x (one.with_area (pos 1) (pos 1) x)))
        own true x = seen.with_value value x
        own false x = ap (other.with_value value) (seen.with_area (pos 1) (pos 1) x) ∙ seen.with_value value (one.with_area (pos 1) (pos 1) x)

        of_spill : (cse : Bool) (x : X) → cond cse (other.spill (other.style (f x)) a (spread value)) (emptied other (f x)) ≡ f (cond cse (one.spill (one.style x) a (spread value)) (emptied one x))
        of_spill true x = seen.spill x a (spread value)
        of_spill false x = seen.empty x

        by_place : (cse here : Bool) (x : X)
            → cond here (other.with_value value (cond cse (f x) (other.with_area (pos 1) (pos 1) (f x))))
            (cond (is_spill_of a (other.shape (f x))) (cond cse (other.spill (other.style (f x)) a (spread value)) (emptied other (f x))) (f x))
            ≡ f
            (cond here (one.with_value value (cond cse x (one.with_area (pos 1) (pos 1) x)))
            (cond (is_spill_of a (one.shape x)) (cond cse (one.spill (one.style x) a (spread value)) (emptied one x)) x))
        by_place cse true x = own cse x
        by_place cse false x =
            ap₂ (λ (t : Bool) (y : Y). cond t y (f x)) (ap (is_spill_of a) (seen.shape x)) (of_spill cse x)
            ∙ cond_seen f (is_spill_of a (one.shape x)) (cond cse (one.spill (one.style x) a (spread value)) (emptied one x)) x

module _ {X Y : Type 0} (f : X → Y) (one : Holding X) (other : Holding Y) (alike : HoldsAlike f one other) where
  pub seen_alike : IsSeenAs f one other
  seen_alike = record {
    shape = alike.shape;
    empty = λ x. ap other.empty (alike.style x) ∙ alike.empty (one.style x);
    with_value = alike.with_value;
    with_area = alike.with_area;
    spill = λ x a value. ap (λ style. other.spill style a value) (alike.style x) ∙ alike.spill (one.style x) a value;
  }

  module _ (m : Contents X) where
    pub array_of-seen : (a : Place) → array_of other (seen_by f m) a ≡ array_of one m a
    array_of-seen a = array_of_as f one other seen_alike m a

    pub array_at-seen : (p : Place) → array_at other (seen_by f m) p ≡ array_at one m p
    array_at-seen p = array_at_as f one other seen_alike m p

    pub is_fixed_at-seen : (p : Place) → is_fixed_at other (seen_by f m) p ≡ is_fixed_at one m p
    is_fixed_at-seen p = is_fixed_at_as f one other seen_alike m p

    pub written-seen : (p : Place) (x : X) → written other p (f x) (seen_by f m) ≡ seen_by f (written one p x m)
    written-seen p x = written_as f one other seen_alike m p x

    pub style_at-seen : (rows : Rows) (columns : Columns) (p : Place) → style_at other (seen_by f m) rows columns p ≡ style_at one m rows columns p
    style_at-seen rows columns p =
        ap (λ o. first_style o (option_and_then (λ (row : RowProps). row.style) (finite.get rows p.0)) (option_and_then (λ (column : ColumnProps). column.style) (finite.get columns p.1)))
        (ap (option_map other.style) (get-seen f m p) ∙ styled (finite.get m p))
      where
        styled : (o : Option X) → option_map other.style (option_map f o) ≡ option_map one.style o
        styled None = refl
        styled (Some x) = ap Some (alike.style x)

    -- what holds ----

    has_seen : (p : Place) (shape : Shape) → Has one m p shape → Has other (seen_by f m) p shape
    has_seen p shape h = (f h.0, get-seen f m p ∙ ap (option_map f) h.1, alike.shape h.0 ∙ h.2)

    has_held : (p : Place) (shape : Shape) → Has other (seen_by f m) p shape → Has one m p shape
    has_held p shape h =
        let back = stands_seen f (finite.get m p) h.0 (sym (get-seen f m p) ∙ h.1) in
        (back.0, back.1, sym (alike.shape back.0) ∙ ap other.shape back.2 ∙ h.2)

    pub inside_held : AreInSheet other (seen_by f m) → AreInSheet one m
    inside_held h p x at = h p (f x) (get-seen f m p ∙ ap (option_map f) at)

    pub arrays_held : AreArrays other (seen_by f m) → AreArrays one m
    arrays_held h = record {
      areas = λ a w t kind has. h.areas a w t kind (has_seen a _ has);
      filled = λ a p w t kind has inside other_place. has_held p _ (h.filled a p w t kind (has_seen a _ has) inside other_place);
      owned = λ a p has. let owner = h.owned a p (has_seen p _ has) in (owner.0, owner.1, owner.2, has_held a _ owner.3, owner.4);
    }

    pub merges_held : (merges : List Merge) → AreMerges other (seen_by f m) merges → AreMerges one m merges
    merges_held merges h = record { areas = h.areas; apart = h.apart; arrays = λ a array e several. h.arrays a array (array_of-seen a ∙ e) several }
