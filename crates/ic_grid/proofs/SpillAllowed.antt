-- A block that an array may have: what holds of it.
use Rattle.std.proofs.Common.{◌≡◌, ◌∙◌, refl, sym, ap, ap₂, subst, ℕ, ℤ, pos, suc, Bool, true, false, cond, not, ◌&&◌, ◌||◌, List, [], ◌∷◌, length, Option, Some, None, Ok, Err}
use Rattle.std.proofs.lemmas.Bool.{both_ways, or_left as either_true, or_right as or_true}
use Rattle.std.proofs.lemmas.Bool.Decides.{Decides-int_eq}
use Rattle.std.specs.FinMap as finite
use Rattle.std.specs.Option.{option_and_then, option_map, unwrap_or}
use Rattle.std.specs.Ordering.{int_eq}
use Rattle.std.specs.Prelude.{◌*ℤ◌}
use Rattle.ic_cells.specs.declared.cell.ArrayKind.{ArrayKind}
use Rattle.ic_cells.specs.declared.cell.Cell.{Cell}
use Rattle.ic_cells.specs.declared.cell.Cell.TheVariants as cells
use Rattle.ic_cells.specs.declared.layout.Merge.{Merge}
use Rattle.ic_grid.proofs.BlockLemmas.{block_of_one, first_in, one_is_area}
use Rattle.ic_grid.proofs.ContentsLemmas.{same_itself}
use Rattle.ic_grid.proofs.ArrayLemmas.{array_with}
use Rattle.ic_grid.proofs.RowLemmas.{IsAt, at_first, at_next, first_left, left_other, none_at_end, placed_away, this_done}
use Rattle.ic_grid.proofs.SpillFilled.{rest_at, rest_length, spilled_placed}
use Rattle.ic_grid.proofs.SpillWhole.{spilled_arrays, spilled_inside, spilled_merges}
use Rattle.ic_grid.proofs.ReleaseLemmas.{there_array}
use Rattle.ic_laws.proofs.core.CellWritten.{place_cmp_total}
use Rattle.ic_cells.specs.declared.value.FormulaValue.{FormulaValue}
use Rattle.ic_cells.specs.declared.value.SpillValue.{SpillValue}
use Rattle.ic_grid.specs.Prepare.{without_spill}
use Rattle.ic_grid.specs.Walk.{is_left}
use Rattle.ic_grid.specs.Whole.{IsGrid}
use Rattle.ic_grid.specs.declared.block.Array.{Array}
use Rattle.ic_grid.specs.declared.grid.Grid.{Grid}
use Rattle.ic_grid.proofs.SpillFits.{Fits, at_places, counted, in_sheet_area, none_blocks, none_met, parts}
use Rattle.ic_grid.proofs.WalkLemmas.{by_side}
use Rattle.ic_grid.specs.Arrays.{array_from}
use Rattle.ic_grid.specs.Block.{Place, block_at, first_place, has_places, next_place, is_in_block, is_in_sheet, is_single, same_place}
use Rattle.ic_grid.specs.Calls.{Answer, blocked_by, can_spill, spill_answer}
use Rattle.ic_grid.specs.Conditions.{AreArrays, AreInSheet, AreMerges, Has}
use Rattle.ic_grid.specs.Contents.{Contents}
use Rattle.ic_grid.specs.Merges.{is_merged}
use Rattle.ic_grid.specs.Rows.{place_count, placed}
use Rattle.ic_grid.specs.Shape.{Anchor, Empty, SpillOf, celled, gathered, is_cse, shape_of}
use Rattle.ic_grid.specs.Spill.{array_cells, first_of_blocking, first_to_block, has_other_area, is_free, misfits, rest_cells, spilled}
use Rattle.ic_grid.specs.Value.{formula_array, shape_at}
use Rattle.ic_grid.specs.declared.block.Block.{Block}
use Rattle.ic_grid.specs.declared.error.GridError.TheVariants as errors

fit_parts : (x y z : Bool) → ((not x || not y) || z) ≡ false → (x ≡ true) × (y ≡ true) × (z ≡ false)
fit_parts true true z e = (refl, refl, e)
fit_parts true false z e = cc
fit_parts false y z e = cc

same_area : (x y : Bool) → not (x && y) ≡ false → (x ≡ true) × (y ≡ true)
same_area true true e = (refl, refl)
same_area true false e = cc
same_area false y e = cc

none_blocked : (o : Option Place) → blocked_by o ≡ Ok tt → o ≡ None
none_blocked None e = refl
none_blocked (Some q) e = cc

module _ (merges : List Merge) (m : Contents Cell) (b : Block) (count : ℕ) (w t : ℤ) (kind : ArrayKind) (inside : AreInSheet celled m) (ok : AreArrays celled m) (good : AreMerges celled m merges) (old : Has celled m (first_place b) (Anchor w t kind)) where
  abbrev a : Place
  a = first_place b

  single_fits : is_single b ≡ true → has_places b ≡ true → count ≡ place_count b → Fits merges m b count
  single_fits one places n = record {
    area = one_is_area a b.width b.height one (inside a old.0 old.1);
    places = n;
    free = λ p i. either_true _ _ (block_of_one a p b.width b.height one i);
    apart = λ many. absurd (both_ways (is_single b) many one);
  }

  open_fits : first_of_blocking celled merges m a b count a ≡ None → has_places b ≡ true → count ≡ place_count b → Fits merges m b count
  open_fits none places n = record {
    area = in_sheet_area merges m b places (λ p i. (each p i).0) (inside a old.0 old.1);
    places = n;
    free = λ p i. (each p i).2;
    apart = λ many. none_met merges m b places merges (λ p i. (each p i).1) good.areas;
  }
    where
      each : (p : Place) → is_in_block b p ≡ true → (is_in_sheet p ≡ true) × (is_merged merges p ≡ false) × ((same_place p a || is_free a (shape_at celled m p)) ≡ true)
      each p i =
          parts (is_in_sheet p) (is_merged merges p) (same_place p a || is_free a (shape_at celled m p))
          (none_blocks merges m b (place_count b) a (at_places merges m b places) (ap (λ k. first_of_blocking celled merges m a b k a) (sym n) ∙ none) p (first_left b p ∙ i))

  cse_fits : w ≡ b.width → t ≡ b.height → count ≡ place_count b → Fits merges m b count
  cse_fits wide high n = record {
    area = ok.areas a b.width b.height kind has;
    places = n;
    free = λ p i. by_side (same_place p a) (either_true _ _) (λ s.
        let spill = ok.filled a p b.width b.height kind has i s in
        or_true (same_place p a) (is_free a (shape_at celled m p)) (ap (λ o. is_free a (unwrap_or (option_map shape_of o) Empty)) spill.1 ∙ ap (is_free a) spill.2 ∙ same_itself a));
    apart = λ many. good.arrays a (array_with a b.width b.height kind) (ap (option_and_then (λ x. array_from a (shape_of x))) has.1 ∙ ap (array_from a) has.2) many;
  }
    where
      has : Has celled m a (Anchor b.width b.height kind)
      has = subst (λ n. Has celled m a (Anchor n b.height kind)) wide (subst (λ n. Has celled m a (Anchor w n kind)) high old)

  pub fits : spill_answer celled merges m b count (Anchor w t kind) ≡ Ok tt → Fits merges m b count
  fits e = by_side (misfits b count (Anchor w t kind)) never proper
    where
      first : Option Place
      first = first_to_block celled merges m b count (Anchor w t kind)

      never : misfits b count (Anchor w t kind) ≡ true → Fits merges m b count
      never u = let no : Err errors.BadArea ≡ Ok tt = sym (ap (λ v. let r : Answer = cond v (Err errors.BadArea) (blocked_by first) in r) u) ∙ e in cc

      proper : misfits b count (Anchor w t kind) ≡ false → Fits merges m b count
      proper u =
          let p = fit_parts (has_places b) (int_eq (b.width *ℤ b.height) (pos count)) (is_cse kind && has_other_area b.width b.height (Anchor w t kind)) u in
          let n = counted merges m b count p.0 p.1 in
          let left : first ≡ None = none_blocked first (sym (ap (λ v. let r : Answer = cond v (Err errors.BadArea) (blocked_by first) in r) u) ∙ e) in
          by_side (is_cse kind)
          (λ c.
          let same = same_area (int_eq w b.width) (int_eq t b.height) (sym (ap (λ v. v && has_other_area b.width b.height (Anchor w t kind)) c) ∙ p.2) in
          cse_fits ((Decides-int_eq w b.width).0 same.0) ((Decides-int_eq t b.height).0 same.1) n)
          (λ c. by_side (is_single b) (λ o. single_fits o p.0 n) (λ o.
          open_fits (sym (ap₂ (λ v z. let r : Option Place = cond (v || z) None (first_of_blocking celled merges m a b count a) in r) c o) ∙ left) p.0 n))

module _ (grid : Grid) (ok : IsGrid grid) (b : Block) (f s : ℕ) (array : Array) (is : formula_array (first_place b) (finite.get grid.cells (first_place b)) ≡ Some (f, s, array)) (values : List SpillValue)
    (allowed : spill_answer celled grid.merged_cells grid.cells b (length values) (Anchor array.block.width array.block.height array.kind) ≡ Ok tt) where
  here : (v : FormulaValue) × (finite.get grid.cells (first_place b) ≡ Some (cells.ArrayFormula array.kind f s (array.block.width, array.block.height) v)) × (block_at (first_place b) array.block.width array.block.height ≡ array.block)
  here = there_array (first_place b) (finite.get grid.cells (first_place b)) f s array is

  old_anchor : Has celled grid.cells (first_place b) (Anchor array.block.width array.block.height array.kind)
  old_anchor = (cells.ArrayFormula array.kind f s (array.block.width, array.block.height) here.0, here.1, refl)

  pub array_fits : Fits grid.merged_cells grid.cells b (length values)
  array_fits = fits grid.merged_cells grid.cells b (length values) array.block.width array.block.height array.kind ok.inside ok.arrays ok.merges old_anchor allowed

  at_begin : IsAt b (first_place b) (length values)
  at_begin = subst (λ n. IsAt b (first_place b) n) (sym array_fits.places) (at_first b array_fits.area)

  pub items_count : (items : List Cell) → items ≡ array_cells grid.rows grid.columns grid.cells b f s array.kind values → length items ≡ place_count b
  items_count items e = ap length e ∙ by_values values ∙ array_fits.places
    where
      by_values : (vs : List SpillValue) → length (array_cells grid.rows grid.columns grid.cells b f s array.kind vs) ≡ length vs
      by_values [] = refl
      by_values (v ∷ vs) = ap suc (rest_length grid.rows grid.columns grid.cells b vs (next_place b (first_place b)))

  module _ (after : Contents Cell) (e : after ≡ placed b (first_place b) (array_cells grid.rows grid.columns grid.cells b f s array.kind values) (without_spill celled (first_place b) grid.cells)) where
    some_value : (vs : List SpillValue) → IsAt b (first_place b) (length vs) → (v : SpillValue) × (more : List SpillValue) × (vs ≡ v ∷ more)
    some_value [] at = absurd (both_ways (is_left b (first_place b) (first_place b)) (none_at_end b (first_place b) at (first_place b)) (first_left b (first_place b) ∙ first_in (first_place b) b.width b.height array_fits.area))
    some_value (v ∷ vs) at = (v, vs, refl)

    pub is_spilled : after ≡ spilled celled grid.rows grid.columns b values grid.cells
    is_spilled =
        let v = some_value values at_begin in
        e ∙ ap (λ vs. placed b (first_place b) (array_cells grid.rows grid.columns grid.cells b f s array.kind vs) (without_spill celled (first_place b) grid.cells)) v.2
        ∙ sym (spilled_placed grid.rows grid.columns grid.cells b f s (array.block.width, array.block.height) array.kind here.0 here.1 values at_begin v.0 v.1 v.2)
        ∙ ap (λ vs. spilled celled grid.rows grid.columns b vs grid.cells) (sym v.2)

    pub still_whole : IsGrid (record grid { cells = after })
    still_whole = record {
      inside = spilled_inside grid.merged_cells grid.cells after b (length values) array.kind array.block.width array.block.height ok.inside ok.arrays old_anchor array_fits now rest away;
      arrays = spilled_arrays grid.merged_cells grid.cells after b (length values) array.kind array.block.width array.block.height ok.inside ok.arrays old_anchor array_fits now rest away;
      merges = spilled_merges grid.merged_cells grid.cells after b (length values) array.kind array.block.width array.block.height ok.inside ok.arrays old_anchor array_fits now rest away ok.merges;
    }
      where
        v : (v : SpillValue) × (more : List SpillValue) × (values ≡ v ∷ more)
        v = some_value values at_begin

        w : Contents Cell
        w = without_spill celled (first_place b) grid.cells

        x : Cell
        x = cells.ArrayFormula array.kind f s (b.width, b.height) (gathered v.0)

        next : Place
        next = next_place b (first_place b)

        at_one : IsAt b (first_place b) (suc (length v.1))
        at_one = subst (λ (zs : List SpillValue). IsAt b (first_place b) (length zs)) v.2 at_begin

        others : List Cell
        others = rest_cells grid.rows grid.columns grid.cells b next v.1

        at_others : IsAt b next (length others)
        at_others = subst (λ n. IsAt b next n) (sym (rest_length grid.rows grid.columns grid.cells b v.1 next)) (at_next b (first_place b) (length v.1) at_one)

        is_now : after ≡ placed b next others (finite.insert w (first_place b) x)
        is_now = e ∙ ap (λ vs. placed b (first_place b) (array_cells grid.rows grid.columns grid.cells b f s array.kind vs) w) v.2

        now : Has celled after (first_place b) (Anchor b.width b.height array.kind)
        now = (
          x,
          ap (λ (c : Contents Cell). finite.get c (first_place b)) is_now
              ∙ placed_away b others next at_others (finite.insert w (first_place b) x) (first_place b) (this_done b (first_place b) (length v.1) at_one)
              ∙ finite.get-insert place_cmp_total w (first_place b) x (first_place b) ∙ ap (λ u. cond u (Some x) (finite.get w (first_place b))) (same_itself (first_place b)),
          refl,
        )

        rest : (p : Place) → is_in_block b p ≡ true → same_place p (first_place b) ≡ false → Has celled after p (SpillOf (first_place b))
        rest p i other =
            let r = rest_at grid.rows grid.columns grid.cells b v.1 next (at_next b (first_place b) (length v.1) at_one) (finite.insert w (first_place b) x) p (left_other b (first_place b) (length v.1) at_one p (first_left b p ∙ i) other) in
            (celled.spill r.0 (first_place b) r.1, ap (λ (c : Contents Cell). finite.get c p) is_now ∙ r.2, refl)

        away : (p : Place) → is_in_block b p ≡ false → finite.get after p ≡ finite.get w p
        away p out =
            ap (λ (c : Contents Cell). finite.get c p) e
            ∙ placed_away b (array_cells grid.rows grid.columns grid.cells b f s array.kind values) (first_place b) (subst (λ n. IsAt b (first_place b) n) (sym (items_count _ refl)) (at_first b array_fits.area)) w p (first_left b p ∙ out)

pub answer_is : (merges : List Merge) (m : Contents Cell) (p : Place) (w h : ℤ) (b : Block) (count : ℕ) → b ≡ block_at p w h → (f s : ℕ) (array : Array) → formula_array p (finite.get m p) ≡ Some (f, s, array)
    → can_spill celled merges m (block_at p w h) count ≡ spill_answer celled merges m b count (Anchor array.block.width array.block.height array.kind)
answer_is merges m p w h b count e f s array is =
    ap (λ o. spill_answer celled merges m (block_at p w h) count (unwrap_or (option_map shape_of o) Empty)) (there_array p (finite.get m p) f s array is).1
    ∙ ap (λ (d : Block). spill_answer celled merges m d count (Anchor array.block.width array.block.height array.kind)) (sym e)

pub placed_same : (grid : Grid) (b : Block) (f s : ℕ) (kind : ArrayKind) (values : List SpillValue) (items : List Cell) → items ≡ array_cells grid.rows grid.columns grid.cells b f s kind values → (after : Contents Cell)
    → after ≡ placed b (first_place b) items (without_spill celled (first_place b) grid.cells)
    → after ≡ placed b (first_place b) (array_cells grid.rows grid.columns grid.cells b f s kind values) (without_spill celled (first_place b) grid.cells)
placed_same grid b f s kind values items e after is = is ∙ ap (λ xs. placed b (first_place b) xs (without_spill celled (first_place b) grid.cells)) e

pub turned : (grid : Grid) → IsGrid grid → (after : Contents Cell) → after ≡ grid.cells → IsGrid (record grid { cells = after })
turned grid ok after e = subst (λ (n : Contents Cell). IsGrid (record grid { cells = n })) (sym e) ok
