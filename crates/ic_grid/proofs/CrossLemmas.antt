-- A block in which no cell tells of an array with a cell outside: each array with a cell in it lies in it whole, so that
-- nothing outside changes when it is cleared.
use Rattle.std.proofs.Common.{◌≡◌, ◌∙◌, refl, sym, ap, ℤ, Bool, true, false, cond, not, ◌&&◌, Option, Some, None, inl, inr, ◌⊎◌}
use Rattle.std.proofs.lemmas.Bool.{and_from, and_parts, both_ways, not-false as unnot}
use Rattle.std.proofs.lemmas.Int.{ints}
use Rattle.std.proofs.Common.{arith}
use Rattle.std.specs.FinMap as finite
use Rattle.std.specs.Option.{option_and_then}
use Rattle.ic_cells.specs.declared.cell.ArrayKind.{ArrayKind}
use Rattle.ic_cells.specs.declared.cell.Cell.{Cell}
use Rattle.ic_grid.proofs.ArrayLemmas.{anchor_at_of, anchor_there, array_there, place_in_area}
use Rattle.ic_grid.proofs.BlockLemmas.{area_places, common}
use Rattle.ic_grid.proofs.ContentsLemmas.{remade_alike, same_is}
use Rattle.ic_grid.proofs.SoughtLemmas.{witness}
use Rattle.ic_grid.proofs.WalkLemmas.{by_side}
use Rattle.ic_grid.specs.Arrays.{HasNoCrossing, anchor_at, array_at, array_of, has_sought, is_crossing, is_cut_by, is_fixed, is_sought, reaches}
use Rattle.ic_grid.specs.Block.{Place, block_at, blocks_meet, is_area, is_between, is_block_within, is_in_block, is_in_span, is_span_within, same_place}
use Rattle.ic_grid.specs.Change.{changed, remade_where}
use Rattle.ic_grid.specs.Clear.{cleared, cleared_cell, wiped, wiping}
use Rattle.ic_grid.specs.Conditions.{AreArrays, Has}
use Rattle.ic_grid.specs.Contents.{Contents}
use Rattle.ic_grid.specs.Prepare.{loosened}
use Rattle.ic_grid.specs.Shape.{Anchor, SpillOf, celled}
use Rattle.ic_grid.specs.declared.arrays.Sought.TheVariants as sought
use Rattle.ic_grid.specs.declared.block.Array.{Array}
use Rattle.ic_grid.specs.declared.block.Block.{Block}

-- a place of a block is one of each block that it is within
span_further : (f n g k at : ℤ) → is_span_within f n g k ≡ true → is_in_span f n at ≡ true → is_in_span g k at ≡ true
unfolding is_between is_span_within
span_further f n g k at e h = grind (arith, ints, e, h)

further : (b c : Block) (p : Place) → is_block_within b c ≡ true → is_in_block b p ≡ true → is_in_block c p ≡ true
further b c p e h =
    let one = and_parts (is_span_within b.row b.height c.row c.height) (is_span_within b.column b.width c.column c.width) e in
    let two = and_parts (is_in_span b.row b.height p.0) (is_in_span b.column b.width p.1) h in
    and_from _ _ (span_further b.row b.height c.row c.height p.0 one.0 two.0) (span_further b.column b.width c.column c.width p.1 one.1 two.1)

module _ (m : Contents Cell) (b : Block) (none : HasNoCrossing m b) where
  -- an array whose formula stands in the block lies in it whole
  formula_inside : (a : Place) (w t : ℤ) (k : ArrayKind) → is_in_block b a ≡ true → Has celled m a (Anchor w t k) → is_block_within (block_at a w t) b ≡ true
  formula_inside a w t k inside has =
      unnot (is_block_within (block_at a w t) b) (ap (is_crossing b a) (sym has.2) ∙ none a has.0 inside has.1)

  -- the formula of an array with a cell in the block stands in it
  anchor_inside : (p a : Place) → is_in_block b p ≡ true → anchor_at celled m p ≡ Some a → is_in_block b a ≡ true
  anchor_inside p a inside e = of_case (anchor_there celled m p a e)
    where
      of_case : ((w : ℤ) × (t : ℤ) × (k : ArrayKind) × Has celled m p (Anchor w t k) × (p ≡ a)) ⊎ Has celled m p (SpillOf a) → is_in_block b a ≡ true
      of_case (inl i) = ap (is_in_block b) (sym i.4) ∙ inside
      of_case (inr i) = unnot (is_in_block b a) (ap (is_crossing b p) (sym i.2) ∙ none p i.0 inside i.1)

  array_inside : (a : Place) (array : Array) → is_in_block b a ≡ true → array_of celled m a ≡ Some array → is_block_within array.block b ≡ true
  array_inside a array inside e =
      let has = array_there celled m a array e in
      ap (λ (one : Array). is_block_within one.block b) (sym has.4) ∙ formula_inside a has.0 has.1 has.2 inside has.3

  never_cut : (t : Bool) (u : Bool) → u ≡ true → (t && not u) ≡ false
  never_cut true true e = refl
  never_cut true false e = cc
  never_cut false u e = refl

  uncut : (p : Place) → is_in_block b p ≡ true → is_cut_by b (array_at celled m p) ≡ false
  uncut p inside = by_anchor (anchor_at celled m p) refl
    where
      by_array : (a : Place) → is_in_block b a ≡ true → (o : Option Array) → array_of celled m a ≡ o → is_cut_by b o ≡ false
      by_array a within None e = refl
      by_array a within (Some array) e = never_cut (is_fixed (Some array)) (is_block_within array.block b) (array_inside a array within e)

      by_anchor : (o : Option Place) → anchor_at celled m p ≡ o → is_cut_by b (option_and_then (array_of celled m) o) ≡ false
      by_anchor None e = refl
      by_anchor (Some a) e = by_array a (anchor_inside p a inside e) (array_of celled m a) refl

  -- so the block cuts none
  pub none_cut : false ≡ has_sought celled m sought.Cut b
  none_cut =
      sym (by_side (has_sought celled m sought.Cut b)
      (λ t.
      let w = witness (λ p. is_in_block b p && is_sought sought.Cut b (array_at celled m p)) (finite.keys m) t in
      let both = and_parts (is_in_block b w.0) (is_sought sought.Cut b (array_at celled m w.0)) w.1 in
      absurd (both_ways (is_cut_by b (array_at celled m w.0)) (uncut w.0 both.0) both.1))
      (λ t. t))

  module _ (ok : AreArrays celled m) (area : is_area b ≡ true) where
    -- what stands outside belongs to no array with a cell in the block
    unreached : (q : Place) → is_in_block b q ≡ false → reaches b (array_at celled m q) ≡ false
    unreached q out = by_anchor (anchor_at celled m q) refl
      where
        by_array : (a : Place) → anchor_at celled m q ≡ Some a → (o : Option Array) → array_of celled m a ≡ o → reaches b o ≡ false
        by_array a e None f = refl
        by_array a e (Some array) f = by_side (blocks_meet array.block b) met (λ t. t)
          where
            met : blocks_meet array.block b ≡ true → blocks_meet array.block b ≡ false
            met t =
                let has = array_there celled m a array f in
                let one = block_at a has.0 has.1 in
                let p = common one b (area_places one (ok.areas a has.0 has.1 has.2 has.3)) (area_places b area) (ap (λ (c : Array). blocks_meet c.block b) has.4 ∙ t) in
                let anchor : anchor_at celled m p.0 ≡ Some a =
                by_side (same_place p.0 a) (λ s. ap (anchor_at celled m) (same_is p.0 a s) ∙ anchor_at_of celled m a _ has.3)
                (λ s. anchor_at_of celled m p.0 _ (ok.filled a p.0 has.0 has.1 has.2 has.3 p.1 s)) in
                let within = formula_inside a has.0 has.1 has.2 (anchor_inside p.0 a p.2 anchor) has.3 in
                absurd (both_ways (is_in_block b q) out (further one b q within (place_in_area celled m ok q a e has.0 has.1 has.2 has.3)))

        by_anchor : (o : Option Place) → anchor_at celled m q ≡ o → reaches b (option_and_then (array_of celled m) o) ≡ false
        by_anchor None e = refl
        by_anchor (Some a) e = by_array a e (array_of celled m a) refl

    wiped_is : (all : Bool) (x : Cell) → changed (wiping all) x ≡ wiped celled all x
    wiped_is true x = refl
    wiped_is false x = refl

    each : (all s t : Bool) (x : Cell) → (s ≡ false → t ≡ false) → cond s (changed (wiping all) x) (Some x) ≡ cond s (wiped celled all x) (Some (cond t (loosened celled x) x))
    each all true t x h = wiped_is all x
    each all false t x h = ap (λ u. Some (cond u (loosened celled x) x)) (sym (h refl))

    -- to change the cells of the block alone is to clear it
    pub cleared_alone : (all : Bool) (after : Contents Cell) → after ≡ remade_where (is_in_block b) (changed (wiping all)) m → after ≡ cleared celled b all m
    cleared_alone all after is =
        is ∙ remade_alike _ (cleared_cell celled m b all) m (λ q x e. each all (is_in_block b q) (reaches b (array_at celled m q)) x (unreached q))
