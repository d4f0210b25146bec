-- What holds of a block that an array can have.
use Rattle.std.proofs.Common.{◌≡◌, ◌∙◌, refl, sym, ap, ap₂, ℕ, ℤ, zero, suc, pos, ◌*◌, Bool, true, false, cond, not, ◌&&◌, ◌||◌, List, [], ◌∷◌, Option, Some, None, arith}
use Rattle.std.proofs.lemmas.Bool.{and_parts, and_from, both_ways}
use Rattle.std.proofs.lemmas.Bool.Decides.{Decides-int_eq}
use Rattle.std.proofs.lemmas.Int.{ints}
use Rattle.std.proofs.lemmas.List.Elements.{All-tail, All-head}
use Rattle.std.proofs.Math.IntN.{nat_abs}
use Rattle.std.specs.List.{All}
use Rattle.std.specs.Ordering.{int_eq}
use Rattle.std.specs.Prelude.{int_le, ◌+ℤ◌, ◌-ℤ◌, ◌*ℤ◌, ◌≤ℤ◌}
use Rattle.ic_cells.specs.declared.cell.Cell.{Cell}
use Rattle.ic_cells.specs.declared.layout.Merge.{Merge}
use Rattle.ic_laws.specs.Position.{is_column, is_row}
use Rattle.ic_laws.specs.declared.reference.TheConstants.{LAST_COLUMN, LAST_ROW}
use Rattle.ic_grid.proofs.BlockLemmas.{area_places, common}
use Rattle.ic_grid.proofs.ChangeLemmas.{abs_is}
use Rattle.ic_grid.proofs.ContentsLemmas.{same_is}
use Rattle.ic_grid.proofs.RowLemmas.{IsAt, at_next, left_other, none_at_end}
use Rattle.ic_grid.proofs.WalkLemmas.{by_side}
use Rattle.ic_grid.specs.Block.{Place, blocks_meet, first_place, has_places, is_area, is_between, is_in_block, is_in_sheet, is_single, is_span_within, next_place, same_place}
use Rattle.ic_grid.specs.Contents.{Contents}
use Rattle.ic_grid.specs.Merges.{is_merged, meets_merge, merged_block}
use Rattle.ic_grid.specs.Rows.{place_count}
use Rattle.ic_grid.specs.Shape.{celled}
use Rattle.ic_grid.specs.Spill.{blocks, first_of_blocking, is_free}
use Rattle.ic_grid.specs.Value.{shape_at}
use Rattle.ic_grid.specs.Walk.{is_left}
use Rattle.ic_grid.specs.declared.block.Block.{Block}

-- the block lies in the sheet, has a place for each value, holds nothing else than the array, and meets no merged cells
pub record Fits (merges : List Merge) (m : Contents Cell) (b : Block) (count : ℕ) : Type 0 where
  pub area : is_area b ≡ true
  pub places : count ≡ place_count b
  pub free : (p : Place) → is_in_block b p ≡ true → (same_place p (first_place b) || is_free (first_place b) (shape_at celled m p)) ≡ true
  pub apart : is_single b ≡ false → meets_merge merges b ≡ false

pub parts : (x y z : Bool) → ((not x || y) || not z) ≡ false → (x ≡ true) × (y ≡ false) × (z ≡ true)
parts true true z e = cc
parts true false true e = (refl, refl, refl)
parts true false false e = cc
parts false y z e = cc

span_last : (f n : ℤ) → pos 1 ≤ℤ n → is_between f (f +ℤ n) ((f +ℤ n) -ℤ pos 1) ≡ true
unfolding is_between
span_last f n h = grind (arith, ints, h)

sized : (w : ℤ) → int_le (pos 1) w ≡ true → pos 1 ≤ℤ w
sized w e = grind (arith, ints, e)

pub or_tail : (x y : Bool) → (x || y) ≡ false → y ≡ false
or_tail true y e = cc
or_tail false y e = e

edge : (f n last : ℤ) → (int_le (pos 1) f && int_le f last) ≡ true → (int_le (pos 1) ((f +ℤ n) -ℤ pos 1) && int_le ((f +ℤ n) -ℤ pos 1) last) ≡ true → (int_le (pos 1) f && int_le (f +ℤ n) (pos 1 +ℤ last)) ≡ true
edge f n last e h =
    and_from _ _ (and_parts (int_le (pos 1) f) (int_le f last) e).0 (ends (and_parts (int_le (pos 1) ((f +ℤ n) -ℤ pos 1)) (int_le ((f +ℤ n) -ℤ pos 1) last) h).1)
  where
    ends : int_le ((f +ℤ n) -ℤ pos 1) last ≡ true → int_le (f +ℤ n) (pos 1 +ℤ last) ≡ true
    ends k = grind (arith, ints, k)

module _ (merges : List Merge) (m : Contents Cell) (b : Block) where
  pub at_places : has_places b ≡ true → IsAt b (first_place b) (place_count b)
  at_places e =
      let sizes = and_parts (int_le (pos 1) b.width) (int_le (pos 1) b.height) e in
      let w = sized b.width sizes.0 in
      let h = sized b.height sizes.1 in
      let wide = abs_is b.width (omega (arith, ints, w)) in
      let high = abs_is b.height (omega (arith, ints, h)) in
      record {
        w = nat_abs b.width;
        r = nat_abs b.height;
        c = 0;
        width = sym wide;
        rows = ap (λ n. b.row +ℤ n) (sym high);
        columns = omega (arith, ints);
        fits = omega (arith, ints, wide, w);
        top = omega (arith, ints);
        count = omega arith;
      }

  pub none_blocks : (n : ℕ) (q : Place) → IsAt b q n → first_of_blocking celled merges m (first_place b) b n q ≡ None → (p : Place) → is_left b q p ≡ true → blocks celled merges m (first_place b) p ≡ false
  none_blocks zero q at e p left = absurd (both_ways (is_left b q p) (none_at_end b q at p) left)
  none_blocks (suc n) q at e p left =
      by_side (blocks celled merges m (first_place b) q)
      (λ t.
      let no : Some q ≡ None = sym (ap (λ u. let o : Option Place = cond u (Some q) (first_of_blocking celled merges m (first_place b) b n (next_place b q)) in o) t) ∙ e in
      cc)
      (λ t.
      by_side (same_place p q) (λ s. ap (blocks celled merges m (first_place b)) (same_is p q s) ∙ t)
      (λ s. none_blocks n (next_place b q) (at_next b q n at) (sym (ap (λ u. let o : Option Place = cond u (Some q) (first_of_blocking celled merges m (first_place b) b n (next_place b q)) in o) t) ∙ e) p (left_other b q n at p left s)))

  pub counted : (count : ℕ) → has_places b ≡ true → int_eq (b.width *ℤ b.height) (pos count) ≡ true → count ≡ place_count b
  counted count e f =
      let sizes = and_parts (int_le (pos 1) b.width) (int_le (pos 1) b.height) e in
      let w = sized b.width sizes.0 in
      let h = sized b.height sizes.1 in
      let wide = abs_is b.width (omega (arith, ints, w)) in
      let high = abs_is b.height (omega (arith, ints, h)) in
      let same : pos (nat_abs b.width * nat_abs b.height) ≡ pos count = ap₂ (λ i j. i *ℤ j) wide high ∙ (Decides-int_eq (b.width *ℤ b.height) (pos count)).0 f in
      omega (arith, ints, same)

  pub in_sheet_area : has_places b ≡ true → ((p : Place) → is_in_block b p ≡ true → is_in_sheet p ≡ true) → is_in_sheet (first_place b) ≡ true → is_area b ≡ true
  unfolding is_span_within
  in_sheet_area e h first =
      let sizes = and_parts (int_le (pos 1) b.width) (int_le (pos 1) b.height) e in
      let last = h ((b.row +ℤ b.height) -ℤ pos 1, (b.column +ℤ b.width) -ℤ pos 1) (and_from _ _ (span_last b.row b.height (sized b.height sizes.1)) (span_last b.column b.width (sized b.width sizes.0))) in
      let one = and_parts (is_row b.row) (is_column b.column) first in
      let two = and_parts (is_row ((b.row +ℤ b.height) -ℤ pos 1)) (is_column ((b.column +ℤ b.width) -ℤ pos 1)) last in
      and_from _ _ e (and_from _ _ (edge b.row b.height LAST_ROW one.0 two.0) (edge b.column b.width LAST_COLUMN one.1 two.1))

  pub none_met : has_places b ≡ true → (ms : List Merge) → ((p : Place) → is_in_block b p ≡ true → is_merged ms p ≡ false) → All (λ merge. is_area (merged_block merge) ≡ true) ms → meets_merge ms b ≡ false
  none_met e [] h all = refl
  none_met e (x ∷ ms) h all =
      by_side (blocks_meet (merged_block x) b)
      (λ t.
      let c = common (merged_block x) b (area_places (merged_block x) (All-head (λ merge. is_area (merged_block merge) ≡ true) x ms all)) e t in
      absurd (both_ways (is_merged (x ∷ ms) c.0) (h c.0 c.2) (ap (λ u. u || is_merged ms c.0) c.1)))
      (λ t. ap (λ u. u || meets_merge ms b) t ∙ none_met e ms (λ p i. or_tail (is_in_block (merged_block x) p) (is_merged ms p) (h p i)) (All-tail (λ merge. is_area (merged_block merge) ≡ true) x ms all))
