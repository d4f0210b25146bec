-- A cell for each place of a block, by rows; and the value of a formula in each cell of its array.
use Rattle.std.proofs.Common.{◌≡◌, ◌∙◌, refl, sym, ap, subst, ℕ, zero, suc, ◌<◌, pos, true, false, cond, inl, inr, List, [], ◌∷◌, ◌++◌, length, Some, append_assoc, append-nil, arith}
use Rattle.std.proofs.lemmas.Bool.{and_from, both_ways}
use Rattle.std.proofs.lemmas.Int.{ints}
use Rattle.std.specs.FinMap as finite
use Rattle.std.specs.Prelude.{◌+ℤ◌, ◌-ℤ◌}
use Rattle.std.proofs.Math.IntN.{nat_abs}
use Rattle.ic_cells.specs.declared.cell.Cell.{Cell}
use Rattle.ic_cells.specs.declared.value.SpillValue.{SpillValue}
use Rattle.ic_laws.proofs.core.CellWritten.{place_cmp_total}
use Rattle.ic_grid.proofs.BlockLemmas.{area_bounds}
use Rattle.ic_grid.proofs.ChangeLemmas.{far, fewer, less_abs, small_abs}
use Rattle.ic_grid.proofs.ContentsLemmas.{same_is}
use Rattle.ic_grid.proofs.RowLemmas.{IsAt, at_first, at_in, at_next, left_other, none_at_end, placed_away, this_done}
use Rattle.ic_grid.proofs.WalkLemmas.{by_side, from_itself, in_block}
use Rattle.ic_grid.specs.Block.{Place, first_place, has_next_column, is_area, is_in_block, next_place, same_place}
use Rattle.ic_grid.specs.Contents.{Contents}
use Rattle.ic_grid.specs.Rows.{place_count, placed, spread_from, style_or_zero}
use Rattle.ic_grid.specs.Shape.{celled}
use Rattle.ic_grid.specs.Walk.{is_from, is_left}
use Rattle.ic_grid.specs.declared.block.Block.{Block}

module _ (m : Contents Cell) (b : Block) (v : SpillValue) where
  abbrev cell_at : Place → Cell
  cell_at q = celled.spill (style_or_zero m q) (first_place b) v

  -- these cells and those of the places from one on are the cells of all places
  pub record IsSpread (items : List Cell) (at : Place) : Type 0 where
    pub n : ℕ
    pub left : IsAt b at n
    pub all : items ++ spread_from m b v at n ≡ spread_from m b v (first_place b) (place_count b)

  pub spread_begun : is_area b ≡ true → (items : List Cell) → items ≡ [] → (at : Place) → at ≡ first_place b → IsSpread items at
  spread_begun area items none at e =
      subst (λ (p : Place). IsSpread items p) (sym e)
      (record { n = place_count b; left = at_first b area; all = ap (λ xs. xs ++ spread_from m b v (first_place b) (place_count b)) none })

  module _ (items : List Cell) (at : Place) (so : IsSpread items at) where
    pub spread_more : is_in_block b at ≡ true → (after : List Cell) (x : Cell) → after ≡ items ++ x ∷ [] → x ≡ cell_at at → (next : Place) → next ≡ next_place b at → IsSpread after next
    spread_more within after x e same next is = by_left so.n so.left so.all
      where
        by_left : (n : ℕ) → IsAt b at n → items ++ spread_from m b v at n ≡ spread_from m b v (first_place b) (place_count b) → IsSpread after next
        by_left zero left all =
            absurd (both_ways (is_left b at at) (none_at_end b at left at) (and_from (is_in_block b at) (is_from at at) within (from_itself at)))
        by_left (suc n) left all =
            subst (λ (p : Place). IsSpread after p) (sym is) (record {
              n = n;
              left = at_next b at n left;
              all =
                  ap (λ xs. xs ++ spread_from m b v (next_place b at) n) (e ∙ ap (λ y. items ++ y ∷ []) same)
                  ∙ append_assoc items (cell_at at ∷ []) (spread_from m b v (next_place b at) n) ∙ all;
            })

    pub spread_done : is_in_block b at ≡ false → items ≡ spread_from m b v (first_place b) (place_count b)
    spread_done out = by_left so.n so.left so.all
      where
        by_left : (n : ℕ) → IsAt b at n → items ++ spread_from m b v at n ≡ spread_from m b v (first_place b) (place_count b) → items ≡ spread_from m b v (first_place b) (place_count b)
        by_left zero left all = sym (append-nil items) ∙ all
        by_left (suc n) left all = absurd (both_ways (is_in_block b at) out (at_in b at n left))

  pub spread_length : (n : ℕ) (q : Place) → length (spread_from m b v q n) ≡ n
  spread_length zero q = refl
  spread_length (suc n) q = ap suc (spread_length n (next_place b q))

  -- what stands where, once they are placed
  pub spread_at : (n : ℕ) (q : Place) → IsAt b q n → (c : Contents Cell) (p : Place) → is_left b q p ≡ true → finite.get (placed b q (spread_from m b v q n) c) p ≡ Some (cell_at p)
  spread_at zero q at c p left = absurd (both_ways (is_left b q p) (none_at_end b q at p) left)
  spread_at (suc n) q at c p left = by_side (same_place p q) here (λ s. spread_at n (next_place b q) (at_next b q n at) after p (left_other b q n at p left s))
    where
      after : Contents Cell
      after = finite.insert c q (cell_at q)

      at_more : IsAt b (next_place b q) (length (spread_from m b v (next_place b q) n))
      at_more = subst (λ k. IsAt b (next_place b q) k) (sym (spread_length n (next_place b q))) (at_next b q n at)

      here : same_place p q ≡ true → finite.get (placed b (next_place b q) (spread_from m b v (next_place b q) n) after) p ≡ Some (cell_at p)
      here s =
          let e : p ≡ q = same_is p q s in
          placed_away b (spread_from m b v (next_place b q) n) (next_place b q) at_more after p (ap (is_left b (next_place b q)) e ∙ this_done b q n at)
          ∙ finite.get-insert place_cmp_total c q (cell_at q) p ∙ ap (λ t. cond t (Some (cell_at q)) (finite.get c p)) s ∙ ap (λ z. Some (cell_at z)) (sym e)

-- the next place by rows is nearer to the end
pub next_nearer : (b : Block) (at : Place) → is_area b ≡ true → is_in_block b at ≡ true → (next : Place) → next ≡ next_place b at → far b next < far b at
next_nearer b at area within next is =
    subst (λ (p : Place). far b p < far b at) (sym is) (by_side (has_next_column b at) same another)
  where
    same : has_next_column b at ≡ true → far b (next_place b at) < far b at
    same t =
        subst (λ (p : Place). far b p < far b at) (sym (ap (λ u. let p : Place = cond u (at.0, at.1 +ℤ pos 1) (at.0 +ℤ pos 1, b.column) in p) t))
        (let s = area_bounds b area in
        let k = in_block b at within in
        fewer (nat_abs ((b.row +ℤ b.height) -ℤ at.0)) (nat_abs (pos 16386 -ℤ at.1)) (nat_abs ((b.row +ℤ b.height) -ℤ at.0)) (nat_abs (pos 16386 -ℤ (at.1 +ℤ pos 1)))
        (inr (refl, less_abs (pos 16386 -ℤ (at.1 +ℤ pos 1)) (pos 16386 -ℤ at.1) (omega (arith, ints, s.last_column, k.right)) (omega (arith, ints))))
        (small_abs (pos 16386 -ℤ (at.1 +ℤ pos 1)) (omega (arith, ints, s.last_column, k.right)) (omega (arith, ints, s.column, k.left))))

    another : has_next_column b at ≡ false → far b (next_place b at) < far b at
    another t =
        subst (λ (p : Place). far b p < far b at) (sym (ap (λ u. let p : Place = cond u (at.0, at.1 +ℤ pos 1) (at.0 +ℤ pos 1, b.column) in p) t))
        (let s = area_bounds b area in
        let k = in_block b at within in
        fewer (nat_abs ((b.row +ℤ b.height) -ℤ at.0)) (nat_abs (pos 16386 -ℤ at.1)) (nat_abs ((b.row +ℤ b.height) -ℤ (at.0 +ℤ pos 1))) (nat_abs (pos 16386 -ℤ b.column))
        (inl (less_abs ((b.row +ℤ b.height) -ℤ (at.0 +ℤ pos 1)) ((b.row +ℤ b.height) -ℤ at.0) (omega (arith, ints, k.bottom)) (omega (arith, ints))))
        (small_abs (pos 16386 -ℤ b.column) (omega (arith, ints, s.last_column, s.wide)) (omega (arith, ints, s.column))))

pub spread_cell_is : (m : Contents Cell) (b : Block) (v : SpillValue) (at : Place) (x : Cell) (s : ℕ) (a : Place) → x ≡ celled.spill s a v → s ≡ style_or_zero m at → a ≡ first_place b → x ≡ celled.spill (style_or_zero m at) (first_place b) v
spread_cell_is m b v at x s a e f g = e ∙ ap (λ n. celled.spill n a v) f ∙ ap (λ (p : Place). celled.spill (style_or_zero m at) p v) g
