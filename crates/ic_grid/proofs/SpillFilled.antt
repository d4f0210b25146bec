-- What the cells of an array are when they are put one after another.
use Rattle.std.proofs.Common.{◌≡◌, ◌∙◌, refl, sym, ap, subst, ℕ, ℤ, suc, Bool, true, false, cond, List, [], ◌∷◌, length, Option, Some, None}
use Rattle.std.proofs.lemmas.Bool.{and_from, both_ways}
use Rattle.std.specs.FinMap as finite
use Rattle.std.specs.Option.{option_and_then, option_map}
use Rattle.ic_cells.specs.Cell.{style_of}
use Rattle.ic_cells.specs.declared.cell.ArrayKind.{ArrayKind}
use Rattle.ic_cells.specs.declared.cell.Cell.{Cell}
use Rattle.ic_cells.specs.declared.cell.Cell.TheVariants as cells
use Rattle.ic_cells.specs.declared.value.FormulaValue.{FormulaValue}
use Rattle.ic_cells.specs.declared.value.SpillValue.{SpillValue}
use Rattle.ic_laws.proofs.core.CellWritten.{place_cmp_total}
use Rattle.ic_grid.proofs.ContentsLemmas.{get-remade, insert_away, same_is}
use Rattle.ic_grid.proofs.RowLemmas.{IsAt, at_in, at_next, left_apart, left_later, left_other, none_at_end, placed_away, this_done}
use Rattle.ic_grid.proofs.StyleLemmas.{style_by}
use Rattle.ic_grid.proofs.WalkLemmas.{by_side, from_itself}
use Rattle.ic_grid.specs.Block.{Place, first_place, is_in_block, next_place, same_place}
use Rattle.ic_grid.specs.Contents.{Contents}
use Rattle.ic_grid.specs.Prepare.{unspilled, without_spill}
use Rattle.ic_grid.specs.Rows.{placed}
use Rattle.ic_grid.specs.Shape.{celled, gathered, is_spill_of, shape_of}
use Rattle.ic_grid.specs.Spill.{array_cells, filled, rest_cells, spilled, with_first}
use Rattle.ic_grid.specs.Style.{Columns, Rows, style_at}
use Rattle.ic_grid.specs.Walk.{is_from, is_left}
use Rattle.ic_grid.specs.declared.block.Block.{Block}

module _ (rows : Rows) (columns : Columns) (m : Contents Cell) (b : Block) where
  pub filled_placed : (vs : List SpillValue) (q : Place) → IsAt b q (length vs) → (n : Contents Cell) → ((p : Place) → is_left b q p ≡ true → option_map style_of (finite.get n p) ≡ option_map style_of (finite.get m p))
      → filled celled rows columns b q vs n ≡ placed b q (rest_cells rows columns m b q vs) n
  filled_placed [] q at n h = refl
  filled_placed (v ∷ vs) q at n h =
      ap (λ s. filled celled rows columns b (next_place b q) vs (finite.insert n q (celled.spill s (first_place b) v)))
      (style_by rows columns n m q (h q (and_from (is_in_block b q) (is_from q q) (at_in b q (length vs) at) (from_itself q))))
      ∙ filled_placed vs (next_place b q) (at_next b q (length vs) at) (finite.insert n q (celled.spill (style_at celled m rows columns q) (first_place b) v)) (λ p left.
      ap (option_map style_of) (insert_away n q (celled.spill (style_at celled m rows columns q) (first_place b) v) p (left_apart b q (length vs) at p left))
      ∙ h p (earlier p left))
    where
      earlier : (p : Place) → is_left b (next_place b q) p ≡ true → is_left b q p ≡ true
      earlier p left = left_later b q (length vs) at p left

  same_style : (a : Place) (o : Option Cell) → option_map style_of (option_and_then (λ x. Some (unspilled celled a x)) o) ≡ option_map style_of o
  same_style a None = refl
  same_style a (Some x) = ap Some (either (is_spill_of a (shape_of x)))
    where
      either : (t : Bool) → style_of (cond t (cells.EmptyCell (style_of x)) x) ≡ style_of x
      either true = refl
      either false = refl

  pub spilled_placed : (f s : ℕ) (r : ℤ × ℤ) (kind : ArrayKind) (old : FormulaValue) → finite.get m (first_place b) ≡ Some (cells.ArrayFormula kind f s r old) → (values : List SpillValue) → IsAt b (first_place b) (length values)
      → (v : SpillValue) (vs : List SpillValue) → values ≡ v ∷ vs
      → spilled celled rows columns b (v ∷ vs) m ≡ placed b (first_place b) (array_cells rows columns m b f s kind (v ∷ vs)) (without_spill celled (first_place b) m)
  spilled_placed f s r kind old here values at v vs e =
      ap (λ o. filled celled rows columns b (next_place b (first_place b)) vs (with_first celled b v o (without_spill celled (first_place b) m))) here
      ∙ filled_placed vs (next_place b (first_place b)) (at_next b (first_place b) (length vs) one) (finite.insert (without_spill celled (first_place b) m) (first_place b) (cells.ArrayFormula kind f s (b.width, b.height) (gathered v))) (λ p left.
      ap (option_map style_of) (insert_away (without_spill celled (first_place b) m) (first_place b) (cells.ArrayFormula kind f s (b.width, b.height) (gathered v)) p (left_apart b (first_place b) (length vs) one p left)
      ∙ get-remade _ m p)
      ∙ same_style (first_place b) (finite.get m p))
    where
      one : IsAt b (first_place b) (suc (length vs))
      one = subst (λ (zs : List SpillValue). IsAt b (first_place b) (length zs)) e at

  pub rest_length : (vs : List SpillValue) (q : Place) → length (rest_cells rows columns m b q vs) ≡ length vs
  rest_length [] q = refl
  rest_length (v ∷ vs) q = ap suc (rest_length vs (next_place b q))

  -- what stands in the block then
  pub rest_at : (vs : List SpillValue) (q : Place) → IsAt b q (length vs) → (n : Contents Cell) (p : Place) → is_left b q p ≡ true
      → (s : ℕ) × (v : SpillValue) × (finite.get (placed b q (rest_cells rows columns m b q vs) n) p ≡ Some (celled.spill s (first_place b) v))
  rest_at [] q at n p left = absurd (both_ways (is_left b q p) (none_at_end b q at p) left)
  rest_at (v ∷ vs) q at n p left = by_side (same_place p q) here (λ s. rest_at vs (next_place b q) (at_next b q (length vs) at) after p (left_other b q (length vs) at p left s))
    where
      x : Cell
      x = celled.spill (style_at celled m rows columns q) (first_place b) v

      after : Contents Cell
      after = finite.insert n q x

      here : same_place p q ≡ true → (s : ℕ) × (w : SpillValue) × (finite.get (placed b (next_place b q) (rest_cells rows columns m b (next_place b q) vs) after) p ≡ Some (celled.spill s (first_place b) w))
      here s =
          let e : p ≡ q = same_is p q s in (
            style_at celled m rows columns q,
            v,
            placed_away b (rest_cells rows columns m b (next_place b q) vs) (next_place b q) (subst (λ k. IsAt b (next_place b q) k) (sym (rest_length vs (next_place b q))) (at_next b q (length vs) at)) after p (ap (is_left b (next_place b q)) e ∙ this_done b q (length vs) at)
                ∙ finite.get-insert place_cmp_total n q x p ∙ ap (λ t. cond t (Some x) (finite.get n p)) s,
          )
