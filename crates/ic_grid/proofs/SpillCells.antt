-- The cells of an array, one for each of its values.
use Rattle.std.proofs.Common.{◌≡◌, ◌∙◌, sym, ap, subst, ℕ, pos, suc, true, List, [], ◌∷◌, ◌++◌, length, append_assoc, arith}
use Rattle.ic_cells.specs.declared.cell.ArrayKind.{ArrayKind}
use Rattle.ic_cells.specs.declared.cell.Cell.{Cell}
use Rattle.ic_cells.specs.declared.cell.Cell.TheVariants as cells
use Rattle.ic_cells.specs.declared.value.SpillValue.{SpillValue}
use Rattle.ic_grid.proofs.BlockLemmas.{area_bounds}
use Rattle.ic_grid.proofs.RowLemmas.{IsAt, at_first, at_next, item_at, next_at}
use Rattle.std.proofs.lemmas.Int.{ints}
use Rattle.std.specs.Prelude.{◌<ℤ◌}
use Rattle.ic_grid.specs.Block.{Place, first_place, is_area, next_place}
use Rattle.ic_grid.specs.Contents.{Contents}
use Rattle.ic_grid.specs.Rows.{place_count}
use Rattle.ic_grid.specs.Shape.{celled, gathered}
use Rattle.ic_grid.specs.Spill.{array_cells, rest_cells}
use Rattle.ic_grid.specs.Style.{Columns, Rows, style_at}
use Rattle.ic_grid.specs.declared.block.Block.{Block}

module _ (rows : Rows) (columns : Columns) (m : Contents Cell) (b : Block) where
  -- these cells and those of the values that are left are all of them
  pub record IsFilling (all items : List Cell) (a at : Place) (rest : List SpillValue) : Type 0 where
    pub left : IsAt b at (length rest)
    pub anchor : a ≡ first_place b
    pub same : items ++ rest_cells rows columns m b at rest ≡ all

  pub filling_begun : is_area b ≡ true → (f s : ℕ) (kind : ArrayKind) (values rest more : List SpillValue) (v : SpillValue) → length values ≡ place_count b → rest ≡ values → rest ≡ v ∷ more
      → (items : List Cell) (x : Cell) → items ≡ [] ++ x ∷ [] → x ≡ cells.ArrayFormula kind f s (b.width, b.height) (gathered v) → (a at : Place) → a ≡ first_place b → at ≡ next_place b a
      → IsFilling (array_cells rows columns m b f s kind values) items a at more
  filling_begun area f s kind values rest more v count e g items x h k a at first next =
      let is : values ≡ v ∷ more = sym e ∙ g in
      let n : suc (length more) ≡ place_count b = ap length (sym is) ∙ count in
      let here : at ≡ next_place b (first_place b) = next ∙ ap (next_place b) first in
      record {
        left = subst (λ (p : Place). IsAt b p (length more)) (sym here) (at_next b (first_place b) (length more) (subst (λ j. IsAt b (first_place b) j) (sym n) (at_first b area)));
        anchor = first;
        same =
            ap (λ ys. ys ++ rest_cells rows columns m b at more) (h ∙ ap (λ y. y ∷ []) k)
            ∙ ap (λ (p : Place). cells.ArrayFormula kind f s (b.width, b.height) (gathered v) ∷ rest_cells rows columns m b p more) here
            ∙ ap (array_cells rows columns m b f s kind) (sym is);
      }

  module _ (all items : List Cell) (a at : Place) (rest : List SpillValue) (so : IsFilling all items a at rest) where
    pub filling_more : (v : SpillValue) (more : List SpillValue) → rest ≡ v ∷ more → (after : List Cell) (x : Cell) → after ≡ items ++ x ∷ [] → (s : ℕ) → s ≡ style_at celled m rows columns at → x ≡ cells.SpillCell s a v
        → (next : Place) → next ≡ next_place b at → IsFilling all after a next more
    filling_more v more e after x h s style k next is = record {
      left = next_at b at rest more v so.left e next is;
      anchor = so.anchor;
      same =
          ap (λ ys. ys ++ rest_cells rows columns m b next more) (h ∙ ap (λ y. items ++ y ∷ []) (k ∙ ap (λ n. cells.SpillCell n a v) style ∙ ap (λ (p : Place). cells.SpillCell (style_at celled m rows columns at) p v) so.anchor))
          ∙ append_assoc items (celled.spill (style_at celled m rows columns at) (first_place b) v ∷ []) (rest_cells rows columns m b next more)
          ∙ ap (λ (p : Place). items ++ celled.spill (style_at celled m rows columns at) (first_place b) v ∷ rest_cells rows columns m b p more) is
          ∙ ap (λ zs. items ++ rest_cells rows columns m b at zs) (sym e) ∙ so.same;
    }

pub first_row : (b : Block) → is_area b ≡ true → (a : Place) → a ≡ first_place b → a.0 <ℤ pos 2147483647
first_row b area a e = let s = area_bounds b area in subst (λ (p : Place). p.0 <ℤ pos 2147483647) (sym e) (omega (arith, ints, s.last_row, s.high))

pub first_column : (b : Block) → is_area b ≡ true → (a : Place) → a ≡ first_place b → a.1 <ℤ pos 2147483647
first_column b area a e = let s = area_bounds b area in subst (λ (p : Place). p.1 <ℤ pos 2147483647) (sym e) (omega (arith, ints, s.last_column, s.wide))

pub more_at : (b : Block) (q : Place) (rest more : List SpillValue) (v : SpillValue) → IsAt b q (length rest) → rest ≡ v ∷ more → IsAt b q (suc (length more))
more_at b q rest more v at e = item_at b q rest more v at e
