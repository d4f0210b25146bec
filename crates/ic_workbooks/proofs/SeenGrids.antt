-- Contents that are seen as others: what the rules on arrays, spills and styles ask of them holds of the seen ones too. And
-- cells with other numbers of strings are held as they are.
use Rattle.std.proofs.Common.{◌≡◌, ℕ, ℤ, List, Some, refl, sym, ap, option_map, ◌∙◌, ◌<◌, subst}
use Rattle.std.specs.FinMap as finite
use Rattle.ic_cells.specs.Cell.{style_of}
use Rattle.ic_cells.specs.declared.cell.Cell.{Cell}
use Rattle.ic_cells.specs.declared.cell.Cell.TheVariants as cells
use Rattle.ic_cells.specs.declared.layout.Merge.{Merge}
use Rattle.ic_cells.specs.declared.value.FormulaValue.{FormulaValue}
use Rattle.ic_grid.specs.Block.{Place}
use Rattle.ic_grid.specs.Conditions.{AreArrays, AreInSheet, AreMerges, Has}
use Rattle.ic_grid.specs.Contents.{Contents}
use Rattle.ic_grid.specs.Shape.{Holding, Shape, celled, shape_of, with_cell_area, with_cell_value}
use Rattle.ic_machine.proofs.contents.AlikeGrid.{array_of-seen, get-seen, stands_seen}
use Rattle.ic_machine.specs.Alike.{HoldsAlike, seen_by}
use Rattle.ic_workbooks.specs.Numbered.{renumbered}

module _ {X Y : Type 0} (f : X → Y) (one : Holding X) (other : Holding Y) (alike : HoldsAlike f one other) (m : Contents X) where
  has_seen : (p : Place) (shape : Shape) → Has one m p shape → Has other (seen_by f m) p shape
  has_seen p shape h = (f h.0, get-seen f m p ∙ ap (option_map f) h.1, alike.shape h.0 ∙ h.2)

  has_held : (p : Place) (shape : Shape) → Has other (seen_by f m) p shape → Has one m p shape
  has_held p shape h =
      let back = stands_seen f (finite.get m p) h.0 (sym (get-seen f m p) ∙ h.1) in
      (back.0, back.1, sym (alike.shape back.0) ∙ ap other.shape back.2 ∙ h.2)

  pub inside_seen : AreInSheet one m → AreInSheet other (seen_by f m)
  inside_seen h p y at = let back = stands_seen f (finite.get m p) y (sym (get-seen f m p) ∙ at) in h p back.0 back.1

  pub arrays_seen : AreArrays one m → AreArrays other (seen_by f m)
  arrays_seen h = record {
    areas = λ a w t kind has. h.areas a w t kind (has_held a _ has);
    filled = λ a p w t kind has inside other_place. has_seen p _ (h.filled a p w t kind (has_held a _ has) inside other_place);
    owned = λ a p has. let owner = h.owned a p (has_held p _ has) in (owner.0, owner.1, owner.2, has_seen a _ owner.3, owner.4);
  }

  pub merges_seen : (merges : List Merge) → AreMerges one m merges → AreMerges other (seen_by f m) merges
  merges_seen merges h = record {
    areas = h.areas;
    apart = h.apart;
    arrays = λ a array e several. h.arrays a array (sym (array_of-seen f one other alike m a) ∙ e) several;
  }

  -- the numbers of styles
  pub styles_seen : (count : ℕ) → ((p : Place) (x : X) → finite.get m p ≡ Some x → one.style x < count) → (p : Place) (y : Y) → finite.get (seen_by f m) p ≡ Some y → other.style y < count
  styles_seen count h p y at =
      let back = stands_seen f (finite.get m p) y (sym (get-seen f m p) ∙ at) in
      subst (λ n. n < count) (sym (alike.style back.0) ∙ ap other.style back.2) (h p back.0 back.1)

  pub styles_held : (count : ℕ) → ((p : Place) (y : Y) → finite.get (seen_by f m) p ≡ Some y → other.style y < count) → (p : Place) (x : X) → finite.get m p ≡ Some x → one.style x < count
  styles_held count h p x at = subst (λ n. n < count) (alike.style x) (h p (f x) (get-seen f m p ∙ ap (option_map f) at))

module _ (numbers : List ℕ) where
  same_shape : (cell : Cell) → shape_of (renumbered numbers cell) ≡ shape_of cell
  same_shape (cells.EmptyCell s) = refl
  same_shape (cells.BooleanCell v s) = refl
  same_shape (cells.NumberCell v s) = refl
  same_shape (cells.ErrorCell e s) = refl
  same_shape (cells.SharedString i s) = refl
  same_shape (cells.CellFormula f s v) = refl
  same_shape (cells.ArrayFormula kind f s r v) = refl
  same_shape (cells.SpillCell s a v) = refl

  same_style : (cell : Cell) → style_of (renumbered numbers cell) ≡ style_of cell
  same_style (cells.EmptyCell s) = refl
  same_style (cells.BooleanCell v s) = refl
  same_style (cells.NumberCell v s) = refl
  same_style (cells.ErrorCell e s) = refl
  same_style (cells.SharedString i s) = refl
  same_style (cells.CellFormula f s v) = refl
  same_style (cells.ArrayFormula kind f s r v) = refl
  same_style (cells.SpillCell s a v) = refl

  same_value : (value : FormulaValue) (cell : Cell) → with_cell_value value (renumbered numbers cell) ≡ renumbered numbers (with_cell_value value cell)
  same_value value (cells.EmptyCell s) = refl
  same_value value (cells.BooleanCell v s) = refl
  same_value value (cells.NumberCell v s) = refl
  same_value value (cells.ErrorCell e s) = refl
  same_value value (cells.SharedString i s) = refl
  same_value value (cells.CellFormula f s v) = refl
  same_value value (cells.ArrayFormula kind f s r v) = refl
  same_value value (cells.SpillCell s a v) = refl

  same_area : (width height : ℤ) (cell : Cell) → with_cell_area width height (renumbered numbers cell) ≡ renumbered numbers (with_cell_area width height cell)
  same_area width height (cells.EmptyCell s) = refl
  same_area width height (cells.BooleanCell v s) = refl
  same_area width height (cells.NumberCell v s) = refl
  same_area width height (cells.ErrorCell e s) = refl
  same_area width height (cells.SharedString i s) = refl
  same_area width height (cells.CellFormula f s v) = refl
  same_area width height (cells.ArrayFormula kind f s r v) = refl
  same_area width height (cells.SpillCell s a v) = refl

  pub numbered_alike : HoldsAlike (renumbered numbers) celled celled
  numbered_alike = record {
    shape = same_shape;
    style = same_style;
    empty = λ style. refl;
    with_value = same_value;
    with_area = same_area;
    spill = λ style anchor value. refl;
    array = λ index style width height kind. refl;
  }
