-- A formula gets a value: all that holds of a sheet still does.
use Rattle.std.proofs.Common.{◌≡◌, ◌∙◌, refl, sym, ap, subst, pos, Bool, true, false, cond, List, Some}
use Rattle.std.specs.FinMap as finite
use Rattle.std.specs.Option.{option_and_then}
use Rattle.ic_cells.specs.declared.cell.Cell.{Cell}
use Rattle.ic_cells.specs.declared.cell.Cell.TheVariants as cells
use Rattle.ic_cells.specs.declared.layout.Merge.{Merge}
use Rattle.ic_cells.specs.declared.value.FormulaValue.{FormulaValue}
use Rattle.ic_grid.proofs.ArrayLemmas.{one_shape, spill_shape}
use Rattle.ic_grid.proofs.ContentsLemmas.{get-remade, same_is, same_turned}
use Rattle.ic_grid.proofs.LoosenLemmas.{Loosens, loosened_arrays, loosened_merges}
use Rattle.ic_grid.proofs.WriteLemmas.{IsLooseCell, either}
use Rattle.ic_grid.specs.Arrays.{anchor_at, anchor_of, array_from}
use Rattle.ic_grid.specs.Block.{Place, same_place}
use Rattle.ic_grid.specs.Conditions.{AreArrays, AreInSheet, AreMerges, Has}
use Rattle.ic_grid.specs.Contents.{Contents}
use Rattle.ic_grid.specs.Shape.{Anchor, Shape, SpillOf, celled, is_loose, is_spill_of, shape_of, spread}
use Rattle.ic_grid.specs.Value.{is_cse_anchor, shape_at, valued, valued_cell}
use Rattle.ic_grid.specs.Whole.{IsGrid}
use Rattle.ic_grid.specs.declared.grid.Grid.{Grid}
use Rattle.ic_laws.proofs.General.{chained as there}

-- cells are replaced by cells of the same shapes
module _ (m after : Contents Cell) (old : (p : Place) (y : Cell) → finite.get after p ≡ Some y → (x : Cell) × (finite.get m p ≡ Some x) × (shape_of x ≡ shape_of y))
    (new : (p : Place) (x : Cell) → finite.get m p ≡ Some x → (y : Cell) × (finite.get after p ≡ Some y) × (shape_of x ≡ shape_of y)) where
  was : (p : Place) (s : Shape) → Has celled after p s → Has celled m p s
  was p s h = let x = old p h.0 h.1 in (x.0, x.1, x.2 ∙ h.2)

  is : (p : Place) (s : Shape) → Has celled m p s → Has celled after p s
  is p s h = let y = new p h.0 h.1 in (y.0, y.1, sym y.2 ∙ h.2)

  shaped_inside : AreInSheet celled m → AreInSheet celled after
  shaped_inside inside p y e = let x = old p y e in inside p x.0 x.1

  shaped_arrays : AreArrays celled m → AreArrays celled after
  shaped_arrays ok = record {
    areas = λ a w t k has. ok.areas a w t k (was a (Anchor w t k) has);
    filled = λ a p w t k has within other. is p (SpillOf a) (ok.filled a p w t k (was a (Anchor w t k) has) within other);
    owned = λ a p has. let o = ok.owned a p (was p (SpillOf a) has) in (o.0, o.1, o.2, is a (Anchor o.0 o.1 o.2) o.3, o.4);
  }

  shaped_merges : (merges : List Merge) → AreMerges celled m merges → AreMerges celled after merges
  shaped_merges merges ok = record {
    areas = ok.areas;
    apart = ok.apart;
    arrays = λ a array e many.
        let y = there (λ y. array_from a (shape_of y)) (finite.get after a) array e in
        let x = old a y.0 y.1 in
        ok.arrays a array (ap (option_and_then (λ z. array_from a (shape_of z))) x.1 ∙ ap (array_from a) x.2 ∙ y.2) many;
  }

module _ (m : Contents Cell) (a : Place) (value : FormulaValue) where
  cell_of : (c : Bool) → is_cse_anchor (shape_at celled m a) ≡ c → (q : Place) (y : Cell) → finite.get (valued celled a value m) q ≡ Some y → (x : Cell) × (finite.get m q ≡ Some x) × (valued_cell celled c value a q x ≡ y)
  cell_of c e q y h =
      let t = there (λ x. Some (valued_cell celled (is_cse_anchor (shape_at celled m a)) value a q x)) (finite.get m q) y (sym (get-remade _ m q) ∙ h) in
      let some : Some (valued_cell celled (is_cse_anchor (shape_at celled m a)) value a q t.0) ≡ Some y = t.2 in
      let one : valued_cell celled (is_cse_anchor (shape_at celled m a)) value a q t.0 ≡ y = cc in
      (t.0, t.1, sym (ap (λ b. valued_cell celled b value a q t.0) e) ∙ one)

  cell_at : (c : Bool) → is_cse_anchor (shape_at celled m a) ≡ c → (q : Place) (x : Cell) → finite.get m q ≡ Some x → finite.get (valued celled a value m) q ≡ Some (valued_cell celled c value a q x)
  cell_at c e q x h =
      get-remade _ m q ∙ ap (option_and_then (λ x. Some (valued_cell celled (is_cse_anchor (shape_at celled m a)) value a q x))) h ∙ ap (λ b. Some (valued_cell celled b value a q x)) e

  same_shape : (x : Cell) → shape_of (celled.with_value value x) ≡ shape_of x
  same_shape (cells.EmptyCell s) = refl
  same_shape (cells.BooleanCell v s) = refl
  same_shape (cells.NumberCell v s) = refl
  same_shape (cells.ErrorCell v s) = refl
  same_shape (cells.SharedString v s) = refl
  same_shape (cells.CellFormula f s v) = refl
  same_shape (cells.ArrayFormula k f s r v) = refl
  same_shape (cells.SpillCell s d v) = refl

  cse_shape : (q : Place) (x : Cell) → shape_of (valued_cell celled true value a q x) ≡ shape_of x
  cse_shape q x = by_place (same_place q a) (is_spill_of a (shape_of x)) refl
    where
      by_place : (u b : Bool) → is_spill_of a (shape_of x) ≡ b → shape_of (cond u (celled.with_value value x) (cond b (celled.spill (celled.style x) a (spread value)) x)) ≡ shape_of x
      by_place true b e = same_shape x
      by_place false true e = sym (spill_shape a (shape_of x) e)
      by_place false false e = refl

  plain_loosens : is_cse_anchor (shape_at celled m a) ≡ false → AreArrays celled m → Loosens celled m (valued celled a value m) (λ b. same_place b a)
  plain_loosens plain ok = record { kept = kept; loose = left }
    where
      same_cell : (q b : Place) (x : Cell) → anchor_of q (shape_of x) ≡ Some b → same_place b a ≡ false → valued_cell celled false value a q x ≡ x
      same_cell q b (cells.EmptyCell s) e t = cc
      same_cell q b (cells.BooleanCell v s) e t = cc
      same_cell q b (cells.NumberCell v s) e t = cc
      same_cell q b (cells.ErrorCell v s) e t = cc
      same_cell q b (cells.SharedString v s) e t = cc
      same_cell q b (cells.CellFormula f s v) e t = cc
      same_cell q b (cells.ArrayFormula k f s r v) e t =
          let one : q ≡ b = cc in
          ap (λ u. cond u (cells.ArrayFormula k f s (pos 1, pos 1) value) (cells.ArrayFormula k f s r v)) (ap (λ p. same_place p a) one ∙ t)
      same_cell q b (cells.SpillCell s d v) e t =
          let one : d ≡ b = cc in
          ap (λ u. cond (same_place q a) (cells.SpillCell s d v) (cond u (cells.EmptyCell s) (cells.SpillCell s d v))) (same_turned a d ∙ ap (λ p. same_place p a) one ∙ t)
          ∙ either (same_place q a) (cells.SpillCell s d v)

      kept : (q b : Place) → anchor_at celled m q ≡ Some b → same_place b a ≡ false → finite.get (valued celled a value m) q ≡ finite.get m q
      kept q b e t =
          let x = there (λ y. anchor_of q (shape_of y)) (finite.get m q) b e in
          cell_at false plain q x.0 x.1 ∙ ap Some (same_cell q b x.0 x.2 t) ∙ sym x.1

      loose_cell : (q : Place) (x : Cell) → finite.get m q ≡ Some x → ((b : Place) → anchor_of q (shape_of x) ≡ Some b → same_place b a ≡ true) → IsLooseCell (valued_cell celled false value a q x)
      loose_cell q (cells.EmptyCell s) is h = ap (λ y. is_loose (shape_of y)) (either (same_place q a) (cells.EmptyCell s))
      loose_cell q (cells.BooleanCell v s) is h = ap (λ y. is_loose (shape_of y)) (either (same_place q a) (cells.BooleanCell v s))
      loose_cell q (cells.NumberCell v s) is h = ap (λ y. is_loose (shape_of y)) (either (same_place q a) (cells.NumberCell v s))
      loose_cell q (cells.ErrorCell v s) is h = ap (λ y. is_loose (shape_of y)) (either (same_place q a) (cells.ErrorCell v s))
      loose_cell q (cells.SharedString v s) is h = ap (λ y. is_loose (shape_of y)) (either (same_place q a) (cells.SharedString v s))
      loose_cell q (cells.CellFormula f s v) is h = two (same_place q a)
        where
          two : (u : Bool) → IsLooseCell (cond u (cells.CellFormula f s value) (cells.CellFormula f s v))
          two true = refl
          two false = refl
      loose_cell q (cells.ArrayFormula k f s r v) is h =
          ap (λ u. is_loose (shape_of (cond u (cells.ArrayFormula k f s (pos 1, pos 1) value) (cells.ArrayFormula k f s r v)))) (h q refl)
      loose_cell q (cells.SpillCell s d v) is h = two (same_place q a) refl
        where
          here : d ≡ a
          here = same_is d a (h d refl)

          two : (u : Bool) → same_place q a ≡ u → IsLooseCell (cond u (cells.SpillCell s d v) (cond (same_place a d) (cells.EmptyCell s) (cells.SpillCell s d v)))
          two true e =
              let spill : Has celled m a (SpillOf a) = (cells.SpillCell s d v, ap (finite.get m) (sym (same_is q a e)) ∙ is, ap SpillOf here) in
              let o = ok.owned a a spill in
              let never : Anchor o.0 o.1 o.2 ≡ SpillOf a = one_shape celled m a (Anchor o.0 o.1 o.2) (SpillOf a) o.3 spill in
              cc
          two false e = ap (λ u. is_loose (shape_of (cond u (cells.EmptyCell s) (cells.SpillCell s d v)))) (same_turned a d ∙ h d refl)

      left : (q : Place) → ((b : Place) → anchor_at celled m q ≡ Some b → same_place b a ≡ true) → (y : Cell) → finite.get (valued celled a value m) q ≡ Some y → IsLooseCell y
      left q h y e =
          let x = cell_of false plain q y e in
          subst IsLooseCell x.2 (loose_cell q x.0 x.1 (λ b f. h b (ap (option_and_then (λ z. anchor_of q (shape_of z))) x.1 ∙ f)))

-- a sheet in which a formula got a value
pub valued_whole : (grid : Grid) (a : Place) (value : FormulaValue) → IsGrid grid → (left : Contents Cell) → left ≡ valued celled a value grid.cells → (now : Grid) → now ≡ record grid { cells = left } → IsGrid now
valued_whole grid a value ok left e now f =
    subst (λ (g : Grid). IsGrid g) (sym (f ∙ ap (λ (c : Contents Cell). let g : Grid = record grid { cells = c } in g) e)) (by_kind (is_cse_anchor (shape_at celled grid.cells a)) refl)
  where
    by_kind : (c : Bool) → is_cse_anchor (shape_at celled grid.cells a) ≡ c → IsGrid (record grid { cells = valued celled a value grid.cells })
    by_kind true k =
        let old = λ (p : Place) (y : Cell) (h : finite.get (valued celled a value grid.cells) p ≡ Some y). let x = cell_of grid.cells a value true k p y h in let t : (x : Cell) × (finite.get grid.cells p ≡ Some x) × (shape_of x ≡ shape_of y) = (x.0, x.1, sym (cse_shape grid.cells a value p x.0) ∙ ap shape_of x.2) in t in
        let new = λ (p : Place) (x : Cell) (h : finite.get grid.cells p ≡ Some x). let t : (y : Cell) × (finite.get (valued celled a value grid.cells) p ≡ Some y) × (shape_of x ≡ shape_of y) = (valued_cell celled true value a p x, cell_at grid.cells a value true k p x h, sym (cse_shape grid.cells a value p x)) in t in
        record {
          inside = shaped_inside grid.cells (valued celled a value grid.cells) old new ok.inside;
          arrays = shaped_arrays grid.cells (valued celled a value grid.cells) old new ok.arrays;
          merges = shaped_merges grid.cells (valued celled a value grid.cells) old new grid.merged_cells ok.merges;
        }
    by_kind false k =
        let l = plain_loosens grid.cells a value k ok.arrays in
        let inside = λ (q : Place) (y : Cell) (h : finite.get (valued celled a value grid.cells) q ≡ Some y). let x = cell_of grid.cells a value false k q y h in ok.inside q x.0 x.1 in
        record {
          inside = inside;
          arrays = loosened_arrays celled grid.cells (valued celled a value grid.cells) (λ b. same_place b a) l ok.arrays inside;
          merges = loosened_merges celled grid.cells (valued celled a value grid.cells) (λ b. same_place b a) l grid.merged_cells ok.merges;
        }
