-- A block is cleared: what stands where then, and that all that holds of a sheet still does.
use Rattle.std.proofs.Common.{◌≡◌, ◌∙◌, refl, sym, ap, subst, Bool, true, false, cond, Option, Some, None}
use Rattle.std.proofs.lemmas.Bool.{both_ways}
use Rattle.std.specs.FinMap as finite
use Rattle.std.specs.Option.{option_and_then}
use Rattle.ic_cells.specs.declared.cell.Cell.{Cell}
use Rattle.ic_cells.specs.declared.cell.Cell.TheVariants as cells
use Rattle.ic_grid.proofs.ContentsLemmas.{get-remade, remade_twice}
use Rattle.ic_grid.proofs.LoosenLemmas.{Loosens, loosened_arrays, loosened_merges}
use Rattle.ic_grid.proofs.PrepareLemmas.{loose_now}
use Rattle.ic_grid.proofs.ReachedLemmas.{reached_at}
use Rattle.ic_grid.proofs.WalkLemmas.{by_side}
use Rattle.ic_grid.proofs.WriteLemmas.{IsLooseCell, free_cell}
use Rattle.ic_grid.specs.Arrays.{anchor_at, anchor_of, array_at, array_of, reaches}
use Rattle.ic_grid.specs.Block.{Place, is_in_block}
use Rattle.ic_grid.specs.Change.{changed, remade_where}
use Rattle.ic_grid.specs.Clear.{cleared, cleared_cell, wiped, wiping}
use Rattle.ic_grid.specs.Conditions.{AreArrays, AreInSheet}
use Rattle.ic_grid.specs.Contents.{Contents}
use Rattle.ic_grid.specs.Prepare.{loosened, loosened_in}
use Rattle.ic_grid.specs.Shape.{celled, emptied, shape_of}
use Rattle.ic_grid.specs.Whole.{IsGrid}
use Rattle.ic_grid.specs.declared.block.Block.{Block}
use Rattle.ic_grid.specs.declared.grid.Grid.{Grid}
use Rattle.ic_laws.proofs.General.{chained as there}

-- a cell that is released and then emptied is emptied
emptied_same : (x : Cell) → emptied celled (loosened celled x) ≡ emptied celled x
emptied_same (cells.EmptyCell s) = refl
emptied_same (cells.BooleanCell v s) = refl
emptied_same (cells.NumberCell v s) = refl
emptied_same (cells.ErrorCell v s) = refl
emptied_same (cells.SharedString v s) = refl
emptied_same (cells.CellFormula f s v) = refl
emptied_same (cells.ArrayFormula k f s r v) = refl
emptied_same (cells.SpillCell s d v) = refl

wiped_same : (all t : Bool) (x : Cell) → changed (wiping all) (cond t (loosened celled x) x) ≡ wiped celled all x
wiped_same true t x = refl
wiped_same false true x = ap Some (emptied_same x)
wiped_same false false x = refl

module _ (m : Contents Cell) (b : Block) (all : Bool) where
  each : (s t : Bool) (x : Cell) → cond s (changed (wiping all) (cond t (loosened celled x) x)) (Some (cond t (loosened celled x) x)) ≡ cond s (wiped celled all x) (Some (cond t (loosened celled x) x))
  each true t x = wiped_same all t x
  each false t x = refl

  pub cleared_so : (between after : Contents Cell) → between ≡ loosened_in celled b m → after ≡ remade_where (is_in_block b) (changed (wiping all)) between → after ≡ cleared celled b all m
  cleared_so between after one two =
      two ∙ ap (remade_where (is_in_block b) (changed (wiping all))) one
      ∙ remade_twice _ _ _ m (λ q x e. each (is_in_block b q) (reaches b (array_at celled m q)) x)

  -- the arrays with a cell in the block
  abbrev test : Place → Bool
  test a = reaches b (array_of celled m a)

  abbrev after : Contents Cell
  after = cleared celled b all m

  cell_of : (q : Place) (y : Cell) → finite.get after q ≡ Some y → (x : Cell) × (finite.get m q ≡ Some x) × (cleared_cell celled m b all q x ≡ Some y)
  cell_of q y e = there (cleared_cell celled m b all q) (finite.get m q) y (sym (get-remade _ m q) ∙ e)

  array_is : (q : Place) (o : Option Place) → anchor_at celled m q ≡ o → array_at celled m q ≡ option_and_then (array_of celled m) o
  array_is q o e = ap (option_and_then (array_of celled m)) e

  pub cleared_inside : AreInSheet celled m → AreInSheet celled after
  cleared_inside inside q y e = let x = cell_of q y e in inside q x.0 x.1

  pub cleared_loosens : AreArrays celled m → Loosens celled m after test
  cleared_loosens ok = record { kept = kept; loose = left }
    where
      second : (s t : Bool) (x : Cell) → s ≡ false → t ≡ false → cond s (wiped celled all x) (Some (cond t (loosened celled x) x)) ≡ Some x
      second true t x e f = cc
      second false true x e f = cc
      second false false x e f = refl

      kept : (q a : Place) → anchor_at celled m q ≡ Some a → test a ≡ false → finite.get after q ≡ finite.get m q
      kept q a e t =
          let x = there (λ y. anchor_of q (shape_of y)) (finite.get m q) a e in
          get-remade _ m q ∙ ap (option_and_then (cleared_cell celled m b all q)) x.1
          ∙ second (is_in_block b q) (reaches b (array_at celled m q)) x.0 out (ap (reaches b) (array_is q (Some a) e) ∙ t) ∙ sym x.1
        where
          out : is_in_block b q ≡ false
          out = by_side (is_in_block b q) (λ s. absurd (both_ways (test a) t (reached_at m b ok q a s e))) (λ s. s)

      left : (q : Place) → ((a : Place) → anchor_at celled m q ≡ Some a → test a ≡ true) → (y : Cell) → finite.get after q ≡ Some y → IsLooseCell y
      left q h y e =
          let x = cell_of q y e in
          by_place (is_in_block b q) (reaches b (array_at celled m q)) x.0 x.1 refl x.2
        where
          by_place : (s t : Bool) (x : Cell) → finite.get m q ≡ Some x → t ≡ reaches b (array_at celled m q) → cond s (wiped celled all x) (Some (cond t (loosened celled x) x)) ≡ Some y → IsLooseCell y
          by_place true t x is same f = of_wiped all f
            where
              of_wiped : (all_of : Bool) → wiped celled all_of x ≡ Some y → IsLooseCell y
              of_wiped true f = cc
              of_wiped false f = let one : emptied celled x ≡ y = cc in subst IsLooseCell one refl
          by_place false t x is same f =
              let one : cond t (loosened celled x) x ≡ y = cc in
              subst IsLooseCell one (by_anchor (anchor_of q (shape_of x)) refl)
            where
              at_q : (o : Option Place) → anchor_of q (shape_of x) ≡ o → anchor_at celled m q ≡ o
              at_q o n = ap (option_and_then (λ y. anchor_of q (shape_of y))) is ∙ n

              by_anchor : (o : Option Place) → anchor_of q (shape_of x) ≡ o → IsLooseCell (cond t (loosened celled x) x)
              by_anchor None n =
                  subst (λ u. IsLooseCell (cond u (loosened celled x) x)) (sym (same ∙ ap (reaches b) (array_is q None (at_q None n))))
                  (free_cell q x (λ c g. let never : None ≡ Some c = sym n ∙ g in cc))
              by_anchor (Some a) n =
                  subst (λ u. IsLooseCell (cond u (loosened celled x) x)) (sym (same ∙ ap (reaches b) (array_is q (Some a) (at_q (Some a) n)) ∙ h a (at_q (Some a) n)))
                  (loose_now q x)

-- a sheet that was cleared
pub cleared_whole : (grid : Grid) (b : Block) (all : Bool) → IsGrid grid → (left : Contents Cell) → left ≡ cleared celled b all grid.cells → (now : Grid) → now ≡ record grid { cells = left } → IsGrid now
cleared_whole grid b all ok left e now f =
    let inside = cleared_inside grid.cells b all ok.inside in
    let l = cleared_loosens grid.cells b all ok.arrays in
    subst (λ (g : Grid). IsGrid g) (sym (f ∙ ap (λ (c : Contents Cell). let g : Grid = record grid { cells = c } in g) e)) (record {
      inside = inside;
      arrays = loosened_arrays celled grid.cells (cleared celled b all grid.cells) _ l ok.arrays inside;
      merges = loosened_merges celled grid.cells (cleared celled b all grid.cells) _ l grid.merged_cells ok.merges;
    })
