-- What holds of a sheet's contents, its arrays and its merged cells still does after a block is cleared, a formula gets a
-- value, or an array its values: it does of cells, and contents are held as cells.
use Rattle.std.proofs.Common.{◌≡◌, ◌∙◌, refl, sym, ap, subst, ℕ, ℤ, Bool, true, false, cond, not, List, length, Option, Some, None, Ok, Err}
use Rattle.std.proofs.lemmas.Bool.{not-false}
use Rattle.std.specs.FinMap as finite
use Rattle.std.specs.List.{AllByRecursion}
use Rattle.std.specs.Option.{option_map, unwrap_or}
use Rattle.ic_cells.specs.declared.cell.ArrayKind.{ArrayKind}
use Rattle.ic_cells.specs.declared.cell.Cell.{Cell}
use Rattle.ic_cells.specs.declared.cell.Cell.TheVariants as cells
use Rattle.ic_cells.specs.declared.layout.Merge.{Merge}
use Rattle.ic_cells.specs.declared.value.FormulaValue.{FormulaValue}
use Rattle.ic_cells.specs.declared.value.SpillValue.{SpillValue}
use Rattle.ic_grid.proofs.ClearLemmas.{cleared_whole}
use Rattle.ic_grid.proofs.SpillAllowed.{is_spilled, still_whole}
use Rattle.ic_grid.proofs.ValueWhole.{valued_whole}
use Rattle.ic_grid.specs.Block.{Place, block_at, first_place}
use Rattle.ic_grid.specs.Calls.{Answer, blocked_by, can_spill, spill_answer}
use Rattle.ic_grid.specs.Clear.{cleared}
use Rattle.ic_grid.specs.Conditions.{AreArrays, AreInSheet, AreMerges}
use Rattle.ic_grid.specs.Contents.{Contents}
use Rattle.ic_grid.specs.Prepare.{without_spill}
use Rattle.ic_grid.specs.Rows.{placed}
use Rattle.ic_grid.specs.Shape.{Anchor, Empty, Shape, celled, is_anchor, shape_of}
use Rattle.ic_grid.specs.Spill.{array_cells, first_blocking, misfits, spilled}
use Rattle.ic_grid.specs.Style.{Columns, Rows}
use Rattle.ic_grid.specs.Value.{formula_array, shape_at, valued}
use Rattle.ic_grid.specs.Whole.{IsGrid}
use Rattle.ic_grid.specs.declared.block.Array.{Array}
use Rattle.ic_grid.specs.declared.block.Block.{Block}
use Rattle.ic_grid.specs.declared.error.GridError.TheVariants as errors
use Rattle.ic_grid.specs.declared.grid.Grid.{Grid}
use Rattle.ic_machine.specs.Content.{Content, held}
use Rattle.ic_machine.specs.subjects.Arrays.{blocked_causes}
use Rattle.ic_machine.proofs.contents.AlikeLemmas.{as_cell, contents_are_cells}
use Rattle.ic_machine.proofs.contents.SeenLemmas.{IsSeen, blocking_same, cleared_seen, is_seen_as, same_arrays, same_inside, same_merges, seen_as, seen_back, seen_to, shape_same, spilled_seen, valued_seen}

-- contents lie in the sheet, have whole arrays, and the merged cells meet no others and no array
pub record IsWhole (merges : List Merge) (m : Contents Content) : Type 0 where
  pub inside : AreInSheet held m
  pub arrays : AreArrays held m
  pub apart : AreMerges held m merges

-- what refuses a spill ----

answered : (p q : Bool) (o : Option Place) → p ≡ false → q ≡ false → o ≡ None → (let r : Answer = cond p (Err errors.NoFormulaCell) (cond q (Err errors.BadArea) (blocked_by o)) in r ≡ Ok tt)
answered true q o e f g = cc
answered false true o e f g = cc
answered false false o e f g = ap blocked_by g

pub none_blocks : (o : Option Place) → AllByRecursion (λ cause. cause.0 ≡ false) (blocked_causes o) → o ≡ None
none_blocks None h = refl
none_blocks (Some p) h = let never : true ≡ false = h.0 in cc

array_cell : (o : Option Cell) → is_anchor (unwrap_or (option_map shape_of o) Empty) ≡ true → (f : ℕ) × (s : ℕ) × (r : ℤ × ℤ) × (kind : ArrayKind) × (v : FormulaValue) × (o ≡ Some (cells.ArrayFormula kind f s r v))
array_cell None e = cc
array_cell (Some (cells.EmptyCell n)) e = cc
array_cell (Some (cells.BooleanCell v n)) e = cc
array_cell (Some (cells.NumberCell v n)) e = cc
array_cell (Some (cells.ErrorCell v n)) e = cc
array_cell (Some (cells.SharedString v n)) e = cc
array_cell (Some (cells.CellFormula f n v)) e = cc
array_cell (Some (cells.ArrayFormula kind f n r v)) e = (f, n, r, kind, v, refl)
array_cell (Some (cells.SpillCell n a v)) e = cc

-- the contents of a sheet as its cells ----

module _ (rows : Rows) (columns : Columns) (merges : List Merge) where
  abbrev pub as_grid : Contents Cell → Grid
  as_grid c = record { cells = c; rows = rows; columns = columns; merged_cells = merges }

  pub whole_as : (m : Contents Content) (c : Contents Cell) → IsSeen as_cell m c → IsWhole merges m → IsGrid (as_grid c)
  whole_as m c seen w = record {
    inside = same_inside held celled m c (seen_to as_cell held celled contents_are_cells m c seen) (seen_back as_cell held celled contents_are_cells m c seen) w.inside;
    arrays = same_arrays held celled m c (seen_to as_cell held celled contents_are_cells m c seen) (seen_back as_cell held celled contents_are_cells m c seen) w.arrays;
    merges = same_merges held celled m c (seen_to as_cell held celled contents_are_cells m c seen) (seen_back as_cell held celled contents_are_cells m c seen) merges w.apart;
  }

  pub whole_back : (m : Contents Content) (c : Contents Cell) → IsSeen as_cell m c → IsGrid (as_grid c) → IsWhole merges m
  whole_back m c seen w = record {
    inside = same_inside celled held c m (seen_back as_cell held celled contents_are_cells m c seen) (seen_to as_cell held celled contents_are_cells m c seen) w.inside;
    arrays = same_arrays celled held c m (seen_back as_cell held celled contents_are_cells m c seen) (seen_to as_cell held celled contents_are_cells m c seen) w.arrays;
    apart = same_merges celled held c m (seen_back as_cell held celled contents_are_cells m c seen) (seen_to as_cell held celled contents_are_cells m c seen) merges w.merges;
  }

  module _ (m : Contents Content) (w : IsWhole merges m) where
    abbrev c : Contents Cell
    c = seen_as as_cell m

    seen : IsSeen as_cell m c
    seen = is_seen_as as_cell m

    is_grid : IsGrid (as_grid c)
    is_grid = whole_as m c seen w

    pub cleared_is : (b : Block) (all : Bool) → IsWhole merges (cleared held b all m)
    cleared_is b all =
        whole_back (cleared held b all m) (cleared celled b all c) (cleared_seen as_cell held celled contents_are_cells m c seen b all)
        (cleared_whole (as_grid c) b all is_grid (cleared celled b all c) refl (as_grid (cleared celled b all c)) refl)

    pub valued_is : (a : Place) (value : FormulaValue) → IsWhole merges (valued held a value m)
    valued_is a value =
        whole_back (valued held a value m) (valued celled a value c) (valued_seen as_cell held celled contents_are_cells m c seen a value)
        (valued_whole (as_grid c) a value is_grid (valued celled a value c) refl (as_grid (valued celled a value c)) refl)

    pub spilled_is : (b : Block) (values : List SpillValue) → not (is_anchor (shape_at held m (first_place b))) ≡ false → misfits b (length values) (shape_at held m (first_place b)) ≡ false
        → first_blocking held merges m b (length values) ≡ None → IsWhole merges (spilled held rows columns b values m)
    spilled_is b values anchor fits none =
        whole_back (spilled held rows columns b values m) (spilled celled rows columns b values c) (spilled_seen as_cell held celled contents_are_cells rows columns b values m c seen)
        (subst (λ (n : Contents Cell). IsGrid (as_grid n)) (is_spilled (as_grid c) is_grid b cell.0 cell.1 array here values allowed after refl) (still_whole (as_grid c) is_grid b cell.0 cell.1 array here values allowed after refl))
      where
        same : shape_at celled c (first_place b) ≡ shape_at held m (first_place b)
        same = shape_same as_cell held celled contents_are_cells m c seen (first_place b)

        cell : (f : ℕ) × (s : ℕ) × (r : ℤ × ℤ) × (kind : ArrayKind) × (v : FormulaValue) × (finite.get c (first_place b) ≡ Some (cells.ArrayFormula kind f s r v))
        cell = array_cell (finite.get c (first_place b)) (ap is_anchor same ∙ not-false (is_anchor (shape_at held m (first_place b))) anchor)

        array : Array
        array = record { block = block_at (first_place b) cell.2.0 cell.2.1; kind = cell.3 }

        here : formula_array (first_place b) (finite.get c (first_place b)) ≡ Some (cell.0, cell.1, array)
        here = ap (formula_array (first_place b)) cell.5

        can : can_spill celled merges c b (length values) ≡ Ok tt
        can =
            answered (not (is_anchor (shape_at celled c (first_place b)))) (misfits b (length values) (shape_at celled c (first_place b))) (first_blocking celled merges c b (length values))
            (ap (λ (s : Shape). not (is_anchor s)) same ∙ anchor) (ap (misfits b (length values)) same ∙ fits) (blocking_same as_cell held celled contents_are_cells m c seen merges b (length values) ∙ none)

        allowed : spill_answer celled merges c b (length values) (Anchor cell.2.0 cell.2.1 cell.3) ≡ Ok tt
        allowed = sym (ap (λ (o : Option Cell). spill_answer celled merges c b (length values) (unwrap_or (option_map shape_of o) Empty)) cell.5) ∙ can

        after : Contents Cell
        after = placed b (first_place b) (array_cells rows columns c b cell.0 cell.1 cell.3 values) (without_spill celled (first_place b) c)
