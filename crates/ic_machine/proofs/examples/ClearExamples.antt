-- Clearing and spills by example: an array that is written as a whole isn't cleared in part, a cell that is cleared keeps
-- its style, and a spill stops at a cell that holds something.
use Rattle.std.proofs.Common.{◌≡◌, ℕ, pos, List, [], ◌∷◌, true, false, Bool, Some, None, Err, codes, ap, ◌∙◌}
use Rattle.std.specs.FinMap as finite
use Rattle.std.specs.List.{list_any}
use Rattle.std.specs.Prelude.{◌&&◌, not}
use Rattle.ic_laws.proofs.core.CellWritten.{place_cmp_total}
use Rattle.ic_cells.specs.Maps.{place_cmp}
use Rattle.ic_cells.specs.declared.cell.ArrayKind.TheVariants as kinds
use Rattle.ic_cells.specs.declared.value.FormulaValue.TheVariants as values
use Rattle.ic_cells.specs.declared.value.SpillValue.TheVariants as spills
use Rattle.ic_grid.proofs.ContentsLemmas.{get-remade}
use Rattle.ic_grid.specs.Arrays.{array_at, has_cut, is_cut_by}
use Rattle.ic_grid.specs.Block.{Place, is_area, is_between, is_in_block, is_span_within}
use Rattle.ic_grid.specs.Clear.{cleared}
use Rattle.ic_grid.specs.Contents.{Contents}
use Rattle.ic_grid.specs.Prepare.{written}
use Rattle.ic_grid.specs.declared.block.Block.{Block}
use Rattle.ic_machine.specs.Book.{Entry, Grid, empty_grid, unless_refused}
use Rattle.ic_machine.specs.Content.{AnchorContent, Content, EmptyContent, NumContent, SpillContent, held}
use Rattle.ic_machine.specs.Refusal.{BadArea, ClearArray, SpillBlocked}
use Rattle.ic_machine.specs.subjects.Arrays.{clear_step, put_spill_step, with_grid_contents}
use Rattle.ic_machine.proofs.as_core.CoreLemmas.{no_cells}

abbrev block : ℕ → ℕ → Block
block width height = record { row = pos 1; column = pos 1; width = pos width; height = pos height }

-- an array of two cells in the first row, that is written as a whole
abbrev first : Contents Content
first = finite.insert finite.empty (pos 1, pos 1) (AnchorContent 0 (pos 2, pos 1) kinds.Cse values.Unevaluated 0)

abbrev array : Grid
array = record empty_grid { contents = finite.insert first (pos 1, pos 2) (SpillContent (pos 1, pos 1) (spills.Text []) 0) }

entries_are : finite.entries array.contents ≡ ((pos 1, pos 1), AnchorContent 0 (pos 2, pos 1) kinds.Cse values.Unevaluated 0) ∷ ((pos 1, pos 2), SpillContent (pos 1, pos 1) (spills.Text []) 0) ∷ []
entries_are =
    finite.entries-insert place_cmp_total first (pos 1, pos 2) (SpillContent (pos 1, pos 1) (spills.Text []) 0)
    ∙ ap (λ (es : List Entry). finite.put place_cmp (pos 1, pos 2) (SpillContent (pos 1, pos 1) (spills.Text []) 0) es)
    (finite.entries-insert place_cmp_total finite.empty (pos 1, pos 1) (AnchorContent 0 (pos 2, pos 1) kinds.Cse values.Unevaluated 0)
    ∙ ap (λ (es : List Entry). finite.put place_cmp (pos 1, pos 1) (AnchorContent 0 (pos 2, pos 1) kinds.Cse values.Unevaluated 0) es) no_cells)

abbrev keys_of : List Entry → List Place
keys_of [] = []
keys_of (e ∷ es) = e.0 ∷ keys_of es

is_cut : has_cut held array.contents (block 1 1) ≡ true
unfolding is_between is_span_within
is_cut = ap (λ (es : List Entry). list_any (λ p. is_in_block (block 1 1) p && is_cut_by (block 1 1) (array_at held array.contents p)) (keys_of es)) entries_are ∙ simp (finite.gets, place_cmp_total)

in_part : clear_step false (block 1 1) array ≡ Err ClearArray
unfolding clear_step is_span_within
in_part =
    ap (λ (cut : Bool). unless_refused ((not (is_area (block 1 1)), BadArea) ∷ (cut, ClearArray) ∷ []) (with_grid_contents array (cleared held (block 1 1) false array.contents)) []) is_cut

-- a number in the style 3
abbrev styled : Contents Content
styled = finite.insert finite.empty (pos 1, pos 1) (NumContent (pos 100000000000) 3)

style_kept : finite.get (cleared held (block 1 1) false styled) (pos 1, pos 1) ≡ Some (EmptyContent 3)
unfolding is_between
style_kept = simp (get-remade, finite.gets, place_cmp_total)

style_gone : finite.get (cleared held (block 1 1) true styled) (pos 1, pos 1) ≡ None
unfolding is_between
style_gone = simp (get-remade, finite.gets, place_cmp_total)

-- a formula that may spill over a number two rows below
abbrev column : Grid
column = record empty_grid {
  contents = finite.insert (finite.insert finite.empty (pos 1, pos 1) (AnchorContent 0 (pos 1, pos 1) kinds.Dynamic values.Unevaluated 0)) (pos 2, pos 1) (NumContent (pos 7000000000) 0);
}

blocked : put_spill_step (block 1 3) (spills.Number (pos 1000000000) ∷ spills.Number (pos 2000000000) ∷ spills.Text (codes "x") ∷ []) column ≡ Err (SpillBlocked (pos 2) (pos 1))
unfolding put_spill_step is_between is_span_within
blocked = simp (finite.gets, place_cmp_total)

-- a formula that spills into the next row; another value written there is a release of the array
abbrev spilt : Contents Content
spilt = finite.insert (finite.insert finite.empty (pos 1, pos 1) (AnchorContent 0 (pos 1, pos 2) kinds.Dynamic (values.Number (pos 1000000000)) 4)) (pos 2, pos 1) (SpillContent (pos 1, pos 1) (spills.Number (pos 2000000000)) 5)

abbrev over : Contents Content
over = written held (pos 2, pos 1) (NumContent (pos 7000000000) 5) spilt

over_spill : finite.get over (pos 2, pos 1) ≡ Some (NumContent (pos 7000000000) 5)
over_spill = simp (finite.gets, place_cmp_total)

its_formula : finite.get over (pos 1, pos 1) ≡ Some (AnchorContent 0 (pos 1, pos 1) kinds.Dynamic values.Unevaluated 4)
its_formula = simp (get-remade, finite.gets, place_cmp_total)
