-- An array that is written as a whole, by example: its cells are written and cleared together or not at all.
use Rattle.std.proofs.Common.{◌≡◌, ℕ, pos, List, [], ◌∷◌, map, Bool, true, false, cond, Option, Some, Ok, Err, codes, refl, ap, ap₂, ◌∙◌}
use Rattle.std.specs.FinMap as finite
use Rattle.std.specs.List.{list_any}
use Rattle.std.specs.Prelude.{◌&&◌}
use Rattle.ic_laws.specs.CoreBook.{CellPlace}
use Rattle.ic_laws.specs.FormulaReading.{cell_formula}
use Rattle.ic_laws.specs.declared.tree.Formula.{Formula}
use Rattle.ic_laws.proofs.core.CellWritten.{place_cmp_total}
use Rattle.ic_tree.specs.Notations.{notations_of}
use Rattle.ic_cells.specs.Style.{default_style}
use Rattle.ic_cells.specs.declared.cell.ArrayKind.TheVariants as kinds
use Rattle.ic_cells.specs.declared.style.Style.{Style}
use Rattle.ic_cells.specs.declared.value.FormulaValue.TheVariants as values
use Rattle.ic_cells.specs.declared.value.SpillValue.TheVariants as spills
use Rattle.ic_grid.specs.Arrays.{array_at, has_cut, has_fixed, is_cut_by, is_fixed_at, reaches}
use Rattle.ic_grid.specs.Block.{is_between, is_in_block, is_span_within}
use Rattle.ic_grid.specs.Clear.{cleared, cleared_cell}
use Rattle.ic_grid.specs.Contents.{Contents, remade, remade_entries}
use Rattle.ic_grid.specs.Prepare.{loosened, loosened_in}
use Rattle.ic_grid.specs.Spill.{array_written, with_blanks, written_style}
use Rattle.ic_grid.specs.declared.block.Block.{Block}
use Rattle.ic_machine.specs.Book.{Book, Entry, Sheet, core_of, empty_grid, on_grid, unless, unless_refused}
use Rattle.ic_machine.specs.Command.{commands}
use Rattle.ic_machine.specs.Content.{AnchorContent, Content, SpillContent, held}
use Rattle.ic_machine.specs.InForce.{typed_in}
use Rattle.ic_machine.specs.Refusal.{ArrayPart, BadArea, ClearArray, MergedPart, NotAFormula, Refusal, first_refusal}
use Rattle.ic_machine.specs.Step.{outcome_of}
use Rattle.ic_machine.specs.subjects.Arrays.{array_step, clear_step, with_array, with_contents}
use Rattle.ic_machine.specs.subjects.Writing.{formula_at_place, input_step, typed_written, with_written}
use Rattle.ic_machine.proofs.as_core.CoreLemmas.{no_cells}
use Rattle.ic_machine.proofs.examples.Formulas.{small}
use Rattle.ic_machine.proofs.examples.OneSheet.{by_grid, causes, one_cell, sheet_with, with_first}
use Rattle.ic_machine.proofs.examples.Session.{answers, done, next, step}
use Rattle.ic_machine.proofs.examples.Small.{start}

-- so many columns and rows from the first cell on
abbrev block : ℕ → ℕ → Block
block width height = record { row = pos 1; column = pos 1; width = pos width; height = pos height }

abbrev place : ℕ → ℕ → CellPlace
place row column = (pos row, pos column)

abbrev plain : List Style
plain = default_style ∷ []

abbrev formula : Formula
formula = cell_formula small (core_of start) 1 (pos 1) (pos 1) (codes "A5:B6")

-- the array, of two columns and two rows
abbrev anchor : Content
anchor = AnchorContent 0 (pos 2, pos 2) kinds.Cse values.Unevaluated 0

abbrev blank : Content
blank = SpillContent (place 1 1) (spills.Text []) 0

abbrev array : Contents Content
array = finite.insert (finite.insert (finite.insert (one_cell (place 1 1) anchor) (place 1 2) blank) (place 2 1) blank) (place 2 2) blank

abbrev sheet : Contents Content → Sheet
sheet contents = sheet_with (formula ∷ []) contents

abbrev book : Contents Content → Book
book contents = with_first start [] (sheet contents) plain

-- ---- it is written

none_fixed : (b : Block) → has_fixed held finite.empty b ≡ false
none_fixed b = ap (λ (es : List Entry). list_any (λ p. is_in_block b p && is_fixed_at held finite.empty p) (map (λ (e : Entry). e.0) es)) no_cells

-- its cells, in a sheet whose arrays were released in these contents
abbrev put_in : Contents Content → Contents Content × List Style
put_in m =
    with_blanks held finite.empty finite.empty (block 2 2) 3 (place 1 2)
    (finite.insert m (place 1 1) (held.array 0 (written_style held finite.empty finite.empty finite.empty plain (place 1 1)).0 (pos 2) (pos 2) kinds.Cse))
    (written_style held finite.empty finite.empty finite.empty plain (place 1 1)).1

none_released : loosened_in held (block 2 2) finite.empty ≡ finite.empty
unfolding remade
none_released = ap (remade_entries (λ q x. Some (cond (reaches (block 2 2) (array_at held finite.empty q)) (loosened held x) x))) no_cells

put_is : put_in finite.empty ≡ (array, plain)
put_is = simp (finite.gets, place_cmp_total)

array_is : array_written held finite.empty finite.empty (block 2 2) 3 0 finite.empty plain ≡ (array, plain)
array_is = ap put_in none_released ∙ put_is

array_put : step start (codes "set_user_array_formula\t0\t1\t1\t2\t2\t=A5:B6") ≡ (book array, Ok [])
unfolding step commands array_step is_span_within notations_of
array_put =
    ap₂
    (λ (fixed : Bool) (left : Contents Content × List Style). outcome_of start (unless_refused ((false, BadArea) ∷ (false, MergedPart) ∷ (fixed, ArrayPart) ∷ (false, NotAFormula) ∷ [])
    (with_contents start 0 (sheet_with [] finite.empty) (formula ∷ []) left) []))
    (none_fixed (block 2 2)) array_is

-- ---- a cell of it isn't written alone, nor is it cleared in part

part : first_refusal (causes (sheet array) (place 2 2) []) ≡ Some ArrayPart
part = simp (finite.gets, place_cmp_total)

not_written : step (book array) (codes "set_user_input\t0\t2\t2\t5") ≡ (book array, Err ArrayPart)
unfolding step commands input_step
not_written =
    ap (λ (o : Option Refusal). outcome_of (book array) (unless o (with_written (book array) 0 (sheet array) (place 2 2) (typed_written (book array) (sheet array) (place 2 2) (typed_in (book array) (codes "5")))) [])) part

array_entries : finite.entries array ≡ (place 1 1, anchor) ∷ (place 1 2, blank) ∷ (place 2 1, blank) ∷ (place 2 2, blank) ∷ []
array_entries = simp (finite.entries-insert, place_cmp_total, no_cells)

abbrev cut_among : Block → List Entry → Bool
cut_among b entries = list_any (λ p. is_in_block b p && is_cut_by b (array_at held array p)) (map (λ (e : Entry). e.0) entries)

in_part : has_cut held array (block 1 1) ≡ true
unfolding is_between is_span_within
in_part = ap (cut_among (block 1 1)) array_entries ∙ simp (finite.gets, place_cmp_total)

not_cleared : step (book array) (codes "range_clear_contents\t0\t1\t1\t1\t1") ≡ (book array, Err ClearArray)
unfolding step commands on_grid clear_step is_span_within
not_cleared = ap (λ (cut : Bool). by_grid start [] (sheet array) plain (unless_refused ((false, BadArea) ∷ (cut, ClearArray) ∷ []) (record empty_grid { contents = cleared held (block 1 1) false array }) [])) in_part

-- ---- as a whole it is

as_whole : has_cut held array (block 2 2) ≡ false
unfolding is_between is_span_within
as_whole = ap (cut_among (block 2 2)) array_entries ∙ simp (finite.gets, place_cmp_total)

all_taken : cleared held (block 2 2) true array ≡ finite.empty
unfolding remade is_between
all_taken = ap (remade_entries (cleared_cell held array (block 2 2) true)) array_entries ∙ finite.empty_of_len _ (simp (finite.gets, place_cmp_total))

all_cleared : step (book array) (codes "range_clear_all\t0\t1\t1\t2\t2") ≡ (book finite.empty, Ok [])
unfolding step commands on_grid clear_step is_span_within
all_cleared =
    ap₂ (λ (cut : Bool) (contents : Contents Content). by_grid start [] (sheet array) plain (unless_refused ((false, BadArea) ∷ (cut, ClearArray) ∷ []) (record empty_grid { contents = contents }) [])) as_whole all_taken

no_area : step (book finite.empty) (codes "range_clear_all\t0\t1\t1\t0\t2") ≡ (book finite.empty, Err BadArea)
unfolding step commands on_grid clear_step is_span_within
no_area = refl

no_formula : step (book finite.empty) (codes "set_user_array_formula\t0\t1\t1\t1\t1\t5") ≡ (book finite.empty, Err NotAFormula)
unfolding step commands array_step is_span_within
no_formula =
    ap
    (λ (fixed : Bool). outcome_of (book finite.empty) (unless_refused ((false, BadArea) ∷ (false, MergedPart) ∷ (fixed, ArrayPart) ∷ (true, NotAFormula) ∷ [])
    (with_array (book finite.empty) 0 (sheet finite.empty) (block 1 1) (formula_at_place (book finite.empty) (sheet finite.empty) (place 1 1) (codes "5"))) []))
    (none_fixed (block 1 1))

whole_array : answers start
    (codes "set_user_array_formula\t0\t1\t1\t2\t2\t=A5:B6" ∷ codes "set_user_input\t0\t2\t2\t5" ∷ codes "range_clear_contents\t0\t1\t1\t1\t1" ∷ codes "range_clear_all\t0\t1\t1\t2\t2"
    ∷ codes "range_clear_all\t0\t1\t1\t0\t2" ∷ codes "set_user_array_formula\t0\t1\t1\t1\t1\t5" ∷ [])
    ≡ codes "ok" ∷ codes "error\tArrayPart" ∷ codes "error\tClearArray" ∷ codes "ok" ∷ codes "error\tBadArea" ∷ codes "error\tNotAFormula" ∷ []
whole_array =
    next _ _ _ _ _ _ array_put (next _ _ _ _ _ _ not_written (next _ _ _ _ _ _ not_cleared (next _ _ _ _ _ _ all_cleared
    (next _ _ _ _ _ _ no_area (next _ _ _ _ _ _ no_formula (done _))))))
