-- Cells by example: which can't be written, and what a place that holds nothing answers.
use Rattle.std.proofs.Common.{◌≡◌, pos, [], ◌∷◌, true, Err, codes, refl}
use Rattle.std.specs.FinMap as finite
use Rattle.ic_cells.specs.declared.value.FormulaValue.TheVariants as values
use Rattle.ic_grid.specs.Block.{is_between}
use Rattle.ic_machine.specs.Book.{Book, empty_grid, empty_sheet}
use Rattle.ic_machine.specs.Command.{commands}
use Rattle.ic_machine.specs.Refusal.{BadArea, NoFormulaCell}
use Rattle.ic_machine.specs.subjects.Arrays.{clear_step, put_value_step}
use Rattle.ic_machine.specs.subjects.Writing.{bool_step, number_step}
use Rattle.ic_machine.proofs.examples.Session.{answers, step}
use Rattle.ic_machine.proofs.examples.Small.{start}

-- the first four cells are merged
abbrev merged : Book
merged = record start { sheets = record (empty_sheet 1 (codes "Sheet1")) { grid = record empty_grid { merges = record { row = pos 1; column = pos 1; width = pos 2; height = pos 2 } ∷ [] } } ∷ [] }

-- a covered cell can't be written; the row is asked for before the column, and both before the merge
covered : answers merged
    (codes "update_cell_with_bool\t0\t2\t2\ttrue" ∷ codes "update_cell_with_bool\t0\t0\t0\ttrue" ∷ codes "update_cell_with_number\t0\t1\t16385\t1.5" ∷ codes "update_cell_with_number\t3\t0\t0\t1" ∷ codes "update_cell_with_number\t0\t1\t1\tx" ∷ [])
    ≡ codes "error\tMergedPart" ∷ codes "error\tInvalidRow" ∷ codes "error\tInvalidColumn" ∷ codes "error\tInvalidSheet" ∷ codes "error\tBadLine" ∷ []
unfolding answers step commands bool_step number_step is_between
covered = refl

-- a value needs a formula
no_formula : put_value_step (pos 9, pos 9) (values.Number (pos 4000000000)) empty_grid ≡ Err NoFormulaCell
unfolding put_value_step
no_formula = simp (finite.get-empty)

-- an area has a place at least
no_area : clear_step true (record { row = pos 1; column = pos 1; width = pos 0; height = pos 2 }) empty_grid ≡ Err BadArea
unfolding clear_step
no_area = refl
