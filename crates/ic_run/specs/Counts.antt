-- How replies and cells are counted, by the texts of replies and the cells of sheets.
use Rattle.std.specs.Prelude.{ℕ, ◌==◌, List, [], ◌∷◌, Bool, false, bytes_eq, chars, is_some}
use Rattle.std.specs.FinMap as finite
use Rattle.std.specs.List.{count_by, sum_by}
use Rattle.ic_laws.specs.CoreBook.{CellPlace}
use Rattle.ic_cells.specs.Cell.{cell_formula_index}
use Rattle.ic_cells.specs.declared.cell.Cell.{Cell}
use Rattle.ic_cells.specs.declared.sheet.Worksheet.{Worksheet}
use Rattle.ic_grid.specs.Contents.{Contents}
use Rattle.ic_run.specs.Make.{told_if_some}

-- the text of a reply without a refusal begins with an o
abbrev pub begins_with_o : List ℕ → Bool
begins_with_o [] = false
begins_with_o (c ∷ cs) = c == 111

-- how many texts are this one
abbrev pub count_same : List ℕ → List (List ℕ) → ℕ
count_same text texts = count_by (λ t. bytes_eq t (chars text)) texts

-- what is told of how many they are
abbrev pub told_some : List (List ℕ) → List ℕ → List ℕ
told_some texts text = told_if_some text (count_same text texts)

-- a cell has a formula
abbrev pub has_formula : Cell → Bool
has_formula cell = is_some (cell_formula_index cell)

-- how many cells of a sheet have one, and how many of all sheets
abbrev pub formulas_in : Contents Cell → ℕ
formulas_in cells = count_by (λ (e : CellPlace × Cell). has_formula e.1) (finite.entries cells)

abbrev pub formulas_of : List Worksheet → ℕ
formulas_of sheets = sum_by (λ (s : Worksheet). formulas_in s.cells) sheets
