-- A formula or a value of one cell in another, as a model writes it out.
use Rattle.std.specs.Prelude.{◌≡◌, ◌⊎◌, ℕ, ℤ, String, List, [], ◌∷◌, not, Option, Some, None, Result, Ok, Err, chars, string_bytes}
use Rattle.std.specs.Option.{option_map_or, option_or}
use Rattle.std.specs.declared.alloc.Global.{Global}
use Rattle.ic_laws.specs.Binding.{bound}
use Rattle.ic_laws.specs.Character.{equals}
use Rattle.ic_laws.specs.FormulaReading.{shown_at, shown_formula}
use Rattle.ic_laws.specs.Notations.{english, english_function}
use Rattle.ic_laws.specs.Position.{is_column, is_row}
use Rattle.ic_laws.specs.ReadAs.{read_as}
use Rattle.ic_laws.specs.Tree.{Spelled}
use Rattle.ic_laws.specs.declared.tree.Formula.{Formula}
use Rattle.ic_laws.specs.declared.tree.Formula.TheVariants as formulas
use Rattle.ic_refs.specs.declared.reference.CellReferenceIndex.{CellReferenceIndex}
use Rattle.ic_tables.specs.Formats.{decimal_separator}
use Rattle.ic_tables.specs.declared.language.Language.{Language}
use Rattle.ic_tables.specs.declared.locale.Locale.{Locale}
use Rattle.ic_cells.specs.Cell.{value_of}
use Rattle.ic_cells.specs.Value.{shown_text}
use Rattle.ic_cells.specs.declared.cell.Cell.{Cell}
use Rattle.ic_machine.specs.Book.{lacks_sheet}
use Rattle.ic_machine.specs.Refusal.{Causes, InvalidColumn, InvalidRow, InvalidSheet}
use Rattle.ic_machine.specs.subjects.Extending.{CellOf, cell_of}
use Rattle.ic_parts.specs.Book.{Book, core_of, notations_in, scene_in}
use Rattle.ic_parts.specs.Whole.{whole_of}
use Rattle.ic_parts.specs.declared.error.BookError.{BookError}
use Rattle.ic_parts.specs.declared.error.BookError.TheVariants as errors

-- the text of the value of a cell, if there is one
abbrev pub value_text : List (List ℕ) → Locale → Language → Option Cell → List ℕ
value_text strings locale language cell = option_map_or (λ x. shown_text (decimal_separator locale) language (value_of strings language x)) cell []

-- a cell that a call was handed, as the machine has it
abbrev pub cell_at : CellReferenceIndex → CellOf
cell_at cell = cell_of cell.sheet cell.row cell.column

-- the tree of a formula's text in a cell: in the notation in force, or in English where it doesn't read in that
abbrev pub tree_at : Book → ℤ → ℤ → List ℕ → Option Spelled
tree_at book row column text =
    option_or (read_as (shown_at (notations_in book) (core_of book) row column) text) (read_as ((notations_in book).shown english english row column) text)

-- a tree that belongs to the sheet with an id, as a formula, and as it is shown in a cell
abbrev pub bound_formula : Book → ℕ → Spelled → Formula
bound_formula book id t = formulas.Tree (bound (english_function (notations_in book)) (scene_in book) (Some id) t)

abbrev pub tree_shown : Book → ℕ → ℤ → ℤ → Spelled → List ℕ
tree_shown book id row column t =
    equals ∷ shown_formula (notations_in book) (core_of book) row column (bound_formula book id t)

-- A formula's text in one cell was written out for another; or it reads in neither notation; or memory ran out.
abbrev pub CopiesFormula : Book → ℕ → CellReferenceIndex → CellReferenceIndex → List ℕ → Result (String Global) BookError → Type 0
CopiesFormula book id source target text (Ok copied) =
    (t : Spelled) × (tree_at book source.row source.column text ≡ Some t) × (chars (string_bytes copied) ≡ tree_shown book id target.row target.column t)
CopiesFormula book id source target text (Err e) = (e ≡ errors.OutOfMemory) ⊎ ((e ≡ errors.InvalidFormula) × (tree_at book source.row source.column text ≡ None))

-- what refuses the two cells: their sheets, their rows, their columns
abbrev pub inside_causes : CellReferenceIndex → CellReferenceIndex → Causes
inside_causes source target =
    (not (is_row source.row), InvalidRow) ∷ (not (is_row target.row), InvalidRow) ∷ (not (is_column source.column), InvalidColumn)
    ∷ (not (is_column target.column), InvalidColumn) ∷ []

abbrev pub cells_causes : Book → CellReferenceIndex → CellReferenceIndex → Causes
cells_causes book source target =
    (lacks_sheet (whole_of book) source.sheet, InvalidSheet) ∷ (lacks_sheet (whole_of book) target.sheet, InvalidSheet) ∷ inside_causes source target
