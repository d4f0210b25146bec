-- A book with other rows and columns of one sheet.
use Rattle.std.proofs.Common.{◌≡◌, ℕ, List, length, Some, refl, ap, ap₂, sym, subst, arith}
use Rattle.std.specs.FinMap as finite
use Rattle.std.specs.List.{slice_get}
use Rattle.ic_laws.proofs.core.Lists.{all_updated}
use Rattle.ic_laws.specs.CoreBook.{CellPlace}
use Rattle.ic_cells.specs.declared.cell.Cell.{Cell}
use Rattle.ic_cells.specs.declared.layout.Merge.{Merge}
use Rattle.ic_grid.specs.Contents.{Contents}
use Rattle.ic_grid.specs.declared.grid.Grid.{Grid}
use Rattle.ic_machine.specs.Book as machine
use Rattle.ic_machine.specs.Book.{with_sheet}
use Rattle.ic_machine.specs.Content.{content_of}
use Rattle.ic_machine.specs.Alike.{seen_by}
use Rattle.ic_machine.proofs.valid.ValidLemmas.{AreLines, HoldsOf, lines_held, lines_of, same_styles}
use Rattle.ic_machine.specs.Valid as valid_machine
use Rattle.ic_sheets.specs.Sheet.{Sheet}
use Rattle.ic_parts.specs.Book.{Book, HasString, HasStrings, IsValidBook, notations_in, whole_grid}
use Rattle.ic_parts.specs.Parts.{IsLaidOut, StaysHeld, StaysLaidOut, with_grid}
use Rattle.ic_parts.specs.Whole.{whole_of, whole_sheet}
use Rattle.ic_parts.proofs.PartLemmas.{old_holds, old_there}
use Rattle.ic_parts.proofs.WrittenLemmas.{one_of_all, updated_alike}

-- what was set for rows and columns, as the machine has it ----

pub lines_laid : (count : ℕ) (grid : Grid) → IsLaidOut count grid → AreLines count grid.rows grid.columns
lines_laid count grid h = record {
  row_styles = λ row props e. (h.rows row props e).1;
  column_styles = λ column props e. (h.columns column props e).1;
  rows_inside = λ row props e. (h.rows row props e).0;
  columns_inside = λ column props e. (h.columns column props e).0;
}

pub laid_lines : (count : ℕ) (grid : Grid) → AreLines count grid.rows grid.columns → IsLaidOut count grid
laid_lines count grid lines = record {
  rows = λ row props e. (lines.rows_inside row props e, lines.row_styles row props e);
  columns = λ column props e. (lines.columns_inside column props e, lines.column_styles column props e);
}

-- all is as it was
pub same_laid_out : (before after : Grid) → after ≡ before → StaysLaidOut before after
same_laid_out before after same = subst (StaysLaidOut before) (sym same) (record { cells = refl; merges = refl; lines = λ count h. h })

-- a book with another grid for the sheet at an index ----

module _ (index : ℕ) (grid : Grid) (book : Book) (valid : IsValidBook book) (sheet : Sheet) (at : slice_get book.sheets index ≡ Some sheet) where
  abbrev old_sheet : machine.Sheet
  old_sheet = whole_sheet book.strings sheet

  abbrev sheet_with : machine.Grid → machine.Sheet
  sheet_with g = record old_sheet { grid = g }

  its_holds : HoldsOf (notations_in book) (machine.scene_in (whole_of book)) (length book.styles) old_sheet
  its_holds = old_holds index sheet.tab book valid sheet at

  pub whole_with_grid : whole_of (with_grid index grid book) ≡ with_sheet (whole_of book) index (sheet_with (whole_grid book.strings grid))
  whole_with_grid =
      ap (λ (sheets : List machine.Sheet). let b : machine.Book = record (whole_of book) { sheets = sheets } in b)
      (updated_alike (whole_sheet book.strings) (λ s. record s { grid = grid }) (λ s. sheet_with (whole_grid book.strings grid)) index book.sheets sheet at refl)

  module _ (stays : StaysLaidOut sheet.grid grid) where
    abbrev laid : machine.Grid
    laid = record old_sheet.grid { rows = grid.rows; columns = grid.columns }

    -- it is the old one with other rows and columns
    grid_laid : laid ≡ whole_grid book.strings grid
    grid_laid =
        ap₂ (λ (cells : Contents Cell) (merges : List Merge).
        let g : machine.Grid = record { contents = seen_by (content_of book.strings) cells; rows = grid.rows; columns = grid.columns; merges = merges } in g)
        (sym stays.cells) (sym stays.merges)

    its_lines : AreLines (length book.styles) grid.rows grid.columns
    its_lines =
        lines_laid (length book.styles) grid
        (stays.lines (length book.styles) (laid_lines (length book.styles) sheet.grid (lines_of (length book.styles) old_sheet.grid its_holds.styles its_holds.layout.lines)))

    laid_valid : valid_machine.IsValidBook (with_sheet (whole_of book) index (sheet_with laid))
    laid_valid =
        same_styles (whole_of book) valid.whole index old_sheet (sheet_with laid) (old_there index sheet.tab book valid sheet at) refl refl
        (lines_held (whole_of book) valid.whole (machine.scene_in (whole_of book)) (length book.styles) old_sheet grid.rows grid.columns its_holds (length book.styles) (omega (arith)) its_lines)

    its_strings : HasStrings (length book.strings) grid
    its_strings =
        subst (λ (cells : Contents Cell). (place : CellPlace) (cell : Cell) → finite.get cells place ≡ Some cell → HasString (length book.strings) cell) (sym stays.cells)
        (one_of_all (λ (s : Sheet). HasStrings (length book.strings) s.grid) index book.sheets sheet at valid.strings)

    pub valid_with_grid : IsValidBook (with_grid index grid book)
    valid_with_grid = record {
      whole =
          subst valid_machine.IsValidBook (sym whole_with_grid)
          (subst (λ (g : machine.Grid). valid_machine.IsValidBook (with_sheet (whole_of book) index (sheet_with g))) grid_laid laid_valid);
      strings = all_updated (λ (s : Sheet). HasStrings (length book.strings) s.grid) (λ s. record s { grid = grid }) (λ s h. its_strings) index book.sheets valid.strings;
    }

-- rows and columns may change, or nothing at all
pub laid_held : (before after : Grid) → StaysLaidOut before after → StaysHeld before after
laid_held before after stays = record { valid = λ book index sheet at its valid. valid_with_grid index after book valid sheet at (subst (λ (g : Grid). StaysLaidOut g after) (sym its) stays) }

pub same_held : (before after : Grid) → after ≡ before → StaysHeld before after
same_held before after same = laid_held before after (same_laid_out before after same)
