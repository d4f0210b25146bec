-- What a place of a sheet holds, as a model's readers find it, and all places that hold something.
use Rattle.std.specs.Prelude.{◌≡◌, ◌+◌, ℕ, ℤ, List, [], ◌∷◌, ◌++◌, map, Option, Some, None, Result, Ok, Err}
use Rattle.std.specs.Borrow.{Bor}
use Rattle.std.specs.FinMap as finite
use Rattle.std.specs.List.{slice_get}
use Rattle.std.specs.Option.{option_copied}
use Rattle.ic_laws.specs.CoreBook.{CellPlace}
use Rattle.ic_cells.specs.declared.cell.Cell.{Cell}
use Rattle.ic_cells.specs.declared.sheet.CellIndex.{CellIndex}
use Rattle.ic_sheets.specs.Sheet.{Sheet}
use Rattle.ic_sheets.specs.declared.sheet.Sheet.{Sheet as HeldSheet}
use Rattle.ic_parts.specs.Book.{ModelState}
use Rattle.ic_parts.specs.declared.error.BookError.{BookError}
use Rattle.ic_parts.specs.declared.error.BookError.TheVariants as errors

-- the cell at a place of the sheet at an index, from 0, if one stands there; or that there is no such sheet
abbrev pub FindsCell : ℕ → ℤ → ℤ → Result (Option (Bor Cell)) BookError → ModelState → Type 0
FindsCell index row column (Ok cell) now = (sheet : Sheet) × (slice_get now.book.sheets index ≡ Some sheet) × (option_copied cell ≡ finite.get sheet.grid.cells (row, column))
FindsCell index row column (Err e) now = (slice_get now.book.sheets index ≡ None) × (e ≡ errors.InvalidSheet)

-- a place of the sheet at an index
abbrev pub place_in : ℕ → CellPlace → CellIndex
place_in index place = record { index = index; row = place.0; column = place.1 }

-- the places of sheets at which a cell stands, by sheets, rows and columns, where the first sheet has this index
abbrev pub places_from : ℕ → List HeldSheet → List CellIndex
places_from index [] = []
places_from index (sheet ∷ sheets) = map (place_in index) (finite.keys sheet.grid.cells) ++ places_from (index + 1) sheets
