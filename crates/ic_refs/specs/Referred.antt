-- What a reference refers to, and that it lies in the sheet.
use Rattle.std.specs.Prelude.{◌≡◌, ◌≤ℤ◌, Bool, true, ◌&&◌}
use Rattle.ic_laws.specs.Position.{is_row, is_column}
use Rattle.ic_refs.specs.declared.reference.CellReferenceIndex.{CellReferenceIndex}
use Rattle.ic_refs.specs.declared.reference.ParsedReference.{ParsedReference}
use Rattle.ic_refs.specs.declared.reference.ParsedReference.TheVariants as parsed

-- a cell of the sheet
abbrev pub is_cell_of_sheet : CellReferenceIndex → Bool
is_cell_of_sheet cell = is_row cell.row && is_column cell.column

-- each corner is a cell of the sheet, and both are on one sheet
abbrev pub LiesInSheet : ParsedReference → Type 0
LiesInSheet (parsed.CellReference cell) = is_cell_of_sheet cell ≡ true
LiesInSheet (parsed.Range first last) = (is_cell_of_sheet first ≡ true) × (is_cell_of_sheet last ≡ true) × (first.sheet ≡ last.sheet)

-- a range's first corner is above and to the left of its last
abbrev pub HasCornersInOrder : ParsedReference → Type 0
HasCornersInOrder (parsed.CellReference cell) = Unit {0}
HasCornersInOrder (parsed.Range first last) = (first.row ≤ℤ last.row) × (first.column ≤ℤ last.column)
