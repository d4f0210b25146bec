-- Sheets that are handed in as plain records.
use Rattle.std.specs.Prelude.{List, [], map, true, nat_eq}
use Rattle.std.specs.List.{AllByRecursion, IsDistinct}
use Rattle.ic_laws.specs.CoreBook.{IsId}
use Rattle.ic_laws.specs.Name.{agrees}
use Rattle.ic_cells.specs.declared.sheet.Worksheet.{Worksheet}
use Rattle.ic_sheets.specs.Sheet.{empty_grid, plain_tab}
use Rattle.ic_sheets.specs.declared.sheet.Sheet.{Sheet as HeldSheet}

-- no two of their names agree
abbrev pub HasApartNames : List Worksheet → Type 0
HasApartNames worksheets = IsDistinct agrees (map (λ (w : Worksheet). w.name) worksheets)

-- each has an id, and no two the same
pub record HasIds (worksheets : List Worksheet) : Type 0 where
  pub each : AllByRecursion (λ (w : Worksheet). IsId w.sheet_id) worksheets
  pub differ : IsDistinct nat_eq (map (λ (w : Worksheet). w.sheet_id) worksheets)

-- a sheet with the id and the name of a record, which keeps no formulas and holds nothing, with a plain tab
abbrev pub started : Worksheet → HeldSheet
started w = record { id = w.sheet_id; name = w.name; pool = record { formulas = []; is_whole = true }; grid = empty_grid; tab = plain_tab }
