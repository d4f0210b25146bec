-- Cells: their formula, their style, their value and its type.
use Rattle.std.specs.Prelude.{ℕ, List, [], Option, Some, None}
use Rattle.std.specs.List.{slice_get}
use Rattle.std.specs.Option.{unwrap_or}
use Rattle.ic_tables.specs.declared.language.Language.{Language}
use Rattle.ic_cells.specs.Value.{error_word, formula_type, formula_value, spill_type, spill_value}
use Rattle.ic_cells.specs.declared.cell.Cell.{Cell}
use Rattle.ic_cells.specs.declared.cell.Cell.TheVariants as cells
use Rattle.ic_cells.specs.declared.value.CellType.{CellType}
use Rattle.ic_cells.specs.declared.value.CellType.TheVariants as types
use Rattle.ic_cells.specs.declared.value.CellValue.{CellValue}
use Rattle.ic_cells.specs.declared.value.CellValue.TheVariants as values

-- the index of a cell's formula
abbrev pub cell_formula_index : Cell → Option ℕ
cell_formula_index (cells.CellFormula f s v) = Some f
cell_formula_index (cells.ArrayFormula kind f s r v) = Some f
cell_formula_index cell = None

-- the number of a cell's style
abbrev pub style_of : Cell → ℕ
style_of (cells.EmptyCell s) = s
style_of (cells.BooleanCell v s) = s
style_of (cells.NumberCell v s) = s
style_of (cells.ErrorCell e s) = s
style_of (cells.SharedString i s) = s
style_of (cells.CellFormula f s v) = s
style_of (cells.ArrayFormula kind f s r v) = s
style_of (cells.SpillCell s a v) = s

-- a cell with another style
abbrev pub with_style : ℕ → Cell → Cell
with_style n (cells.EmptyCell s) = cells.EmptyCell n
with_style n (cells.BooleanCell v s) = cells.BooleanCell v n
with_style n (cells.NumberCell v s) = cells.NumberCell v n
with_style n (cells.ErrorCell e s) = cells.ErrorCell e n
with_style n (cells.SharedString i s) = cells.SharedString i n
with_style n (cells.CellFormula f s v) = cells.CellFormula f n v
with_style n (cells.ArrayFormula kind f s r v) = cells.ArrayFormula kind f n r v
with_style n (cells.SpillCell s a v) = cells.SpillCell n a v

-- the shared string at a place, and the empty text where there is none
abbrev pub string_at : List (List ℕ) → ℕ → List ℕ
string_at strings i = unwrap_or (slice_get strings i) []

-- the value of a cell, by the shared strings of its workbook and in a language
abbrev pub value_of : List (List ℕ) → Language → Cell → CellValue
value_of strings l (cells.EmptyCell s) = values.None
value_of strings l (cells.BooleanCell v s) = values.Boolean v
value_of strings l (cells.NumberCell v s) = values.Number v
value_of strings l (cells.ErrorCell e s) = values.String (error_word l e)
value_of strings l (cells.SharedString i s) = values.String (string_at strings i)
value_of strings l (cells.CellFormula f s v) = formula_value l v
value_of strings l (cells.ArrayFormula kind f s r v) = formula_value l v
value_of strings l (cells.SpillCell s a v) = spill_value l v

-- its type
abbrev pub type_of : Cell → CellType
type_of (cells.EmptyCell s) = types.Number
type_of (cells.BooleanCell v s) = types.LogicalValue
type_of (cells.NumberCell v s) = types.Number
type_of (cells.ErrorCell e s) = types.ErrorValue
type_of (cells.SharedString i s) = types.Text
type_of (cells.CellFormula f s v) = formula_type v
type_of (cells.ArrayFormula kind f s r v) = formula_type v
type_of (cells.SpillCell s a v) = spill_type v
