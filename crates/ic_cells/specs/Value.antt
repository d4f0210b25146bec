-- The values of cells: which words and texts they are shown by, and of which type they are.
use Rattle.std.specs.Prelude.{◌≡◌, ◌≢◌, ℕ, ℤ, List, [], Bool, true, false, codes}
use Rattle.ic_laws.specs.Amount.{amount_text}
use Rattle.ic_laws.specs.declared.tree.Error.{Error}
use Rattle.ic_laws.specs.declared.tree.Error.TheVariants as errors
use Rattle.ic_tables.specs.declared.language.Language.{Language}
use Rattle.ic_cells.specs.declared.value.CellType.{CellType}
use Rattle.ic_cells.specs.declared.value.CellType.TheVariants as types
use Rattle.ic_cells.specs.declared.value.CellValue.{CellValue}
use Rattle.ic_cells.specs.declared.value.CellValue.TheVariants as values
use Rattle.ic_cells.specs.declared.value.FormulaValue.{FormulaValue}
use Rattle.ic_cells.specs.declared.value.FormulaValue.TheVariants as formulas
use Rattle.ic_cells.specs.declared.value.SpillValue.{SpillValue}
use Rattle.ic_cells.specs.declared.value.SpillValue.TheVariants as spills

-- the word of an error value in a language
abbrev pub error_word : Language → Error → List ℕ
error_word l errors.REF = l.errors.ref_word
error_word l errors.NAME = l.errors.name
error_word l errors.VALUE = l.errors.value
error_word l errors.DIV = l.errors.div
error_word l errors.NA = l.errors.na
error_word l errors.NUM = l.errors.num
error_word l errors.NIMPL = l.errors.nimpl
error_word l errors.SPILL = l.errors.spill
error_word l errors.CALC = l.errors.calc
error_word l errors.CIRC = l.errors.circ
error_word l errors.ERROR = l.errors.error
error_word l errors.NULL = l.errors.null

-- the word of a boolean in a language
abbrev pub boolean_word : Language → Bool → List ℕ
boolean_word l true = l.booleans.true_word
boolean_word l false = l.booleans.false_word

-- what a formula without a value shows, in every language
abbrev pub unevaluated_text : List ℕ
unevaluated_text = codes "#ERROR!"

-- the value of a formula
abbrev pub formula_value : Language → FormulaValue → CellValue
formula_value l formulas.Unevaluated = values.String unevaluated_text
formula_value l (formulas.Boolean b) = values.Boolean b
formula_value l (formulas.Number n) = values.Number n
formula_value l (formulas.Text t) = values.String t
formula_value l (formulas.Error e note) = values.String (error_word l e)

-- the value of a cell of a spill
abbrev pub spill_value : Language → SpillValue → CellValue
spill_value l (spills.Boolean b) = values.Boolean b
spill_value l (spills.Number n) = values.Number n
spill_value l (spills.Text t) = values.String t
spill_value l (spills.Error e) = values.String (error_word l e)

-- their types
abbrev pub formula_type : FormulaValue → CellType
formula_type formulas.Unevaluated = types.Number
formula_type (formulas.Boolean b) = types.LogicalValue
formula_type (formulas.Number n) = types.Number
formula_type (formulas.Text t) = types.Text
formula_type (formulas.Error e note) = types.ErrorValue

abbrev pub spill_type : SpillValue → CellType
spill_type (spills.Boolean b) = types.LogicalValue
spill_type (spills.Number n) = types.Number
spill_type (spills.Text t) = types.Text
spill_type (spills.Error e) = types.ErrorValue

-- a value may be of this type: numbers and nothing are numbers, and only booleans are logical. A text is of each other
-- type, since the words of errors are texts, and so is what a formula without a value shows
abbrev pub FitsType : CellValue → CellType → Type 0
FitsType values.None t = t ≡ types.Number
FitsType (values.Number n) t = t ≡ types.Number
FitsType (values.Boolean b) t = t ≡ types.LogicalValue
FitsType (values.String s) t = t ≢ types.LogicalValue

-- what a value shows, by a decimal separator and in a language
abbrev pub shown_text : ℕ → Language → CellValue → List ℕ
shown_text decimal l values.None = []
shown_text decimal l (values.String t) = t
shown_text decimal l (values.Number n) = amount_text decimal n
shown_text decimal l (values.Boolean b) = boolean_word l b

-- a number is shown so, and another value as this text
abbrev pub AsShown : (ℤ → Type 0) → (List ℕ → Type 0) → Language → CellValue → Type 0
AsShown number text l values.None = text []
AsShown number text l (values.String t) = text t
AsShown number text l (values.Number n) = number n
AsShown number text l (values.Boolean b) = text (boolean_word l b)
