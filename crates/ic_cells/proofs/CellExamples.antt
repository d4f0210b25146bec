-- Cells and styles by example.
use Rattle.std.proofs.Common.{◌≡◌, [], ◌∷◌, Some, true, codes, map, option_map, pos, refl}
use Rattle.std.specs.Fmt.{digits}
use Rattle.std.specs.Str.{chars}
use Rattle.ic_laws.specs.Amount.{fraction_digits}
use Rattle.ic_laws.specs.declared.tree.Error.TheVariants as errors
use Rattle.ic_tables.specs.LanguageWords.{language_in}
use Rattle.ic_tables.specs.LocaleWords.{numbers, symbols}
use Rattle.ic_tables.specs.Sample.{european, german_words}
use Rattle.ic_tables.specs.WordList.{words_in}
use Rattle.ic_tables.specs.declared.language.Language.{Language}
use Rattle.ic_cells.specs.Cell.{cell_formula_index, type_of, value_of}
use Rattle.ic_cells.specs.Style.{default_style, is_style, style_number, with_format, with_quote_prefix, with_style_in}
use Rattle.ic_cells.specs.Value.{error_word, shown_text}
use Rattle.ic_tables.specs.Formats.{decimal_separator}
use Rattle.ic_cells.specs.declared.cell.ArrayKind.TheVariants as kinds
use Rattle.ic_cells.specs.declared.cell.Cell.{Cell}
use Rattle.ic_cells.specs.declared.cell.Cell.TheVariants as cells
use Rattle.ic_cells.specs.declared.style.Style.{Style}
use Rattle.ic_cells.specs.declared.value.CellType.TheVariants as types
use Rattle.ic_cells.specs.declared.value.CellValue.TheVariants as values
use Rattle.ic_cells.specs.declared.value.FormulaValue.TheVariants as formulas
use Rattle.ic_cells.specs.declared.value.SpillValue.TheVariants as spills

-- 1.5, and the decimal separator of French
abbrev one_and_a_half : Cell
one_and_a_half = cells.NumberCell (pos 1500000000) 0

french_decimal : decimal_separator (european (codes "fr") (codes " ")).locale ≡ 44
unfolding numbers symbols
french_decimal = refl

shown_in_french : (l : Language) → shown_text 44 l (value_of [] l one_and_a_half) ≡ codes "1,5"
unfolding digits fraction_digits
shown_in_french l = refl

shown_in_english : (l : Language) → shown_text 46 l (value_of [] l one_and_a_half) ≡ codes "1.5"
unfolding digits fraction_digits
shown_in_english l = refl

-- a formula without a value is a number that shows as an error, in every language
without_value : (l : Language) → value_of [] l (cells.CellFormula 0 0 formulas.Unevaluated) ≡ values.String (codes "#ERROR!")
without_value l = refl

without_value_type : type_of (cells.CellFormula 0 0 formulas.Unevaluated) ≡ types.Number
without_value_type = refl

-- the word of an error in German
in_german : option_map (λ l. error_word l errors.REF) german_words ≡ Some (codes "#BEZUG!")
unfolding german_words language_in words_in chars
in_german = refl

-- a shared string, and one that isn't there
strings : (l : Language) → map (λ i. value_of (codes "a" ∷ codes "b" ∷ []) l (cells.SharedString i 0)) (1 ∷ 2 ∷ []) ≡ values.String (codes "b") ∷ values.String [] ∷ []
strings l = refl

-- a cell of a spill has a value of its own and no formula
spilled : (l : Language) → value_of [] l (cells.SpillCell 0 (pos 1, pos 3) (spills.Number (pos 2000000000))) ≡ values.Number (pos 2000000000)
spilled l = refl

no_formula : map cell_formula_index (cells.SpillCell 0 (pos 1, pos 3) (spills.Boolean true) ∷ cells.ArrayFormula kinds.Cse 7 0 (pos 1, pos 3) formulas.Unevaluated ∷ []) ≡ map (λ o. o) (cell_formula_index (cells.EmptyCell 0) ∷ Some 7 ∷ [])
no_formula = refl

-- styles: the default, and one in bold
abbrev bold : Style
bold = record default_style { bold = true }

-- a style that is there keeps its first place, another goes to the end
numbered : map (λ s. style_number s (default_style ∷ bold ∷ bold ∷ [])) (default_style ∷ bold ∷ with_format (codes "0%") bold ∷ with_quote_prefix true bold ∷ []) ≡ 0 ∷ 1 ∷ 3 ∷ 3 ∷ []
unfolding is_style
numbered = refl

added : map (λ s. with_style_in s (default_style ∷ [])) (default_style ∷ bold ∷ []) ≡ (default_style ∷ []) ∷ (default_style ∷ bold ∷ []) ∷ []
unfolding is_style
added = refl
