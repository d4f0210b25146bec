-- The commands on arrays, spills and clearing, as the code has them.
use Rattle.std.specs.Prelude.{ℕ, List, [], ◌∷◌, Option, option_map}
use Rattle.ic_machine.specs.Word.{Many, OfIndex, OfPosition, OfSpill, OfValue, Then, words_of, words_said}
use Rattle.ic_machine.specs.subjects.Arrays as laws
use Rattle.ic_machine.specs.subjects.Arrays.{block_said}
use Rattle.ic_words.specs.declared.command.arrays.Arrays.{Arrays}
use Rattle.ic_words.specs.declared.command.arrays.Arrays.TheVariants as commands

abbrev pub arrays_meant : Arrays → laws.Arrays
arrays_meant (commands.SetUserArrayFormula sheet row column width height text) = laws.SetUserArrayFormula sheet (block_said row column width height) text
arrays_meant (commands.RangeClearContents range) = laws.RangeClearContents range.sheet (block_said range.row range.column range.width range.height)
arrays_meant (commands.RangeClearAll area) = laws.RangeClearAll area.sheet (block_said area.row area.column area.width area.height)
arrays_meant (commands.PutFormulaValue sheet row column value) = laws.PutFormulaValue sheet (row, column) value
arrays_meant (commands.PutSpill sheet row column width height values) = laws.PutSpill sheet (block_said row column width height) values.items

-- the commands that words make which end with values, by the English words of the error values
abbrev pub value_put_said : List (List ℕ) → List (List ℕ) → Option laws.Arrays
value_put_said english words = option_map (λ w. laws.PutFormulaValue w.0 (w.1.0, w.1.1.0) w.1.1.1.0) (words_said english (words_of (OfIndex ∷ OfPosition ∷ OfPosition ∷ OfValue ∷ [])) words)

abbrev pub spill_put_said : List (List ℕ) → List (List ℕ) → Option laws.Arrays
spill_put_said english words =
    option_map (λ w. laws.PutSpill w.0 (block_said w.1.0 w.1.1.0 w.1.1.1.0 w.1.1.1.1.0) w.1.1.1.1.1)
    (words_said english (Then OfIndex (Then OfPosition (Then OfPosition (Then OfPosition (Then OfPosition (Many OfSpill)))))) words)
