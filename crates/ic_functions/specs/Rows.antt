-- The rows of the functions, whose words stand in constants of the sources.
use Rattle.std.specs.Prelude.{ℕ, zero, suc, List, [], ◌∷◌, ◌++◌, Bool, ◌==◌, chars, drop, map, not, if◌then◌else◌}
use Rattle.std.specs.List.{onto_first}
use Rattle.ic_laws.specs.Character.{line_feed}
use Rattle.ic_laws.specs.Scan.{past_run, run_of}
use Rattle.ic_tables.specs.Sample.{kind_of}
use Rattle.ic_tables.specs.WordList.{is_inside}
use Rattle.ic_tables.specs.declared.language.FunctionKind.{FunctionKind}
use Rattle.ic_tables.specs.declared.language.FunctionKind.TheVariants as kinds
use Rattle.ic_functions.specs.declared.rows.a_to_f.TheConstants as a_to_f
use Rattle.ic_functions.specs.declared.rows.first.TheConstants as first
use Rattle.ic_functions.specs.declared.rows.g_to_z.TheConstants as g_to_z

-- the rows of a text, each before a line feed
abbrev pub rows_in : List ℕ → List (List ℕ)
rows_in [] = []
rows_in (c ∷ cs) = if c == line_feed then [] ∷ rows_in cs else onto_first c (rows_in cs)

-- the characters of a row
abbrev pub is_in_row : ℕ → Bool
is_in_row c = not (c == line_feed)

-- the word at a place of a row, from 0, where one blank stands between two words
abbrev pub word_at : ℕ → List ℕ → List ℕ
word_at zero row = run_of is_inside row
word_at (suc n) row = word_at n (drop 1 (past_run is_inside row))

-- the words at a place of these rows
abbrev pub column : ℕ → List (List ℕ) → List (List ℕ)
column place rows = map (word_at place) rows

-- the kind that a row begins with
abbrev pub kind_in : List ℕ → FunctionKind
kind_in [] = kinds.Each
kind_in (letter ∷ row) = kind_of letter

abbrev pub kinds_in : List (List ℕ) → List FunctionKind
kinds_in rows = map kind_in rows

-- the texts of the rows, and all rows
unfoldable pub first_text : List ℕ
first_text = chars first.ROWS.now

unfoldable pub a_to_f_text : List ℕ
a_to_f_text = chars a_to_f.ROWS.now

unfoldable pub g_to_z_text : List ℕ
g_to_z_text = chars g_to_z.ROWS.now

unfoldable pub all_rows : List (List ℕ)
all_rows = rows_in first_text ++ rows_in a_to_f_text ++ rows_in g_to_z_text
