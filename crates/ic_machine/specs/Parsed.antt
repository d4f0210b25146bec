-- A cell that a text names by its sheet, its column and its row: what stands before the first exclamation mark is the
-- sheet's name as it is, without quotes.
use Rattle.std.specs.Prelude.{ℕ, ℤ, pos, List, [], ◌∷◌, Bool, not, ◌==◌, Option, Some, None, option_and_then, option_map, Result, Ok, Err, if◌then◌else◌}
use Rattle.ic_laws.specs.Character.{bang}
use Rattle.ic_laws.specs.Command.{number_said}
use Rattle.ic_laws.specs.CoreBook.{CoreBook}
use Rattle.ic_laws.specs.CoreStep.{index_of_name}
use Rattle.ic_laws.specs.Position.{is_row}
use Rattle.ic_laws.specs.Scan.{is_ascii_letter, past_run, run_of}
use Rattle.ic_refs.specs.Column.{column_number}
use Rattle.ic_refs.specs.declared.error.ColumnError.{ColumnError}
use Rattle.ic_input.specs.Convention.{plus}

-- the index of the sheet, the row and the column
pub record Parsed : Type 0 where
  pub sheet : ℕ
  pub row : ℤ
  pub column : ℤ

abbrev pub is_no_bang : ℕ → Bool
is_no_bang c = not (c == bang)

-- what is a column, by letters in upper case
abbrev pub column_or_none : Result ℤ ColumnError → Option ℤ
column_or_none (Ok column) = Some column
column_or_none (Err e) = None

-- digits with one plus before them, or without one
abbrev pub without_plus : List ℕ → List ℕ
without_plus [] = []
without_plus (c ∷ cs) = if c == plus then cs else c ∷ cs

abbrev pub row_if : ℕ → Option ℤ
row_if n = if is_row (pos n) then Some (pos n) else None

abbrev pub parsed_row : List ℕ → Option ℤ
parsed_row text = option_and_then row_if (number_said (without_plus text))

-- the letters after the mark are the column, and the rest is the row
abbrev pub parsed_place : ℕ → List ℕ → Option Parsed
parsed_place sheet [] = None
parsed_place sheet (mark ∷ text) =
    option_and_then (λ column. option_map (λ row. record { sheet = sheet; row = row; column = column }) (parsed_row (past_run is_ascii_letter text)))
    (column_or_none (column_number (run_of is_ascii_letter text)))

abbrev pub parsed_reference : CoreBook → List ℕ → Option Parsed
parsed_reference book text = option_and_then (λ sheet. parsed_place sheet (past_run is_no_bang text)) (index_of_name book (run_of is_no_bang text))
