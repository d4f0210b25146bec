-- How a column is written.
use Rattle.std.specs.Prelude.{ℕ, ℤ, Bool, pos, ◌+◌, ◌-◌, ◌/◌, ◌%◌, List, [], ◌∷◌, nat_lt, nat_le, nat_abs, Option, Some, None, Result, Ok, Err, if◌then◌else◌}
use Rattle.std.specs.List.{list_all}
use Rattle.ic_laws.specs.Character.{at_sign}
use Rattle.ic_laws.specs.Position.{is_column, letters_number, column_count}
use Rattle.ic_laws.specs.Scan.{is_upper}
use Rattle.ic_refs.specs.declared.error.ColumnError.{ColumnError}
use Rattle.ic_refs.specs.declared.error.ColumnError.TheVariants as errors

-- an ASCII character
abbrev pub is_ascii : ℕ → Bool
is_ascii c = nat_lt c 128

-- the letter of a digit from 1 to 26
abbrev pub letter : ℕ → ℕ
letter digit = at_sign + digit

-- The letters of a column in upper case. One letter has the numbers up to 26, two letters the 676 from 27 on, three
-- letters those from 703 on.
unfoldable pub column_letters : ℕ → List ℕ
column_letters n =
    if nat_le n 26 then letter n ∷ []
    else if nat_le n 702 then letter ((n - 1) / 26) ∷ letter ((n - 1) % 26 + 1) ∷ []
    else letter ((n - 27) / 676) ∷ letter ((n - 27) / 26 % 26 + 1) ∷ letter ((n - 1) % 26 + 1) ∷ []

-- the letters of a column of the sheet
abbrev pub column_name : ℤ → Option (List ℕ)
column_name n = if is_column n then Some (column_letters (nat_abs n)) else None

-- The column that a text names: an error is the first that holds, in this order, over the whole text.
abbrev pub column_number : List ℕ → Result ℤ ColumnError
column_number [] = Err errors.Empty
column_number (c ∷ cs) =
    if list_all is_ascii (c ∷ cs) then (if list_all is_upper (c ∷ cs) then
    (if nat_le (letters_number (c ∷ cs)) column_count then Ok (pos (letters_number (c ∷ cs))) else Err errors.NotValid)
    else Err errors.NotLetters) else Err errors.NotAscii
