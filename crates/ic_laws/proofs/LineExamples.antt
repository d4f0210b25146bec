-- Lines, words and replies by example.
use Rattle.std.proofs.Common.{◌≡◌, [], ◌∷◌, map, take, drop, pos, negsuc, refl, codes, Some, None}
use Rattle.std.specs.Str.{is_utf8, chars}
use lib.Utf8.{encode}
use Rattle.caseless.proofs.Computing.{caseless}
use Rattle.ic_laws.specs.Command.{AddSheet, UpdateCellWithFormula, commands, index_said, named_command, position_said, rows_named, scope_said}
use Rattle.ic_laws.specs.CoreBook.{CoreBook}
use Rattle.ic_laws.specs.CoreStep.{core_step}
use Rattle.ic_laws.specs.Lines.{lines_of, texts_of, words_of, unescaped, escaped, command_of, replies}
use Rattle.ic_laws.specs.Notations.{Notations}
use Rattle.ic_laws.specs.Refusal.{BadLine, IdsUsedUp, InvalidColumn, InvalidLanguage, InvalidLocale, InvalidName, InvalidNameFormula, InvalidRow, InvalidScope, InvalidSheet, InvalidSheetName, InvalidTimezone, NameExists, NameNotFound, NotAFormula, OnlySheet, SheetExists, SheetIndexTooLarge, SheetNotFound, TargetTooLarge, refusal_name, refusal_names}

-- one carriage return is dropped, directly before a line feed; the last piece keeps its own
line_ends : lines_of (codes "a\r\n\n\r\r\nb\r") ≡ codes "a" ∷ [] ∷ codes "\r" ∷ codes "b\r" ∷ []
line_ends = refl

-- after the last line feed nothing is no line
no_last_line : lines_of (codes "a\n") ≡ codes "a" ∷ []
no_last_line = refl

words_between_tabs : words_of (codes "a\t\tb\t") ≡ codes "a" ∷ [] ∷ codes "b" ∷ [] ∷ []
words_between_tabs = refl

four_escapes : escaped (codes "\\\t\n\rA") ≡ codes "\\\\\\t\\n\\rA"
four_escapes = refl

read_back : unescaped (codes "\\\\\\t\\n\\rA") ≡ Some (codes "\\\t\n\rA")
read_back = refl

wrong_escape : unescaped (codes "a\\x") ≡ None
wrong_escape = refl

lone_backslash : unescaped (codes "a\\") ≡ None
lone_backslash = refl

-- the empty word is a word
adds_empty : command_of commands (codes "add_sheet\t") ≡ Some (AddSheet [])
unfolding commands
adds_empty = refl

too_few : command_of commands (codes "add_sheet") ≡ None
unfolding commands
too_few = refl

too_many : command_of commands (codes "add_sheet\tA\t") ≡ None
unfolding commands
too_many = refl

other_case : command_of commands (codes "Add_sheet\tA") ≡ None
unfolding commands
other_case = refl

-- numbers: zeros in front are read, a plus isn't, and a minus only where the number is signed; each has its bounds
numbers : (index_said (codes "007") ≡ Some 7) × (index_said (codes "+7") ≡ None) × (index_said (codes "-0") ≡ None) × (index_said [] ≡ None)
numbers = (refl, refl, refl, refl)

positions : (position_said (codes "-0") ≡ Some (pos 0)) × (position_said (codes "-12") ≡ Some (negsuc 11)) × (position_said (codes "-") ≡ None) × (position_said (codes "1-") ≡ None)
positions = (refl, refl, refl, refl)

last_index : (index_said (codes "4294967295") ≡ Some 4294967295) × (index_said (codes "4294967296") ≡ None)
last_index = (refl, refl)

last_positions : (position_said (codes "2147483647") ≡ Some (pos 2147483647)) × (position_said (codes "2147483648") ≡ None) × (position_said (codes "-2147483648") ≡ Some (negsuc 2147483647)) × (position_said (codes "-2147483649") ≡ None)
last_positions = (refl, refl, refl, refl)

scopes : (scope_said (codes "-") ≡ Some None) × (scope_said (codes "3") ≡ Some (Some 3)) × (scope_said (codes "x") ≡ None)
scopes = (refl, refl, refl)

-- a command of the table, with the words of each form
whole_row : named_command commands (codes "update_cell_with_formula") (codes "0" ∷ codes "01" ∷ codes "-2" ∷ codes "=1" ∷ []) ≡ Some (UpdateCellWithFormula 0 (pos 1) (negsuc 1) (codes "=1"))
unfolding commands
whole_row = refl

-- one that a table lacks is no command of a line
not_served : command_of (rows_named (codes "add_sheet" ∷ [])) (codes "get_new_sheet_id") ≡ None
unfolding commands
not_served = refl

-- the name of each refusal stands at its place
each_named : map refusal_name (BadLine ∷ InvalidSheet ∷ InvalidRow ∷ InvalidColumn ∷ SheetIndexTooLarge ∷ TargetTooLarge ∷ InvalidSheetName ∷ SheetExists ∷ SheetNotFound ∷ OnlySheet ∷ []) ≡ take 10 refusal_names
each_named = refl

each_other_named : map refusal_name (IdsUsedUp ∷ InvalidName ∷ InvalidScope ∷ NameExists ∷ NameNotFound ∷ InvalidNameFormula ∷ NotAFormula ∷ InvalidLocale ∷ InvalidLanguage ∷ InvalidTimezone ∷ []) ≡ drop 10 refusal_names
each_other_named = refl

start : CoreBook
start = record { sheets = record { id = 1; name = codes "Sheet1"; cells = [] } ∷ []; definitions = []; locale = codes "en"; language = codes "en" }

module _ (n : Notations) where
  -- the second name agrees with the first
  same_name_twice : replies n commands start (texts_of (codes "add_sheet\tData\nadd_sheet\tDATA\n")) ≡ codes "ok\nerror\tSheetExists\n"
  unfolding caseless commands core_step start is_utf8 chars encode
  same_name_twice = refl

  -- lines that are no command change nothing
  bad_lines : replies n commands start (texts_of (codes "add_sheet\tA\r\nfoo\n\nadd_sheet\tB")) ≡ codes "ok\nerror\tBadLine\nerror\tBadLine\nok\n"
  unfolding caseless commands core_step start is_utf8 chars encode
  bad_lines = refl
