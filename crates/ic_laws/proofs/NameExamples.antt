-- Names by example.
use Rattle.std.proofs.Common.{◌≡◌, ◌∷◌, [], true, false, refl, codes, map}
use Rattle.caseless.proofs.Computing.{caseless}
use Rattle.ucd_derived.proofs.Computing.{ucd_derived}
use Rattle.ic_laws.specs.Name.{agrees, is_sheet_name, is_variable, is_identifier, is_a1_cell, quoted}
use Rattle.ic_laws.specs.Position.{letters_number}

-- case doesn't matter, and a folding may be longer than what it folds
data_agrees : agrees (codes "Data") (codes "DATA") ≡ true
unfolding caseless
data_agrees = refl

strasse_agrees : agrees (codes "Straße") (codes "STRASSE") ≡ true
unfolding caseless
strasse_agrees = refl

next_differs : agrees (codes "Data") (codes "Next") ≡ false
unfolding caseless
next_differs = refl

-- 31 characters are a sheet name, 32 are none; a blank is one, nothing is none
longest : is_sheet_name (codes "AAAAAAAAAABBBBBBBBBBCCCCCCCCCCD") ≡ true
longest = refl

too_long : is_sheet_name (codes "AAAAAAAAAABBBBBBBBBBCCCCCCCCCCDE") ≡ false
too_long = refl

one_blank : is_sheet_name (codes " ") ≡ true
one_blank = refl

no_character : is_sheet_name (codes "") ≡ false
no_character = refl

with_bracket : is_sheet_name (codes "a[1") ≡ false
with_bracket = refl

with_backslash : is_sheet_name (codes "a\\b") ≡ false
with_backslash = refl

-- column letters are a number in base 26 without a zero
column_letters : map letters_number (codes "A" ∷ codes "Z" ∷ codes "AA" ∷ codes "AB" ∷ codes "ZZ" ∷ codes "aaa" ∷ codes "XFD" ∷ codes "XFE" ∷ []) ≡ 1 ∷ 26 ∷ 27 ∷ 28 ∷ 702 ∷ 703 ∷ 16384 ∷ 16385 ∷ []
column_letters = refl

-- cells of the sheet, and texts that are none
cells : map is_a1_cell (codes "A1" ∷ codes "$xfd$1048576" ∷ codes "A01" ∷ codes "XFE1" ∷ codes "A0" ∷ codes "A1048577" ∷ codes "A1b" ∷ codes "A" ∷ codes "1" ∷ []) ≡ true ∷ true ∷ true ∷ false ∷ false ∷ false ∷ false ∷ false ∷ false ∷ []
cells = refl

-- a lone R is a variable and no identifier; what could be a cell is neither
variables : map is_variable (codes "x" ∷ codes "R" ∷ codes "c" ∷ codes "été.1" ∷ codes "\\x" ∷ codes "XFE1" ∷ codes "R23C" ∷ codes "rc" ∷ codes "LOG10" ∷ codes "True" ∷ codes "1x" ∷ codes "a b" ∷ codes "" ∷ []) ≡ true ∷ true ∷ true ∷ true ∷ true ∷ true ∷ false ∷ false ∷ false ∷ false ∷ false ∷ false ∷ false ∷ []
unfolding caseless ucd_derived
variables = refl

identifiers : map is_identifier (codes "sum.total" ∷ codes "c" ∷ codes "let" ∷ codes "Lambda" ∷ codes "LETTER" ∷ []) ≡ true ∷ false ∷ false ∷ false ∷ true ∷ []
unfolding caseless ucd_derived
identifiers = refl

-- quoted where the name could be read as something else
quoting : map quoted (codes "Sheet1'" ∷ codes "r0c0" ∷ codes "A1" ∷ codes "2x" ∷ codes "My data" ∷ []) ≡ codes "'Sheet1'''" ∷ codes "'r0c0'" ∷ codes "'A1'" ∷ codes "'2x'" ∷ codes "'My data'" ∷ []
unfolding ucd_derived
quoting = refl

unquoted : map quoted (codes "B1048577" ∷ codes "Été" ∷ codes "RC" ∷ codes "R1C" ∷ codes "R0" ∷ []) ≡ codes "B1048577" ∷ codes "Été" ∷ codes "RC" ∷ codes "R1C" ∷ codes "R0" ∷ []
unfolding ucd_derived
unquoted = refl
