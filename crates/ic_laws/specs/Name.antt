-- Names: when two agree, which texts name a sheet, a variable or a definition, and how a sheet's name is quoted. A
-- name is its list of characters.
use Rattle.std.specs.Prelude.{◌≡◌, ℕ, List, [], ◌∷◌, Bool, false, not, ◌&&◌, ◌||◌, ◌==◌, nat_lt, nat_le, length, codes, bytes_eq, if◌then◌else◌}
use Rattle.std.specs.List.{list_any, list_all}
use Rattle.std.specs.Str.{all_ascii_digits}
use Rattle.std.specs.Str.Parse.{digits_value}
use Rattle.caseless.specs.Caseless.{default_case_fold}
use Rattle.ic_laws.specs.Character.{dot, lower_c, lower_r, quote, upper_c, upper_r}
use Rattle.ic_laws.specs.Position.{names_column, row_count}
use Rattle.ic_laws.specs.Scan.{begins_word, between, first_is, is_ascii_letter, is_digit, is_plain, is_word_character, past_dollar, past_run, run_of}

-- Unicode default case folding
abbrev pub fold : List ℕ → List ℕ
fold name = default_case_fold name

-- two names agree where their foldings are equal
abbrev pub Agree : List ℕ → List ℕ → Type 0
Agree a b = fold a ≡ fold b

-- the same as a test
abbrev pub agrees : List ℕ → List ℕ → Bool
agrees a b = bytes_eq (fold a) (fold b)

-- the characters that no sheet name has
abbrev pub is_forbidden : ℕ → Bool
is_forbidden c = list_any (λ x. c == x) (codes "\\/*?:[]")

-- a sheet name has 1 to 31 characters, none of them forbidden
abbrev pub is_sheet_name : List ℕ → Bool
is_sheet_name name = nat_lt 0 (length name) && nat_le (length name) 31 && not (list_any is_forbidden name)

-- digits that name a row of the sheet; zeros in front are read
abbrev pub names_row : List ℕ → Bool
names_row digits = all_ascii_digits digits && nat_lt 0 (digits_value 10 digits) && nat_le (digits_value 10 digits) row_count

-- an A1 cell inside the sheet: letters of a column and digits of a row, each after a dollar sign or not
abbrev pub is_a1_cell : List ℕ → Bool
is_a1_cell text =
    names_column (run_of is_ascii_letter (past_dollar text)) && names_row (past_dollar (past_run is_ascii_letter (past_dollar text)))

-- R and C, in either case
abbrev pub is_r : ℕ → Bool
is_r c = c == upper_r || c == lower_r

abbrev pub is_c : ℕ → Bool
is_c c = c == upper_c || c == lower_c

-- a character of this kind, and digits
abbrev pub is_numbered : (ℕ → Bool) → List ℕ → Bool
is_numbered p [] = false
is_numbered p (c ∷ digits) = p c && all_ascii_digits digits

-- R and digits, C and digits, or both in this order, in either case; there may be no digits
abbrev pub has_row_column_form : List ℕ → Bool
has_row_column_form [] = false
has_row_column_form (c ∷ cs) = is_numbered is_r (c ∷ cs) || is_numbered is_c (c ∷ cs) || is_r c && is_numbered is_c (past_run is_digit cs)

-- a lone R or C
abbrev pub is_lone : List ℕ → Bool
is_lone name = length name == 1 && list_all (λ c. is_r c || is_c c) name

-- R, at least one digit, C, and at least one digit
abbrev pub is_r1c1_cell : List ℕ → Bool
is_r1c1_cell [] = false
is_r1c1_cell (c ∷ cs) = is_r c && first_is is_digit cs && is_numbered is_c (past_run is_digit cs) && nat_lt 1 (length (past_run is_digit cs))

-- A word that could be no reference has the form of a variable; boolean words have it too.
abbrev pub is_variable_form : List ℕ → Bool
is_variable_form name =
    first_is begins_word name && list_all is_word_character name && not (is_a1_cell name) && (is_lone name || not (has_row_column_form name))

-- A variable has this form and is no boolean.
abbrev pub is_variable : List ℕ → Bool
is_variable name = is_variable_form name && not (agrees name (codes "true")) && not (agrees name (codes "false"))

-- An identifier, which names a definition, is a variable that is no lone R or C and is not called LET or LAMBDA.
abbrev pub is_identifier : List ℕ → Bool
is_identifier name = is_variable name && not (is_lone name) && not (agrees name (codes "LET")) && not (agrees name (codes "LAMBDA"))

-- the name of a sheet could be read as something else before a `!`
abbrev pub needs_quotes : List ℕ → Bool
needs_quotes name =
    not (list_all is_plain name) || first_is (λ c. is_digit c || c == dot) name || is_a1_cell name || is_r1c1_cell name

-- between quotes, each quote of the name doubled
abbrev pub in_quotes : List ℕ → List ℕ
in_quotes name = between quote name

-- a sheet's name as it stands before a reference
abbrev pub quoted : List ℕ → List ℕ
quoted name = if needs_quotes name then in_quotes name else name
