-- The commands as a table: each with its name, what its words are, and the command that they make. A line is read by the
-- table; a new command is one row, and one step.
use Rattle.std.specs.Prelude.{ℕ, ℤ, pos, neg_ℤ, List, [], ◌∷◌, filter, find, ◌==◌, nat_le, bytes_eq, Option, Some, None, option_map, option_and_then, if◌then◌else◌, codes}
use Rattle.std.specs.Fmt.{decimal}
use Rattle.std.specs.List.{list_any}
use Rattle.std.specs.Str.{all_ascii_digits}
use Rattle.std.specs.Str.Parse.{digits_value}
use Rattle.ic_laws.specs.Character.{minus}

-- a command, with the texts, the numbers and the scopes of its words; a scope is the index of a sheet, or none
pub data Command : Type 0 where
  AddSheet : (name : List ℕ) → Command
  RenameSheet : (old new : List ℕ) → Command
  RenameSheetByIndex : (sheet : ℕ) (name : List ℕ) → Command
  MoveSheet : (sheet to : ℕ) → Command
  DeleteSheet : (sheet : ℕ) → Command
  DeleteSheetByName : (name : List ℕ) → Command
  DeleteSheetBySheetId : (id : ℕ) → Command
  NewDefinedName : (name : List ℕ) (scope : Option ℕ) (body : List ℕ) → Command
  DeleteDefinedName : (name : List ℕ) (scope : Option ℕ) → Command
  IsValidDefinedName : (name : List ℕ) (scope : Option ℕ) (body : List ℕ) → Command
  GetDefinedNameList : Command
  GetNewSheetId : Command
  SetLocale : (id : List ℕ) → Command
  SetLanguage : (id : List ℕ) → Command
  UpdateCellWithFormula : (sheet : ℕ) (row column : ℤ) (text : List ℕ) → Command
  GetCellFormula : (sheet : ℕ) (row column : ℤ) → Command

-- what a word is: a text; an index or an id, an unsigned number of 32 bits; a row or a column, a signed one; a scope,
-- which is an index, or a minus for none
pub data WordForm : Type 0 where
  OfText : WordForm
  OfIndex : WordForm
  OfPosition : WordForm
  OfScope : WordForm

-- what such a word says
abbrev pub Said : WordForm → Type 0
Said OfText = List ℕ
Said OfIndex = ℕ
Said OfPosition = ℤ
Said OfScope = Option ℕ

-- what words of these forms say, one after another
abbrev pub AllSaid : List WordForm → Type 0
AllSaid [] = Unit {0}
AllSaid (form ∷ forms) = Said form × AllSaid forms

-- one command of the table
pub record CommandRow : Type 0 where
  pub name : List ℕ
  pub forms : List WordForm
  pub command : AllSaid forms → Command

-- a number is ASCII digits, with or without zeros in front
abbrev pub number_said : List ℕ → Option ℕ
number_said [] = None
number_said (c ∷ cs) = if all_ascii_digits (c ∷ cs) then Some (digits_value 10 (c ∷ cs)) else None

-- a number at most as great as this one
abbrev pub at_most : ℕ → ℕ → Option ℕ
at_most most n = if nat_le n most then Some n else None

-- an unsigned number of 32 bits
abbrev pub index_said : List ℕ → Option ℕ
index_said word = option_and_then (at_most 4294967295) (number_said word)

-- a signed one, with a minus before it where it is below 0
abbrev pub position_said : List ℕ → Option ℤ
position_said [] = None
position_said (c ∷ cs) =
    if c == minus then option_map (λ n. neg_ℤ (pos n)) (option_and_then (at_most 2147483648) (number_said cs))
    else option_map pos (option_and_then (at_most 2147483647) (number_said (c ∷ cs)))

-- a minus for none
abbrev pub scope_said : List ℕ → Option (Option ℕ)
scope_said word = if bytes_eq word (codes "-") then Some None else option_map Some (index_said word)

-- what a word of this form says, if it is one
abbrev pub said : (form : WordForm) → List ℕ → Option (Said form)
said OfText word = Some word
said OfIndex word = index_said word
said OfPosition word = position_said word
said OfScope word = scope_said word

-- what words of these forms say; none where there are more or fewer, or one isn't of its form
abbrev pub all_said : (forms : List WordForm) → List (List ℕ) → Option (AllSaid forms)
all_said [] [] = Some tt
all_said [] (word ∷ words) = None
all_said (form ∷ forms) [] = None
all_said (form ∷ forms) (word ∷ words) = option_and_then (λ first. option_map (λ others. (first, others)) (all_said forms words)) (said form word)

-- the table
unfoldable pub commands : List CommandRow
commands =
    record { name = codes "add_sheet"; forms = OfText ∷ []; command = λ w. AddSheet w.0 }
    ∷ record { name = codes "rename_sheet"; forms = OfText ∷ OfText ∷ []; command = λ w. RenameSheet w.0 w.1.0 }
    ∷ record { name = codes "rename_sheet_by_index"; forms = OfIndex ∷ OfText ∷ []; command = λ w. RenameSheetByIndex w.0 w.1.0 }
    ∷ record { name = codes "move_sheet"; forms = OfIndex ∷ OfIndex ∷ []; command = λ w. MoveSheet w.0 w.1.0 }
    ∷ record { name = codes "delete_sheet"; forms = OfIndex ∷ []; command = λ w. DeleteSheet w.0 }
    ∷ record { name = codes "delete_sheet_by_name"; forms = OfText ∷ []; command = λ w. DeleteSheetByName w.0 }
    ∷ record { name = codes "delete_sheet_by_sheet_id"; forms = OfIndex ∷ []; command = λ w. DeleteSheetBySheetId w.0 }
    ∷ record { name = codes "new_defined_name"; forms = OfText ∷ OfScope ∷ OfText ∷ []; command = λ w. NewDefinedName w.0 w.1.0 w.1.1.0 }
    ∷ record { name = codes "delete_defined_name"; forms = OfText ∷ OfScope ∷ []; command = λ w. DeleteDefinedName w.0 w.1.0 }
    ∷ record { name = codes "is_valid_defined_name"; forms = OfText ∷ OfScope ∷ OfText ∷ []; command = λ w. IsValidDefinedName w.0 w.1.0 w.1.1.0 }
    ∷ record { name = codes "get_defined_name_list"; forms = []; command = λ w. GetDefinedNameList }
    ∷ record { name = codes "get_new_sheet_id"; forms = []; command = λ w. GetNewSheetId }
    ∷ record { name = codes "set_locale"; forms = OfText ∷ []; command = λ w. SetLocale w.0 }
    ∷ record { name = codes "set_language"; forms = OfText ∷ []; command = λ w. SetLanguage w.0 }
    ∷ record { name = codes "update_cell_with_formula"; forms = OfIndex ∷ OfPosition ∷ OfPosition ∷ OfText ∷ []; command = λ w. UpdateCellWithFormula w.0 w.1.0 w.1.1.0 w.1.1.1.0 }
    ∷ record { name = codes "get_cell_formula"; forms = OfIndex ∷ OfPosition ∷ OfPosition ∷ []; command = λ w. GetCellFormula w.0 w.1.0 w.1.1.0 } ∷ []

-- the rows with these names
abbrev pub rows_named : List (List ℕ) → List CommandRow
rows_named names = filter (λ row. list_any (bytes_eq row.name) names) commands

-- the command of this name with these texts, among those of a table
abbrev pub named_command : List CommandRow → List ℕ → List (List ℕ) → Option Command
named_command table name texts = option_and_then (λ row. option_map row.command (all_said row.forms texts)) (find (λ row. bytes_eq row.name name) table)

-- a field of a reply: a text; a number, or a minus where there is none
pub data Field : Type 0 where
  TextField : (text : List ℕ) → Field
  NumberField : (number : Option ℕ) → Field

-- how it is written, before escapes
abbrev pub field_text : Field → List ℕ
field_text (TextField text) = text
field_text (NumberField None) = codes "-"
field_text (NumberField (Some n)) = decimal n
