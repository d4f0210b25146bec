-- What the laws on translated lines say: each is accepted by every book that is the same as the one before and has the
-- notation that is asked for, and leaves a book that is the same as the one after.
use Rattle.std.specs.Prelude.{◌≡◌, ℕ, ℤ, List, [], ◌∷◌, reverse, Bool, true, false, Option, None, Some, Ok, option_and_then}
use Rattle.ic_laws.specs.Scan.{first_is, is_blank}
use Rattle.ic_laws.specs.declared.tree.Error.{Error}
use Rattle.ic_grid.specs.declared.block.Block.{Block}
use Rattle.ic_grid.specs.Block.{first_place}
use Rattle.ic_machine.specs.Book.{Book, Stepped, notations_in}
use Rattle.ic_machine.specs.Command.{Command, OnArrays, OnDefinitions, OnSheets, OnWriting, commands}
use Rattle.ic_machine.specs.InForce.{error_in, typed_in}
use Rattle.ic_machine.specs.Reply.{Field}
use Rattle.ic_machine.specs.Run.{after}
use Rattle.ic_machine.specs.Same.{IsSameBook}
use Rattle.ic_machine.specs.Step.{line_step, machine, step}
use Rattle.ic_machine.specs.Translation.{AreTranslated, IsTypedSo, array_formula, body_text, cell_text, defined, first_hindered, in_notation, is_dropped, kept_in, left_after, own_formula, why_not, written_formula}
use Rattle.ic_machine.specs.Valid.{IsValidBook}
use Rattle.ic_machine.specs.subjects.Arrays as arrays
use Rattle.ic_machine.specs.subjects.Definitions as definitions
use Rattle.ic_machine.specs.subjects.Definitions.{Update}
use Rattle.ic_machine.specs.subjects.Sheets as sheets
use Rattle.ic_machine.specs.subjects.Writing as writing

-- Another book is the same as a valid one, and has this notation, which is one of their tables. Nothing else is asked of the
-- other, and so not that it is valid: its styles and their numbers may be any.
pub record IsBeside (locale language : List ℕ) (book other : Book) : Type 0 where
  pub valid : IsValidBook book
  pub known_locale : (notations_in book).knows_locale locale ≡ true
  pub known_language : (notations_in book).knows_language language ≡ true
  pub same : IsSameBook book other
  pub locale_is : other.locale ≡ locale
  pub language_is : other.language ≡ language

-- in the notation in force no word of an error value ends with a blank
abbrev pub ErrorsEndPlain : Book → Type 0
ErrorsEndPlain book = (e : Error) → first_is is_blank (reverse (error_in book e)) ≡ false

-- Where a command updates a definition, its new body, as it is written in the target, doesn't end with a blank. An update
-- drops the blanks at both ends of the body that it is given, and so the last blank of an error word that has one.
abbrev pub BodyEndsPlain : Book → Book → Command → Type 0
BodyEndsPlain book target (OnDefinitions (definitions.UpdateDefinedName update)) =
    first_is is_blank (reverse (body_text target (defined book (definitions.UpdateDefinedName update)))) ≡ false
BodyEndsPlain book target command = Unit {0}

-- a step is accepted, and leaves a book that is the same as this one
abbrev pub LeavesSame : Book → Stepped Book → Type 0
LeavesSame left stepped = (other : Book) × ((fields : List Field) × ((stepped ≡ Ok (other, fields)) × IsSameBook left other))

-- a command looks at the notation in force for more than how it replies and which styles it gives
abbrev pub looks_at_notation : Command → Bool
looks_at_notation (OnSheets sheets.NewSheet) = true
looks_at_notation (OnDefinitions (definitions.NewDefinedName name scope body)) = true
looks_at_notation (OnDefinitions (definitions.UpdateDefinedName update)) = true
looks_at_notation (OnWriting (writing.SetUserInput sheet row column text)) = true
looks_at_notation (OnWriting (writing.UpdateCellWithFormula sheet row column text)) = true
looks_at_notation (OnArrays (arrays.SetUserArrayFormula sheet block text)) = true
looks_at_notation command = is_dropped command

-- a line that goes leaves the same
abbrev pub GoneIsSame : Type 0
GoneIsSame = (book : Book) (line : List ℕ) → kept_in book line ≡ None → IsSameBook (left_after book line) book

-- each line is accepted in its turn
abbrev pub AreAccepted : Book → List (List ℕ) → Type 0
AreAccepted book [] = Unit {0}
AreAccepted book (line ∷ lines) = ((fields : List Field) × ((line_step commands book line).1 ≡ Ok fields)) × AreAccepted (left_after book line) lines

module _ (locale language : List ℕ) where
  -- The commands that look at the notation. ----

  -- none of a command's formulas keeps it from being written in the notation
  abbrev pub IsWritable : Book → Command → Type 0
  IsWritable book command = option_and_then (why_not (in_notation locale language book)) (own_formula book command) ≡ None

  abbrev pub NewSheetIsSame : Type 0
  NewSheetIsSame =
      (book left other : Book) (fields : List Field) → IsBeside locale language book other → step book (OnSheets sheets.NewSheet) ≡ Ok (left, fields)
      → LeavesSame left (step other (OnSheets (sheets.AddSheet (sheets.new_sheet_name book))))

  abbrev pub InputIsSame : Type 0
  InputIsSame =
      (book left other : Book) (fields : List Field) (sheet : ℕ) (row column : ℤ) (text new : List ℕ) → IsBeside locale language book other
      → step book (OnWriting (writing.SetUserInput sheet row column text)) ≡ Ok (left, fields) → IsWritable book (OnWriting (writing.SetUserInput sheet row column text))
      → IsTypedSo (in_notation locale language left) (row, column) (written_formula book (writing.SetUserInput sheet row column text)) (typed_in book text) new
      → LeavesSame left (step other (OnWriting (writing.SetUserInput sheet row column new)))

  abbrev pub FormulaIsSame : Type 0
  FormulaIsSame =
      (book left other : Book) (fields : List Field) (sheet : ℕ) (row column : ℤ) (text : List ℕ) → IsBeside locale language book other
      → step book (OnWriting (writing.UpdateCellWithFormula sheet row column text)) ≡ Ok (left, fields) → IsWritable book (OnWriting (writing.UpdateCellWithFormula sheet row column text))
      → LeavesSame left (step other (OnWriting (writing.UpdateCellWithFormula sheet row column (cell_text (in_notation locale language left) (row, column) (written_formula book (writing.UpdateCellWithFormula sheet row column text))))))

  abbrev pub ArrayIsSame : Type 0
  ArrayIsSame =
      (book left other : Book) (fields : List Field) (sheet : ℕ) (block : Block) (text : List ℕ) → IsBeside locale language book other
      → step book (OnArrays (arrays.SetUserArrayFormula sheet block text)) ≡ Ok (left, fields) → IsWritable book (OnArrays (arrays.SetUserArrayFormula sheet block text))
      → LeavesSame left (step other (OnArrays (arrays.SetUserArrayFormula sheet block (cell_text (in_notation locale language left) (first_place block) (array_formula book (arrays.SetUserArrayFormula sheet block text))))))

  abbrev pub DefinitionIsSame : Type 0
  DefinitionIsSame =
      (book left other : Book) (fields : List Field) (name : List ℕ) (scope : Option ℕ) (body : List ℕ) → IsBeside locale language book other
      → step book (OnDefinitions (definitions.NewDefinedName name scope body)) ≡ Ok (left, fields) → IsWritable book (OnDefinitions (definitions.NewDefinedName name scope body))
      → LeavesSame left (step other (OnDefinitions (definitions.NewDefinedName name scope (body_text (in_notation locale language left) (defined book (definitions.NewDefinedName name scope body))))))

  abbrev pub UpdateIsSame : Type 0
  UpdateIsSame =
      (book left other : Book) (fields : List Field) (update : Update) → IsBeside locale language book other
      → step book (OnDefinitions (definitions.UpdateDefinedName update)) ≡ Ok (left, fields) → IsWritable book (OnDefinitions (definitions.UpdateDefinedName update))
      → BodyEndsPlain book (in_notation locale language left) (OnDefinitions (definitions.UpdateDefinedName update))
      → LeavesSame left (step other (OnDefinitions (definitions.UpdateDefinedName (record update { body = body_text (in_notation locale language left) (defined book (definitions.UpdateDefinedName update)) }))))

  -- All others, lines that are kept, and lists. ----

  abbrev pub OthersAreSame : Type 0
  OthersAreSame =
      (book left other : Book) (fields : List Field) (command : Command) → IsBeside locale language book other → looks_at_notation command ≡ false
      → step book command ≡ Ok (left, fields) → LeavesSame left (step other command)

  -- that holds of what a line is kept as, and of each line of a list that is kept
  abbrev pub KeptEndsPlain : Book → Option (Command × Book) → Type 0
  KeptEndsPlain book None = Unit {0}
  KeptEndsPlain book (Some kept) = BodyEndsPlain book (in_notation locale language kept.1) kept.0

  abbrev pub BodiesEndPlain : Book → List (List ℕ) → Type 0
  BodiesEndPlain book [] = Unit {0}
  BodiesEndPlain book (line ∷ lines) = KeptEndsPlain book (kept_in book line) × BodiesEndPlain (left_after book line) lines

  abbrev pub TranslationKeepsBook : Type 0
  TranslationKeepsBook =
      (book other : Book) (lines new : List (List ℕ)) → IsBeside locale language book other → BodiesEndPlain book lines
      → first_hindered locale language 1 book lines ≡ None → AreTranslated locale language book lines new → AreAccepted other new × IsSameBook (after (machine commands) book lines) (after (machine commands) other new)

  -- where no error word ends with a blank, no body of a translated list does
  abbrev pub PlainErrorsEndBodies : Type 0
  PlainErrorsEndBodies =
      (book other : Book) (lines new : List (List ℕ)) → IsBeside locale language book other → ErrorsEndPlain other
      → first_hindered locale language 1 book lines ≡ None → AreTranslated locale language book lines new → BodiesEndPlain book lines
