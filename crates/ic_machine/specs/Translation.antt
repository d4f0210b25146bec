-- What command lines become in another notation, so that they leave the same book: which lines go, what the others become,
-- and which can't be translated.
use Rattle.std.specs.Prelude.{◌≡◌, ℕ, ◌+◌, ◌-◌, List, [], ◌∷◌, take, Bool, true, ◌||◌, Option, Some, None, option_and_then, option_map, unwrap_or, Result, Ok, Err, slice_get, codes, if◌then◌else◌}
use Rattle.std.specs.List.{join_by}
use Rattle.std.specs.Option.{option_map_or}
use Rattle.ic_laws.specs.Binding.{bound}
use Rattle.ic_laws.specs.Character.{quote, tab}
use Rattle.ic_laws.specs.CoreBook.{CellPlace, Definition}
use Rattle.ic_laws.specs.CoreStep.{new_definition, scope_or_none}
use Rattle.ic_laws.specs.FormulaReading.{Body, body_of, shown_body, without_equals}
use Rattle.ic_laws.specs.Lines.{escaped, word_texts, words_of}
use Rattle.ic_laws.specs.Notations.{english_function}
use Rattle.ic_laws.specs.declared.tree.Formula.{Formula}
use Rattle.ic_laws.specs.declared.tree.Formula.TheVariants as formulas
use Rattle.ic_input.specs.declared.input.Typed.{Typed}
use Rattle.ic_input.specs.declared.input.Typed.TheVariants as kinds
use Rattle.ic_grid.specs.Block.{first_place}
use Rattle.ic_machine.specs.Action.{chooses_notation}
use Rattle.ic_machine.specs.Book.{Book, Stepped, core_of, notations_in}
use Rattle.ic_machine.specs.Command.{Command, OnArrays, OnDefinitions, OnSheets, OnWriting, action, command_in, commands}
use Rattle.ic_machine.specs.InForce.{formula_typed, is_number, shown_words, typed_in}
use Rattle.ic_machine.specs.Readers.{is_reader}
use Rattle.ic_machine.specs.Retyped.{clashes_in}
use Rattle.ic_machine.specs.Run.{after}
use Rattle.ic_machine.specs.Step.{english_errors, line_step, machine, step}
use Rattle.ic_machine.specs.subjects.Arrays.{Arrays, SetUserArrayFormula}
use Rattle.ic_machine.specs.subjects.Definitions.{Definitions, NewDefinedName, Update, UpdateDefinedName, new_scope_id, scene_updated, update_body}
use Rattle.ic_machine.specs.subjects.Reading.{formula_text}
use Rattle.ic_machine.specs.subjects.Sheets.{NewSheet, Sheets, new_sheet_name}
use Rattle.ic_machine.specs.subjects.Writing.{SetUserInput, UpdateCellWithFormula, Writing, formula_at_place}

-- a book in a notation
abbrev pub in_notation : (locale language : List ℕ) → Book → Book
in_notation locale language book = record book { locale = locale; language = language }

-- The formula of a command's own text. ----

-- in a cell of the sheet at an index, where there is one
abbrev pub formula_in_cell : Book → ℕ → CellPlace → List ℕ → Option Formula
formula_in_cell book index place text = option_map (λ sheet. formula_at_place book sheet place text) (slice_get book.sheets index)

-- what a typed text has of a formula
abbrev pub formula_of_typed : Typed → Option (List ℕ)
formula_of_typed (kinds.Formula text) = Some text
formula_of_typed t = None

-- by subjects: of a text that is typed or written into a cell, and of one that is written into the first cell of an array
abbrev pub written_formula : Book → Writing → Option Formula
written_formula book (SetUserInput sheet row column text) = option_and_then (formula_in_cell book sheet (row, column)) (formula_of_typed (typed_in book text))
written_formula book (UpdateCellWithFormula sheet row column text) = option_and_then (formula_in_cell book sheet (row, column)) (formula_typed book text)
written_formula book command = None

abbrev pub array_formula : Book → Arrays → Option Formula
array_formula book (SetUserArrayFormula sheet block text) = formula_in_cell book sheet (first_place block) (without_equals text)
array_formula book command = None

-- the definition that an update leaves in place of the old one
abbrev pub updated_definition : Book → Update → Body → Definition
updated_definition book update body = record {
  name = update.new_name;
  scope = new_scope_id book update;
  has_equals = body.has_equals;
  body = formulas.Tree (bound (english_function (notations_in book)) (scene_updated book update) (new_scope_id book update) body.tree);
}

-- the definition that a command makes or updates, as it leaves it
abbrev pub defined : Book → Definitions → Option Definition
defined book (NewDefinedName name scope body) =
    option_map (new_definition (notations_in book) (core_of book) name (scope_or_none (core_of book) scope)) (body_of (notations_in book) (core_of book) body)
defined book (UpdateDefinedName update) = option_map (updated_definition book update) (update_body (notations_in book) (core_of book) update.body)
defined book command = None

-- of any command, if it has one
abbrev pub own_formula : Book → Command → Option Formula
own_formula book (OnWriting command) = written_formula book command
own_formula book (OnArrays command) = array_formula book command
own_formula book (OnDefinitions command) = option_map (λ definition. definition.body) (defined book command)
own_formula book command = None

-- What goes, and what can't be translated. ----

-- a formula's text doesn't read; or one of its names is a word of the language that is asked for
pub data Why : Type 0 where
  Raw : Why
  Clash : Why

-- why a formula can't be written in the notation of a book
abbrev pub why_not : Book → Formula → Option Why
why_not target (formulas.Raw text) = Some Raw
why_not target (formulas.Tree t) = if clashes_in target t then Some Clash else None

-- the command is one of the two that choose the notation
abbrev pub is_switch : Command → Bool
is_switch command = chooses_notation (action command)

-- readers and switches go
abbrev pub is_dropped : Command → Bool
is_dropped command = is_reader command || is_switch command

-- the book that a step leaves, if it isn't refused
abbrev pub left_by : Stepped Book → Option Book
left_by (Ok done) = Some done.0
left_by (Err refusal) = None

-- a command that is accepted and doesn't go, and the book that it leaves
abbrev pub kept_command : Book → Command → Option (Command × Book)
kept_command book command = if is_dropped command then None else option_map (λ left. (command, left)) (left_by (step book command))

-- of a line: none where it is no command
abbrev pub kept_in : Book → List ℕ → Option (Command × Book)
kept_in book line = option_and_then (kept_command book) (command_in (english_errors book) commands line)

-- What a line becomes. It is told in the book before the line and in the target: the book that the line leaves, in the
-- notation that is asked for. ----

-- the texts that the words of a line spell, and the line whose words spell these texts
abbrev pub texts_of : List ℕ → List (List ℕ)
texts_of line = unwrap_or (word_texts (words_of line)) []

abbrev pub line_of : List (List ℕ) → List ℕ
line_of texts = join_by escaped (tab ∷ []) texts

-- texts with another one at their end
abbrev pub with_last : List ℕ → List (List ℕ) → List (List ℕ)
with_last text [] = []
with_last text (old ∷ []) = text ∷ []
with_last text (first ∷ next ∷ others) = first ∷ with_last text (next ∷ others)

-- of the last text this holds, and the others are the same
abbrev pub WithLast : (List ℕ → Type 0) → List (List ℕ) → List (List ℕ) → Type 0
WithLast IsSo texts new = (text : List ℕ) × ((new ≡ with_last text texts) × IsSo text)

-- a formula in a cell is written as it is shown there, with its equals sign
abbrev pub cell_text : Book → CellPlace → Option Formula → List ℕ
cell_text target place formula = option_map_or (formula_text target place) formula []

-- A text that, typed in the target, is what was typed: for a number, a boolean or an error value any that is; a text has a
-- quote before it where the target would take it for something else.
abbrev pub IsTypedSo : Book → CellPlace → Option Formula → Typed → List ℕ → Type 0
IsTypedSo target place formula kinds.Empty text = text ≡ []
IsTypedSo target place formula (kinds.Quoted quoted) text = text ≡ quote ∷ quoted
IsTypedSo target place formula (kinds.Formula body) text = text ≡ cell_text target place formula
IsTypedSo target place formula (kinds.Number v code) text = is_number v (typed_in target text) ≡ true
IsTypedSo target place formula (kinds.Boolean truth) text = typed_in target text ≡ kinds.Boolean truth
IsTypedSo target place formula (kinds.Error e) text = typed_in target text ≡ kinds.Error e
IsTypedSo target place formula (kinds.Text words) text = text ≡ shown_words target words

-- the body of a definition is written as it is shown, with its equals sign
abbrev pub body_text : Book → Option Definition → List ℕ
body_text target definition =
    option_map_or (λ (d : Definition). shown_body (notations_in target) (core_of target) d.has_equals d.body) definition []

-- by subjects: a new sheet becomes one that is added by the name that it got; the text at the end of five other commands
-- is written anew
abbrev pub AreSheetTexts : Book → Sheets → List (List ℕ) → List (List ℕ) → Type 0
AreSheetTexts book NewSheet texts new = new ≡ codes "add_sheet" ∷ new_sheet_name book ∷ []
AreSheetTexts book command texts new = new ≡ texts

abbrev pub AreWritingTexts : Book → Book → Writing → List (List ℕ) → List (List ℕ) → Type 0
AreWritingTexts book target (SetUserInput sheet row column text) texts new =
    WithLast (IsTypedSo target (row, column) (written_formula book (SetUserInput sheet row column text)) (typed_in book text)) texts new
AreWritingTexts book target (UpdateCellWithFormula sheet row column text) texts new =
    new ≡ with_last (cell_text target (row, column) (written_formula book (UpdateCellWithFormula sheet row column text))) texts
AreWritingTexts book target command texts new = new ≡ texts

abbrev pub AreArrayTexts : Book → Book → Arrays → List (List ℕ) → List (List ℕ) → Type 0
AreArrayTexts book target (SetUserArrayFormula sheet block text) texts new =
    new ≡ with_last (cell_text target (first_place block) (array_formula book (SetUserArrayFormula sheet block text))) texts
AreArrayTexts book target command texts new = new ≡ texts

abbrev pub AreDefinitionTexts : Book → Book → Definitions → List (List ℕ) → List (List ℕ) → Type 0
AreDefinitionTexts book target (NewDefinedName name scope body) texts new = new ≡ with_last (body_text target (defined book (NewDefinedName name scope body))) texts
AreDefinitionTexts book target (UpdateDefinedName update) texts new = new ≡ with_last (body_text target (defined book (UpdateDefinedName update))) texts
AreDefinitionTexts book target command texts new = new ≡ texts

-- the texts of a line become these; those of all other commands stay
abbrev pub AreTranslatedTexts : Book → Book → Command → List (List ℕ) → List (List ℕ) → Type 0
AreTranslatedTexts book target (OnSheets command) texts new = AreSheetTexts book command texts new
AreTranslatedTexts book target (OnWriting command) texts new = AreWritingTexts book target command texts new
AreTranslatedTexts book target (OnArrays command) texts new = AreArrayTexts book target command texts new
AreTranslatedTexts book target (OnDefinitions command) texts new = AreDefinitionTexts book target command texts new
AreTranslatedTexts book target command texts new = new ≡ texts

-- and the line becomes the one with these texts
abbrev pub IsTranslatedLine : Book → Book → Command → List ℕ → List ℕ → Type 0
IsTranslatedLine book target command line new = (texts : List (List ℕ)) × (AreTranslatedTexts book target command (texts_of line) texts × (new ≡ line_of texts))

-- Lists of lines, in the notation that is asked for. ----

-- what a line leaves
abbrev pub left_after : Book → List ℕ → Book
left_after book line = (line_step commands book line).0

-- the first line, if there is one that can't be translated, comes before the others
abbrev pub first_of : ℕ → Option Why → Option (ℕ × Why) → Option (ℕ × Why)
first_of number (Some why) others = Some (number, why)
first_of number None others = others

module _ (locale language : List ℕ) where
  abbrev pub IsKeptLine : Book → List ℕ → Command × Book → List ℕ → Type 0
  IsKeptLine book line kept new = IsTranslatedLine book (in_notation locale language kept.1) kept.0 line new

  -- what a line that is kept becomes stands before what the others become, and one that goes leaves nothing
  abbrev pub StandsBefore : Book → List ℕ → Option (Command × Book) → (List (List ℕ) → Type 0) → List (List ℕ) → Type 0
  StandsBefore book line None Others new = Others new
  StandsBefore book line (Some kept) Others [] = ⊥
  StandsBefore book line (Some kept) Others (first ∷ rest) = IsKeptLine book line kept first × Others rest

  -- the lines become these
  abbrev pub AreTranslated : Book → List (List ℕ) → List (List ℕ) → Type 0
  AreTranslated book [] new = new ≡ []
  AreTranslated book (line ∷ lines) new = StandsBefore book line (kept_in book line) (AreTranslated (left_after book line) lines) new

  -- why a line can't be translated: one that is kept, for its own formula
  abbrev pub why_line_not : Book → List ℕ → Option Why
  why_line_not book line =
      option_and_then (λ (kept : Command × Book). option_and_then (why_not (in_notation locale language book)) (own_formula book kept.0)) (kept_in book line)

  -- the number of the first line that can't be, where the lines are counted from a number on, and why
  abbrev pub first_hindered : ℕ → Book → List (List ℕ) → Option (ℕ × Why)
  first_hindered number book [] = None
  first_hindered number book (line ∷ lines) = first_of number (why_line_not book line) (first_hindered (number + 1) (left_after book line) lines)

  -- A translation answers what all lines become, and leaves the book after them; or it tells the first line that can't be
  -- translated, counted from 1, and why, and leaves the book after those before it.
  abbrev pub IsTranslation : Book → List (List ℕ) → Result (List (List ℕ)) (ℕ × Why) → Book → Type 0
  IsTranslation book lines (Ok new) left =
      (first_hindered 1 book lines ≡ None) × AreTranslated book lines new × (left ≡ after (machine commands) book lines)
  IsTranslation book lines (Err cannot) left =
      (first_hindered 1 book lines ≡ Some cannot) × (left ≡ after (machine commands) book (take (cannot.0 - 1) lines))
