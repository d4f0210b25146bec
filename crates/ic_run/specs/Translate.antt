-- Command lines in another notation: what a translation answers and leaves, and what `desk` writes of it.
use Rattle.std.specs.Prelude.{◌≡◌, ◌⊎◌, ◌≤◌, ℕ, List, [], ◌∷◌, ◌++◌, false, true, Option, Some, None, Result, Ok, Err, chars, codes, bytes_eq, flat_map, length, option_and_then, option_map, string_bytes, take, encode_utf8_all, if◌then◌else◌, is_some}
use Rattle.std.specs.Fmt.{decimal}
use Rattle.std.specs.Global.{Vec}
use Rattle.ic_laws.specs.Character.{line_feed, tab}
use Rattle.ic_laws.specs.Lines.{escaped, texts_of}
use Rattle.ic_laws.specs.Refusal.{InvalidLanguage, InvalidLocale, Refusal}
use Rattle.ic_tables.specs.Tables.{TableSet}
use Rattle.ic_lines.specs.Bytes.{AppendsFront}
use Rattle.ic_machine.specs.Book.{Book}
use Rattle.ic_machine.specs.Command.{Command, OnSheets, commands}
use Rattle.ic_machine.specs.Readers.{is_reader}
use Rattle.ic_machine.specs.Run.{after}
use Rattle.ic_machine.specs.Same.{IsSameBook}
use Rattle.ic_machine.specs.Step.{machine, step}
use Rattle.ic_machine.specs.Translation as translation
use Rattle.ic_machine.specs.Translation.{AreTranslatedTexts, IsKeptLine, IsTranslation, first_hindered, is_dropped, is_switch, kept_in, left_after, left_by, own_formula, why_line_not}
use Rattle.ic_machine.specs.TranslationLaws.{AreAccepted, BodiesEndPlain}
use Rattle.ic_machine.specs.subjects.Sheets.{NewSheet, new_sheet_name}
use Rattle.ic_parts.specs.Book.{NotationState}
use Rattle.ic_parts.specs.Translated.{IsToldWhere, notation_refusal, why_meant}
use Rattle.ic_parts.specs.Whole.{whole_of}
use Rattle.ic_run.specs.Desk.{Setting, setting_of, start_book, start_refusal}
use Rattle.ic_run.specs.Make.{made_setting, making_of}
use Rattle.ic_run.specs.declared.plan.Plan.{Plan}
use Rattle.ic_run.specs.declared.plan.Plan.TheVariants as plans
use Rattle.ic_run.specs.declared.translating.TranslateError.{TranslateError}
use Rattle.ic_run.specs.declared.translating.TranslateError.TheVariants as errors
use Rattle.ic_run.specs.declared.translating.Turn.{Turn}
use Rattle.ic_run.specs.declared.translating.Turn.TheVariants as turns

-- A command's line becomes one with the same texts: it doesn't go, has no formula of its own, and nothing in it is written
-- anew.
pub record StaysSo (book : Book) (command : Command) : Type 0 where
  pub kept : is_dropped command ≡ false
  pub plain : own_formula book command ≡ None
  pub texts : (target : Book) (texts : List (List ℕ)) → AreTranslatedTexts book target command texts texts

-- what is planned for a command where the target has this notation: to let it go, since it only asks or is refused; to run it
-- alone; to run it and keep its texts; to add a sheet of a name in its place; to write its own text anew
abbrev pub IsPlan : NotationState → Book → Command → Plan → Type 0
IsPlan target book command plans.Goes = (is_reader command ≡ true) ⊎ (left_by (step book command) ≡ None)
IsPlan target book command plans.Runs = is_switch command ≡ true
IsPlan target book command plans.Stays = StaysSo book command
IsPlan target book command (plans.AddsSheet name) = (command ≡ OnSheets NewSheet) × (chars (string_bytes name) ≡ new_sheet_name book)
IsPlan target book command (plans.Writes own) = (is_dropped command ≡ false) × IsToldWhere target book command (Some own)

module _ (locale language : List ℕ) where
  -- a line is kept, can be written, and becomes this text
  pub record IsKeptSo (old : Book) (line text : List ℕ) : Type 0 where
    pub kept : Command × Book
    pub is : kept_in old line ≡ Some kept
    pub can : why_line_not locale language old line ≡ None
    pub becomes : IsKeptLine locale language old line kept text

  -- what a line came to in a book, and what is left then
  abbrev pub IsTurn : Book → List ℕ → Book → Turn → Type 0
  IsTurn old line new turns.Goes = (kept_in old line ≡ None) × (new ≡ left_after old line)
  IsTurn old line new (turns.Becomes text) = IsKeptSo old line text × (new ≡ left_after old line)
  IsTurn old line new (turns.Cannot why) = (why_line_not locale language old line ≡ Some (why_meant why)) × (new ≡ old)

  -- some of the first lines ran
  pub record HasRunSome (old : Book) (lines : List (List ℕ)) (new : Book) : Type 0 where
    pub count : ℕ
    pub within : count ≤ length lines
    pub left : new ≡ after (machine commands) old (take count lines)

  -- What a translation answered of lines, and what is left of the book: after Ok and `Cannot` what is said of all lines; where
  -- the locale or the language is unknown, the book as it was; where memory ran out, what some of the first lines leave.
  abbrev pub HasTranslated : Book → List (List ℕ) → Result (Vec (List ℕ)) TranslateError → Book → Type 0
  HasTranslated old lines (Ok new) left = IsTranslation locale language old lines (Ok new.items) left
  HasTranslated old lines (Err (errors.Cannot line why)) left = IsTranslation locale language old lines (Err (line, why_meant why)) left
  HasTranslated old lines (Err errors.OutOfMemory) left = HasRunSome old lines left
  HasTranslated old lines (Err e) left = left ≡ old

  -- Every other book that is the same as the old one, apart from the notation and the styles, and has the notation that is
  -- asked for, accepts the new lines in their turn, and they leave there what is the same as what is left here; if no
  -- definition is updated to a body that ends with a blank in that notation.
  abbrev pub AreAcceptedBeside : Book → List (List ℕ) → Book → List (List ℕ) → Type 0
  AreAcceptedBeside old lines left new =
      (other : Book) → IsSameBook old other → other.locale ≡ locale → other.language ≡ language → BodiesEndPlain locale language old lines
      → AreAccepted other new × IsSameBook left (after (machine commands) other new)

-- what of the notation is told to be unknown
abbrev pub unknown_told : {T : Type 0} → Result T TranslateError → Option Refusal
unknown_told (Err errors.InvalidLocale) = Some InvalidLocale
unknown_told (Err errors.InvalidLanguage) = Some InvalidLanguage
unknown_told result = None

-- The words of the program, and what is written. ----

-- a locale and a language, by their ids
pub record Target : Type 0 where
  pub locale : List ℕ
  pub language : List ℕ

-- what follows the word translate: a locale and a language
abbrev pub target_of : List (List ℕ) → Option Target
target_of (name ∷ locale ∷ language ∷ []) = if bytes_eq name (codes "translate") then Some (record { locale = locale; language = language }) else None
target_of words = None

-- what of them the tables lack
abbrev pub target_refusal : Target → TableSet → Option Refusal
target_refusal target tables = notation_refusal target.locale target.language tables

-- the lines that choose the notation
abbrev pub switches : Target → List (List ℕ)
switches target = (codes "set_locale\t" ++ escaped target.locale) ∷ (codes "set_language\t" ++ escaped target.language) ∷ []

-- a line with its line feed
abbrev pub ended_line : List ℕ → List ℕ
ended_line line = line ++ line_feed ∷ []

-- the name of a reason
abbrev pub why_name : translation.Why → List ℕ
why_name translation.Raw = codes "Raw"
why_name translation.Clash = codes "Clash"

-- which line can't be translated, and why
abbrev pub told_cannot : ℕ → translation.Why → List ℕ
told_cannot line why = codes "cannot\t" ++ (decimal line ++ (tab ∷ (why_name why ++ line_feed ∷ [])))

-- what is told of a translation: the lines that choose the notation, and those that the lines become; or which line can't be
-- translated
abbrev pub told_bytes : Target → Result (List (List ℕ)) (ℕ × translation.Why) → List ℕ
told_bytes target (Ok lines) = encode_utf8_all (flat_map ended_line (switches target ++ lines))
told_bytes target (Err cannot) = told_cannot cannot.0 cannot.1

-- the status for that
abbrev pub translation_status : {T E : Type 0} → Result T E → ℕ
translation_status (Ok lines) = 0
translation_status (Err cannot) = 7

-- what is told of the translation of lines, from a whole book, was appended, with this status
pub record AppendsTold (target : Target) (book : Book) (lines : List (List ℕ)) (status : ℕ) (before now : List ℕ) : Type 0 where
  pub answer : Result (List (List ℕ)) (ℕ × translation.Why)
  pub left : Book
  pub is : IsTranslation target.locale target.language book lines answer left
  pub tells : translation_status answer ≡ status
  pub written : now ≡ before ++ told_bytes target answer
  pub accepted : (new : List (List ℕ)) → answer ≡ Ok new → AreAcceptedBeside target.locale target.language book lines left new

-- a front of that, which isn't all of it
pub record AppendsToldFront (target : Target) (book : Book) (lines : List (List ℕ)) (before now : List ℕ) : Type 0 where
  pub answer : Result (List (List ℕ)) (ℕ × translation.Why)
  pub left : Book
  pub is : IsTranslation target.locale target.language book lines answer left
  pub written : AppendsFront (told_bytes target answer) before now

-- the lines of these bytes, from the new book that lines are translated from, which was made at some moment
abbrev pub AppendsTranslated : Target → TableSet → ℕ → List ℕ → List ℕ → List ℕ → Type 0
AppendsTranslated target tables status bytes before now = (created : List ℕ) × AppendsTold target (whole_of (start_book made_setting created tables)) (texts_of bytes) status before now

abbrev pub AppendsTranslatedFront : Target → TableSet → List ℕ → List ℕ → List ℕ → Type 0
AppendsTranslatedFront target tables bytes before now = (created : List ℕ) × AppendsToldFront target (whole_of (start_book made_setting created tables)) (texts_of bytes) before now

-- the status that lines ask for, from a whole book: 7 where one of them can't be translated, and 0 where each can
abbrev pub due_status : Target → Book → List (List ℕ) → ℕ
due_status target book lines = if is_some (first_hindered target.locale target.language 1 book lines) then 7 else 0

-- the lines of these bytes ask for this status, from the new book, whenever that was made
abbrev pub IsDue : Target → TableSet → ℕ → List ℕ → Type 0
IsDue target tables status bytes = (created : List ℕ) → due_status target (whole_of (start_book made_setting created tables)) (texts_of bytes) ≡ status

-- What the program begins with, by its words: the setting of a new book; the notation that lines are asked for in, if they
-- are translated
pub record Beginning : Type 0 where
  pub setting : Setting
  pub target : Option Target

-- the first of two that is there
abbrev pub first_beginning : Option Beginning → Option Beginning → Option Beginning
first_beginning (Some beginning) other = Some beginning
first_beginning None other = other

-- en, en and UTC for lines that are made, and for those that are translated
abbrev pub beginning_of : List (List ℕ) → Option Beginning
beginning_of words =
    first_beginning (option_map (λ setting. record { setting = setting; target = None }) (setting_of words))
    (first_beginning (option_map (λ making. record { setting = made_setting; target = None }) (making_of words)) (option_map (λ target. record { setting = made_setting; target = Some target }) (target_of words)))

-- what of this the tables lack: the new book's first
abbrev pub either_refusal : Option Refusal → Option Refusal → Option Refusal
either_refusal (Some refusal) other = Some refusal
either_refusal None other = other

abbrev pub beginning_refusal : Beginning → TableSet → Option Refusal
beginning_refusal beginning tables = either_refusal (start_refusal beginning.setting tables) (option_and_then (λ target. target_refusal target tables) beginning.target)
