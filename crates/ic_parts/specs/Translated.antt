-- What the own text of a command stands for, whatever the notation, and how that is written in one.
use Rattle.std.specs.Prelude.{ℤ, option_map, ◌≡◌, ℕ, pos, List, [], ◌∷◌, Option, Some, None, IsSome, is_none, option_and_then, if◌then◌else◌, Bool}
use Rattle.ic_laws.specs.FormulaReading.{shown_body, shown_formula}
use Rattle.ic_laws.specs.Refusal.{InvalidLanguage, InvalidLocale, Refusal, first_refusal}
use Rattle.ic_laws.specs.declared.tree.Formula.{Formula}
use Rattle.ic_tables.specs.Tables.{TableSet, language_of, locale_of}
use Rattle.ic_tables.specs.Formats.{decimal_separator}
use Rattle.ic_cells.specs.Cell.{value_of}
use Rattle.ic_cells.specs.Value.{shown_text}
use Rattle.ic_cells.specs.declared.cell.Cell.{Cell}
use Rattle.ic_machine.specs.Book as machine
use Rattle.ic_machine.specs.Book.{core_of, notations_in}
use Rattle.ic_machine.specs.Command.{Command, OnDefinitions}
use Rattle.ic_machine.specs.Refusal as machine_refusal
use Rattle.ic_machine.specs.subjects.Definitions.{Update, UpdateDefinedName, question_causes}
use Rattle.std.specs.List.{slice_get}
use Rattle.ic_sheets.specs.Sheet.{Sheet}
use Rattle.ic_parts.specs.Written.{written_formula}
use Rattle.ic_machine.specs.InForce.{by_notation, in_force}
use Rattle.ic_machine.specs.Step.{step}
use Rattle.ic_machine.specs.Translation as translation
use Rattle.ic_machine.specs.Translation.{AreTranslatedTexts, IsTypedSo, in_notation, left_by, own_formula, why_not, with_last}
use Rattle.ic_machine.specs.subjects.Reading.{formula_text}
use Rattle.ic_parts.specs.Book.{Book, NotationState}
use Rattle.ic_parts.specs.declared.own_text.OwnText.{OwnText}
use Rattle.ic_parts.specs.declared.own_text.OwnText.TheVariants as owns
use Rattle.ic_parts.specs.declared.own_text.Why.{Why}
use Rattle.ic_parts.specs.declared.own_text.Why.TheVariants as whys

-- why a formula can't be written, as the machine has it
abbrev pub why_meant : Why → translation.Why
why_meant whys.Raw = translation.Raw
why_meant whys.Clash = translation.Clash

-- a tree can't be written that clashes
abbrev pub why_clashing : Bool → Option translation.Why
why_clashing clash = if clash then Some translation.Clash else None

-- what of the locale and the language that are asked for the tables lack
abbrev pub notation_refusal : (locale language : List ℕ) → TableSet → Option Refusal
notation_refusal locale language tables = first_refusal ((is_none (locale_of tables locale), InvalidLocale) ∷ (is_none (language_of tables language), InvalidLanguage) ∷ [])

-- a whole book is in this notation
pub record IsIn (notation : NotationState) (book : machine.Book) : Type 0 where
  pub tables : book.tables ≡ notation.tables
  pub locale : book.locale ≡ notation.locale
  pub language : book.language ≡ notation.language

-- the formula of what is written, if it has one
abbrev pub formula_owned : OwnText → Option Formula
formula_owned (owns.Value typed) = None
formula_owned (owns.Formula row column formula) = Some formula
formula_owned (owns.Definition definition) = Some definition.body

-- A text writes it in the notation of a book: a typed text that is no formula is what was typed; a formula is as it is shown
-- in its cell, and a definition as its body is shown.
abbrev pub IsWrittenIn : machine.Book → OwnText → List ℕ → Type 0
IsWrittenIn target (owns.Value typed) text = IsTypedSo target (pos 1, pos 1) None typed text
IsWrittenIn target (owns.Formula row column formula) text = text ≡ formula_text target (row, column) formula
IsWrittenIn target (owns.Definition definition) text = text ≡ shown_body (notations_in target) (core_of target) definition.has_equals definition.body

-- This is what the own text of a command stands for: it has the command's own formula, and the texts of the command's line
-- become those in which a text that writes it is the last.
pub record Owns (book : machine.Book) (command : Command) (own : OwnText) : Type 0 where
  pub formula : own_formula book command ≡ formula_owned own
  pub texts : (target : machine.Book) (texts : List (List ℕ)) (text : List ℕ) → IsWrittenIn target own text → AreTranslatedTexts book target command texts (with_last text texts)

-- it is told of a command that isn't refused, and nothing of one that is
abbrev pub IsToldOf : machine.Book → Command → Option OwnText → Type 0
IsToldOf book command None = left_by (step book command) ≡ None
IsToldOf book command (Some own) = Owns book command own × IsSome (left_by (step book command))

-- the same, where a command that can be written in a notation may be refused
abbrev pub IsToldWhere : NotationState → machine.Book → Command → Option OwnText → Type 0
IsToldWhere notation book command None = left_by (step book command) ≡ None
IsToldWhere notation book command (Some own) =
    Owns book command own
    × ((target : machine.Book) → IsIn notation target → IsSome (option_and_then (why_not target) (formula_owned own)) → IsSome (left_by (step book command)))

-- the text of a cell's value in the notation of a book, where there are no shared strings
abbrev pub localized_in : machine.Book → Cell → List ℕ
localized_in book cell = by_notation [] (λ f. shown_text (decimal_separator f.locale) f.language (value_of [] f.language cell)) (in_force book)

-- the formula of a body, which stands after an equals sign, in a cell of the sheet at an index, where there is one
abbrev pub formula_own : Book → ℕ → ℤ → ℤ → List ℕ → Option OwnText
formula_own book index row column body = option_map (λ (s : Sheet). owns.Formula row column (written_formula book s (row, column) body)) (slice_get book.sheets index)

-- the definition that an update would leave, where nothing refuses the question whether it would capture
abbrev pub IsToldAsked : machine.Book → Update → Option OwnText → Type 0
IsToldAsked book update None = IsSome (machine_refusal.first_refusal (question_causes book update))
IsToldAsked book update (Some own) = Owns book (OnDefinitions (UpdateDefinedName update)) own × (machine_refusal.first_refusal (question_causes book update) ≡ None)

-- a formula as it is shown in a notation in the cell at a row and a column
abbrev pub shown_in : NotationState → machine.Book → ℤ → ℤ → Formula → List ℕ
shown_in notation book row column formula =
    shown_formula (notations_in (in_notation notation.locale notation.language book)) (core_of (in_notation notation.locale notation.language book)) row column formula
