-- The command lines that are made from a seed, and what is told of a run of them.
use Rattle.std.specs.Prelude.{◌≡◌, ℕ, zero, suc, ◌+◌, ◌*◌, ◌/◌, ◌%◌, ◌^◌, ◌==◌, List, [], ◌∷◌, ◌++◌, Bool, true, false, bytes_eq, flat_map, length, Option, None, option_map, option_and_then, Ok, Err, chars, codes, if◌then◌else◌}
use Rattle.std.specs.Fmt.{decimal}
use Rattle.std.specs.List.{count_by}
use Rattle.ic_laws.specs.Character.{line_feed, tab}
use Rattle.ic_laws.specs.Command.{at_most, number_said}
use Rattle.ic_tables.specs.Tables.{TableSet}
use Rattle.ic_lines.specs.Bytes.{AppendsFront}
use Rattle.ic_lines.specs.Reading.{has_line_feed}
use Rattle.ic_machine.specs.Book.{Book, core_of}
use Rattle.ic_machine.specs.Refusal.{refusal_name}
use Rattle.ic_machine.specs.Reply.{Reply}
use Rattle.ic_machine.specs.Command.{commands}
use Rattle.ic_machine.specs.Run.{after}
use Rattle.ic_machine.specs.Step.{line_step}
use Rattle.ic_parts.specs.Whole.{whole_of}
use Rattle.ic_run.specs.Core.{whole_machine}
use Rattle.ic_run.specs.Desk.{Setting, start_book}
use Rattle.ic_run.specs.declared.made.MadeCommand.{MadeCommand}
use Rattle.ic_run.specs.declared.made.MadeCommand.TheVariants as made
use Rattle.ic_run.specs.declared.make.Making.{Making}

-- The generator. ----

-- the state after a draw
unfoldable pub next_state : ℕ → ℕ
next_state x = (x * 6364136223846793005 + 1442695040888963407) % 2 ^ 64

-- the state after so many draws
abbrev pub after_draws : ℕ → ℕ → ℕ
after_draws zero x = x
after_draws (suc n) x = next_state (after_draws n x)

-- what the n-th draw from a state on gives, below k: all but the 33 lowest bits of its state
abbrev pub drawn : ℕ → ℕ → ℕ → ℕ
drawn n k x = after_draws n x / 2 ^ 33 % k

-- The commands. ----

-- the command of this kind that is made as the i-th, by the draws from a state on; and the state that is left
abbrev pub made_of_kind : ℕ → ℕ → ℕ → MadeCommand × ℕ
made_of_kind kind i x =
    if kind == 0 then (made.AddSheet i, x)
    else if kind == 1 then (made.RenameSheet (drawn 1 6 x) i, after_draws 1 x)
    else if kind == 2 then (made.MoveSheet (drawn 1 6 x) (drawn 2 6 x), after_draws 2 x)
    else if kind == 3 then (made.WriteSum (drawn 1 4 x) (1 + drawn 2 20 x) (1 + drawn 3 8 x) (1 + drawn 4 i x) (drawn 5 100 x), after_draws 5 x)
    else if kind == 4 then (made.WriteTax (drawn 1 4 x) (1 + drawn 2 20 x) (1 + drawn 3 8 x) (1 + drawn 4 9 x), after_draws 4 x)
    else if kind == 5 then (made.NameTax, x)
    else if kind == 6 then (made.SetLocale (drawn 1 5 x), after_draws 1 x)
    else (made.SetLanguage (drawn 1 5 x), after_draws 1 x)

-- the i-th command, from the state before it: its kind is drawn first
abbrev pub made_command : ℕ → ℕ → MadeCommand × ℕ
made_command i x = made_of_kind (drawn 1 8 x) i (next_state x)

-- the locales and the languages by their places from 0
abbrev pub code_at : ℕ → List ℕ
code_at place = if place == 0 then codes "en" else if place == 1 then codes "es" else if place == 2 then codes "fr" else if place == 3 then codes "de" else codes "it"

-- the words of a formula that is written: the sheet at an index, and the row and the column of a cell
abbrev pub written_at : ℕ → ℕ → ℕ → List ℕ → List ℕ
written_at sheet row column formula =
    codes "update_cell_with_formula\t" ++ (decimal sheet ++ (codes "\t" ++ (decimal row ++ (codes "\t" ++ (decimal column ++ (codes "\t" ++ formula))))))

-- the line of a command
unfoldable pub made_text : MadeCommand → List ℕ
made_text (made.AddSheet i) = codes "add_sheet\tS" ++ decimal i
made_text (made.RenameSheet index i) = codes "rename_sheet_by_index\t" ++ (decimal index ++ (codes "\tN" ++ decimal i))
made_text (made.MoveSheet index target) = codes "move_sheet\t" ++ (decimal index ++ (codes "\t" ++ decimal target))
made_text (made.WriteSum sheet row column i factor) = written_at sheet row column (codes "=SUM('S" ++ (decimal i ++ (codes "'!B2)*" ++ decimal factor)))
made_text (made.WriteTax sheet row column other) = written_at sheet row column (codes "=tax+B" ++ decimal other)
made_text made.NameTax = codes "new_defined_name\ttax\t-\tSheet1!$A$1"
made_text (made.SetLocale place) = codes "set_locale\t" ++ code_at place
made_text (made.SetLanguage place) = codes "set_language\t" ++ code_at place

-- bytes that are characters as they stand, none of them a line feed
pub record IsPlainLine (bytes : List ℕ) : Type 0 where
  pub characters : chars bytes ≡ bytes
  pub one_line : has_line_feed bytes ≡ false

-- so many lines, from the i-th on, by the state before it
abbrev pub made_from : ℕ → ℕ → ℕ → List (List ℕ)
made_from zero i x = []
made_from (suc count) i x = made_text (made_command i x).0 ∷ made_from count (i + 1) (made_command i x).1

-- all lines of a making: the first has the number 1, and the state begins as the seed
abbrev pub made_lines : Making → List (List ℕ)
made_lines making = made_from making.count 1 making.seed

-- The words. ----

-- an unsigned number of 64 bits
abbrev pub seed_said : List ℕ → Option ℕ
seed_said word = option_and_then (at_most 18446744073709551615) (number_said word)

-- one that is no greater than 10000
abbrev pub count_said : List ℕ → Option ℕ
count_said word = option_and_then (at_most 10000) (seed_said word)

-- what follows the word make: a seed and a count
abbrev pub making_said : List ℕ → List ℕ → Option Making
making_said seed count = option_and_then (λ s. option_map (λ n. record { seed = s; count = n }) (count_said count)) (seed_said seed)

-- what the words name, if they are these
abbrev pub making_of : List (List ℕ) → Option Making
making_of (name ∷ seed ∷ count ∷ []) = if bytes_eq name (codes "make") then making_said seed count else None
making_of words = None

-- the setting that lines are made in: en, en and UTC
abbrev pub made_setting : Setting
made_setting = record { locale = codes "en"; language = codes "en"; zone = codes "UTC" }

-- What is told. ----

-- the replies of the machine to lines, from a book on
abbrev pub told_replies : Book → List (List ℕ) → List Reply
told_replies book [] = []
told_replies book (line ∷ lines) = (line_step commands book line).1 ∷ told_replies (line_step commands book line).0 lines

-- a reply without a refusal, and one with the refusal of this name
abbrev pub is_ok : Reply → Bool
is_ok (Ok fields) = true
is_ok (Err refusal) = false

abbrev pub is_refused_as : List ℕ → Reply → Bool
is_refused_as name (Ok fields) = false
is_refused_as name (Err refusal) = bytes_eq (refusal_name refusal) name

-- the names of the refusals in the order in which they are told
abbrev pub told_names : List (List ℕ)
told_names =
    codes "BadLine" ∷ codes "InvalidSheet" ∷ codes "InvalidRow" ∷ codes "InvalidColumn" ∷ codes "BadArea" ∷ codes "OutOfRange" ∷ codes "SheetIndexTooLarge"
    ∷ codes "TargetTooLarge" ∷ codes "InvalidSheetName" ∷ codes "SheetExists" ∷ codes "SheetNotFound" ∷ codes "OnlySheet" ∷ codes "IdLive"
    ∷ codes "IdsUsedUp" ∷ codes "InvalidName" ∷ codes "InvalidScope" ∷ codes "NameExists" ∷ codes "NameNotFound" ∷ codes "InvalidNameFormula"
    ∷ codes "InvalidFormula" ∷ codes "NotAFormula" ∷ codes "BadReference" ∷ codes "InvalidLocale" ∷ codes "InvalidLanguage" ∷ codes "InvalidTimezone"
    ∷ codes "MergedPart" ∷ codes "ArrayPart" ∷ codes "ClearArray" ∷ codes "FrozenNegative" ∷ codes "TooManyRows" ∷ codes "TooManyColumns"
    ∷ codes "NoFormulaCell" ∷ codes "SpillBlocked" ∷ codes "BadWorkbook" ∷ codes "WouldCapture" ∷ []

-- a line that tells how many there are of something
abbrev pub told_line : List ℕ → ℕ → List ℕ
told_line words n = words ++ (tab ∷ (decimal n ++ line_feed ∷ []))

-- the same, where there are some
abbrev pub told_if_some : List ℕ → ℕ → List ℕ
told_if_some words n = if n == 0 then [] else told_line words n

-- how many replies tell the refusal of this name, where one does; and so of all refusals
abbrev pub told_refusal : List Reply → List ℕ → List ℕ
told_refusal replies name = told_if_some (codes "error\t" ++ name) (count_by (is_refused_as name) replies)

unfoldable pub told_refusals : List Reply → List ℕ
told_refusals replies = flat_map (told_refusal replies) told_names

-- how many cells of a book have a formula
abbrev pub formula_count : Book → ℕ
formula_count book = length (flat_map (λ sheet. sheet.cells) (core_of book).sheets)

-- what is told of so many lines, by their replies and the book that they leave: how many lines, replies without a refusal,
-- replies of each refusal, sheets and cells with formulas
abbrev pub summary : ℕ → List Reply → Book → List ℕ
summary count replies book =
    told_line (codes "lines") count
    ++ (told_line (codes "ok") (count_by is_ok replies)
    ++ (told_refusals replies
    ++ (told_line (codes "sheets") (length book.sheets) ++ told_line (codes "formulas") (formula_count book))))

-- what is told of the lines of a making, from a book on
abbrev pub summary_of : Making → Book → List ℕ
summary_of making book = summary making.count (told_replies book (made_lines making)) (after whole_machine book (made_lines making))

-- the book that they begin with, which was made at this moment
abbrev pub made_start : List ℕ → TableSet → Book
made_start created tables = whole_of (start_book made_setting created tables)

-- this of a making, or a front of it that isn't all, stands after what was written before; from a book that was made at
-- some moment
abbrev pub AppendsSummary : Making → TableSet → List ℕ → List ℕ → Type 0
AppendsSummary making tables before now = (created : List ℕ) × (now ≡ before ++ summary_of making (made_start created tables))

abbrev pub AppendsSummaryFront : Making → TableSet → List ℕ → List ℕ → Type 0
AppendsSummaryFront making tables before now = (created : List ℕ) × AppendsFront (summary_of making (made_start created tables)) before now
