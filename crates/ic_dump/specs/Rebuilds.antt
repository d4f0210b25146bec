-- What the lines of a dump do: run from a new book in en, en and UTC, each is accepted in its turn, and what they leave is the
-- same skeleton.
use Rattle.std.specs.Prelude.{◌≡◌, ℕ, List, IsNone, None}
use Rattle.ic_laws.specs.CoreBook.{CoreBook}
use Rattle.ic_tables.specs.Tables.{TableSet}
use Rattle.ic_machine.specs.Book.{Book, core_of, notations_in}
use Rattle.ic_machine.specs.Command.{commands}
use Rattle.ic_machine.specs.Run.{after}
use Rattle.ic_machine.specs.Step.{machine}
use Rattle.ic_machine.specs.TranslationLaws.{AreAccepted, ErrorsEndPlain}
use Rattle.ic_machine.specs.Valid.{IsValidBook}
use Rattle.ic_run.specs.Desk.{start_refusal}
use Rattle.ic_run.specs.Make.{made_setting, made_start}
use Rattle.ic_dump.specs.Lines.{dump_lines}
use Rattle.ic_dump.specs.Refused.{cause_of}
use Rattle.ic_dump.specs.Stages.{HasFewNames}
use Rattle.ic_dump.specs.Skeleton.{IsSameSkeleton}

-- lines do so from a book
pub record RebuildsFrom (start : Book) (lines : List (List ℕ)) (book : CoreBook) : Type 0 where
  pub accepted : AreAccepted start lines
  pub same : IsSameSkeleton book (core_of (after (machine commands) start lines))

-- And from each new one with these tables, whenever it was made, where there is one, and none of the English words for error values
-- ends with a blank. An update of a definition drops the blanks at both ends of the body that it is given, and so that of such a word.
abbrev pub Rebuilds : TableSet → List (List ℕ) → CoreBook → Type 0
Rebuilds tables lines book =
    IsNone (start_refusal made_setting tables) → (created : List ℕ) → ErrorsEndPlain (made_start created tables) → RebuildsFrom (made_start created tables) lines book

-- the lines of each valid book that has no cause, and names that are few, do so
abbrev pub LinesRebuild : Type 0
LinesRebuild = (book : Book) → IsValidBook book → cause_of (notations_in book) (core_of book) ≡ None → HasFewNames (core_of book) → Rebuilds book.tables (dump_lines (notations_in book) (core_of book)) (core_of book)
