-- A user who only looks: all their lines can be left out, and no one else sees it.
use Rattle.std.specs.Prelude.{◌≡◌, ◌≢◌, ℕ, List, [], ◌∷◌, Bool, true, false, not, bytes_eq, Option, Some, None}
use Rattle.std.specs.FinMap as finite
use Rattle.std.specs.List.{AllByRecursion, filter}
use Rattle.ic_machine.specs.Command.{Command, OnNotation, command_in, commands}
use Rattle.ic_machine.specs.Readers.{is_reader}
use Rattle.ic_machine.specs.Run.{Machine, after}
use Rattle.ic_machine.specs.Step.{english_errors}
use Rattle.ic_machine.specs.subjects.Notation.{SetLanguage}
use Rattle.ic_share.specs.Shared.{SharedBook, share_machine}
use Rattle.ic_share.specs.Users.{Sent, sent_in}

-- a command only asks or chooses a language, or a line is no command
abbrev pub is_quiet : Option Command → Bool
is_quiet (Some (OnNotation (SetLanguage id))) = true
is_quiet (Some command) = is_reader command
is_quiet None = true

-- a line is this user's
abbrev pub is_by : List ℕ → Option Sent → Bool
is_by user (Some sent) = bytes_eq user sent.user
is_by user None = false

abbrev pub is_line_of : List ℕ → List ℕ → Bool
is_line_of user line = is_by user (sent_in line)

-- if it is, it is quiet, by the English words of the error values
abbrev pub IsQuietIfBy : List (List ℕ) → List ℕ → Option Sent → Type 0
IsQuietIfBy english user sent = (s : Sent) → sent ≡ Some s → bytes_eq user s.user ≡ true → is_quiet (command_in english commands s.command) ≡ true

-- lines, of which all that are this user's are left out
abbrev pub without_user : List ℕ → List (List ℕ) → List (List ℕ)
without_user user lines = filter (λ line. not (is_line_of user line)) lines

-- lines, each with the bytes of its reply, by any machine
module _ {S : Type 0} (machine : Machine S) where
  abbrev pub told_each : S → List (List ℕ) → List (List ℕ × List ℕ)
  told_each state [] = []
  told_each state (line ∷ lines) = (line, (machine state line).1) ∷ told_each (machine state line).0 lines

-- a book is the same, and so is each language but this user's
pub record IsSameBut (user : List ℕ) (one other : SharedBook) : Type 0 where
  pub book : one.book ≡ other.book
  pub languages : (name : List ℕ) → name ≢ user → finite.get one.languages name ≡ finite.get other.languages name

-- All other lines have the same replies where this user's lines are left out, and the same book is left.
pub record LeavesNoTrace (user : List ℕ) (shared : SharedBook) (lines : List (List ℕ)) : Type 0 where
  pub replies : filter (λ told. not (is_line_of user told.0)) (told_each share_machine shared lines) ≡ told_each share_machine shared (without_user user lines)
  pub left : IsSameBut user (after share_machine shared lines) (after share_machine shared (without_user user lines))

-- so it is with each user whose lines are all quiet
abbrev pub QuietLeavesNoTrace : Type 0
QuietLeavesNoTrace =
    (user : List ℕ) (shared : SharedBook) (lines : List (List ℕ)) → AllByRecursion (λ line. IsQuietIfBy (english_errors shared.book) user (sent_in line)) lines → LeavesNoTrace user shared lines
