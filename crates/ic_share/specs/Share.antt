-- What a run of lines of many users leaves and writes, at its end and after an error.
use Rattle.std.specs.Prelude.{◌≡◌, refl, ℕ, ◌+◌, ◌≤◌, List, [], String, true, chars, length, map, string_bytes, Option, Some}
use Rattle.std.specs.declared.alloc.Global.{Global}
use Rattle.std.specs.Coded.{Coded, code_by, coded_list, coded×, coded_ℕ}
use Rattle.std.specs.FinMap as finite
use Rattle.ic_laws.specs.Lines.{texts_of}
use Rattle.ic_lines.specs.declared.error.RunError.{RunError}
use Rattle.ic_machine.specs.Book.{notations_in}
use Rattle.ic_machine.specs.Run.{after}
use Rattle.ic_parts.specs.Book.{Book}
use Rattle.ic_parts.specs.Whole.{whole_of}
use Rattle.ic_run.specs.Run.{AppendsReplies, HasAnswered, HasPartlyAnswered, Leaves, LeavesReplies}
use Rattle.ic_share.specs.Shared.{Languages, SharedBook, share_machine, shared_from}

-- The users in memory. ----

-- the book's own language, and the languages that users chose
pub record UsersState : Type 0 where
  pub own : List ℕ
  pub languages : Languages

-- they are stored as the pair of both
abbrev pub users_code : Coded UsersState
users_code =
    code_by (List ℕ × Languages) (coded× (coded_list coded_ℕ) (finite.code (coded_list coded_ℕ) (coded_list coded_ℕ))) (λ s. (s.own, s.languages)) (λ p. record { own = p.0; languages = p.1 }) (λ _. refl)

-- users and languages as texts
abbrev pub languages_held : List (String Global × String Global) → Languages
languages_held entries = finite.from_entries (map (λ e. (chars (string_bytes e.0), chars (string_bytes e.1))) entries)

-- a book with these users
abbrev pub shared_by : UsersState → Book → SharedBook
shared_by users book = record { book = whole_of book; languages = users.languages }

-- The own language of a shared book and each that a user chose are in its tables.
pub record IsKnown (shared : SharedBook) : Type 0 where
  pub own : (notations_in shared.book).knows_language shared.book.language ≡ true
  pub chosen : (user language : List ℕ) → finite.get shared.languages user ≡ Some language → (notations_in shared.book).knows_language language ≡ true

-- it is so again after each line
abbrev pub SharedStaysKnown : Type 0
SharedStaysKnown = (shared : SharedBook) (line : List ℕ) → IsKnown shared → IsKnown (share_machine shared line).0

-- no line changes the book's own language
abbrev pub OwnStays : Type 0
OwnStays = (shared : SharedBook) (line : List ℕ) → (share_machine shared line).0.book.language ≡ shared.book.language

-- a line did so, with this reply
pub record DoesShared (line : List ℕ) (old new : SharedBook) (told : List ℕ) : Type 0 where
  pub left : new ≡ (share_machine old line).0
  pub reply : told ≡ (share_machine old line).1

-- Of a run. ----

-- a whole run: nothing is left of the bytes, their lines are counted, and the book is the one that all of them leave, of a
-- book in which no user chose a language
pub record SharesAll (old new : Book) (lines : ℕ) (bytes left : List ℕ) : Type 0 where
  pub all : left ≡ []
  pub count : lines ≡ length (texts_of bytes)
  pub book : whole_of new ≡ (after share_machine (shared_from (whole_of old)) (texts_of bytes)).book

-- the replies to all lines
abbrev pub AppendsShared : Book → List ℕ → List ℕ → List ℕ → Type 0
AppendsShared old bytes before now = AppendsReplies share_machine (shared_from (whole_of old)) bytes before now

-- a book is that of a shared one
abbrev pub IsBookOf : Book → SharedBook → Type 0
IsBookOf book shared = whole_of book ≡ shared.book

-- so many lines were answered
pub record SharesAnswered (old new : Book) (lines : List (List ℕ)) (before now : Option (List ℕ)) (count : ℕ) : Type 0 where
  pub within : count ≤ length lines
  pub answered : HasAnswered share_machine (shared_from (whole_of old)) (IsBookOf new) count lines before now

-- the same, and one line more in part
pub record SharesPartly (old new : Book) (lines : List (List ℕ)) (before now : Option (List ℕ)) (count : ℕ) : Type 0 where
  pub within : count + 1 ≤ length lines
  pub answered : HasPartlyAnswered share_machine (shared_from (whole_of old)) (IsBookOf new) count lines before now

-- what an error leaves
abbrev pub LeavesShared : RunError → Book → Book → List ℕ → List ℕ → Option (List ℕ) → Option (List ℕ) → Type 0
LeavesShared e old new bytes left before now = Leaves (SharesAnswered old new (texts_of bytes) before now) (SharesPartly old new (texts_of bytes) before now) e bytes left

-- the same from a new book, which was made at some moment: the replies to all lines, and what an error leaves of them
abbrev pub AppendsSharedFrom : (List ℕ → Book) → List ℕ → List ℕ → List ℕ → Type 0
AppendsSharedFrom book bytes before now = (created : List ℕ) × AppendsShared (book created) bytes before now

abbrev pub LeavesSharedFrom : RunError → (List ℕ → Book) → List ℕ → List ℕ → Option (List ℕ) → Option (List ℕ) → Type 0
LeavesSharedFrom e book bytes left before now =
    (created : List ℕ) × LeavesReplies share_machine (shared_from (whole_of (book created))) (λ lines. Unit {0}) e bytes left before now
