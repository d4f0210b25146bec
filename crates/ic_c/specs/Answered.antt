-- What a call leaves of an open book, and what it tells.
use Rattle.std.specs.Prelude.{◌≡◌, ℕ, ◌<◌, ◌≤◌, ◌⊎◌, List, ◌++◌, length, take, drop, Option, Some, None}
use Rattle.ic_machine.specs.Book.{Book}
use Rattle.ic_machine.specs.Command.{commands}
use Rattle.ic_machine.specs.Run.{Machine, after, replies}
use Rattle.ic_machine.specs.Step.{machine}
use Rattle.ic_c.specs.Held.{book_of, reply_of}
use Rattle.ic_c.specs.declared.session.Open.{Open}
use Rattle.ic_c.specs.declared.session.Session.{Session}

-- the whole machine, by the table of all commands
abbrev pub whole_machine : Machine Book
whole_machine = machine commands

-- The whole machine answered these lines, one after another: the book is the one that they leave, and the reply that is kept
-- is all of its replies.
pub record Answered (lines : List (List ℕ)) (old new : Open) : Type 0 where
  pub book : book_of new ≡ after whole_machine (book_of old) lines
  pub reply : reply_of new ≡ replies whole_machine (book_of old) lines

-- it answered the first so many of them, and not all
pub record AnsweredFirst (lines : List (List ℕ)) (old new : Open) : Type 0 where
  pub count : ℕ
  pub fewer : count < length lines
  pub first : Answered (take count lines) old new

-- The reply stands at the front of what was room for it, where that has enough, with the status 0; and else nothing was
-- copied, with the status 2. Its length is told.
pub record Copied (reply before now : List ℕ) (told status : ℕ) : Type 0 where
  pub length_told : told ≡ length reply
  pub which : ((status ≡ 0) × (length reply ≤ length before)) ⊎ ((status ≡ 2) × (length before < length reply))
  pub copied : status ≡ 0 → now ≡ reply ++ drop (length reply) before
  pub no_room : status ≡ 2 → now ≡ before

-- All lines were answered, and their replies copied; or, with the status 1, memory ran out behind the first of them, whose
-- replies are kept.
abbrev pub Answers : List (List ℕ) → Open → Open → List ℕ → List ℕ → ℕ → ℕ → Type 0
Answers lines old new before now told status =
    (Answered lines old new × Copied (reply_of new) before now told status)
    ⊎ ((status ≡ 1) × AnsweredFirst lines old new × (told ≡ length (reply_of new)) × (now ≡ before))

-- nothing was done, since no book is open, with the status 3
pub record NotOpen (before now : List ℕ) (told status : ℕ) : Type 0 where
  pub code : status ≡ 3
  pub nothing : told ≡ 0
  pub untouched : now ≡ before

-- what is so of an open book before and after; where there is none, there is none after
abbrev pub OfOpen : (Open → Open → Type 0) → Type 0 → Option Open → Option Open → Type 0
OfOpen does none (Some old) (Some new) = does old new
OfOpen does none None None = none
OfOpen does none old new = ⊥

-- the same of what stands behind a room; its tables are as they were
pub record OfSession (does : Open → Open → Type 0) (none : Type 0) (old new : Session) : Type 0 where
  pub tables : new.tables ≡ old.tables
  pub opened : OfOpen does none old.opened new.opened

-- the same of a room
abbrev pub OfRoom : (Open → Open → Type 0) → Type 0 → Option Session → Option Session → Type 0
OfRoom does none (Some old) (Some new) = OfSession does none old new
OfRoom does none None None = none
OfRoom does none old new = ⊥

-- a call that answers lines on the book of a room
abbrev pub AnswersIn : List (List ℕ) → Option Session → Option Session → List ℕ → List ℕ → ℕ → ℕ → Type 0
AnswersIn lines old new before now told status =
    OfRoom (λ a b. Answers lines a b before now told status) (NotOpen before now told status) old new
