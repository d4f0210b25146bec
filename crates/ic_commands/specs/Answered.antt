-- What an answered command leaves and replies.
use Rattle.std.specs.Prelude.{◌≡◌, ℕ, List, ◌++◌, Bool, false, true, Option, Some, None, String, Result, Ok, Err, IfOk, OnErr, string_bytes}
use Rattle.std.specs.declared.alloc.Global.{Global}
use Rattle.ic_laws.specs.declared.memory.OutOfMemory.{OutOfMemory}
use Rattle.ic_machine.specs.Book as machine
use Rattle.ic_machine.specs.Book.{Stepped}
use Rattle.ic_machine.specs.Command.{Command, OnNotation, command_in, commands}
use Rattle.ic_machine.specs.Row.{joined, named}
use Rattle.ic_machine.specs.Readers.{is_reader}
use Rattle.ic_machine.specs.Reply.{Field, Reply, reply_bytes, reply_text}
use Rattle.ic_machine.specs.Step.{command_step, english_errors, line_step, step}
use Rattle.ic_words.specs.Reply.{IsLineText}
use Rattle.ic_parts.specs.Book.{Book, IsValidBook, ModelState}
use Rattle.ic_parts.specs.declared.error.BookError.{BookError}
use Rattle.ic_parts.specs.Does.{DoesStep, Memory}
use Rattle.ic_parts.specs.Whole.{whole_of}

-- a command on the locale, the language and the zone
abbrev pub is_on_notation : Command → Bool
is_on_notation (OnNotation command) = true
is_on_notation command = false

-- A command that only reads leaves all that contracts see of a model, and one on the notation which look-ups of formulas
-- are there.
pub record Keeps (command : Command) (old new : ModelState) : Type 0 where
  pub reads : is_reader command ≡ true → new ≡ old
  pub looks_up : is_on_notation command ≡ true → new.has_all ≡ old.has_all

-- A refusal leaves all that contracts see of a model as it was, what its formulas are found by too.
abbrev pub Stays : Reply → Command → ModelState → ModelState → Type 0
Stays (Err refusal) command old new = new ≡ old
Stays (Ok fields) command old new = Keeps command old new

-- so does a line that is no command
abbrev pub StaysAfter : Option Command → ModelState → ModelState → Type 0
StaysAfter None old new = new ≡ old
StaysAfter (Some command) old new = Stays (command_step (whole_of old.book) (Some command)).1 command old new

-- a command was done in a valid book, and left one
abbrev pub AreValid : Option Command → Book → Book → Type 0
AreValid None old new = Unit {0}
AreValid (Some command) old new = IsValidBook old × IsValidBook new

-- A line left of the whole book what the machine leaves, and this is its reply, which is one line. What changes nothing left
-- the model as it was.
pub record DoesLine (line : List ℕ) (old new : ModelState) (told : List ℕ) : Type 0 where
  pub book : whole_of new.book ≡ (line_step commands (whole_of old.book) line).0
  pub reply : told ≡ reply_bytes (line_step commands (whole_of old.book) line).1
  pub is_line : IsLineText (reply_text (line_step commands (whole_of old.book) line).1)
  pub stays : StaysAfter (command_in (english_errors (whole_of old.book)) commands line) old new
  pub valid : AreValid (command_in (english_errors (whole_of old.book)) commands line) old.book new.book

-- the command of a name and the words after it, where the English words of the error values are those of the book
abbrev pub command_of : ModelState → List ℕ → List (List ℕ) → Option Command
command_of state name words = joined (named (english_errors (whole_of state.book)) commands name words)

-- The same of the command that a line is, or of none.
pub record DoesCommand (command : Option Command) (old new : ModelState) (told : List ℕ) : Type 0 where
  pub book : whole_of new.book ≡ (command_step (whole_of old.book) command).0
  pub reply : told ≡ reply_bytes (command_step (whole_of old.book) command).1
  pub is_line : IsLineText (reply_text (command_step (whole_of old.book) command).1)
  pub stays : StaysAfter command old new
  pub valid : AreValid command old.book new.book

-- What a name and the words after it say is done and replied to; where there is no reply, the book is as it was.
pub record RepliesTo (name : List ℕ) (words : List (List ℕ)) (old new : ModelState) (result : Result (String Global) OutOfMemory) : Type 0 where
  pub ok : IfOk result (λ reply. DoesCommand (command_of old name words) old new (string_bytes reply))
  pub err : OnErr result (new.book ≡ old.book)

-- a line's step without the reply
pub record LeavesLine (line : List ℕ) (old new : ModelState) : Type 0 where
  pub book : whole_of new.book ≡ (line_step commands (whole_of old.book) line).0
  pub stays : StaysAfter (command_in (english_errors (whole_of old.book)) commands line) old new
  pub valid : AreValid (command_in (english_errors (whole_of old.book)) commands line) old.book new.book

-- The command made its step, and the step's reply, which is one line, was put behind a text.
pub record IsAnswered (command : Command) (old new : ModelState) (before after : List ℕ) : Type 0 where
  pub book : whole_of new.book ≡ (command_step (whole_of old.book) (Some command)).0
  pub reply : after ≡ before ++ reply_bytes (command_step (whole_of old.book) (Some command)).1
  pub line : IsLineText (reply_text (command_step (whole_of old.book) (Some command)).1)
  pub stays : StaysAfter (Some command) old new
  pub valid_before : IsValidBook old.book
  pub valid_after : IsValidBook new.book

-- What a call did is told: whatever command it did is answered by it, and where the fields take no memory, there is no reply
-- only where the call left the book as it was.
pub record Tells {T : Type 0} (fields : T → List Field) (memory : Bool) (done : Result T BookError) (before : List ℕ) (result : Result (String Global) OutOfMemory) : Type 0 where
  pub ok : (wants : Memory) (command : Command) (old new : ModelState) → DoesStep wants (step (whole_of old.book) command) fields done old new
      → Keeps command old new → IfOk result (λ text. IsAnswered command old new before (string_bytes text))
  pub err : (wants : Memory) (made : Stepped machine.Book) (old new : ModelState) → memory ≡ false → DoesStep wants made fields done old new → OnErr result (new.book ≡ old.book)

-- The command is answered; where there is no reply, the book is as it was.
pub record Answers (command : Command) (old new : ModelState) (before : List ℕ) (result : Result (String Global) OutOfMemory) : Type 0 where
  pub ok : IfOk result (λ text. IsAnswered command old new before (string_bytes text))
  pub err : OnErr result (new.book ≡ old.book)
