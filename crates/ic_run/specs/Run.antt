-- What a run of lines leaves and writes, at its end and after an error.
use Rattle.std.specs.Prelude.{◌≡◌, ℕ, ◌+◌, ◌<◌, ◌≤◌, ◌⊎◌, List, [], ◌∷◌, ◌++◌, length, take, Option}
use Rattle.ic_laws.specs.Lines.{texts_of}
use Rattle.ic_lines.specs.Bytes.{IfTold}
use Rattle.ic_lines.specs.Reading.{line_feeds}
use Rattle.ic_lines.specs.declared.error.RunError.{RunError}
use Rattle.ic_lines.specs.declared.error.RunError.TheVariants as errors
use Rattle.ic_machine.specs.Run.{Machine, after, replies}
use Rattle.ic_parts.specs.Whole.{whole_of}
use Rattle.ic_parts.specs.Book.{Book, ModelState, StepsTo, core_of, notations_in}
use Rattle.ic_commands.specs.Answered.{LeavesLine}
use Rattle.ic_run.specs.Core.{AreCore, IsPlainBook, identity_machine, whole_machine}

-- so many lines were read with the line feed that ends them, or the source to its end
abbrev pub AreRead : ℕ → List ℕ → List ℕ → Type 0
AreRead count bytes left = (left ≡ []) ⊎ (count + line_feeds left ≤ line_feeds bytes)

-- What an error leaves, by what is so where so many lines were answered, and where one line more was answered in part. Where
-- a read failed or there were too many turns, each line whose line feed was read was answered; where memory ran out, some
-- of the first lines were; where a write failed, the last of them in part.
abbrev pub Leaves : (answered partly : ℕ → Type 0) → RunError → List ℕ → List ℕ → Type 0
Leaves answered partly errors.ReadFault bytes left = (count : ℕ) × (count + line_feeds left ≡ line_feeds bytes) × answered count
Leaves answered partly errors.TooManyTurns bytes left = (count : ℕ) × (count + line_feeds left ≡ line_feeds bytes) × answered count
Leaves answered partly errors.OutOfMemory bytes left = (count : ℕ) × AreRead count bytes left × answered count
Leaves answered partly errors.WriteFault bytes left = (count : ℕ) × AreRead (count + 1) bytes left × partly count

-- Over any machine, from a state. ----

module _ {S : Type 0} (machine : Machine S) (state : S) where
  -- its replies to the lines of the bytes stand after what was written before
  abbrev pub AppendsReplies : List ℕ → List ℕ → List ℕ → Type 0
  AppendsReplies bytes before now = now ≡ before ++ replies machine state (texts_of bytes)

  -- its replies to the first so many lines do
  abbrev pub HasReplied : ℕ → List (List ℕ) → List ℕ → List ℕ → Type 0
  HasReplied count lines before now = now ≡ before ++ replies machine state (take count lines)

  -- they do, and of its next reply a front that isn't all of it
  pub record HasPartlyReplied (count : ℕ) (lines : List (List ℕ)) (before now : List ℕ) : Type 0 where
    pub bytes : ℕ
    pub whole : length (replies machine state (take count lines)) ≤ bytes
    pub part : bytes < length (replies machine state (take (count + 1) lines))
    pub written : now ≡ before ++ take bytes (replies machine state (take (count + 1) lines))

  -- Exactly the first so many lines were answered: what was reached is the state that they leave, and its replies to them
  -- were appended.
  pub record HasAnswered (reached : S → Type 0) (count : ℕ) (lines : List (List ℕ)) (before now : Option (List ℕ)) : Type 0 where
    pub left : reached (after machine state (take count lines))
    pub told : IfTold before now (HasReplied count lines)

  -- the same, and one line more, whose reply was appended in part
  pub record HasPartlyAnswered (reached : S → Type 0) (count : ℕ) (lines : List (List ℕ)) (before now : Option (List ℕ)) : Type 0 where
    pub left : reached (after machine state (take (count + 1) lines))
    pub told : IfTold before now (HasPartlyReplied count lines)

  -- what an error leaves of its replies, where the lines that were answered are such
  abbrev pub LeavesReplies : (List (List ℕ) → Type 0) → RunError → List ℕ → List ℕ → Option (List ℕ) → Option (List ℕ) → Type 0
  LeavesReplies are e bytes left before now =
      Leaves (λ count. are (take count (texts_of bytes)) → IfTold before now (HasReplied count (texts_of bytes)))
      (λ count. are (take (count + 1) (texts_of bytes)) → IfTold before now (HasPartlyReplied count (texts_of bytes))) e bytes left

-- Of a run. ----

-- a whole run: nothing is left of the bytes, their lines are counted, and if they are core lines, and no cells were merged
-- and no array had several cells, the book is the one that the identity machine leaves
pub record TakesAll (old new : Book) (lines : ℕ) (bytes left : List ℕ) : Type 0 where
  pub all : left ≡ []
  pub count : lines ≡ length (texts_of bytes)
  pub book : IsPlainBook (whole_of old) → AreCore old.tables (texts_of bytes) → StepsTo old new (after (identity_machine (notations_in old)) (core_of old) (texts_of bytes))

-- lines one after another, each of which left what it leaves
abbrev pub LinesDo : List (List ℕ) → ModelState → ModelState → Type 0
LinesDo [] old new = new ≡ old
LinesDo (line ∷ lines) old new = (mid : ModelState) × LeavesLine line old mid × LinesDo lines mid new

-- the whole book is the one that the whole machine leaves after the lines of the bytes
abbrev pub IsAfterAll : Book → Book → List ℕ → List ℕ → Type 0
IsAfterAll old new bytes left = whole_of new ≡ after whole_machine (whole_of old) (texts_of bytes)

-- So many lines were answered by the whole machine; and by the identity machine, if they are core lines and no cells were merged
-- and no array had several cells.
pub record RunsAnswered (old new : Book) (lines : List (List ℕ)) (before now : Option (List ℕ)) (count : ℕ) : Type 0 where
  pub within : count ≤ length lines
  pub whole : HasAnswered whole_machine (whole_of old) (λ left. whole_of new ≡ left) count lines before now
  pub core : IsPlainBook (whole_of old) → AreCore old.tables (take count lines) → HasAnswered (identity_machine (notations_in old)) (core_of old) (StepsTo old new) count lines before now

-- the same, and one line more in part
pub record RunsPartly (old new : Book) (lines : List (List ℕ)) (before now : Option (List ℕ)) (count : ℕ) : Type 0 where
  pub within : count + 1 ≤ length lines
  pub whole : HasPartlyAnswered whole_machine (whole_of old) (λ left. whole_of new ≡ left) count lines before now
  pub core : IsPlainBook (whole_of old) → AreCore old.tables (take (count + 1) lines) → HasPartlyAnswered (identity_machine (notations_in old)) (core_of old) (StepsTo old new) count lines before now

-- what an error leaves of a run
abbrev pub LeavesRun : RunError → Book → Book → List ℕ → List ℕ → Option (List ℕ) → Option (List ℕ) → Type 0
LeavesRun e old new bytes left before now = Leaves (RunsAnswered old new (texts_of bytes) before now) (RunsPartly old new (texts_of bytes) before now) e bytes left

-- each error has its cause: a fault of the source, a fault of the sink, too many turns; that memory ran out needs none
abbrev pub HasCause : (read write turns : Type 0) → RunError → Type 0
HasCause read write turns errors.ReadFault = read
HasCause read write turns errors.WriteFault = write
HasCause read write turns errors.TooManyTurns = turns
HasCause read write turns errors.OutOfMemory = Unit {0}

-- the replies of the whole machine, from the whole of a book that was made at some moment
abbrev pub AppendsWhole : (List ℕ → Book) → List ℕ → List ℕ → List ℕ → Type 0
AppendsWhole book bytes before now = (created : List ℕ) × AppendsReplies whole_machine (whole_of (book created)) bytes before now

-- and what an error leaves of them, whatever the lines are
abbrev pub LeavesWhole : RunError → (List ℕ → Book) → List ℕ → List ℕ → Option (List ℕ) → Option (List ℕ) → Type 0
LeavesWhole e book bytes left before now = (created : List ℕ) × LeavesReplies whole_machine (whole_of (book created)) (λ lines. Unit {0}) e bytes left before now
