-- What a reader of lines holds, what it takes, and what it gives.
use Rattle.std.specs.Prelude.{◌≡◌, ℕ, ◌+◌, ◌-◌, ◌*◌, ◌<◌, ◌≤◌, List, [], ◌∷◌, ◌++◌, length, take, drop, Bool, true, false, ◌==◌, ◌&&◌, ◌||◌, nat_lt, ◌⊎◌, Option, Some, None, IsSome, Contains, if◌then◌else◌}
use Rattle.std.specs.List.{list_any}
use Rattle.ic_laws.specs.Character.{carriage_return, line_feed}
use Rattle.ic_laws.specs.Lines.{texts_of}
use Rattle.ic_lines.specs.Bytes.{IfTold}

-- the bytes that were taken and not given yet, whether the end of the source was seen, and how many reads gave a byte
pub record Reading : Type 0 where
  pub held : List ℕ
  pub ended : Bool
  pub turns : ℕ

-- the bytes that one read is handed room for
abbrev pub read_room : ℕ
read_room = 4096

-- the reads with a byte that a reader makes at the most
abbrev pub most_turns : ℕ
most_turns = 4294967296

-- the bytes that are still to be given as lines: those held, and those that the source has left, which isn't asked
-- again once its end was seen
abbrev pub unread : Reading → List ℕ → List ℕ
unread reader left = reader.held ++ (if reader.ended then [] else left)

-- the most bytes that a reader can still give: those held, and what each turn that is left can bring
abbrev pub budget : Reading → ℕ
budget reader = length reader.held + read_room * (most_turns - reader.turns)

-- Whether a reader saw the end before and after a call, and whether its source had shown it: the source showed it in the
-- call exactly where the reader came to see it there, which it never unlearns.
pub record SeesEnd (old new : Bool) (before now : Bool) : Type 0 where
  pub stays : old ≡ true → new ≡ true
  pub seen : old ≡ false → new ≡ true → now ≡ true
  pub unseen : new ≡ old → now ≡ before

-- a line is the first of those that were to come; at the end none comes
abbrev pub GivesLine : Option (List ℕ) → List ℕ → List ℕ → Type 0
GivesLine (Some line) before now = texts_of before ≡ line ∷ texts_of now
GivesLine None before now = (before ≡ []) × (now ≡ [])

-- some byte, or some character, is a line feed
abbrev pub has_line_feed : List ℕ → Bool
has_line_feed bytes = list_any (λ b. b == line_feed) bytes

-- how many of the bytes are line feeds: so many lines end with one
abbrev pub line_feeds : List ℕ → ℕ
line_feeds [] = 0
line_feeds (b ∷ bytes) = if b == line_feed then line_feeds bytes + 1 else line_feeds bytes

-- the first line feed stands after this many bytes
pub record IsFirstLineFeed (bytes : List ℕ) (n : ℕ) : Type 0 where
  pub within : n < length bytes
  pub parts : bytes ≡ take n bytes ++ line_feed ∷ drop (n + 1) bytes
  pub first : has_line_feed (take n bytes) ≡ false

-- the bytes without a carriage return at their end
abbrev pub without_return : List ℕ → List ℕ
without_return [] = []
without_return (b ∷ []) = if b == carriage_return then [] else b ∷ []
without_return (b ∷ c ∷ bytes) = b ∷ without_return (c ∷ bytes)

-- what stands before the first line feed and what stands after it: all and nothing where there is none
abbrev pub before_line_feed : List ℕ → List ℕ
before_line_feed [] = []
before_line_feed (b ∷ bytes) = if b == line_feed then [] else b ∷ before_line_feed bytes

abbrev pub after_line_feed : List ℕ → List ℕ
after_line_feed [] = []
after_line_feed (b ∷ bytes) = if b == line_feed then bytes else after_line_feed bytes

-- a reader holds a line: a whole one, or, where it saw the end, a last one without a line feed
abbrev pub holds_line : Reading → Bool
holds_line reader = has_line_feed reader.held || reader.ended && nat_lt 0 (length reader.held)

-- the same without the first line that it holds
abbrev pub passed : Reading → Reading
passed reader = record reader { held = after_line_feed reader.held }

-- the bytes of the first line: those before the first line feed, without a carriage return at their end
abbrev pub first_line : List ℕ → List ℕ
first_line bytes = if has_line_feed bytes then without_return (before_line_feed bytes) else bytes

-- a reader gave a line, or none, of what it held, whatever the source has left
pub record GivesHeld (line : Option (List ℕ)) (old new : Reading) : Type 0 where
  pub gives : (left : List ℕ) → GivesLine line (unread old left) (unread new left)
  pub ended : new.ended ≡ old.ended
  pub turns : new.turns ≡ old.turns
  pub fewer : IsSome line → length new.held < length old.held

-- a reader has to ask its source: it holds no whole line, and saw no end
pub record HasToAsk (reader : Reading) : Type 0 where
  pub no_line : has_line_feed reader.held ≡ false
  pub still_open : reader.ended ≡ false

-- these bytes came next from the source, and stand after those that were held
pub record TakesAfter (got old new : List ℕ) (before now : Option (List ℕ)) : Type 0 where
  pub held : new ≡ old ++ got
  pub told : IfTold before now (λ x y. x ≡ got ++ y)

-- one read at the most took bytes, no more than it was handed room for
pub record TakesRead (old new : Reading) (before now : Option (List ℕ)) : Type 0 where
  pub got : List ℕ
  pub few : length got ≤ read_room
  pub taken : TakesAfter got old.held new.held before now

-- Reads took bytes: nothing where a whole line was held or the end was seen, and otherwise bytes of which only the
-- last read's can have brought a line feed.
pub record TakesLine (old new : Reading) (before now : Option (List ℕ)) : Type 0 where
  pub front : List ℕ
  pub last : List ℕ
  pub taken : TakesAfter (front ++ last) old.held new.held before now
  pub no_line : has_line_feed old.held ≡ false → has_line_feed (old.held ++ front) ≡ false
  pub one_read : length last ≤ read_room
  pub unasked : Contains old.held line_feed ⊎ (old.ended ≡ true) → new ≡ old

-- a read saw the end, or gave a byte
abbrev pub GoesOn : Reading → Reading → Type 0
GoesOn old new = ((new.ended ≡ true) × (new.turns ≡ old.turns)) ⊎ ((new.ended ≡ false) × (new.turns ≡ old.turns + 1) × (new.turns ≤ most_turns))
