-- Command lines: how bytes fall into lines, a line into words and words into texts, and what a run of lines
-- leaves and answers.
use Rattle.std.specs.Prelude.{◌≡◌, ◌⊎◌, ℕ, List, [], ◌∷◌, ◌++◌, Bool, false, ◌&&◌, ◌==◌, map, flat_map, Option, Some, None, option_map, option_and_then, Result, Ok, Err, if◌then◌else◌, codes, chars, encode_utf8_all}
use Rattle.std.specs.List.{list_any, onto_first, slice_split}
use Rattle.std.specs.Str.{is_utf8}
use Rattle.ic_laws.specs.Character.{backslash, carriage_return, line_feed, lower_n, lower_r, lower_t, tab}
use Rattle.ic_laws.specs.Command.{Command, Field, CommandRow, field_text, named_command}
use Rattle.ic_laws.specs.CoreBook.{CoreBook}
use Rattle.ic_laws.specs.CoreStep.{Outcome, core_step}
use Rattle.ic_laws.specs.Notations.{Notations}
use Rattle.ic_laws.specs.Refusal.{Refusal, BadLine, refusal_name}

-- the bytes begin with a line feed
abbrev pub at_line_feed : List ℕ → Bool
at_line_feed [] = false
at_line_feed (b ∷ bs) = b == line_feed

-- A line ends with a line feed, and one carriage return directly before that is no part of it. After the last
-- line feed a line stands where there is anything.
abbrev pub lines_of : List ℕ → List (List ℕ)
lines_of [] = []
lines_of (b ∷ bs) = if b == line_feed then [] ∷ lines_of bs else if b == carriage_return && at_line_feed bs then lines_of bs else onto_first b (lines_of bs)

-- no byte is a line feed
abbrev pub HoldsNoLineFeed : List ℕ → Type 0
HoldsNoLineFeed bytes = list_any (λ b. b == line_feed) bytes ≡ false

-- What stands before a line feed is the line and one carriage return. It is the line alone where it doesn't end with one.
abbrev pub StandsBeforeFeed : List ℕ → List ℕ → Type 0
StandsBeforeFeed piece line =
    (piece ≡ line ++ carriage_return ∷ []) ⊎ ((piece ≡ line) × ((front : List ℕ) → ¬ (line ≡ front ++ carriage_return ∷ [])))

-- the bytes begin with this line and its line feed, and this is what comes after it
pub record BeginsWithLine (bytes line rest : List ℕ) : Type 0 where
  pub piece : List ℕ
  pub within : HoldsNoLineFeed piece
  pub stands : StandsBeforeFeed piece line
  pub whole : bytes ≡ piece ++ line_feed ∷ rest

-- the bytes are one line without a line feed
pub record IsLastLine (bytes line : List ℕ) (others : List (List ℕ)) : Type 0 where
  pub within : HoldsNoLineFeed line
  pub some : ¬ (line ≡ [])
  pub same : bytes ≡ line
  pub alone : others ≡ []

-- The same as a relation: the lines joined by line feeds are the bytes, except for one carriage return directly before
-- each line feed.
abbrev pub FallsIntoLines : List ℕ → List (List ℕ) → Type 0
FallsIntoLines bytes [] = bytes ≡ []
FallsIntoLines bytes (line ∷ lines) = ((rest : List ℕ) × BeginsWithLine bytes line rest × FallsIntoLines rest lines) ⊎ IsLastLine bytes line lines

-- the text of a line's bytes; a line that isn't UTF-8 counts as the empty line, which is no command either
abbrev pub line_text : List ℕ → List ℕ
line_text bytes = if is_utf8 bytes then chars bytes else []

-- the lines of the bytes as texts
abbrev pub texts_of : List ℕ → List (List ℕ)
texts_of bytes = map line_text (lines_of bytes)

-- the words of a line stand between its tabs
abbrev pub words_of : List ℕ → List (List ℕ)
words_of line = slice_split (λ c. c == tab) line

-- how a character is written in a word: a backslash, a tab, a line feed and a carriage return by an escape
abbrev pub escape_of : ℕ → List ℕ
escape_of c =
    if c == backslash then codes "\\\\" else if c == tab then codes "\\t" else if c == line_feed then codes "\\n" else if c == carriage_return then codes "\\r" else c ∷ []

-- a text as it is written in a word
abbrev pub escaped : List ℕ → List ℕ
escaped text = flat_map escape_of text

-- what a backslash with this character after it stands for
abbrev pub escape_meaning : ℕ → Option ℕ
escape_meaning c = if c == backslash then Some backslash else if c == lower_t then Some tab else if c == lower_n then Some line_feed else if c == lower_r then Some carriage_return else None

-- the text that a word spells, read from left to right; none where a backslash begins no escape
abbrev pub unescaped : List ℕ → Option (List ℕ)
unescaped [] = Some []
unescaped (c ∷ []) = if c == backslash then None else Some (c ∷ [])
unescaped (c ∷ d ∷ cs) =
    if c == backslash then option_and_then (λ m. option_map (λ t. m ∷ t) (unescaped cs)) (escape_meaning d)
    else option_map (λ t. c ∷ t) (unescaped (d ∷ cs))

-- the texts of words; none where one has a wrong escape
abbrev pub word_texts : List (List ℕ) → Option (List (List ℕ))
word_texts [] = Some []
word_texts (w ∷ ws) = option_and_then (λ t. option_map (λ ts. t ∷ ts) (word_texts ws)) (unescaped w)

-- the command that words spell by a table: its name, and its texts after that
abbrev pub spelled_command : List CommandRow → List (List ℕ) → Option Command
spelled_command table [] = None
spelled_command table (name ∷ words) = option_and_then (named_command table name) (word_texts words)

-- the command that a line is, if it is one of a table
abbrev pub command_of : List CommandRow → List ℕ → Option Command
command_of table line = spelled_command table (words_of line)

-- the fields of a reply, or why there are none
abbrev pub Reply : Type 0
Reply = Result (List Field) Refusal

-- the text of a reply, without the line feed at its end
abbrev pub reply_text : Reply → List ℕ
reply_text (Ok fields) = codes "ok" ++ flat_map (λ field. tab ∷ escaped (field_text field)) fields
reply_text (Err refusal) = codes "error" ++ tab ∷ refusal_name refusal

-- its bytes
abbrev pub reply_bytes : Reply → List ℕ
reply_bytes reply = encode_utf8_all (reply_text reply) ++ line_feed ∷ []

-- a refused line changes nothing
abbrev pub outcome_of : CoreBook → Outcome → CoreBook × Reply
outcome_of book (Ok done) = (done.0, Ok done.1)
outcome_of book (Err refusal) = (book, Err refusal)

-- what a command leaves, and its reply; without one the line is bad
abbrev pub command_step : Notations → CoreBook → Option Command → CoreBook × Reply
command_step n book (Some command) = outcome_of book (core_step n book command)
command_step n book None = (book, Err BadLine)

-- runs by the commands of a table
module _ (n : Notations) (table : List CommandRow) where
  -- what one line leaves, and its reply
  abbrev pub line_step : CoreBook → List ℕ → CoreBook × Reply
  line_step book line = command_step n book (command_of table line)

  -- the book that lines leave
  abbrev pub after : CoreBook → List (List ℕ) → CoreBook
  after book [] = book
  after book (line ∷ lines) = after (line_step book line).0 lines

  -- the bytes of the replies to lines
  abbrev pub replies : CoreBook → List (List ℕ) → List ℕ
  replies book [] = []
  replies book (line ∷ lines) = reply_bytes (line_step book line).1 ++ replies (line_step book line).0 lines
