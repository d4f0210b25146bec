-- A book that users share, each in a language of their own, and what one line does to it.
use Rattle.std.specs.Prelude.{ℕ, List, Option, Some, None, unwrap_or, Ok, Err}
use Rattle.std.specs.Cmp.Lexicographic.{slice_cmp}
use Rattle.std.specs.FinMap as finite
use Rattle.std.specs.FinMap.{FinMap}
use Rattle.std.specs.Ordering.{nat_cmp}
use Rattle.ic_machine.specs.Book.{Book}
use Rattle.ic_machine.specs.Command.{Command, OnNotation, command_in, commands}
use Rattle.ic_machine.specs.Refusal.{BadLine}
use Rattle.ic_machine.specs.Reply.{Reply, reply_bytes}
use Rattle.ic_machine.specs.Run.{Machine}
use Rattle.ic_machine.specs.Step.{english_errors, line_step}
use Rattle.ic_machine.specs.subjects.Notation.{SetLanguage}
use Rattle.ic_share.specs.Users.{Sent, sent_in}

-- the languages that users chose, by the users' texts
abbrev pub Languages : Type 0
Languages = FinMap {K = List ℕ} (slice_cmp nat_cmp) (List ℕ)

-- a whole book, whose own language is that of the start, and the users' languages
pub record SharedBook : Type 0 where
  pub book : Book
  pub languages : Languages

-- a book that no user chose a language in
abbrev pub shared_from : Book → SharedBook
shared_from book = record { book = book; languages = finite.empty }

-- a user who chose none has the book's own
abbrev pub language_of : SharedBook → List ℕ → List ℕ
language_of shared user = unwrap_or (finite.get shared.languages user) shared.book.language

-- a book in a language
abbrev pub in_language : List ℕ → Book → Book
in_language language book = record book { language = language }

-- the language that a command chooses, if it does
abbrev pub language_chosen : Option Command → Option (List ℕ)
language_chosen (Some (OnNotation (SetLanguage id))) = Some id
language_chosen command = None

-- a language that was chosen is the user's from then on, and no one else's
abbrev pub with_choice : List ℕ → Option (List ℕ) → Languages → Languages
with_choice user (Some language) languages = finite.insert languages user language
with_choice user None languages = languages

-- a refused choice is none
abbrev pub languages_left : List ℕ → Option Command → Reply → Languages → Languages
languages_left user command (Ok fields) languages = with_choice user (language_chosen command) languages
languages_left user command (Err refusal) languages = languages

-- what a user's command line does, and its reply, in the book with the user's language
abbrev pub done_for : SharedBook → Sent → Book × Reply
done_for shared sent = line_step commands (in_language (language_of shared sent.user) shared.book) sent.command

-- What is left then: the book with its own language again, and the languages, where a choice is the user's.
abbrev pub left_for : SharedBook → Sent → Book × Reply → SharedBook
left_for shared sent done = record {
  book = in_language shared.book.language done.0;
  languages = languages_left sent.user (command_in (english_errors shared.book) commands sent.command) done.1 shared.languages;
}

-- what a line leaves, and its reply; nobody's line is bad and changes nothing
abbrev pub sent_step : SharedBook → Option Sent → SharedBook × Reply
sent_step shared (Some sent) = (left_for shared sent (done_for shared sent), (done_for shared sent).1)
sent_step shared None = (shared, Err BadLine)

-- the machine of shared books
abbrev pub share_machine : Machine SharedBook
share_machine shared line = ((sent_step shared (sent_in line)).0, reply_bytes (sent_step shared (sent_in line)).1)
