-- One step of the whole machine; and what a line leaves and answers.
use Rattle.std.specs.Prelude.{ℕ, List, Option, Some, None, Ok, Err}
use Rattle.ic_laws.specs.Notations.{Notations}
use Rattle.ic_laws.specs.Command as core
use Rattle.ic_laws.specs.CoreBook.{CoreBook}
use Rattle.ic_laws.specs.Lines as lines
use Rattle.ic_tables.specs.Tables.{english, error_words_in}
use Rattle.ic_machine.specs.Action.{perform}
use Rattle.ic_machine.specs.Book.{Book, Stepped}
use Rattle.ic_machine.specs.Command.{Command, action, command_in}
use Rattle.ic_machine.specs.Refusal.{BadLine}
use Rattle.ic_machine.specs.Reply.{Reply, reply_bytes}
use Rattle.ic_machine.specs.Row.{Row}
use Rattle.ic_machine.specs.Run.{Machine}

abbrev pub step : Book → Command → Stepped Book
step book command = perform book (action command)

-- a refused command changes nothing
abbrev pub outcome_of : Book → Stepped Book → Book × Reply
outcome_of book (Ok done) = (done.0, Ok done.1)
outcome_of book (Err refusal) = (book, Err refusal)

-- what a command leaves, and its reply; without one the line is bad
abbrev pub command_step : Book → Option Command → Book × Reply
command_step book (Some command) = outcome_of book (step book command)
command_step book None = (book, Err BadLine)

-- the English words of the error values, by the tables of a book
abbrev pub english_errors : Book → List (List ℕ)
english_errors book = error_words_in (english book.tables.languages)

-- what a line leaves, by the commands of a table, and its reply
abbrev pub line_step : List (Row Command) → Book → List ℕ → Book × Reply
line_step rows book line = command_step book (command_in (english_errors book) rows line)

-- the whole machine, with the commands of a table
abbrev pub machine : List (Row Command) → Machine Book
machine rows book line = ((line_step rows book line).0, reply_bytes (line_step rows book line).1)

-- the identity machine, with a table of its commands
abbrev pub core_machine : Notations → List core.CommandRow → Machine CoreBook
core_machine n rows book line = ((lines.line_step n rows book line).0, lines.reply_bytes (lines.line_step n rows book line).1)
