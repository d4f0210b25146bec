-- The commands that only read.
use Rattle.std.specs.Prelude.{◌≡◌, Bool, true, false, Ok, Err}
use Rattle.ic_machine.specs.Action.{only_asks}
use Rattle.ic_machine.specs.Book.{Book, Stepped}
use Rattle.ic_machine.specs.Command.{Command, action}

abbrev pub is_reader : Command → Bool
is_reader command = only_asks (action command)

-- what a step leaves, if it isn't refused, is the book before it
abbrev pub Leaves : Book → Stepped Book → Type 0
Leaves book (Ok done) = done.0 ≡ book
Leaves book (Err refusal) = Unit {0}

-- asked of a command that only reads
abbrev pub LeavesIf : Bool → Book → Stepped Book → Type 0
LeavesIf true book stepped = Leaves book stepped
LeavesIf false book stepped = Unit {0}
