-- A command that only reads leaves the book as it was.
use Rattle.std.proofs.Common.{Ok, Err}
use Rattle.ic_machine.specs.Action.{Action, Asks, only_asks}
use Rattle.ic_machine.specs.Book.{Book, Stepped}
use Rattle.ic_machine.specs.Command.{Command, action}
use Rattle.ic_machine.specs.Kinds.{IsLeftBy, LeavesSo}
use Rattle.ic_machine.specs.Readers.{LeavesIf, is_reader}
use Rattle.ic_machine.specs.Step.{step}
use Rattle.ic_machine.proofs.kinds.KindLemmas.{left_by_kind}

by_asking : (b : Book) (a : Action) (stepped : Stepped Book) → LeavesSo (IsLeftBy a) b stepped → LeavesIf (only_asks a) b stepped
by_asking b (Asks f) (Ok done) h = h
by_asking b (Asks f) (Err refusal) h = tt
by_asking b a stepped h = tt

pub readers_leave : (b : Book) (command : Command) → LeavesIf (is_reader command) b (step b command)
readers_leave b command = by_asking b (action command) (step b command) (left_by_kind b command)
