-- No line changes the tables of a book.
use Rattle.std.proofs.Common.{◌≡◌, ℕ, List, Option, Some, None, Ok, Err, refl}
use Rattle.ic_machine.proofs.kinds.KindLemmas.{left_by_kind, tables_left}
use Rattle.ic_machine.specs.Action.{Action}
use Rattle.ic_machine.specs.Book.{Book, Stepped}
use Rattle.ic_machine.specs.Command.{Command, action, command_in, commands}
use Rattle.ic_machine.specs.Kinds.{IsLeftBy, LeavesSo}
use Rattle.ic_machine.specs.Step.{command_step, english_errors, outcome_of, step}
use Rattle.ic_machine.specs.Translation.{left_after}

module _ (b : Book) where
  by_kind : (a : Action) (made : Stepped Book) → LeavesSo (IsLeftBy a) b made → (outcome_of b made).0.tables ≡ b.tables
  by_kind a (Ok done) h = tables_left b a done.0 h
  by_kind a (Err refusal) h = refl

  by_command : (o : Option Command) → (command_step b o).0.tables ≡ b.tables
  by_command None = refl
  by_command (Some command) = by_kind (action command) (step b command) (left_by_kind b command)

  pub tables_stay : (line : List ℕ) → (left_after b line).tables ≡ b.tables
  tables_stay line = by_command (command_in (english_errors b) commands line)
