-- A cell that is typed what it showed holds what it held.
use Rattle.std.proofs.Common.{ℕ, ℤ, List, Result, Ok, Err}
use Rattle.std.specs.Result.{OnOk}
use Rattle.ic_machine.proofs.valid.RetypedLemmas.{retyped_stays}
use Rattle.ic_machine.specs.subjects.Writing.{SetUserInput, writing_step}
use Rattle.ic_parts.specs.Book.{ModelState}
use Rattle.ic_parts.specs.Does.{DoesStep, WantedIn}
use Rattle.ic_parts.specs.Fields.{no_fields}
use Rattle.ic_parts.specs.Retyped.{Retypes}
use Rattle.ic_parts.specs.Whole.{whole_of}
use Rattle.ic_parts.specs.declared.error.BookError.{BookError}

pub retyped_so : (index : ℕ) (row column : ℤ) (text : List ℕ) (old new : ModelState) (result : Result Unit BookError) → DoesStep WantedIn (writing_step (whole_of old.book) (SetUserInput index row column text)) no_fields result old new
    → OnOk result (Retypes index row column text old new)
retyped_so index row column text old new (Ok value) does = λ read sheet found shows. retyped_stays (whole_of old.book) read (whole_of new.book) index (row, column) sheet text (no_fields value) does.before.whole found shows does.done
retyped_so index row column text old new (Err e) does = tt
