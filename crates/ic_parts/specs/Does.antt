-- What a call does, by the step of the whole machine that it makes.
use Rattle.std.specs.Prelude.{◌≡◌, ◌⊎◌, List, Bool, true, false, Option, Some, None, Result, Ok, Err}
use Rattle.ic_laws.specs.Refusal as core
use Rattle.ic_machine.specs.Book as machine
use Rattle.ic_machine.specs.Book.{Stepped}
use Rattle.ic_machine.specs.Refusal.{OfCore, Refusal}
use Rattle.ic_machine.specs.Reply.{Field}
use Rattle.ic_parts.specs.Book.{IsValidBook, ModelState}
use Rattle.ic_parts.specs.Refused.{refusal_of}
use Rattle.ic_parts.specs.Whole.{whole_of, whole_tab}
use Rattle.ic_sheets.specs.declared.tab.Tab.{Tab}
use Rattle.std.specs.Prelude.{ℕ}
use Rattle.ic_grid.specs.declared.grid.Grid.{Grid}
use Rattle.ic_parts.specs.Book.{whole_grid}
use Rattle.ic_parts.specs.declared.error.BookError.{BookError}

-- when a call may run out of memory: never; only where its step isn't refused; there, or where this refusal holds, which
-- needs memory to be seen, whether the identity machine has it or not; there, or where one holds that passes a test; and only
-- where it isn't refused, but what formulas are found by may have grown then
pub data Memory : Type 0 where
  Never : Memory
  Wanted : Memory
  WantedOr : (late : core.Refusal) → Memory
  WantedOrWhole : (late : Refusal) → Memory
  WantedWhere : (is_late : Refusal → Bool) → Memory
  WantedIn : Memory

-- a step isn't refused
abbrev pub IsDone : {A : Type 0} → Stepped A → Type 0
IsDone (Ok done) = Unit {0}
IsDone (Err refusal) = ⊥

-- it isn't, or by a refusal that passes a test
abbrev pub IsDoneOr : (Refusal → Bool) → {A : Type 0} → Stepped A → Type 0
IsDoneOr is_late (Ok done) = Unit {0}
IsDoneOr is_late (Err refusal) = is_late refusal ≡ true

-- memory ran out at a step from the first state, and the second is left
abbrev pub Wants : Memory → Stepped machine.Book → ModelState → ModelState → Type 0
Wants Never made old new = ⊥
Wants Wanted made old new = IsDone made × (new ≡ old)
Wants (WantedOr late) made old new = (IsDone made ⊎ (made ≡ Err (OfCore late))) × (new ≡ old)
Wants (WantedOrWhole late) made old new = (IsDone made ⊎ (made ≡ Err late)) × (new ≡ old)
Wants (WantedWhere is_late) made old new = IsDoneOr is_late made × (new ≡ old)
Wants WantedIn made old new = IsDone made × (new.book ≡ old.book)

-- a call answered an error that tells this refusal, or none: the step's refusal, or want of memory
abbrev pub Refused : Memory → Stepped machine.Book → ModelState → ModelState → Option Refusal → Type 0
Refused memory made old new (Some refusal) = (made ≡ Err refusal) × (new ≡ old)
Refused memory made old new None = Wants memory made old new

-- a call left what its step leaves and answered the step's fields, or answered why it didn't
module _ {T : Type 0} (memory : Memory) (made : Stepped machine.Book) (fields : T → List Field) (old new : ModelState) where
  abbrev pub Made : Result T BookError → Type 0
  Made (Ok value) = made ≡ Ok (whole_of new.book, fields value)
  Made (Err e) = Refused memory made old new (refusal_of e)

-- that is so, and the book is valid before and after it
pub record DoesStep {T : Type 0} (memory : Memory) (made : Stepped machine.Book) (fields : T → List Field) (result : Result T BookError) (old new : ModelState) : Type 0 where
  pub done : Made memory made fields old new result
  pub before : IsValidBook old.book
  pub after : IsValidBook new.book

-- The call makes the step of a subject's command on the whole book and answers its fields. Where it answers an error, that
-- is the step's refusal, or memory ran out, and the model is as it was.
abbrev pub Does : {C T : Type 0} → (machine.Book → C → Stepped machine.Book) → C → (T → List Field) → Result T BookError → ModelState → ModelState → Type 0
Does step command fields result old new = DoesStep Wanted (step (whole_of old.book) command) fields result old new

-- the same of a call that takes no memory
abbrev pub DoesOnly : {C T : Type 0} → (machine.Book → C → Stepped machine.Book) → C → (T → List Field) → Result T BookError → ModelState → ModelState → Type 0
DoesOnly step command fields result old new = DoesStep Never (step (whole_of old.book) command) fields result old new

-- of one that needs memory to see whether a refusal holds
abbrev pub DoesOr : core.Refusal → {C T : Type 0} → (machine.Book → C → Stepped machine.Book) → C → (T → List Field) → Result T BookError → ModelState → ModelState → Type 0
DoesOr late step command fields result old new = DoesStep (WantedOr late) (step (whole_of old.book) command) fields result old new

-- of one that needs memory to see whether a refusal holds that the identity machine doesn't have
abbrev pub DoesOrWhole : Refusal → {C T : Type 0} → (machine.Book → C → Stepped machine.Book) → C → (T → List Field) → Result T BookError → ModelState → ModelState → Type 0
DoesOrWhole late step command fields result old new = DoesStep (WantedOrWhole late) (step (whole_of old.book) command) fields result old new

-- of one that needs memory to see whether some refusals hold, those that pass a test
abbrev pub DoesWhere : (Refusal → Bool) → {C T : Type 0} → (machine.Book → C → Stepped machine.Book) → C → (T → List Field) → Result T BookError → ModelState → ModelState → Type 0
DoesWhere is_late step command fields result old new = DoesStep (WantedWhere is_late) (step (whole_of old.book) command) fields result old new

-- and of one that may leave more to find formulas by where memory runs out
abbrev pub DoesIn : {C T : Type 0} → (machine.Book → C → Stepped machine.Book) → C → (T → List Field) → Result T BookError → ModelState → ModelState → Type 0
DoesIn step command fields result old new = DoesStep WantedIn (step (whole_of old.book) command) fields result old new

-- the same of a part of a sheet ----

-- when it may run out of memory: where its step isn't refused, or never
abbrev pub wants : Bool → Memory
wants true = Wanted
wants false = Never

-- why a step is refused; where memory is taken it may have run out instead, where it isn't
abbrev pub PartRefused : {A : Type 0} → Bool → Stepped A → Option Refusal → Type 0
PartRefused memory made (Some refusal) = made ≡ Err refusal
PartRefused memory made None = (memory ≡ true) × IsDone made

-- what was left of a part is what its step leaves, and the step's fields were answered; or the part is as it was, and why
module _ {P L T : Type 0} (whole : P → L) (memory : Bool) (made : Stepped L) (fields : T → List Field) (old new : P) where
  abbrev pub PartMade : Result T BookError → Type 0
  PartMade (Ok value) = made ≡ Ok (whole new, fields value)
  PartMade (Err e) = PartRefused memory made (refusal_of e) × (new ≡ old)

pub record DoesTab {T : Type 0} (memory : Bool) (step : machine.Tab → Stepped machine.Tab) (fields : T → List Field) (result : Result T BookError) (old new : Tab) : Type 0 where
  pub done : PartMade whole_tab memory (step (whole_tab old)) fields old new result

-- the same of a sheet's cells with its rows and columns, whichever the shared strings are
pub record DoesGrid {T : Type 0} (memory : Bool) (step : machine.Grid → Stepped machine.Grid) (fields : T → List Field) (result : Result T BookError) (old new : Grid) : Type 0 where
  pub done : (strings : List (List ℕ)) → PartMade (whole_grid strings) memory (step (whole_grid strings old)) fields old new result
