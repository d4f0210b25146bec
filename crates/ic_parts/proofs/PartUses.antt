-- What the change or the reading of a part of a sheet is, for the attribute of a subject's methods to name.
use Rattle.std.proofs.Common.{ℕ, List, true, false, Bor, MutBor, Result}
use Rattle.std.specs.Fn.{FnOnceReturnsAt, FnOnceReturnsAtMut, Once}
use Rattle.ic_machine.specs.Book as machine
use Rattle.ic_machine.specs.Book.{Stepped, on_tab}
use Rattle.ic_machine.specs.Reply.{Field}
use Rattle.ic_sheets.specs.declared.tab.Tab.{Tab}
use Rattle.ic_grid.specs.declared.grid.Grid.{Grid}
use Rattle.ic_machine.specs.Book.{on_grid}
use Rattle.ic_parts.specs.Does.{DoesGrid}
use Rattle.ic_parts.specs.Parts.{ChangesGrid, ReadsGrid}
use Rattle.ic_parts.specs.Book.{ModelState}
use Rattle.ic_parts.specs.Does.{DoesStep, DoesTab, Never, Wanted}
use Rattle.ic_parts.specs.Parts.{ChangesTab, ReadsTab}
use Rattle.ic_parts.specs.Whole.{whole_of}
use Rattle.ic_parts.specs.declared.error.BookError.{BookError}

module _ {F T : Type 0} {calls : Once F (MutBor Tab × Unit {0}) (Result T BookError × (MutBor Tab × Unit {0}))} {change : F} {sheet : ℕ} {result : Result T BookError} {old new : ModelState} (step : machine.Tab → Stepped machine.Tab) (fields : T → List Field) where
  -- without memory
  pub tab_changed : ChangesTab calls change sheet result old new → ((before after : Tab) (r : Result T BookError) → FnOnceReturnsAtMut calls change before r after → DoesTab false step fields r before after)
      → DoesStep Never (on_tab (whole_of old.book) sheet step) fields result old new
  tab_changed changes one = changes.does false step fields one

  -- and with it
  pub tab_made : ChangesTab calls change sheet result old new → ((before after : Tab) (r : Result T BookError) → FnOnceReturnsAtMut calls change before r after → DoesTab true step fields r before after)
      → DoesStep Wanted (on_tab (whole_of old.book) sheet step) fields result old new
  tab_made changes one = changes.does true step fields one

pub tab_read : {F T : Type 0} {calls : Once F (Bor Tab × Unit {0}) (Result T BookError)} {read : F} {sheet : ℕ} {result : Result T BookError} {now : ModelState} (step : machine.Tab → Stepped machine.Tab) (fields : T → List Field)
    → ReadsTab calls read sheet result now → ((tab : Tab) (r : Result T BookError) → FnOnceReturnsAt calls read tab r → DoesTab false step fields r tab tab)
    → DoesStep Never (on_tab (whole_of now.book) sheet step) fields result now now
tab_read step fields reads one = reads.does false step fields one

-- the same of a sheet's rows and columns
module _ {F T : Type 0} {calls : Once F (MutBor Grid × Unit {0}) (Result T BookError × (MutBor Grid × Unit {0}))} {change : F} {sheet : ℕ} {result : Result T BookError} {old new : ModelState} (step : machine.Grid → Stepped machine.Grid) (fields : T → List Field) where
  pub grid_changed : ChangesGrid calls change sheet result old new → ((before after : Grid) (r : Result T BookError) → FnOnceReturnsAtMut calls change before r after → DoesGrid false step fields r before after)
      → DoesStep Never (on_grid (whole_of old.book) sheet step) fields result old new
  grid_changed changes one = changes.does false step fields one

  pub grid_made : ChangesGrid calls change sheet result old new → ((before after : Grid) (r : Result T BookError) → FnOnceReturnsAtMut calls change before r after → DoesGrid true step fields r before after)
      → DoesStep Wanted (on_grid (whole_of old.book) sheet step) fields result old new
  grid_made changes one = changes.does true step fields one

pub grid_read : {F T : Type 0} {calls : Once F (Bor Grid × Unit {0}) (Result T BookError)} {read : F} {sheet : ℕ} {result : Result T BookError} {now : ModelState} (step : machine.Grid → Stepped machine.Grid) (fields : T → List Field)
    → ReadsGrid calls read sheet result now → ((grid : Grid) (r : Result T BookError) → FnOnceReturnsAt calls read grid r → DoesGrid false step fields r grid grid)
    → DoesStep Never (on_grid (whole_of now.book) sheet step) fields result now now
grid_read step fields reads one = reads.does false step fields one
