-- What a step on a part of a sheet does to the model, and which sheet stands at an index.
use Rattle.std.specs.Prelude.{◌≡◌, ℕ, List, Bool, Some, None, Result, Ok, Err}
use Rattle.std.specs.Borrow.{Bor, MutBor}
use Rattle.std.specs.Fn.{FnOnceReturnsAt, FnOnceReturnsAtMut, Once}
use Rattle.std.specs.List.{slice_get}
use Rattle.ic_machine.specs.Book as machine
use Rattle.ic_machine.specs.Book.{Stepped, on_tab}
use Rattle.ic_machine.specs.Reply.{Field}
use Rattle.ic_machine.specs.Valid.{IsFrozen}
use Rattle.std.specs.Prelude.{ℤ, true}
use Rattle.std.specs.FinMap as finite
use Rattle.ic_laws.specs.Position.{is_column, is_row}
use Rattle.ic_cells.specs.declared.layout.ColumnProps.{ColumnProps}
use Rattle.ic_cells.specs.declared.layout.RowProps.{RowProps}
use Rattle.ic_grid.specs.declared.grid.Grid.{Grid}
use Rattle.ic_machine.specs.Book.{on_grid}
use Rattle.ic_machine.specs.Valid.{IsStyleNumber}
use Rattle.ic_parts.specs.Does.{DoesGrid}
use Rattle.ic_sheets.specs.Sheet.{Sheet, sheet_of}
use Rattle.ic_sheets.specs.declared.sheet.Sheet.{Sheet as HeldSheet}
use Rattle.ic_sheets.specs.declared.tab.Tab.{Tab}
use Rattle.ic_laws.specs.CoreStep.{updated_at}
use Rattle.ic_parts.specs.Book.{Book, IsValidBook, ModelState}
use Rattle.ic_parts.specs.Does.{DoesStep, DoesTab, wants}
use Rattle.ic_parts.specs.Whole.{whole_of, whole_tab}
use Rattle.ic_parts.specs.declared.error.BookError.{BookError}
use Rattle.ic_parts.specs.declared.error.BookError.TheVariants as errors

-- the sheet at an index, from 0, or that none stands there
abbrev pub FindsSheet : ℕ → Result (Bor HeldSheet) BookError → ModelState → Type 0
FindsSheet index (Ok sheet) now = slice_get now.book.sheets index ≡ Some (sheet_of sheet.now)
FindsSheet index (Err e) now = (slice_get now.book.sheets index ≡ None) × (e ≡ errors.InvalidSheet)

-- Fewer rows and columns of a sheet stay in sight than there are, where that was so before.
abbrev pub StaysFrozen : Tab → Tab → Type 0
StaysFrozen before after = IsFrozen (whole_tab before) → IsFrozen (whole_tab after)

-- The change of the tab of a sheet is one of the model: where there is the sheet, what the change does to its tab is done;
-- which formulas are found by their look-ups stays.
pub record ChangesTab {F T : Type 0} (calls : Once F (MutBor Tab × Unit {0}) (Result T BookError × (MutBor Tab × Unit {0}))) (change : F) (sheet : ℕ) (result : Result T BookError) (old new : ModelState) : Type 0 where
  pub does : (memory : Bool) (step : machine.Tab → Stepped machine.Tab) (fields : T → List Field)
      → ((before after : Tab) (r : Result T BookError) → FnOnceReturnsAtMut calls change before r after → DoesTab memory step fields r before after)
      → DoesStep (wants memory) (on_tab (whole_of old.book) sheet step) fields result old new

-- the same of what only reads it
pub record ReadsTab {F T : Type 0} (calls : Once F (Bor Tab × Unit {0}) (Result T BookError)) (read : F) (sheet : ℕ) (result : Result T BookError) (now : ModelState) : Type 0 where
  pub does : (memory : Bool) (step : machine.Tab → Stepped machine.Tab) (fields : T → List Field)
      → ((tab : Tab) (r : Result T BookError) → FnOnceReturnsAt calls read tab r → DoesTab memory step fields r tab tab)
      → DoesStep (wants memory) (on_tab (whole_of now.book) sheet step) fields result now now

-- What was set for rows and columns was set for those that a sheet has, and names styles below this number.
pub record IsLaidOut (count : ℕ) (grid : Grid) : Type 0 where
  pub rows : (row : ℤ) (props : RowProps) → finite.get grid.rows row ≡ Some props → (is_row row ≡ true) × IsStyleNumber count props.style
  pub columns : (column : ℤ) (props : ColumnProps) → finite.get grid.columns column ≡ Some props → (is_column column ≡ true) × IsStyleNumber count props.style

-- A change of a sheet leaves its cells and its merged cells, and what was set for rows and columns is so after it where it
-- was so before.
pub record StaysLaidOut (before after : Grid) : Type 0 where
  pub cells : after.cells ≡ before.cells
  pub merges : after.merged_cells ≡ before.merged_cells
  pub lines : (count : ℕ) → IsLaidOut count before → IsLaidOut count after

-- a book with this grid for the sheet at an index, from 0
abbrev pub with_grid : ℕ → Grid → Book → Book
with_grid index grid book = record book { sheets = updated_at (λ s. record s { grid = grid }) index book.sheets }

-- A change of what a sheet has leaves a valid book valid.
pub record StaysHeld (before after : Grid) : Type 0 where
  pub valid : (book : Book) (index : ℕ) (sheet : Sheet) → slice_get book.sheets index ≡ Some sheet → sheet.grid ≡ before → IsValidBook book → IsValidBook (with_grid index after book)

-- The change of what a sheet has is one of the model: where there is the sheet, what the change does to them is
-- done.
pub record ChangesGrid {F T : Type 0} (calls : Once F (MutBor Grid × Unit {0}) (Result T BookError × (MutBor Grid × Unit {0}))) (change : F) (sheet : ℕ) (result : Result T BookError) (old new : ModelState) : Type 0 where
  pub does : (memory : Bool) (step : machine.Grid → Stepped machine.Grid) (fields : T → List Field)
      → ((before after : Grid) (r : Result T BookError) → FnOnceReturnsAtMut calls change before r after → DoesGrid memory step fields r before after)
      → DoesStep (wants memory) (on_grid (whole_of old.book) sheet step) fields result old new

-- the same of what only reads them
pub record ReadsGrid {F T : Type 0} (calls : Once F (Bor Grid × Unit {0}) (Result T BookError)) (read : F) (sheet : ℕ) (result : Result T BookError) (now : ModelState) : Type 0 where
  pub does : (memory : Bool) (step : machine.Grid → Stepped machine.Grid) (fields : T → List Field)
      → ((grid : Grid) (r : Result T BookError) → FnOnceReturnsAt calls read grid r → DoesGrid memory step fields r grid grid)
      → DoesStep (wants memory) (on_grid (whole_of now.book) sheet step) fields result now now
