-- What a call's error says of the refusal that holds.
use Rattle.std.specs.Prelude.{◌≡◌, ◌⊎◌, ℕ, List, Bool, true, Option, Some, None, Result, Ok, Err, codes, map}
use Rattle.std.specs.Option.{option_map_or}
use Rattle.ic_laws.specs.Refusal as core
use Rattle.ic_grid.specs.declared.error.GridError.{GridError}
use Rattle.ic_grid.specs.declared.error.GridError.TheVariants as grid
use Rattle.ic_machine.specs.Refusal as machine
use Rattle.ic_machine.specs.Refusal.{OfCore, Refusal, refusal_name}
use Rattle.ic_parts.specs.Sites.{site_of}
use Rattle.ic_parts.specs.declared.error.BookError.{BookError}
use Rattle.ic_parts.specs.declared.error.BookError.TheVariants as errors

-- the refusal that an error tells; that memory ran out is none
abbrev pub refusal_of : BookError → Option Refusal
refusal_of errors.BadLine = Some (OfCore core.BadLine)
refusal_of errors.InvalidSheet = Some (OfCore core.InvalidSheet)
refusal_of errors.InvalidRow = Some (OfCore core.InvalidRow)
refusal_of errors.InvalidColumn = Some (OfCore core.InvalidColumn)
refusal_of errors.BadArea = Some machine.BadArea
refusal_of errors.OutOfRange = Some machine.OutOfRange
refusal_of errors.SheetIndexTooLarge = Some (OfCore core.SheetIndexTooLarge)
refusal_of errors.TargetTooLarge = Some (OfCore core.TargetTooLarge)
refusal_of errors.InvalidSheetName = Some (OfCore core.InvalidSheetName)
refusal_of errors.SheetExists = Some (OfCore core.SheetExists)
refusal_of errors.SheetNotFound = Some (OfCore core.SheetNotFound)
refusal_of errors.OnlySheet = Some (OfCore core.OnlySheet)
refusal_of errors.IdLive = Some machine.IdLive
refusal_of errors.IdsUsedUp = Some (OfCore core.IdsUsedUp)
refusal_of errors.InvalidName = Some (OfCore core.InvalidName)
refusal_of errors.InvalidScope = Some (OfCore core.InvalidScope)
refusal_of errors.NameExists = Some (OfCore core.NameExists)
refusal_of errors.NameNotFound = Some (OfCore core.NameNotFound)
refusal_of errors.InvalidNameFormula = Some (OfCore core.InvalidNameFormula)
refusal_of errors.BadReference = Some machine.BadReference
refusal_of errors.InvalidFormula = Some machine.InvalidFormula
refusal_of errors.NotAFormula = Some (OfCore core.NotAFormula)
refusal_of errors.InvalidLocale = Some (OfCore core.InvalidLocale)
refusal_of errors.InvalidLanguage = Some (OfCore core.InvalidLanguage)
refusal_of errors.InvalidTimezone = Some (OfCore core.InvalidTimezone)
refusal_of errors.MergedPart = Some machine.MergedPart
refusal_of errors.ArrayPart = Some machine.ArrayPart
refusal_of errors.ClearArray = Some machine.ClearArray
refusal_of errors.FrozenNegative = Some machine.FrozenNegative
refusal_of errors.TooManyRows = Some machine.TooManyRows
refusal_of errors.TooManyColumns = Some machine.TooManyColumns
refusal_of errors.NoFormulaCell = Some machine.NoFormulaCell
refusal_of (errors.SpillBlocked row column) = Some (machine.SpillBlocked row column)
refusal_of (errors.BadWorkbook condition) = Some (machine.BadWorkbook condition)
refusal_of (errors.WouldCapture sites) = Some (machine.WouldCapture (map site_of sites))
refusal_of errors.OutOfMemory = None

-- the error that tells why a call on the cells of a sheet was refused
abbrev pub of_grid : GridError → BookError
of_grid grid.MergedPart = errors.MergedPart
of_grid grid.ArrayPart = errors.ArrayPart
of_grid grid.ClearArray = errors.ClearArray
of_grid grid.NoFormulaCell = errors.NoFormulaCell
of_grid grid.BadArea = errors.BadArea
of_grid (grid.SpillBlocked row column) = errors.SpillBlocked row column
of_grid grid.OutOfMemory = errors.OutOfMemory

-- the name of an error's variant: that of its refusal
abbrev pub error_name : BookError → List ℕ
error_name e = option_map_or refusal_name (refusal_of e) (codes "OutOfMemory")

-- A call answers Ok only where nothing refuses. Its error is the refusal where there is one, and otherwise that memory ran
-- out.
abbrev pub Tells : {T : Type 0} → Result T BookError → Option Refusal → Type 0
Tells (Ok value) refusal = refusal ≡ None
Tells (Err e) refusal = refusal ≡ refusal_of e

-- the same of a call that takes no memory
abbrev pub TellsOnly : {T : Type 0} → Result T BookError → Option Refusal → Type 0
TellsOnly (Ok value) refusal = refusal ≡ None
TellsOnly (Err e) refusal = (told : Refusal) × (refusal_of e ≡ Some told) × (refusal ≡ Some told)

-- a refusal passes a test, if there is one
abbrev pub IsLate : (Refusal → Bool) → Option Refusal → Type 0
IsLate is_late None = Unit {0}
IsLate is_late (Some refusal) = is_late refusal ≡ true

-- The same of a call that needs memory to see whether some refusals hold, those that pass a test: where one of them does,
-- memory may run out first.
abbrev pub TellsWhere : (Refusal → Bool) → {T : Type 0} → Result T BookError → Option Refusal → Type 0
TellsWhere is_late (Ok value) refusal = refusal ≡ None
TellsWhere is_late (Err e) refusal = (refusal ≡ refusal_of e) ⊎ (IsLate is_late refusal × (e ≡ errors.OutOfMemory))

-- What an error tells where the identity machine says what refuses: this refusal, or none where memory ran out. Other errors
-- don't come there. ----

abbrev pub TellsCore : BookError → Option core.Refusal → Type 0
TellsCore errors.BadLine refusal = refusal ≡ Some core.BadLine
TellsCore errors.InvalidSheet refusal = refusal ≡ Some core.InvalidSheet
TellsCore errors.InvalidRow refusal = refusal ≡ Some core.InvalidRow
TellsCore errors.InvalidColumn refusal = refusal ≡ Some core.InvalidColumn
TellsCore errors.SheetIndexTooLarge refusal = refusal ≡ Some core.SheetIndexTooLarge
TellsCore errors.TargetTooLarge refusal = refusal ≡ Some core.TargetTooLarge
TellsCore errors.InvalidSheetName refusal = refusal ≡ Some core.InvalidSheetName
TellsCore errors.SheetExists refusal = refusal ≡ Some core.SheetExists
TellsCore errors.SheetNotFound refusal = refusal ≡ Some core.SheetNotFound
TellsCore errors.OnlySheet refusal = refusal ≡ Some core.OnlySheet
TellsCore errors.IdsUsedUp refusal = refusal ≡ Some core.IdsUsedUp
TellsCore errors.InvalidName refusal = refusal ≡ Some core.InvalidName
TellsCore errors.InvalidScope refusal = refusal ≡ Some core.InvalidScope
TellsCore errors.NameExists refusal = refusal ≡ Some core.NameExists
TellsCore errors.NameNotFound refusal = refusal ≡ Some core.NameNotFound
TellsCore errors.InvalidNameFormula refusal = refusal ≡ Some core.InvalidNameFormula
TellsCore errors.NotAFormula refusal = refusal ≡ Some core.NotAFormula
TellsCore errors.InvalidLocale refusal = refusal ≡ Some core.InvalidLocale
TellsCore errors.InvalidLanguage refusal = refusal ≡ Some core.InvalidLanguage
TellsCore errors.InvalidTimezone refusal = refusal ≡ Some core.InvalidTimezone
TellsCore errors.OutOfMemory refusal = refusal ≡ None
TellsCore e refusal = ⊥

-- A call answers Ok only where nothing refuses. Its error is the refusal where there is one, and otherwise that memory
-- ran out.
abbrev pub Refuses : {T : Type 0} → Result T BookError → Option core.Refusal → Type 0
Refuses (Ok value) refusal = refusal ≡ None
Refuses (Err e) refusal = TellsCore e refusal

-- The same of a call that needs memory to see whether this one refusal holds: where it does, memory may run out first.
abbrev pub RefusesOr : core.Refusal → {T : Type 0} → Result T BookError → Option core.Refusal → Type 0
RefusesOr late (Ok value) refusal = refusal ≡ None
RefusesOr late (Err e) refusal = TellsCore e refusal ⊎ ((refusal ≡ Some late) × (e ≡ errors.OutOfMemory))

-- A call that takes no memory answers Ok exactly where nothing refuses. Its error is the refusal, and never that memory ran
-- out.
abbrev pub RefusesOnly : {T : Type 0} → Result T BookError → Option core.Refusal → Type 0
RefusesOnly (Ok value) refusal = refusal ≡ None
RefusesOnly (Err e) refusal = (told : core.Refusal) × TellsCore e (Some told) × (refusal ≡ Some told)
