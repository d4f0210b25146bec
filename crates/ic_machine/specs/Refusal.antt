-- Why a line or a call is refused. Each refusal is said once: here, or with the identity machine, which has twenty of them.
use Rattle.std.specs.Prelude.{ℕ, ℤ, List, [], ◌∷◌, Bool, Option, Some, None, map, codes, if◌then◌else◌}
use Rattle.ic_laws.specs.CoreBook.{CellPlace}
use Rattle.ic_laws.specs.Refusal as core
use Rattle.ic_laws.specs.declared.tree.NameKey.{NameKey}

-- where a formula stands: in a cell of the sheet with an id, or in the body of the definition with a key
pub data Site : Type 0 where
  CellSite : (sheet : ℕ) (place : CellPlace) → Site
  DefinitionSite : (key : NameKey) → Site

-- one that the identity machine has, too; an area that is too small, leaves the sheet, or isn't the one that is asked for; the
-- index of a new sheet past the end; an id that a sheet has, or 0; a text that reads in neither notation; a text that
-- names no cell; a cell of a merge; a cell of an array that must be written as a whole; an array that is cleared in part;
-- a count below 0; as many rows, or columns, as a sheet has; no formula to take a value; a spill that meets something; the
-- first condition that a workbook fails; an update that would capture, with the places of what it would capture; and that
-- memory ran out, which no cause tells and no step answers
pub data Refusal : Type 0 where
  OfCore : (refusal : core.Refusal) → Refusal
  BadArea : Refusal
  OutOfRange : Refusal
  IdLive : Refusal
  InvalidFormula : Refusal
  BadReference : Refusal
  MergedPart : Refusal
  ArrayPart : Refusal
  ClearArray : Refusal
  FrozenNegative : Refusal
  TooManyRows : Refusal
  TooManyColumns : Refusal
  NoFormulaCell : Refusal
  SpillBlocked : (row column : ℤ) → Refusal
  BadWorkbook : (condition : ℕ) → Refusal
  WouldCapture : (sites : List Site) → Refusal
  OutOfMemory : Refusal

-- the name that a reply shows
abbrev pub refusal_name : Refusal → List ℕ
refusal_name (OfCore refusal) = core.refusal_name refusal
refusal_name BadArea = codes "BadArea"
refusal_name OutOfRange = codes "OutOfRange"
refusal_name IdLive = codes "IdLive"
refusal_name InvalidFormula = codes "InvalidFormula"
refusal_name BadReference = codes "BadReference"
refusal_name MergedPart = codes "MergedPart"
refusal_name ArrayPart = codes "ArrayPart"
refusal_name ClearArray = codes "ClearArray"
refusal_name FrozenNegative = codes "FrozenNegative"
refusal_name TooManyRows = codes "TooManyRows"
refusal_name TooManyColumns = codes "TooManyColumns"
refusal_name NoFormulaCell = codes "NoFormulaCell"
refusal_name (SpillBlocked row column) = codes "SpillBlocked"
refusal_name (BadWorkbook condition) = codes "BadWorkbook"
refusal_name (WouldCapture sites) = codes "WouldCapture"
refusal_name OutOfMemory = codes "OutOfMemory"

-- the refusals of the identity machine
abbrev pub BadLine : Refusal
BadLine = OfCore core.BadLine

abbrev pub InvalidSheet : Refusal
InvalidSheet = OfCore core.InvalidSheet

abbrev pub InvalidRow : Refusal
InvalidRow = OfCore core.InvalidRow

abbrev pub InvalidColumn : Refusal
InvalidColumn = OfCore core.InvalidColumn

abbrev pub InvalidSheetName : Refusal
InvalidSheetName = OfCore core.InvalidSheetName

abbrev pub SheetExists : Refusal
SheetExists = OfCore core.SheetExists

abbrev pub SheetNotFound : Refusal
SheetNotFound = OfCore core.SheetNotFound

abbrev pub IdsUsedUp : Refusal
IdsUsedUp = OfCore core.IdsUsedUp

abbrev pub InvalidName : Refusal
InvalidName = OfCore core.InvalidName

abbrev pub InvalidScope : Refusal
InvalidScope = OfCore core.InvalidScope

abbrev pub NameExists : Refusal
NameExists = OfCore core.NameExists

abbrev pub NameNotFound : Refusal
NameNotFound = OfCore core.NameNotFound

abbrev pub NotAFormula : Refusal
NotAFormula = OfCore core.NotAFormula

abbrev pub InvalidTimezone : Refusal
InvalidTimezone = OfCore core.InvalidTimezone

-- what may refuse a command, in the order in which it is told
abbrev pub Causes : Type 0
Causes = List (Bool × Refusal)

-- the first cause that holds
abbrev pub first_refusal : Causes → Option Refusal
first_refusal [] = None
first_refusal (cause ∷ causes) = if cause.0 then Some cause.1 else first_refusal causes

-- the causes of a command that the identity machine has, too
abbrev pub of_core : List (Bool × core.Refusal) → Causes
of_core causes = map (λ cause. (cause.0, OfCore cause.1)) causes
