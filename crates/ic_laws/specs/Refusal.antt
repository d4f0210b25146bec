-- Why a line or a call is refused.
use Rattle.std.specs.Prelude.{ℕ, List, [], ◌∷◌, Bool, Option, Some, None, unwrap_or, if◌then◌else◌, codes}
use Rattle.std.specs.List.{slice_get}

-- the refusals by the names that replies show
abbrev pub refusal_names : List (List ℕ)
refusal_names =
    codes "BadLine" ∷ codes "InvalidSheet" ∷ codes "InvalidRow" ∷ codes "InvalidColumn" ∷ codes "SheetIndexTooLarge" ∷ codes "TargetTooLarge" ∷ codes "InvalidSheetName"
    ∷ codes "SheetExists" ∷ codes "SheetNotFound" ∷ codes "OnlySheet" ∷ codes "IdsUsedUp" ∷ codes "InvalidName" ∷ codes "InvalidScope" ∷ codes "NameExists"
    ∷ codes "NameNotFound" ∷ codes "InvalidNameFormula" ∷ codes "NotAFormula" ∷ codes "InvalidLocale" ∷ codes "InvalidLanguage" ∷ codes "InvalidTimezone" ∷ []

-- a refusal is its place in that list
pub record Refusal : Type 0 where
  pub place : ℕ

-- the name that a reply shows
abbrev pub refusal_name : Refusal → List ℕ
refusal_name refusal = unwrap_or (slice_get refusal_names refusal.place) []

-- the line is no command
abbrev pub BadLine : Refusal
BadLine = record { place = 0 }

-- no sheet stands at this index
abbrev pub InvalidSheet : Refusal
InvalidSheet = record { place = 1 }

-- the row, or the column, isn't one of the sheet
abbrev pub InvalidRow : Refusal
InvalidRow = record { place = 2 }

abbrev pub InvalidColumn : Refusal
InvalidColumn = record { place = 3 }

-- no sheet stands at the index of the sheet, or at the one that it is to be put at
abbrev pub SheetIndexTooLarge : Refusal
SheetIndexTooLarge = record { place = 4 }

abbrev pub TargetTooLarge : Refusal
TargetTooLarge = record { place = 5 }

-- a sheet can't have this name
abbrev pub InvalidSheetName : Refusal
InvalidSheetName = record { place = 6 }

-- another sheet's name agrees with it
abbrev pub SheetExists : Refusal
SheetExists = record { place = 7 }

-- no sheet has a name that agrees, or this id
abbrev pub SheetNotFound : Refusal
SheetNotFound = record { place = 8 }

-- there is no other sheet
abbrev pub OnlySheet : Refusal
OnlySheet = record { place = 9 }

-- the greatest id in use is the last one
abbrev pub IdsUsedUp : Refusal
IdsUsedUp = record { place = 10 }

-- a definition can't have this name
abbrev pub InvalidName : Refusal
InvalidName = record { place = 11 }

-- no sheet stands at the index that a definition is to be local to
abbrev pub InvalidScope : Refusal
InvalidScope = record { place = 12 }

-- a definition of an agreeing name is local to the same sheet, or to none too
abbrev pub NameExists : Refusal
NameExists = record { place = 13 }

-- there is no such definition
abbrev pub NameNotFound : Refusal
NameNotFound = record { place = 14 }

-- the body is neither a reference to a sheet of the book nor a LAMBDA
abbrev pub InvalidNameFormula : Refusal
InvalidNameFormula = record { place = 15 }

-- the text isn't an equals sign with something after it
abbrev pub NotAFormula : Refusal
NotAFormula = record { place = 16 }

-- the tables lack the locale, the language, or the zone
abbrev pub InvalidLocale : Refusal
InvalidLocale = record { place = 17 }

abbrev pub InvalidLanguage : Refusal
InvalidLanguage = record { place = 18 }

abbrev pub InvalidTimezone : Refusal
InvalidTimezone = record { place = 19 }

-- the first refusal whose cause holds, in the order in which they are listed
abbrev pub first_refusal : List (Bool × Refusal) → Option Refusal
first_refusal [] = None
first_refusal (c ∷ cs) = if c.0 then Some c.1 else first_refusal cs
