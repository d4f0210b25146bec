-- What a book is beside the notation in force, its values and its looks.
use Rattle.std.specs.Prelude.{◌≡◌}
use Rattle.ic_laws.specs.CoreBook.{CoreBook}

-- two books have the same sheets in their order, with their ids, names and formulas, and the same definitions in their order
pub record IsSameSkeleton (old new : CoreBook) : Type 0 where
  pub sheets : new.sheets ≡ old.sheets
  pub definitions : new.definitions ≡ old.definitions
