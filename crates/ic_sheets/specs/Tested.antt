-- Sheets of which some formula passes a test of the caller's.
use Rattle.std.specs.Prelude.{ℕ, List, Bool, Some, false, find, nat_eq}
use Rattle.std.specs.List.{list_any}
use Rattle.std.specs.Option.{option_map_or}
use Rattle.ic_pool.specs.Tested.{Test}
use Rattle.ic_sheets.specs.declared.sheet.Sheet.{Sheet}

-- some formula of a sheet passes
abbrev pub passes_in : Test → Sheet → Bool
passes_in test sheet = list_any (test (Some sheet.id)) sheet.pool.formulas

-- there is a sheet with this id, of which some does
abbrev pub passes_with : Test → List Sheet → ℕ → Bool
passes_with test sheets id = option_map_or (passes_in test) (find (λ s. nat_eq s.id id) sheets) false
