-- Which formulas mention a sheet, and which a definition.
use Rattle.std.specs.Prelude.{◌≡◌, ℕ, List, Bool, false}
use Rattle.std.specs.BTreeSet.{BTreeSet, contains}
use Rattle.std.specs.List.{slice_get}
use Rattle.std.specs.Option.{option_map_or}
use Rattle.std.specs.Ordering.{nat_cmp}
use Rattle.ic_laws.specs.Changes.{is_of_name, is_of_sheet}
use Rattle.ic_laws.specs.declared.tree.Formula.{Formula}
use Rattle.ic_laws.specs.declared.tree.NameKey.{NameKey}
use Rattle.ic_pool.specs.Mentions.{some_in}

-- some reference of a formula is to the sheet with this id, or some word stands behind that sheet
abbrev pub mentions_sheet : ℕ → Formula → Bool
mentions_sheet id formula = some_in (is_of_sheet id) (λ word. false) (λ sheet word. false) formula

-- some word of a formula means the definition with this key, whether it is called, stands behind a sheet, or neither
abbrev pub mentions_name : NameKey → Formula → Bool
mentions_name key formula = some_in (λ sheet. false) (is_of_name key) (λ sheet word. is_of_name key word) formula

-- there is a formula at a place of a pool, and it passes a test
abbrev pub passes_at : (Formula → Bool) → List Formula → ℕ → Bool
passes_at test formulas at = option_map_or test (slice_get formulas at) false

-- these are the places of the formulas that pass a test
abbrev pub AreThosePassing : (Formula → Bool) → List Formula → BTreeSet ℕ → Type 0
AreThosePassing test formulas places = (at : ℕ) → contains nat_cmp places at ≡ passes_at test formulas at
