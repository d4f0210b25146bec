-- Formulas that are made anew.
use Rattle.std.specs.Prelude.{◌≡◌, ℕ, List, Bool, false, Option, Some, None, if◌then◌else◌}
use Rattle.ic_laws.specs.declared.tree.Formula.{Formula}
use Rattle.ic_pool.specs.Rewrites.{replaced_from}
use Rattle.ic_pool.specs.Topics.{mentions_some}
use Rattle.ic_pool.specs.declared.pool.rewrites.Replacement.{Replacement}

-- formulas made anew, by the sheet that their words are looked up from, or none: which of them, and what they become
pub record Remade : Type 0 where
  pub touches : Option ℕ → Formula → Bool
  pub becomes : Option ℕ → Formula → Formula

-- a formula that isn't touched stays
abbrev pub LeavesUntouched : Remade → Option ℕ → Formula → Type 0
LeavesUntouched made scope formula = made.touches scope formula ≡ false → made.becomes scope formula ≡ formula

-- what a formula becomes where it is touched
abbrev pub touched_becomes : Remade → Option ℕ → Formula → Option Formula
touched_becomes made scope formula = if made.touches scope formula then Some (made.becomes scope formula) else None

-- the formulas that are touched, with what they become, where the first stands at this place
abbrev pub touched_from : Remade → Option ℕ → ℕ → List Formula → List Replacement
touched_from made scope at formulas = replaced_from (made.touches scope) (made.becomes scope) at formulas

-- a formula that mentions nothing with one of these topics isn't touched
abbrev pub TouchesAbout : Remade → List ℕ → Type 0
TouchesAbout made topics = (scope : Option ℕ) (formula : Formula) → mentions_some topics formula ≡ false → made.touches scope formula ≡ false
