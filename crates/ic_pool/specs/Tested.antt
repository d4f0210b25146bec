-- Formulas that pass a test of the caller's.
use Rattle.std.specs.Prelude.{◌≡◌, ℕ, List, Bool, false, Option}
use Rattle.ic_laws.specs.declared.tree.Formula.{Formula}
use Rattle.ic_pool.specs.Topics.{mentions_some}

-- a test of formulas, by the sheet that their words are looked up from, or none
abbrev pub Test : Type 0
Test = Option ℕ → Formula → Bool

-- a formula that mentions nothing with one of these topics doesn't pass
abbrev pub PassesAbout : Test → List ℕ → Type 0
PassesAbout test topics = (scope : Option ℕ) (formula : Formula) → mentions_some topics formula ≡ false → test scope formula ≡ false
