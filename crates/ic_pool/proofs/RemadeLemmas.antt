-- Formulas that are made anew.
use Rattle.std.proofs.Common.{◌≡◌, ℕ, zero, suc, List, [], ◌∷◌, Option, Some, ap, subst, ◌∙◌}
use Rattle.std.specs.Prelude.{not}
use Rattle.std.specs.List.{AllByRecursion, list_any, slice_get}
use Rattle.ic_laws.specs.declared.tree.Formula.{Formula}
use Rattle.ic_pool.specs.Remade.{Remade, touched_from}
use Rattle.ic_pool.specs.Rewrites.{RewritesState, changes_nothing, is_nothing}
use Rattle.ic_pool.proofs.ListedLemmas.{replaced_none}

-- there is no change exactly where no formula is touched
pub nothing_touched : (made : Remade) (scope : Option ℕ) (formulas : List Formula) (w : RewritesState) → w.changes ≡ touched_from made scope 0 formulas → changes_nothing w ≡ not (list_any (made.touches scope) formulas)
nothing_touched made scope formulas w listed = ap is_nothing listed ∙ replaced_none (made.touches scope) (made.becomes scope) 0 formulas

-- what holds of all formulas holds of the one at a place
pub all_at : (P : Formula → Type 0) (xs : List Formula) (k : ℕ) (x : Formula) → AllByRecursion P xs → slice_get xs k ≡ Some x → P x
all_at P [] k x h e = cc
all_at P (y ∷ xs) zero x h e = let same : y ≡ x = cc in subst P same h.0
all_at P (y ∷ xs) (suc k) x h e = all_at P xs k x h.1 e
