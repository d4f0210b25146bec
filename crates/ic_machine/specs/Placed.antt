-- The index of a formula in a sheet's pool: that of the first equal one, or a new one at the end.
use Rattle.std.specs.Prelude.{◌≡◌, ℕ, List, [], ◌∷◌, ◌++◌, length, Bool, false, is_some, unwrap_or, if◌then◌else◌}
use Rattle.ic_laws.specs.declared.tree.Formula.{Formula}
use Rattle.ic_laws.specs.declared.tree.Formula.TheVariants as formulas
use Rattle.ic_tables.specs.declared.language.FunctionKind.{FunctionKind}
use Rattle.ic_tree.specs.Dynamic.{dynamic_with}
use Rattle.ic_pool.specs.Code.{code}
use Rattle.ic_pool.specs.Pool.{IsPlaced, first_place}

-- formulas are told apart by their codes, which no two have
abbrev pub index_in_pool : Formula → List Formula → ℕ
index_in_pool formula pool = unwrap_or (first_place (code formula) pool) (length pool)

abbrev pub pool_with : Formula → List Formula → List Formula
pool_with formula pool = if is_some (first_place (code formula) pool) then pool else pool ++ formula ∷ []

-- That index is the first place of an equal formula in the pool with it: where the pool has an equal one, the pool is as it
-- was, and else the formula was put at its end.
abbrev pub FormulaIsPlaced : Type 0
FormulaIsPlaced = (formula : Formula) (pool : List Formula) → IsPlaced formula (index_in_pool formula pool) pool (pool_with formula pool)

-- and no other index and no other pool are that
abbrev pub PlacedAlone : Type 0
PlacedAlone =
    (formula : Formula) (at : ℕ) (pool after : List Formula) → IsPlaced formula at pool after → (index_in_pool formula pool ≡ at) × (pool_with formula pool ≡ after)

-- what a formula gives may spill; a text that doesn't read gives one value
abbrev pub is_dynamic : List FunctionKind → Formula → Bool
is_dynamic kinds (formulas.Tree t) = dynamic_with kinds t
is_dynamic kinds (formulas.Raw text) = false
