-- What a pool keeps beside its formulas.
use Rattle.std.specs.Prelude.{◌≡◌, ℕ, List, Bool, true, Option, Some}
use Rattle.ic_laws.specs.declared.tree.Formula.{Formula}
use Rattle.ic_pool.specs.MentionPlaces.{KnowsAll, Noted}
use Rattle.ic_pool.specs.Pool.{IsFirstPlace, IsLookUp, dangling_count}
use Rattle.ic_pool.specs.declared.look_up.LookUp.{LookUp}

-- It is true of them: the look-up by their keys, the index by what they mention, where it is known to be whole, how
-- many of them mention something that wasn't found, and that no equal formula stands before the last place.
pub record IsKept (index : LookUp) (is_whole : Bool) (last : Option ℕ) (knows_rest : Bool) (late : List ℕ) (mentions : Noted) (knows_mentions : Bool) (dangling : ℕ) (formulas : List Formula) : Type 0 where
  pub look_up : IsLookUp index is_whole knows_rest late formulas
  pub mentioned : knows_mentions ≡ true → KnowsAll mentions formulas
  pub dangles : dangling ≡ dangling_count formulas
  pub last_is_first : (at : ℕ) → last ≡ Some at → IsFirstPlace at formulas
