use Rattle.ic_laws.specs.declared.tree.Formula.{Formula}
use Rattle.ic_pool.proofs.PlacedLemmas.{IsPlaced-found, below_length, first_found}
use Rattle.ic_pool.proofs.pool.Pool.place.Goals as goal

pub returns-in-Some-clause-ok : goal.returns-in-Some-clause-ok
returns-in-Some-clause-ok c = IsPlaced-found c.args.formula c.in-Some.at c.args.self.now.formulas c.in-Some.ensures

pub returns-in-Some-clause-within : goal.returns-in-Some-clause-within
returns-in-Some-clause-within c =
    below_length {X = Formula} c.args.formula c.in-Some.at c.args.self.now.formulas (first_found c.args.formula c.args.self.now.formulas c.in-Some.at c.in-Some.ensures).here
