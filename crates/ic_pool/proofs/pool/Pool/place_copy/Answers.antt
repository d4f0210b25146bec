use Rattle.std.proofs.Common.{◌≡◌, ◌∙◌, Some, ap, sym}
use Rattle.ic_laws.specs.declared.tree.Formula.{Formula}
use Rattle.ic_pool.specs.Code.{code}
use Rattle.ic_pool.specs.Pool.{first_place}
use Rattle.ic_pool.proofs.PlacedLemmas.{IsPlaced-found, below_length, first_found}
use Rattle.ic_pool.proofs.pool.Pool.place_copy.Goals as goal

pub returns-in-Some-clause-ok : goal.returns-in-Some-clause-ok
returns-in-Some-clause-ok c =
    let found : first_place (code c.args.formula.now) c.args.self.now.formulas ≡ Some c.in-Some.at = sym (sym c.in-Some.is ∙ c.in_ok-found.ensures ∙ ap (λ k. first_place k c.args.self.now.formulas) c.in_ok-key.ensures) in
    IsPlaced-found c.args.formula.now c.in-Some.at c.args.self.now.formulas found

pub returns-in-Some-clause-within : goal.returns-in-Some-clause-within
returns-in-Some-clause-within c =
    let found : first_place (code c.args.formula.now) c.args.self.now.formulas ≡ Some c.in-Some.at = sym (sym c.in-Some.is ∙ c.in_ok-found.ensures ∙ ap (λ k. first_place k c.args.self.now.formulas) c.in_ok-key.ensures) in
    below_length {X = Formula} c.args.formula.now c.in-Some.at c.args.self.now.formulas (first_found c.args.formula.now c.args.self.now.formulas c.in-Some.at found).here
