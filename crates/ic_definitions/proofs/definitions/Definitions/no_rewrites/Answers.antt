use Rattle.std.proofs.Common.{◌<◌, List, length, subst, sym}
use Rattle.std.specs.List.{AllByRecursion}
use Rattle.ic_definitions.specs.Bodies.{HasFoundAll, with_bodies}
use Rattle.ic_definitions.specs.declared.bodies.NewBody.{NewBody}
use Rattle.ic_definitions.proofs.definitions.Definitions.no_rewrites.Goals as goal

pub returns-clause-fits : goal.returns-clause-fits
returns-clause-fits c =
    let none = sym c.new-nothing.ensures.bodies in
    record {
      within = subst (AllByRecursion (λ (new : NewBody). new.at < length c.args.self.now)) none tt;
      dangles = λ e. subst (λ (news : List NewBody). AllByRecursion HasFoundAll (with_bodies news c.args.self.now)) none (subst (AllByRecursion HasFoundAll) c.self.view_is (c.self.invariant.0.dangles e));
    }
