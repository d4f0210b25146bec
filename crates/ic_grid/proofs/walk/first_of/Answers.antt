use Rattle.ic_grid.proofs.WalkLemmas.{first_at, none_at}
use Rattle.ic_grid.proofs.walk.first_of.Goals as goal

pub returns-in-Some-clause-some : goal.returns-in-Some-clause-some
returns-in-Some-clause-some c =
    first_at c.args.map.now c.args.from c.range.result (c.range.ensures.in_range tt) c.in-Some.place.now c.in-Some.field-0-1.now c.next.new.self c.in-Some.ensures.steps

pub returns-in-None-clause-none : goal.returns-in-None-clause-none
returns-in-None-clause-none c =
    none_at c.args.map.now c.args.from c.range.result (c.range.ensures.in_range tt) c.in-None.ensures.steps.0
