use Rattle.std.proofs.Common.{◌∙◌}
use Rattle.ic_changes.proofs.CopiedDefinitions.{body_put}
use Rattle.ic_changes.proofs.sheet_copies.definitions.put_bodies.Goals as goal

pub loop-body-preserved : goal.loop-body-preserved
loop-body-preserved c =
    let both =
    body_put _ c.loop-body.definitions c.set_body.new.self c.loop-body.bodies.items c.pop.new.self.items c.in-Some.body c.len.result c.loop-body.invariant.left c.loop-body.invariant.within c.in-Some.ensures.items (c.len.ensures ∙ c.pop.new.self.ok.0)
    c.set_body.ensures.bodies in
    record { left = both.0; within = both.1 }
