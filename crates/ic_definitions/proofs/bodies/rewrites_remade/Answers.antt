use Rattle.std.proofs.Common.{◌+◌, refl}
use Rattle.ic_definitions.proofs.BodyLemmas.{noted_step}
use Rattle.ic_definitions.proofs.bodies.rewrites_remade.Goals as goal

pub loop-at-preserved : goal.loop-at-preserved
loop-at-preserved g c =
    noted_step (g.R.Remaking.made c.args.remaking.now) c.args.definitions.now c.loop-at.at (c.loop-at.at + 1) c.index-definitions-at.result c.loop-at.rewrites c.note_remade.new.self refl c.loop-at-test.true
    c.index-definitions-at.is c.loop-at.invariant c.in_ok-note_remade.ensures
