use Rattle.std.proofs.Common.{◌+◌, refl}
use Rattle.ic_definitions.proofs.BodyLemmas.{made_by, noted_step}
use Rattle.ic_definitions.proofs.bodies.rewrites_of.Goals as goal

pub loop-at-preserved : goal.loop-at-preserved
loop-at-preserved g c =
    noted_step (made_by (g.C.BookChange.change c.args.change.now)) c.args.definitions.now c.loop-at.at (c.loop-at.at + 1) c.index-definitions-at.result c.loop-at.rewrites c.note.new.self refl c.loop-at-test.true
    c.index-definitions-at.is c.loop-at.invariant c.in_ok-note.ensures
