use Rattle.std.proofs.Common.{◌<◌, ◌∙◌, length, ap, sym, subst}
use Rattle.std.specs.List.{AllByRecursion}
use Rattle.ic_definitions.proofs.BodyLemmas.{put_next, with_body}
use Rattle.ic_definitions.specs.declared.bodies.NewBody.{NewBody}
use Rattle.ic_definitions.proofs.bodies.BodyRewrites.put.Goals as goal

pub loop-new-preserved : goal.loop-new-preserved
loop-new-preserved c =
    let taken = c.in-Some.ensures.steps.0 in
    record {
      left = put_next c.loop-new.new-iterator.rest.items c.next.new.self.rest.items c.args.self.bodies.items c.in-Some.new c.loop-new.definitions c.args.definitions.now c.index-definitions-new.result c.set_body.new.self taken
          c.loop-new.invariant.left c.index-definitions-new.is (c.set_body.ensures ∙ ap (with_body c.in-Some.new.body) (sym c.index-definitions-new.is));
      within = (subst (AllByRecursion (λ (new : NewBody). new.at < length c.args.definitions.now)) taken c.loop-new.invariant.within).1;
    }
