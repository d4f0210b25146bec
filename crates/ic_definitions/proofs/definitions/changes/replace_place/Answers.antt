use Rattle.std.proofs.Common.{ap, is_some, sym}
use Rattle.ic_definitions.proofs.HeldKeys.{put_over}
use Rattle.ic_definitions.proofs.definitions.changes.replace_place.Goals as goal

pub returns-in-Some : goal.returns-in-Some
returns-in-Some c =
    put_over c.args.places.now (c.get_mut.follows.lender c.args.index) c.args.key.now c.in-Some.place.now c.args.index c.in-Some.ensures.value
    ((c.get_mut.follows.holds c.args.index).3 (sym (ap is_some c.in-Some.ensures.value)))
