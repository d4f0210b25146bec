use Rattle.std.proofs.Common.{◌+◌, ◌-◌, length, map, arith}
use Rattle.ic_dump.proofs.PassingLemmas.{one_further}
use Rattle.ic_dump.proofs.passing.free_numerals.Goals as goal

pub loop-number-preserved : goal.loop-number-preserved
loop-number-preserved c =
    let taken = map (λ t. t.now) c.args.taken.now in
    let end = c.args.count + length c.args.taken.now + 1 in
    let number = c.loop-number.number in
    let further = one_further taken c.args.count number (end - number) (end - (number + 1)) c.loop-number.names.items c.push_if_free.new.names.items _ (omega arith) (omega arith) (c.in_ok-push_if_free.ensures taken c.in_ok-folded.ensures) c.loop-number.invariant.left in
    record { few = further.0; left = further.1 }
