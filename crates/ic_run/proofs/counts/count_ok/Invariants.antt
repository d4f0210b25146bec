use Rattle.std.proofs.Common.{◌≡◌, take}
use Rattle.std.specs.List.{count_by}
use Rattle.ic_run.specs.Counts.{begins_with_o}
use Rattle.ic_run.proofs.counts.count_ok.Given as goal

abbrev pub invariant-loop-reply : goal.invariant-loop-reply
invariant-loop-reply l = l.n ≡ count_by begins_with_o (take l.reply-index l.replies)
