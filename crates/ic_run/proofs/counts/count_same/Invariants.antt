use Rattle.std.proofs.Common.{◌≡◌, take}
use Rattle.ic_run.specs.Counts.{count_same}
use Rattle.ic_run.proofs.counts.count_same.Given as goal

abbrev pub invariant-loop-reply : goal.invariant-loop-reply
invariant-loop-reply l = l.n ≡ count_same l.text (take l.reply-index l.replies)
