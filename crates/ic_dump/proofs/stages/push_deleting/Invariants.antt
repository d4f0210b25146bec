use Rattle.std.proofs.Common.{◌≡◌, ◌++◌, ◌-◌, map, reverse}
use Rattle.std.specs.List.{range_with_len}
use Rattle.ic_dump.specs.Lines.{deleting_line}
use Rattle.ic_dump.proofs.stages.push_deleting.Given as goal

-- those so far, and those that are left
abbrev pub invariant-loop-gone : goal.invariant-loop-gone
invariant-loop-gone l = l.lines.items ++ map deleting_line (reverse (range_with_len l.own (l.count - l.own - l.gone))) ≡ l.initial.lines.items ++ map deleting_line (reverse (range_with_len l.own (l.count - l.own)))
