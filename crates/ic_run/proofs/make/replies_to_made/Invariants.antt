use Rattle.std.proofs.Common.{◌+◌, ◌-◌}
use Rattle.ic_parts.specs.Whole.{whole_of}
use Rattle.ic_run.specs.Make.{made_from, made_lines}
use Rattle.ic_run.proofs.MakeLemmas.{IsHalfway}
use Rattle.ic_run.proofs.make.replies_to_made.Given as goal

-- the lines so far are answered, and the others are still to be made
abbrev pub invariant-loop-made : goal.invariant-loop-made
invariant-loop-made l =
    IsHalfway (whole_of l.initial.model.book) (made_lines l.making) (whole_of l.model.book)
    (made_from (l.making.count - l.made) (l.made + 1) l.generator.state) l.replies.items
