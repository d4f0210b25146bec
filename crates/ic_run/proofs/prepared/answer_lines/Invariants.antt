use Rattle.std.proofs.Common.{◌≡◌, drop}
use Rattle.ic_run.specs.Core.{whole_machine}
use Rattle.ic_parts.specs.Whole.{whole_of}
use Rattle.ic_machine.specs.Run.{after}
use Rattle.ic_run.proofs.prepared.answer_lines.Given as goal

-- the lines that are left leave the book that all of them do
abbrev pub invariant-loop-line : goal.invariant-loop-line
invariant-loop-line l = after whole_machine (whole_of l.model.book) (drop l.line-index l.lines) ≡ after whole_machine (whole_of l.initial.model.book) l.lines
