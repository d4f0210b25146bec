use Rattle.std.proofs.Common.{◌≡◌, ◌++◌, map, take}
use Rattle.ic_dump.specs.Lines.{body_line}
use Rattle.ic_dump.specs.Records.{name_seen}
use Rattle.ic_dump.proofs.stages.push_bodies.Given as goal

-- those so far
abbrev pub invariant-loop-definition : goal.invariant-loop-definition
invariant-loop-definition l = l.lines.items ≡ l.initial.lines.items ++ map (λ d. body_line l.standing.sheets.items (name_seen d) d.formula) (take l.definition-index l.definitions)
