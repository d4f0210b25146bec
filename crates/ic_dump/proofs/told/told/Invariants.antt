use Rattle.std.proofs.Common.{◌≡◌, chars, flat_map, string_bytes, take}
use Rattle.ic_run.specs.Translate.{ended_line}
use Rattle.ic_dump.proofs.told.told.Given as goal

-- the lines so far
abbrev pub invariant-loop-line : goal.invariant-loop-line
invariant-loop-line l = chars (string_bytes l.text) ≡ flat_map ended_line (take l.line-index l.lines)
