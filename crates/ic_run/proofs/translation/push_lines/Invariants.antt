use Rattle.std.proofs.Common.{◌≡◌, ◌++◌, flat_map, string_bytes, take}
use Rattle.std.specs.Str.{chars}
use Rattle.ic_run.specs.Translate.{ended_line}
use Rattle.ic_run.proofs.translation.push_lines.Given as goal

-- those so far
abbrev pub invariant-loop-line : goal.invariant-loop-line
invariant-loop-line l = chars (string_bytes l.text) ≡ chars (string_bytes l.initial.text) ++ flat_map ended_line (take l.line-index l.lines)
