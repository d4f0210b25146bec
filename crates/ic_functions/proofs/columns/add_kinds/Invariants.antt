use Rattle.std.proofs.Common.{◌≡◌, ◌++◌, chars, length}
use denote.Text.{Utf8}
use denote.Shadow.{shadow}
use Rattle.ic_functions.specs.Rows.{kinds_in, rows_in}
use Rattle.ic_functions.proofs.columns.add_kinds.Given as goal

-- the kinds so far and those of the rest are all kinds
abbrev pub invariant-loop-row : goal.invariant-loop-row
invariant-loop-row l =
    shadow (Utf8 l.rest)
    × (l.kinds.items ++ kinds_in (rows_in (chars l.rest)) ≡ l.initial.kinds.items ++ kinds_in (rows_in (chars l.text)))

abbrev pub decreases-loop-row : goal.decreases-loop-row
decreases-loop-row l = length (chars l.rest)
