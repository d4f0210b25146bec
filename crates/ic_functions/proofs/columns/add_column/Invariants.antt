use Rattle.std.proofs.Common.{◌≡◌, ◌++◌, chars, length}
use denote.Text.{Utf8}
use denote.Shadow.{shadow}
use Rattle.ic_functions.specs.Rows.{column, rows_in}
use Rattle.ic_functions.proofs.columns.add_column.Given as goal

-- the words so far and those of the rest are all words
abbrev pub invariant-loop-row : goal.invariant-loop-row
invariant-loop-row l =
    shadow (Utf8 l.rest)
    × (l.words.items ++ column l.place (rows_in (chars l.rest)) ≡ l.initial.words.items ++ column l.place (rows_in (chars l.text)))

abbrev pub decreases-loop-row : goal.decreases-loop-row
decreases-loop-row l = length (chars l.rest)
