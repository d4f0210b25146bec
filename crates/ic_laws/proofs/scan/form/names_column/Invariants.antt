use Rattle.std.proofs.Common.{◌≡◌, ◌≤◌, chars, length}
use denote.Text.{Utf8}
use denote.Shadow.{shadow}
use Rattle.ic_laws.proofs.FormLemmas.{column_from}
use Rattle.ic_laws.proofs.scan.form.names_column.Given as goal

-- the column so far, read on, is what the letters name
abbrev pub invariant-loop-c : goal.invariant-loop-c
invariant-loop-c l = record {
  text : shadow (Utf8 l.rest);
  within : l.column ≤ 16385;
  read : column_from l.column (chars l.rest) ≡ column_from 0 (chars l.letters);
}

abbrev pub decreases-loop-c : goal.decreases-loop-c
decreases-loop-c l = length l.rest
