use Rattle.std.proofs.Common.{◌≡◌, ◌≤◌, chars, length}
use denote.Text.{Utf8}
use denote.Shadow.{shadow}
use Rattle.ic_laws.proofs.FormLemmas.{row_from}
use Rattle.ic_laws.proofs.scan.form.names_row.Given as goal

-- the row so far, read on, is what the digits name
abbrev pub invariant-loop-c : goal.invariant-loop-c
invariant-loop-c l = record {
  text : shadow (Utf8 l.rest);
  within : l.row ≤ 1048577;
  read : row_from l.row (chars l.rest) ≡ row_from 0 (chars l.digits);
}

abbrev pub decreases-loop-c : goal.decreases-loop-c
decreases-loop-c l = length l.rest
