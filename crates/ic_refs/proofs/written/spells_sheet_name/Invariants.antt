use Rattle.std.proofs.Common.{◌≡◌, ◌+◌, ◌≤◌, chars, length}
use denote.Text.{Utf8}
use denote.Shadow.{shadow}
use Rattle.std.specs.List.{list_any}
use Rattle.ic_laws.specs.Name.{is_forbidden}
use Rattle.ic_refs.specs.Written.{spelled}
use Rattle.ic_refs.proofs.written.spells_sheet_name.Given as goal

-- what was passed is counted and allowed
abbrev pub invariant-loop-c : goal.invariant-loop-c
invariant-loop-c l = record {
  text : shadow (Utf8 l.rest);
  counted : l.count + length (spelled l.quoting (chars l.rest)) ≡ length (spelled l.quoting (chars l.inside));
  few : l.count ≤ 31;
  allowed : list_any is_forbidden (spelled l.quoting (chars l.rest)) ≡ list_any is_forbidden (spelled l.quoting (chars l.inside));
}

abbrev pub decreases-loop-c : goal.decreases-loop-c
decreases-loop-c l = length l.rest
