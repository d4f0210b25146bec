use Rattle.std.proofs.Common.{◌≡◌}
use Rattle.std.specs.BTreeMap.{values}
use Rattle.std.specs.List.{list_all}
use Rattle.ic_workbooks.specs.Numbered.{is_string_below}
use Rattle.ic_workbooks.proofs.numbered.are_strings_below.Given as goal

-- all are where those that are left are
abbrev pub invariant-loop-cell : goal.invariant-loop-cell
invariant-loop-cell l = list_all (is_string_below l.count) l.cell-iterator ≡ list_all (is_string_below l.count) (values l.map)
