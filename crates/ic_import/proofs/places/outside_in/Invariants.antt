use Rattle.std.proofs.Common.{◌≡◌, ◌-◌}
use Rattle.csv.specs.Records.{fields_of}
use Rattle.ic_import.specs.Placed.{first_outside}
use Rattle.ic_import.specs.Records.{fields_in}
use Rattle.ic_import.proofs.FieldLemmas.{left_in}
use Rattle.ic_import.proofs.places.outside_in.Given as goal

-- the first one is among those that are left
abbrev pub invariant-fields : goal.invariant-fields
invariant-fields l = first_outside (l.start.row, l.start.column) (left_in l.at_record (fields_of l.fields) l.at) ≡ first_outside (l.start.row, l.start.column) (fields_in l.at_record 1 (fields_of l.fields))

abbrev pub decreases-fields : goal.decreases-fields
decreases-fields l = l.count - l.at
