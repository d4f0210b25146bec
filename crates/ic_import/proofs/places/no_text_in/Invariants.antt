use Rattle.std.proofs.Common.{◌≡◌, ◌-◌}
use Rattle.csv.specs.Records.{field_count, fields_of}
use Rattle.ic_import.specs.Records.{fields_in, first_no_text}
use Rattle.ic_import.proofs.FieldLemmas.{left_in}
use Rattle.ic_import.proofs.places.no_text_in.Given as goal

-- the first one is among those that are left
abbrev pub invariant-fields : goal.invariant-fields
invariant-fields l = first_no_text (left_in l.at_record (fields_of l.fields) l.at) ≡ first_no_text (fields_in l.at_record 1 (fields_of l.fields))

abbrev pub decreases-fields : goal.decreases-fields
decreases-fields l = field_count l.fields - l.at
