use Rattle.std.proofs.Common.{◌≡◌, ◌-◌}
use Rattle.csv.specs.Records.{field_count, fields_of}
use Rattle.ic_parts.specs.Whole.{whole_of}
use Rattle.ic_import.specs.Records.{fields_in}
use Rattle.ic_import.specs.Typed.{Typable, typed}
use Rattle.ic_import.proofs.FieldLemmas.{left_in}
use Rattle.ic_import.proofs.typing.type_record.Given as goal

-- typing those that are left comes to what typing all does
abbrev pub invariant-fields : goal.invariant-fields
invariant-fields l = record {
  typed : typed l.at.sheet (l.at.row, l.at.column) (left_in l.at_record (fields_of l.fields) l.done) (whole_of l.model.book)
      ≡ typed l.at.sheet (l.at.row, l.at.column) (fields_in l.at_record 1 (fields_of l.fields)) (whole_of l.initial.model.book);
  typable : Typable (l.at.row, l.at.column) (left_in l.at_record (fields_of l.fields) l.done);
}

abbrev pub decreases-fields : goal.decreases-fields
decreases-fields l = field_count l.fields - l.done
