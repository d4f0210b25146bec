use Rattle.std.proofs.Common.{◌≡◌, ◌+◌, length}
use Rattle.ic_parts.specs.Whole.{whole_of}
use Rattle.ic_import.specs.Records.{all_fields, fields_from, records_of}
use Rattle.ic_import.specs.Typed.{Typable, typed}
use Rattle.ic_import.proofs.TypingLemmas.{IsFew}
use Rattle.ic_import.proofs.typing.type_all.Given as goal

-- typing the fields of the records that are left comes to what typing all does; records and fields are counted
abbrev pub invariant-records : goal.invariant-records
invariant-records l = record {
  typed : typed l.at.sheet (l.at.row, l.at.column) (fields_from (l.at_record + 1) l.records) (whole_of l.model.book)
      ≡ typed l.at.sheet (l.at.row, l.at.column) (all_fields (records_of l.fn.separator l.fn.bytes)) (whole_of l.initial.model.book);
  typable : Typable (l.at.row, l.at.column) (fields_from (l.at_record + 1) l.records);
  counted : l.at_record + length l.records ≡ length (records_of l.fn.separator l.fn.bytes);
  fields : l.count + length (fields_from (l.at_record + 1) l.records) ≡ length (all_fields (records_of l.fn.separator l.fn.bytes));
  few : IsFew l.at_record l.count;
}

abbrev pub decreases-records : goal.decreases-records
decreases-records l = length l.records
