use Rattle.std.proofs.Common.{◌≡◌, ◌+◌, length}
use Rattle.std.specs.Option.{option_or}
use Rattle.std.specs.Prelude.{option_map}
use Rattle.ic_import.specs.Placed.{first_outside, number_of}
use Rattle.ic_import.specs.Records.{all_fields, fields_from, first_no_text, records_of}
use Rattle.ic_import.proofs.places.survey_fields.Given as goal

-- No field so far is wrong; the first that is outside was found, or is among those that are left. Records are counted.
abbrev pub invariant-records : goal.invariant-records
invariant-records l = record {
  text : first_no_text (fields_from (l.at_record + 1) l.records) ≡ first_no_text (all_fields (records_of l.fn.separator l.fn.bytes));
  outside : option_or l.outside (option_map number_of (first_outside (l.start.row, l.start.column) (fields_from (l.at_record + 1) l.records)))
      ≡ option_map number_of (first_outside (l.start.row, l.start.column) (all_fields (records_of l.fn.separator l.fn.bytes)));
  counted : l.at_record + length l.records ≡ length (records_of l.fn.separator l.fn.bytes);
}

abbrev pub decreases-records : goal.decreases-records
decreases-records l = length l.records
