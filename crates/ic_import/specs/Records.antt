-- The records of bytes, the fields in them by their numbers, and the first one that is no text.
use Rattle.std.specs.Prelude.{◌≡◌, ℕ, ◌+◌, List, [], ◌∷◌, ◌++◌, Bool, true, false, not, Option, find}
use Rattle.std.specs.Str.{is_utf8}
use Rattle.csv.specs.Reading.{default_config, records, strip_bom}
use Rattle.csv.specs.declared.parser.Config.{Config}

-- fields are parted by this byte, quoted by double quotes, and ended by a line feed, a carriage return or both
abbrev pub config_of : ℕ → Config
config_of separator = record default_config { delimiter = separator }

-- the records of bytes, each by its fields; a byte order mark at the start is no part of them
abbrev pub records_of : ℕ → List ℕ → List (List (List ℕ))
records_of separator bytes = records (config_of separator) (strip_bom bytes)

-- a field, the number of its record, and its number in that, both from 1
pub record Field : Type 0 where
  pub at_record : ℕ
  pub at_field : ℕ
  pub bytes : List ℕ

-- the fields of a record, the first of which has this number
abbrev pub fields_in : ℕ → ℕ → List (List ℕ) → List Field
fields_in at_record at_field [] = []
fields_in at_record at_field (bytes ∷ others) = record { at_record = at_record; at_field = at_field; bytes = bytes } ∷ fields_in at_record (at_field + 1) others

-- the fields of records, the first of which has this number, in their order
abbrev pub fields_from : ℕ → List (List (List ℕ)) → List Field
fields_from at_record [] = []
fields_from at_record (fields ∷ others) = fields_in at_record 1 fields ++ fields_from (at_record + 1) others

abbrev pub all_fields : List (List (List ℕ)) → List Field
all_fields records = fields_from 1 records

-- the first field that isn't UTF-8
abbrev pub is_no_text : Field → Bool
is_no_text field = not (is_utf8 field.bytes)

abbrev pub first_no_text : List Field → Option Field
first_no_text fields = find is_no_text fields

-- One read of the next record: there was one, with these fields, and the others are left; or there was none.

abbrev pub TakesRecord : Bool → List (List (List ℕ)) → List (List (List ℕ)) → List (List ℕ) → Type 0
TakesRecord true before now fields = before ≡ fields ∷ now
TakesRecord false before now fields = before ≡ []
