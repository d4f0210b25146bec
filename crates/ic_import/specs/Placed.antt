-- The places that fields are typed at, and the first one that no sheet has; and what is found of both kinds of wrong fields.
use Rattle.std.specs.Prelude.{◌≡◌, ℕ, pos, ◌+ℤ◌, ◌-ℤ◌, List, Bool, not, ◌&&◌, Option, Some, None, find, option_map}
use Rattle.ic_laws.specs.CoreBook.{CellPlace}
use Rattle.ic_laws.specs.Position.{is_column, is_row}
use Rattle.ic_import.specs.Records.{Field, first_no_text}
use Rattle.ic_import.specs.declared.places.FieldNumber.{FieldNumber}
use Rattle.ic_import.specs.declared.places.Survey.{Survey}
use Rattle.ic_import.specs.declared.places.Survey.TheVariants as survey

-- The first field of the first record stands at this place: the next record is a row below, the next field a column to the
-- right, however far.
abbrev pub place_at : CellPlace → (at_record at_field : ℕ) → CellPlace
place_at at at_record at_field = (at.0 +ℤ pos at_record -ℤ pos 1, at.1 +ℤ pos at_field -ℤ pos 1)

abbrev pub place_of : CellPlace → Field → CellPlace
place_of at field = place_at at field.at_record field.at_field

abbrev pub is_in_sheet : CellPlace → Bool
is_in_sheet place = is_row place.0 && is_column place.1

-- the first field whose place is in no sheet
abbrev pub is_outside : CellPlace → Field → Bool
is_outside at field = not (is_in_sheet (place_of at field))

abbrev pub first_outside : CellPlace → List Field → Option Field
first_outside at fields = find (is_outside at) fields

-- a field by its numbers alone
abbrev pub number_of : Field → FieldNumber
number_of field = record { at_record = field.at_record; at_field = field.at_field }

-- What a look at all fields finds: the first that is no text, or else the first that is outside, or neither.
abbrev pub Finds : CellPlace → List Field → Survey → Type 0
Finds at fields survey.Typable = (first_no_text fields ≡ None) × (first_outside at fields ≡ None)
Finds at fields (survey.NotUtf8 number) = option_map number_of (first_no_text fields) ≡ Some number
Finds at fields (survey.OutsideSheet number) = (first_no_text fields ≡ None) × (option_map number_of (first_outside at fields) ≡ Some number)

-- what is found where each field is text
abbrev pub survey_of : Option FieldNumber → Survey
survey_of (Some number) = survey.OutsideSheet number
survey_of None = survey.Typable
