-- Fields by their numbers: what is found in the fields of a record one after another, and in records one after another.
use Rattle.std.proofs.Common.{◌≡◌, ◌<◌, ◌≤◌, ◌+◌, ℕ, suc, zero, List, [], ◌∷◌, Bool, true, false, Option, Some, None, drop, length, IsUtf8, refl, sym, ap, ◌∙◌, arith, add-one}
use Rattle.std.specs.Prelude.{find, not, option_map}
use Rattle.std.specs.Option.{option_or}
use Rattle.std.proofs.lemmas.List.Folds.{find-append}
use Rattle.std.specs.Str.{is_utf8}
use Rattle.std.proofs.lemmas.Str.{IsUtf8-from_is_utf8, is_utf8-from_IsUtf8}
use Rattle.csv.specs.Records.{field_at}
use Rattle.ic_laws.specs.CoreBook.{CellPlace}
use Rattle.ic_import.specs.Placed.{is_in_sheet, is_outside, number_of, place_at}
use Rattle.ic_import.specs.Records.{Field, fields_from, fields_in, is_no_text}
use Rattle.ic_import.specs.declared.places.FieldNumber.{FieldNumber}

-- the fields from one on begin with it; there are none from the end on
from_field : (fields : List (List ℕ)) (at : ℕ) (bytes : List ℕ) → field_at fields at ≡ Some bytes → drop at fields ≡ bytes ∷ drop (suc at) fields
unfolding field_at
from_field [] at bytes e = cc
from_field (f ∷ fields) zero bytes e = let same : f ≡ bytes = cc in ap (λ (x : List ℕ). x ∷ fields) same
from_field (f ∷ fields) (suc at) bytes e = from_field fields at bytes e

from_none : (fields : List (List ℕ)) (at : ℕ) → field_at fields at ≡ None → drop at fields ≡ []
unfolding field_at
from_none [] zero e = refl
from_none [] (suc at) e = refl
from_none (f ∷ fields) zero e = cc
from_none (f ∷ fields) (suc at) e = from_none fields at e

-- what is left of the fields of a record where some were looked at
abbrev pub left_in : ℕ → List (List ℕ) → ℕ → List Field
left_in at_record fields at = fields_in at_record (at + 1) (drop at fields)

pub left_next : (at_record at : ℕ) (fields : List (List ℕ)) (bytes : List ℕ) → field_at fields at ≡ Some bytes
    → left_in at_record fields at ≡ record { at_record = at_record; at_field = at + 1; bytes = bytes } ∷ left_in at_record fields (at + 1)
left_next at_record at fields bytes e = ap (fields_in at_record (at + 1)) (from_field fields at bytes e ∙ ap (λ (n : ℕ). bytes ∷ drop n fields) (sym (add-one at)))

pub left_none : (at_record at : ℕ) (fields : List (List ℕ)) → field_at fields at ≡ None → left_in at_record fields at ≡ []
left_none at_record at fields e = ap (fields_in at_record (at + 1)) (from_none fields at e)

-- whether a field is text
pub is_text : (field : Field) → IsUtf8 field.bytes → is_no_text field ≡ false
is_text field u = ap not (is_utf8-from_IsUtf8 field.bytes u)

pub isnt_text : (field : Field) → ¬ IsUtf8 field.bytes → is_no_text field ≡ true
isnt_text field n = at (is_utf8 field.bytes) refl
  where
    at : (b : Bool) → is_utf8 field.bytes ≡ b → not b ≡ true
    at true e = absurd (n (IsUtf8-from_is_utf8 field.bytes e))
    at false e = refl

-- the first of a list that begins with a field which is found, or isn't
pub found_first : (test : Field → Bool) (field : Field) (others : List Field) → test field ≡ true → find test (field ∷ others) ≡ Some field
found_first test field others e = rw e refl

pub passed_first : (test : Field → Bool) (field : Field) (others : List Field) → test field ≡ false → find test (field ∷ others) ≡ find test others
passed_first test field others e = rw e refl

-- the field at a place of a record is the first that is found; or it is passed; or there is none
pub found_in : (test : Field → Bool) (at_record at : ℕ) (fields : List (List ℕ)) (bytes : List ℕ) → field_at fields at ≡ Some bytes
    → test (record { at_record = at_record; at_field = at + 1; bytes = bytes }) ≡ true → find test (left_in at_record fields at) ≡ Some (record { at_record = at_record; at_field = at + 1; bytes = bytes })
found_in test at_record at fields bytes e h = ap (find test) (left_next at_record at fields bytes e) ∙ found_first test (record { at_record = at_record; at_field = at + 1; bytes = bytes }) (left_in at_record fields (at + 1)) h

pub passed_in : (test : Field → Bool) (at_record at : ℕ) (fields : List (List ℕ)) (bytes : List ℕ) → field_at fields at ≡ Some bytes
    → test (record { at_record = at_record; at_field = at + 1; bytes = bytes }) ≡ false → find test (left_in at_record fields (at + 1)) ≡ find test (left_in at_record fields at)
passed_in test at_record at fields bytes e h = sym (ap (find test) (left_next at_record at fields bytes e) ∙ passed_first test (record { at_record = at_record; at_field = at + 1; bytes = bytes }) (left_in at_record fields (at + 1)) h)

pub none_in : (test : Field → Bool) (at_record at : ℕ) (fields : List (List ℕ)) → field_at fields at ≡ None → find test (left_in at_record fields at) ≡ None
none_in test at_record at fields e = ap (find test) (left_none at_record at fields e)

-- whether a place is in the sheet is all that is asked of a field that may be outside
pub place_is : (at : CellPlace) (at_record at_field : ℕ) (bytes : List ℕ) (inside : Bool) → inside ≡ is_in_sheet (place_at at at_record at_field)
    → is_outside at (record { at_record = at_record; at_field = at_field; bytes = bytes }) ≡ not inside
place_is at at_record at_field bytes inside e = ap not (sym e)

-- a place below the number of fields has one, and the end has none
pub some_field : (fields : List (List ℕ)) (at : ℕ) → at < length fields → (bytes : List ℕ) × (field_at fields at ≡ Some bytes)
unfolding field_at
some_field [] at h = absurd (omega arith)
some_field (f ∷ fields) zero h = (f, refl)
some_field (f ∷ fields) (suc at) h = some_field fields at (omega arith)

pub no_field : (fields : List (List ℕ)) (at : ℕ) → length fields ≤ at → field_at fields at ≡ None
unfolding field_at
no_field [] at h = refl
no_field (f ∷ fields) zero h = absurd (omega arith)
no_field (f ∷ fields) (suc at) h = no_field fields at (omega arith)

-- A record before others. ----

-- what is found in a record goes before what is found in the others
pub found_before : (test : Field → Bool) (at_record : ℕ) (fields : List (List ℕ)) (others : List (List (List ℕ)))
    → find test (fields_from at_record (fields ∷ others)) ≡ option_or (find test (fields_in at_record 1 fields)) (find test (fields_from (at_record + 1) others))
found_before test at_record fields others = find-append test (fields_in at_record 1 fields) (fields_from (at_record + 1) others)

-- by numbers alone: it was found before, or is found in the record, or in the others
pub found_numbers : (o : Option FieldNumber) (test : Field → Bool) (at_record : ℕ) (fields : List (List ℕ)) (others : List (List (List ℕ)))
    → option_or (option_or o (option_map number_of (find test (fields_in at_record 1 fields)))) (option_map number_of (find test (fields_from (at_record + 1) others)))
    ≡ option_or o (option_map number_of (find test (fields_from at_record (fields ∷ others))))
found_numbers (Some number) test at_record fields others = refl
found_numbers None test at_record fields others = either (find test (fields_in at_record 1 fields)) (find test (fields_from (at_record + 1) others)) ∙ ap (option_map number_of) (sym (found_before test at_record fields others))
  where
    either : (a b : Option Field) → option_or (option_map number_of a) (option_map number_of b) ≡ option_map number_of (option_or a b)
    either None b = refl
    either (Some f) b = refl

-- none is found by numbers only where none is found
pub none_found : (o : Option Field) → option_map number_of o ≡ None → o ≡ None
none_found None e = refl
none_found (Some f) e = cc

-- the first that was found in a record is the first of all from it on
pub found_here : (test : Field → Bool) (at_record : ℕ) (fields : List (List ℕ)) (others : List (List (List ℕ))) (number : FieldNumber)
    → option_map number_of (find test (fields_in at_record 1 fields)) ≡ Some number → option_map number_of (find test (fields_from at_record (fields ∷ others))) ≡ Some number
found_here test at_record fields others number e = ap (option_map number_of) (found_before test at_record fields others) ∙ here (find test (fields_in at_record 1 fields)) e
  where
    here : (o : Option Field) → option_map number_of o ≡ Some number → option_map number_of (option_or o (find test (fields_from (at_record + 1) others))) ≡ Some number
    here None e = cc
    here (Some f) e = e

-- where none was found in a record, the first is in the others
pub passed_here : (test : Field → Bool) (at_record : ℕ) (fields : List (List ℕ)) (others : List (List (List ℕ)))
    → find test (fields_in at_record 1 fields) ≡ None → find test (fields_from (at_record + 1) others) ≡ find test (fields_from at_record (fields ∷ others))
passed_here test at_record fields others e = sym (found_before test at_record fields others ∙ ap (λ (o : Option Field). option_or o (find test (fields_from (at_record + 1) others))) e)
