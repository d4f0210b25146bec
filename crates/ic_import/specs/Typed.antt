-- What typing fields leaves of a book, one after another.
use Rattle.std.specs.Prelude.{◌≡◌, ℕ, List, [], ◌∷◌, chars, None, Result, Ok, Err, Some}
use Rattle.ic_laws.specs.CoreBook.{CellPlace}
use Rattle.ic_machine.specs.Book.{Book, Stepped}
use Rattle.ic_machine.specs.Refusal.{Refusal}
use Rattle.ic_machine.specs.subjects.Writing.{SetUserInput, writing_step}
use Rattle.ic_parts.specs.Refused.{refusal_of}
use Rattle.ic_parts.specs.declared.error.BookError.{BookError}
use Rattle.ic_parts.specs.declared.error.BookError.TheVariants as book
use Rattle.ic_import.specs.Placed.{first_outside, place_of}
use Rattle.ic_import.specs.Records.{Field, first_no_text}
use Rattle.ic_import.specs.declared.places.FieldNumber.{FieldNumber}
use Rattle.ic_import.specs.declared.error.ImportError.{ImportError}
use Rattle.ic_import.specs.declared.error.ImportError.TheVariants as errors

-- a field that the book refused, and why
pub record Blocked : Type 0 where
  pub field : Field
  pub why : Refusal

-- the machine's step of typing a field into the sheet at an index, where the first field stands at this place
abbrev pub type_field : ℕ → CellPlace → Field → Book → Stepped Book
type_field sheet at field book = writing_step book (SetUserInput sheet (place_of at field).0 (place_of at field).1 (chars field.bytes))

-- the others are typed after a field that isn't refused
abbrev pub go_on : Field → (Book → Result Book Blocked) → Stepped Book → Result Book Blocked
go_on field others (Ok done) = others done.0
go_on field others (Err why) = Err (record { field = field; why = why })

-- the book after all fields, each typed in its turn; or the first of them that is refused
abbrev pub typed : ℕ → CellPlace → List Field → Book → Result Book Blocked
typed sheet at [] book = Ok book
typed sheet at (field ∷ fields) book = go_on field (typed sheet at fields) (type_field sheet at field book)

-- the error of typing: the field that was refused, or want of memory
abbrev pub TellsBlocked : Result Book Blocked → ImportError → Type 0
TellsBlocked (Err blocked) (errors.Blocked at_record at_field why) = (at_record ≡ blocked.field.at_record) × (at_field ≡ blocked.field.at_field) × (refusal_of why ≡ Some blocked.why)
TellsBlocked result errors.OutOfMemory = Unit {0}
TellsBlocked result e = ⊥

-- each field is text and has a place in the sheet
pub record Typable (at : CellPlace) (fields : List Field) : Type 0 where
  pub text : first_no_text fields ≡ None
  pub inside : first_outside at fields ≡ None

-- the error that tells why the field of these numbers wasn't typed
abbrev pub error_of : FieldNumber → BookError → ImportError
error_of number book.OutOfMemory = errors.OutOfMemory
error_of number why = errors.Blocked number.at_record number.at_field why
