-- What an import is asked for, what it leaves, and what each of its answers tells.
use Rattle.std.specs.Prelude.{◌≡◌, ℕ, List, [], ◌∷◌, true, false, not, Option, Some, None, IsSome, is_none, length, Result, Ok, Err, IfErr}
use Rattle.std.specs.Option.{option_map_or}
use Rattle.ic_laws.specs.Character.{comma}
use Rattle.ic_laws.specs.CoreBook.{CellPlace}
use Rattle.ic_laws.specs.Position.{is_column, is_row}
use Rattle.ic_laws.specs.Refusal as core
use Rattle.ic_refs.specs.declared.reference.CellReferenceIndex.{CellReferenceIndex}
use Rattle.ic_tables.specs.Tables.{TableSet, language_of, locale_of}
use Rattle.ic_tree.specs.Shown.{list_separator}
use Rattle.ic_lines.specs.Bytes.{IfTold}
use Rattle.ic_machine.specs.Book.{Book, lacks_sheet}
use Rattle.ic_machine.specs.Refusal.{Causes, InvalidColumn, InvalidRow, InvalidSheet, OfCore, Refusal, first_refusal}
use Rattle.ic_parts.specs.Refused.{refusal_of}
use Rattle.ic_parts.specs.declared.error.BookError.{BookError}
use Rattle.ic_parts.specs.declared.error.BookError.TheVariants as book
use Rattle.ic_import.specs.Placed.{Finds, first_outside}
use Rattle.ic_import.specs.Records.{Field, all_fields, first_no_text, records_of}
use Rattle.ic_import.specs.Typed.{Blocked, typed}
use Rattle.ic_import.specs.declared.error.ImportError.{ImportError}
use Rattle.ic_import.specs.declared.error.ImportError.TheVariants as errors
use Rattle.ic_import.specs.declared.places.Survey.TheVariants as survey

-- where the first field goes, and the notation that all fields are typed in
pub record Request : Type 0 where
  pub sheet : ℕ
  pub at : CellPlace
  pub locale : List ℕ
  pub language : List ℕ

abbrev pub request : CellReferenceIndex → (locale language : List ℕ) → Request
request at locale language = record { sheet = at.sheet; at = (at.row, at.column); locale = locale; language = language }

-- What refuses a request, whatever the bytes are: no such sheet, row or column, or a notation that the tables lack.
abbrev pub request_causes : Request → Book → Causes
request_causes request book =
    (lacks_sheet book request.sheet, InvalidSheet) ∷ (not (is_row request.at.0), InvalidRow) ∷ (not (is_column request.at.1), InvalidColumn)
    ∷ (is_none (locale_of book.tables request.locale), OfCore core.InvalidLocale) ∷ (is_none (language_of book.tables request.language), OfCore core.InvalidLanguage) ∷ []

abbrev pub request_refusal : Request → Book → Option Refusal
request_refusal request book = first_refusal (request_causes request book)

-- a request that nothing refuses
pub record IsMet (request : Request) (book : Book) : Type 0 where
  pub sheet : lacks_sheet book request.sheet ≡ false
  pub row : is_row request.at.0 ≡ true
  pub column : is_column request.at.1 ≡ true
  pub locale : IsSome (locale_of book.tables request.locale)
  pub language : IsSome (language_of book.tables request.language)

-- a request is refused exactly by what refuses it, and before all else
abbrev pub RefusesRequest : {T : Type 0} → Option Refusal → Result T ImportError → Type 0
RefusesRequest refusal (Err (errors.Book e)) = (told : Refusal) × (refusal_of e ≡ Some told) × (refusal ≡ Some told)
RefusesRequest refusal result = refusal ≡ None

-- Of bytes. ----

-- what parts fields: the list separator of the locale
abbrev pub separator_of : TableSet → List ℕ → ℕ
separator_of tables locale = option_map_or (λ named. list_separator named.locale) (locale_of tables locale) comma

abbrev pub records_in : Request → Book → List ℕ → List (List (List ℕ))
records_in request book bytes = records_of (separator_of book.tables request.locale) bytes

-- a book with another notation in force
abbrev pub in_notation : List ℕ → List ℕ → Book → Book
in_notation locale language book = record book { locale = locale; language = language }

-- What bytes come to: a field that is no text, or whose place is in no sheet, each by its numbers; a field that the book
-- refused, and why; or the book that typing leaves.
pub data Outcome : Type 0 where
  NoText : (at_record at_field : ℕ) → Outcome
  Outside : (at_record at_field : ℕ) → Outcome
  Refused : (at_record at_field : ℕ) (why : Refusal) → Outcome
  Leaves : (book : Book) → Outcome

-- the fields are typed in the notation of the request, and then the notation from before is in force again
abbrev pub typed_outcome : Book → Result Book Blocked → Outcome
typed_outcome book (Ok left) = Leaves (in_notation book.locale book.language left)
typed_outcome book (Err blocked) = Refused blocked.field.at_record blocked.field.at_field blocked.why

abbrev pub typing_outcome : Request → Book → List Field → Outcome
typing_outcome request book fields = typed_outcome book (typed request.sheet request.at fields (in_notation request.locale request.language book))

-- a wrong field goes before every one that is outside, and that before typing
abbrev pub outcome_of : Request → Book → List Field → Outcome
outcome_of request book fields =
    option_map_or (λ (f : Field). NoText f.at_record f.at_field)
    (first_no_text fields) (option_map_or (λ (f : Field). Outside f.at_record f.at_field) (first_outside request.at fields) (typing_outcome request book fields))

abbrev pub outcome : Request → Book → List ℕ → Outcome
outcome request book bytes = outcome_of request book (all_fields (records_in request book bytes))

-- What an answer tells of the outcome, and of the book that is left. With Ok records and fields are counted.
abbrev pub Tells : Outcome → (records fields : ℕ) → Result (ℕ × ℕ) ImportError → Book → Type 0
Tells outcome records fields (Ok counts) left = (outcome ≡ Leaves left) × (counts ≡ (records, fields))
Tells outcome records fields (Err (errors.NotUtf8 at_record at_field)) left = outcome ≡ NoText at_record at_field
Tells outcome records fields (Err (errors.OutsideSheet at_record at_field)) left = outcome ≡ Outside at_record at_field
Tells outcome records fields (Err (errors.Blocked at_record at_field why)) left = (told : Refusal) × (refusal_of why ≡ Some told) × (outcome ≡ Refused at_record at_field told)
Tells outcome records fields (Err e) left = Unit {0}

abbrev pub TellsImport : Request → Book → List ℕ → Result (ℕ × ℕ) ImportError → Book → Type 0
TellsImport request book bytes result left =
    Tells (outcome request book bytes) (length (records_in request book bytes)) (length (all_fields (records_in request book bytes))) result left

-- The answer rests on all bytes: it isn't that the request was refused, that a read failed, that there were too many, or that
-- memory ran out.
abbrev pub RestsOnBytes : {T : Type 0} → Result T ImportError → Type 0
RestsOnBytes (Ok counts) = Unit {0}
RestsOnBytes (Err (errors.NotUtf8 at_record at_field)) = Unit {0}
RestsOnBytes (Err (errors.OutsideSheet at_record at_field)) = Unit {0}
RestsOnBytes (Err (errors.Blocked at_record at_field why)) = Unit {0}
RestsOnBytes (Err e) = ⊥

-- The source held some bytes, all of which were taken, and this is what the answer tells of them and of the book that is left;
-- where the source tells its bytes, they are those.
pub record RestsOn (request : Request) (book left : Book) (result : Result (ℕ × ℕ) ImportError) (before now : Option (List ℕ)) : Type 0 where
  pub bytes : List ℕ
  pub tells : TellsImport request book bytes result left
  pub taken : IfTold before now (λ all rest. (bytes ≡ all) × (rest ≡ []))

-- why a field may be refused: merged cells cover its cell, or that belongs to a Cse array of several cells
abbrev pub IsBlocking : BookError → Type 0
IsBlocking book.MergedPart = Unit {0}
IsBlocking book.ArrayPart = Unit {0}
IsBlocking e = ⊥

abbrev pub BlocksRightly : ImportError → Type 0
BlocksRightly (errors.Blocked at_record at_field why) = IsBlocking why
BlocksRightly e = Unit {0}

-- The parts of the call. ----

-- an error that refuses the request, and one of reading the source
abbrev pub IsOfRequest : ImportError → Type 0
IsOfRequest (errors.Book e) = Unit {0}
IsOfRequest e = ⊥

abbrev pub IsOfReading : ImportError → Type 0
IsOfReading errors.ReadFault = Unit {0}
IsOfReading errors.TooManyTurns = Unit {0}
IsOfReading errors.OutOfMemory = Unit {0}
IsOfReading e = ⊥

-- one of bytes that were read
abbrev pub IsOfBytes : ImportError → Type 0
IsOfBytes (errors.Book e) = ⊥
IsOfBytes errors.ReadFault = ⊥
IsOfBytes errors.TooManyTurns = ⊥
IsOfBytes e = Unit {0}

-- an error of a look at all fields: the first that is no text; where all are, the first that is outside; or want of memory
abbrev pub TellsWrong : CellPlace → List Field → ImportError → Type 0
TellsWrong at fields (errors.NotUtf8 at_record at_field) = Finds at fields (survey.NotUtf8 (record { at_record = at_record; at_field = at_field }))
TellsWrong at fields (errors.OutsideSheet at_record at_field) = Finds at fields (survey.OutsideSheet (record { at_record = at_record; at_field = at_field }))
TellsWrong at fields errors.OutOfMemory = Unit {0}
TellsWrong at fields e = ⊥

-- what typing the fields of records answers and leaves; its other errors don't come
abbrev pub IsOfTyping : {T : Type 0} → Result T ImportError → Type 0
IsOfTyping (Ok counts) = Unit {0}
IsOfTyping (Err (errors.Blocked at_record at_field why)) = Unit {0}
IsOfTyping (Err errors.OutOfMemory) = Unit {0}
IsOfTyping (Err e) = ⊥

pub record TellsTyping (request : Request) (book : Book) (records : List (List (List ℕ))) (result : Result (ℕ × ℕ) ImportError) (left : Book) : Type 0 where
  pub told : Tells (typing_outcome request book (all_fields records)) (length records) (length (all_fields records)) result left
  pub which : IsOfTyping result
  pub blocked : IfErr result BlocksRightly
