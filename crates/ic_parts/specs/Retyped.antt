-- What a cell shows, typed into it again.
use Rattle.std.specs.Prelude.{◌≡◌, ℕ, ℤ, List, Some, Ok, slice_get}
use Rattle.ic_machine.specs.Book as machine
use Rattle.ic_machine.specs.Book.{content_at}
use Rattle.ic_machine.specs.Reply.{text_field}
use Rattle.ic_machine.specs.Retyped.{HoldsThere, IsSameAsAny}
use Rattle.ic_machine.specs.subjects.Reading.{GetLocalizedCellContent, reading_step}
use Rattle.ic_parts.specs.Book.{ModelState}
use Rattle.ic_parts.specs.Whole.{whole_of}

-- where a text is what a cell showed, the cell holds what it held: a value of the same kind, or a formula with the same tree
abbrev pub Retypes : ℕ → ℤ → ℤ → List ℕ → ModelState → ModelState → Type 0
Retypes index row column text old new =
    (read : machine.Book) (sheet : machine.Sheet) → slice_get (whole_of old.book).sheets index ≡ Some sheet
    → reading_step (whole_of old.book) (GetLocalizedCellContent index row column) ≡ Ok (read, text_field text)
    → HoldsThere (whole_of new.book) index (row, column) (λ left now. IsSameAsAny (whole_of old.book) sheet left (content_at sheet row column) now)
