-- The whole book of a model's book (`specs/Book`), and that its core is that book's.
use Rattle.std.specs.Prelude.{◌≡◌}
use Rattle.ic_machine.specs.Book as machine
use Rattle.ic_parts.specs.Book.{Book, IsValidBook, core_of}
pub use Rattle.ic_parts.specs.Book.{whole_of, whole_sheet, whole_tab}

-- the core of a valid book is that of its whole book
abbrev pub HasCore : Type 0
HasCore = (book : Book) → IsValidBook book → machine.core_of (whole_of book) ≡ core_of book
