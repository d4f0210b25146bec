-- The book that the lines of a source leave, from the new book in en, en and UTC.
use Rattle.std.specs.Prelude.{◌≡◌, List, ℕ}
use Rattle.ic_laws.specs.Lines.{texts_of}
use Rattle.ic_tables.specs.Tables.{TableSet}
use Rattle.ic_machine.specs.Book.{Book}
use Rattle.ic_machine.specs.Run.{after}
use Rattle.ic_parts.specs.Book as model
use Rattle.ic_run.specs.Core.{whole_machine}
use Rattle.ic_parts.specs.Whole.{whole_of}
use Rattle.ic_run.specs.Make.{made_start}

-- the whole book after the lines of these bytes, from the new one that was made at this moment
abbrev pub book_after : TableSet → List ℕ → List ℕ → Book
book_after tables created bytes = after whole_machine (made_start created tables) (texts_of bytes)

-- a book is that, from a new one that was made at some moment
abbrev pub IsBookAfter : TableSet → model.Book → List ℕ → List ℕ → Type 0
IsBookAfter tables book bytes left = (created : List ℕ) × (whole_of book ≡ book_after tables created bytes)

-- some lines lead from one whole book to another
abbrev pub SomeLead : Book → Book → Type 0
SomeLead old new = (lines : List (List ℕ)) × (new ≡ after whole_machine old lines)

-- a book is what some lines leave, from a new one that was made at some moment
abbrev pub IsLeftBySome : TableSet → model.Book → Type 0
IsLeftBySome tables book = (created : List ℕ) × SomeLead (made_start created tables) (whole_of book)
