-- English, by the tables of a book.
use Rattle.std.specs.Prelude.{◌≡◌}
use Rattle.ic_laws.specs.Notations.{english}
use Rattle.ic_parts.specs.Book.{Book, NotationState}

-- a notation is English with the tables of a book
abbrev pub IsEnglish : Book → NotationState → Type 0
IsEnglish book notation = notation ≡ record { tables = book.tables; locale = english; language = english }
