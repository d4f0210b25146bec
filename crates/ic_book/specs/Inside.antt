-- What a model keeps, as contracts see it, and what always holds of that.
use Rattle.std.specs.Prelude.{List, map}
use Rattle.ic_laws.specs.CoreBook.{Definition}
use Rattle.ic_cells.specs.declared.style.Style.{Style}
use Rattle.ic_sheets.specs.Sheet.{sheet_of}
use Rattle.ic_sheets.specs.declared.sheet.Sheet.{Sheet as HeldSheet}
use Rattle.ic_parts.specs.declared.lists.Lists.{Lists}
use Rattle.ic_book.specs.declared.model.Model.TheInside.{Inside}
use Rattle.ic_parts.specs.Book.{Book, IsValidBook, ModelState}
use Rattle.ic_parts.specs.Names.{IsIndexed}

-- the book that it holds
abbrev pub held : Inside → Book
held inside = record {
  name = inside.about.name;
  sheets = map sheet_of inside.contents.sheets;
  definitions = inside.contents.definitions;
  locale = inside.notation.locale;
  language = inside.notation.language;
  zone = inside.about.zone.now;
  theme = inside.about.theme;
  metadata = inside.about.metadata;
  styles = inside.lists.styles;
  strings = inside.lists.strings;
  tables = inside.notation.tables;
}

abbrev pub held_state : Inside → ModelState
held_state inside = record { book = held inside; has_all = map (λ s. s.pool.is_whole) inside.contents.sheets }

-- that book is valid
abbrev pub IsHeld : Inside → Type 0
IsHeld inside = IsValidBook (held inside)

-- and what finds its sheets and its definitions by their names does
pub record IsKept (inside : Inside) : Type 0 where
  pub book : IsHeld inside
  pub names : IsIndexed inside.names inside.contents.sheets inside.contents.definitions

-- the same with other sheets, with other definitions too, with other lists, and with other styles
abbrev pub with_sheets : List HeldSheet → Inside → Inside
with_sheets sheets inside = record inside { contents = record inside.contents { sheets = sheets } }

abbrev pub with_contents : List HeldSheet → List Definition → Inside → Inside
with_contents sheets definitions inside = record inside { contents = record { sheets = sheets; definitions = definitions } }

abbrev pub with_lists : Lists → Inside → Inside
with_lists lists inside = record inside { lists = lists }

abbrev pub with_styles : List Style → Inside → Inside
with_styles styles inside = with_lists (record inside.lists { styles = styles }) inside
