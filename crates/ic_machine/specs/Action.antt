-- What a command does to a book, by what it acts on: each command is said once, and laws over all commands go by these kinds.
use Rattle.std.specs.Prelude.{ℕ, Bool, true, false}
use Rattle.ic_machine.specs.Book.{Book, Grid, Stepped, Tab, on_grid, on_tab}

pub data Action : Type 0 where
  -- it only asks
  Asks : (Book → Stepped Book) → Action
  -- it is a step on the tab, or on the grid, of the sheet at an index
  ChangesTab : ℕ → (Tab → Stepped Tab) → Action
  ChangesGrid : ℕ → (Grid → Stepped Grid) → Action
  -- it changes cells or lines of one sheet, with its pool and the list of styles
  ChangesCells : (Book → Stepped Book) → Action
  -- it changes the zone or the theme
  ChangesSettings : (Book → Stepped Book) → Action
  -- it chooses the locale or the language
  ChangesNotation : (Book → Stepped Book) → Action
  -- it changes the list of sheets or that of definitions, and all formulas with them
  ChangesLists : (Book → Stepped Book) → Action

abbrev pub perform : Book → Action → Stepped Book
perform book (Asks f) = f book
perform book (ChangesTab index f) = on_tab book index f
perform book (ChangesGrid index f) = on_grid book index f
perform book (ChangesCells f) = f book
perform book (ChangesSettings f) = f book
perform book (ChangesNotation f) = f book
perform book (ChangesLists f) = f book

abbrev pub only_asks : Action → Bool
only_asks (Asks f) = true
only_asks action = false

abbrev pub chooses_notation : Action → Bool
chooses_notation (ChangesNotation f) = true
chooses_notation action = false

abbrev pub leaves_lists : Action → Bool
leaves_lists (ChangesLists f) = false
leaves_lists action = true
