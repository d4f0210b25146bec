-- What an action of each kind leaves of a book.
use Rattle.std.specs.Prelude.{◌≡◌, ℕ, List, Some, Ok, Err, slice_get}
use Rattle.ic_cells.specs.declared.style.Style.{Style}
use Rattle.ic_machine.specs.Action.{Action, Asks, ChangesCells, ChangesGrid, ChangesLists, ChangesNotation, ChangesSettings, ChangesTab}
use Rattle.ic_machine.specs.Book.{Book, Sheet, Stepped, with_sheet}

-- another sheet with the same id and the same name in the place of one, and maybe other styles
pub record HasOtherSheet (book left : Book) : Type 0 where
  pub index : ℕ
  pub old : Sheet
  pub new : Sheet
  pub styles : List Style
  pub there : slice_get book.sheets index ≡ Some old
  pub id : new.id ≡ old.id
  pub name : new.name ≡ old.name
  pub is : left ≡ record (with_sheet book index new) { styles = styles }

-- another zone or theme, another locale or language, and other sheets or definitions
abbrev pub HasOtherSettings : Book → Book → Type 0
HasOtherSettings book left = left ≡ record book { zone = left.zone; theme = left.theme }

abbrev pub HasOtherNotation : Book → Book → Type 0
HasOtherNotation book left = left ≡ record book { locale = left.locale; language = left.language }

abbrev pub HasOtherLists : Book → Book → Type 0
HasOtherLists book left = left ≡ record book { sheets = left.sheets; definitions = left.definitions }

-- by kinds: all else is what it was
abbrev pub IsLeftBy : Action → Book → Book → Type 0
IsLeftBy (Asks f) book left = left ≡ book
IsLeftBy (ChangesTab index f) book left = HasOtherSheet book left
IsLeftBy (ChangesGrid index f) book left = HasOtherSheet book left
IsLeftBy (ChangesCells f) book left = HasOtherSheet book left
IsLeftBy (ChangesSettings f) book left = HasOtherSettings book left
IsLeftBy (ChangesNotation f) book left = HasOtherNotation book left
IsLeftBy (ChangesLists f) book left = HasOtherLists book left

-- what a step leaves, if it isn't refused, stands so to the book before it
abbrev pub LeavesSo : (Book → Book → Type 0) → Book → Stepped Book → Type 0
LeavesSo Stands book (Ok done) = Stands book done.0
LeavesSo Stands book (Err refusal) = Unit {0}
