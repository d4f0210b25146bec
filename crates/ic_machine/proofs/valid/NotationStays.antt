-- The notation in force and the tables stay over each command but the two that choose the notation.
use Rattle.std.proofs.Common.{◌≡◌, Bool, true, false, Ok, Err, refl, sym, subst}
use Rattle.ic_machine.specs.Action.{Action, Asks, ChangesCells, ChangesGrid, ChangesLists, ChangesNotation, ChangesSettings, ChangesTab, chooses_notation}
use Rattle.ic_machine.specs.Book.{Book, Stepped}
use Rattle.ic_machine.specs.Command.{Command, action}
use Rattle.ic_machine.specs.Kinds.{HasOtherSheet, IsLeftBy, LeavesSo}
use Rattle.ic_machine.specs.Step.{step}
use Rattle.ic_machine.specs.Translation.{is_switch}
use Rattle.ic_machine.proofs.kinds.KindLemmas.{left_by_kind}

-- a book has the notation and the tables of another
pub record IsSameNotation (book left : Book) : Type 0 where
  pub locale : left.locale ≡ book.locale
  pub language : left.language ≡ book.language
  pub tables : left.tables ≡ book.tables

pub same_notation : (book : Book) → IsSameNotation book book
same_notation book = record { locale = refl; language = refl; tables = refl }

abbrev pub KeepsNotation : Book → Stepped Book → Type 0
KeepsNotation book (Ok done) = IsSameNotation book done.0
KeepsNotation book (Err refusal) = Unit {0}

abbrev pub KeepsNotationUnless : Bool → Book → Stepped Book → Type 0
KeepsNotationUnless true book stepped = Unit {0}
KeepsNotationUnless false book stepped = KeepsNotation book stepped

module _ (b : Book) where
  -- what is left is a book that has the same
  as_other : (left other : Book) → left ≡ other → IsSameNotation b other → IsSameNotation b left
  as_other left other e same = subst (IsSameNotation b) (sym e) same

  of_sheet : (left : Book) → HasOtherSheet b left → IsSameNotation b left
  of_sheet left h = as_other left _ h.is (record { locale = refl; language = refl; tables = refl })

  by_kind : (a : Action) (stepped : Stepped Book) → LeavesSo (IsLeftBy a) b stepped → KeepsNotationUnless (chooses_notation a) b stepped
  by_kind (ChangesNotation f) stepped h = tt
  by_kind a (Err refusal) h = tt
  by_kind (Asks f) (Ok done) h = as_other done.0 b h (same_notation b)
  by_kind (ChangesTab index f) (Ok done) h = of_sheet done.0 h
  by_kind (ChangesGrid index f) (Ok done) h = of_sheet done.0 h
  by_kind (ChangesCells f) (Ok done) h = of_sheet done.0 h
  by_kind (ChangesSettings f) (Ok done) h = as_other done.0 _ h (record { locale = refl; language = refl; tables = refl })
  by_kind (ChangesLists f) (Ok done) h = as_other done.0 _ h (record { locale = refl; language = refl; tables = refl })

  pub notation_stays : (command : Command) → KeepsNotationUnless (is_switch command) b (step b command)
  notation_stays command = by_kind (action command) (step b command) (left_by_kind b command)
