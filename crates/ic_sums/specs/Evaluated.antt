-- What evaluating a book leaves of it: all but the values of formulas and what their arrays gave to other cells.
use Rattle.std.specs.Prelude.{◌≡◌, ℕ, pos, map, Bool, true, false, Option, Some, option_and_then}
use Rattle.std.specs.FinMap as finite
use Rattle.std.specs.List.{slice_get}
use Rattle.ic_laws.specs.CoreBook.{CellPlace}
use Rattle.ic_cells.specs.declared.value.FormulaValue.TheVariants as values
use Rattle.ic_machine.specs.Alike.{seen_by}
use Rattle.ic_machine.specs.Book.{Book, Sheet}
use Rattle.ic_machine.specs.Content.{AnchorContent, Content, EmptyContent, FormulaContent, SpillContent}

-- a formula without its value, and without the area that its array takes up; a cell of an array without what that gave it;
-- other contents stay
abbrev pub unvalued : Content → Content
unvalued (FormulaContent index value style) = FormulaContent index values.Unevaluated style
unvalued (AnchorContent index area kind value style) = AnchorContent index (pos 1, pos 1) kind values.Unevaluated style
unvalued (SpillContent anchor value style) = EmptyContent style
unvalued content = content

abbrev pub unvalued_sheet : Sheet → Sheet
unvalued_sheet sheet = record sheet { grid = record sheet.grid { contents = seen_by unvalued sheet.grid.contents } }

-- a book in which no formula has a value
abbrev pub without_values : Book → Book
without_values book = record book { sheets = map unvalued_sheet book.sheets }

-- what stands at a place of the sheet at an index, if something does
abbrev pub held_at : Book → ℕ → CellPlace → Option Content
held_at book index place = option_and_then (λ sheet. finite.get sheet.grid.contents place) (slice_get book.sheets index)

-- neither a formula nor a cell of an array
abbrev pub is_plain : Option Content → Bool
is_plain (Some (FormulaContent index value style)) = false
is_plain (Some (AnchorContent index area kind value style)) = false
is_plain (Some (SpillContent anchor value style)) = false
is_plain content = true

-- only values of formulas, and what their arrays gave to other cells, differ: each other cell is as it was, and so is all else
pub record OnlyValues (before after : Book) : Type 0 where
  pub cells : (index : ℕ) (place : CellPlace) → is_plain (held_at before index place) ≡ true → held_at after index place ≡ held_at before index place
  pub rest : without_values after ≡ without_values before
