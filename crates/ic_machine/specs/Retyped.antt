-- What a cell shows, typed into it again, leaves what it held: a value of the same kind, or a formula with the same tree.
use Rattle.std.specs.Prelude.{◌≡◌, ℕ, List, Bool, true, false, Option, Some, None, Ok, slice_get}
use Rattle.ic_laws.specs.Clash.{clashes_with}
use Rattle.ic_laws.specs.CoreBook.{CellPlace}
use Rattle.ic_laws.specs.Tree.{Bound}
use Rattle.ic_laws.specs.declared.tree.Formula.{Formula}
use Rattle.ic_laws.specs.declared.tree.Formula.TheVariants as formulas
use Rattle.ic_tree.specs.LanguageWords.{is_boolean_word, is_function_word}
use Rattle.ic_machine.specs.Book.{Book, Sheet, content_at, formula_held}
use Rattle.ic_machine.specs.Command.{OnReading, OnWriting}
use Rattle.ic_machine.specs.Content.{AnchorContent, BoolContent, Content, EmptyContent, ErrContent, FormulaContent, NumContent, SpillContent, TextContent, formula_in, style_of}
use Rattle.ic_machine.specs.InForce.{by_notation, in_force}
use Rattle.ic_machine.specs.Reply.{Field, text_field}
use Rattle.ic_machine.specs.Step.{step}
use Rattle.ic_machine.specs.Valid.{IsValidBook}
use Rattle.ic_machine.specs.subjects.Reading.{GetLocalizedCellContent}
use Rattle.ic_machine.specs.subjects.Writing.{SetUserInput}

-- a name in the tree is a word of the language in force, so that the tree can't be written in it
abbrev pub clashes_in : Book → Bound → Bool
clashes_in book t = by_notation true (λ f. clashes_with (is_boolean_word f.language) (is_function_word f.language) t) (in_force book)

-- the content has the formula that one of the sheet before had: nothing is said of a text that doesn't read, and of a tree
-- that clashes
abbrev pub SameFormula : Book → Sheet → Content → Formula → Type 0
SameFormula book after now (formulas.Raw text) = Unit {0}
SameFormula book after now (formulas.Tree t) = clashes_in book t ≡ false → formula_held after now ≡ Some (formulas.Tree t)

-- The content is what another was, in a style that may be new: nothing, or the same boolean, number, error value or text.
-- In the place of a formula stands one with the same tree, which has no value yet. Nothing is said of a cell of a spill.
abbrev pub IsSameAs : Book → Sheet → Sheet → Content → Content → Type 0
IsSameAs book before after (EmptyContent style) now = now ≡ EmptyContent (style_of now)
IsSameAs book before after (BoolContent truth style) now = now ≡ BoolContent truth (style_of now)
IsSameAs book before after (NumContent amount style) now = now ≡ NumContent amount (style_of now)
IsSameAs book before after (ErrContent e style) now = now ≡ ErrContent e (style_of now)
IsSameAs book before after (TextContent text style) now = now ≡ TextContent text (style_of now)
IsSameAs book before after (FormulaContent index value style) now = SameFormula book after now (formula_in before.pool index)
IsSameAs book before after (AnchorContent index area kind value style) now = SameFormula book after now (formula_in before.pool index)
IsSameAs book before after (SpillContent anchor value style) now = Unit {0}

-- where a place held nothing, an empty cell stands then
abbrev pub IsSameAsAny : Book → Sheet → Sheet → Option Content → Content → Type 0
IsSameAsAny book before after None now = now ≡ EmptyContent (style_of now)
IsSameAsAny book before after (Some was) now = IsSameAs book before after was now

-- a place of the sheet at an index holds a content of which this is so
pub record HoldsThere (book : Book) (index : ℕ) (place : CellPlace) (IsSo : Sheet → Content → Type 0) : Type 0 where
  pub sheet : Sheet
  pub found : slice_get book.sheets index ≡ Some sheet
  pub content : Content
  pub there : content_at sheet place.0 place.1 ≡ Some content
  pub is_so : IsSo sheet content

-- In a valid book, after a text is typed into a cell that the cell just showed, the cell holds what it held. A covered cell
-- and one of a Cse array of several cells can't be typed into.
abbrev pub RetypedStays : Type 0
RetypedStays =
    (book read after : Book) (index : ℕ) (place : CellPlace) (sheet : Sheet) (shown : List ℕ) (fields : List Field) → IsValidBook book
    → slice_get book.sheets index ≡ Some sheet
    → step book (OnReading (GetLocalizedCellContent index place.0 place.1)) ≡ Ok (read, text_field shown)
    → step book (OnWriting (SetUserInput index place.0 place.1 shown)) ≡ Ok (after, fields)
    → HoldsThere after index place (λ left now. IsSameAsAny book sheet left (content_at sheet place.0 place.1) now)
