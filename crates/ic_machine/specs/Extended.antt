-- What a formula is that was written out for another cell: typed into that cell, it is the same formula, with the same
-- offsets from the cell and the same fixed positions, and with the word for a lost reference where one leaves the sheet.
use Rattle.std.specs.Prelude.{◌≡◌, ℕ, List, ◌∷◌, ◌++◌, Bool, true, false, Some, None, Ok, slice_get}
use Rattle.ic_laws.specs.Binding.{bound, spelled}
use Rattle.ic_laws.specs.Character.{equals}
use Rattle.ic_laws.specs.CoreBook.{CellPlace}
use Rattle.ic_laws.specs.Dialect.{DialectMeaning, reference_text}
use Rattle.ic_laws.specs.FormulaReading.{shown_at}
use Rattle.ic_laws.specs.Notations.{english_function, is_cell}
use Rattle.ic_laws.specs.Position.{is_inside}
use Rattle.ic_laws.specs.ReadAs.{read_as}
use Rattle.ic_laws.specs.Reading.{printed}
use Rattle.ic_laws.specs.Scan.{IsEnd}
use Rattle.ic_laws.specs.Tree.{Bound, Spelled, is_written_sheet}
use Rattle.ic_laws.specs.ValidCore.{IsKept}
use Rattle.ic_laws.specs.declared.reference.RefToken.{RefToken}
use Rattle.ic_laws.specs.declared.tree.Error.TheVariants as errors
use Rattle.ic_laws.specs.declared.tree.Formula.{Formula}
use Rattle.ic_laws.specs.declared.tree.Formula.TheVariants as formulas
use Rattle.ic_input.specs.declared.input.Typed.TheVariants as kinds
use Rattle.ic_machine.specs.Book.{Book, Sheet, core_of, formula_held, notations_in, scene_in}
use Rattle.ic_machine.specs.Command.{OnExtending}
use Rattle.ic_machine.specs.Content.{Content}
use Rattle.ic_machine.specs.InForce.{error_in, formula_typed, typed_in}
use Rattle.ic_machine.specs.Lost.{with_lost}
use Rattle.ic_machine.specs.Reply.{text_field}
use Rattle.ic_machine.specs.Retyped.{clashes_in}
use Rattle.ic_machine.specs.Valid.{IsValidBook}
use Rattle.ic_machine.specs.Step.{step}
use Rattle.ic_machine.specs.subjects.Extending.{CellOf, ExtendCopiedValue, copied_tree, extended, source_id}
use Rattle.ic_machine.specs.subjects.Reading.{formula_text}
use Rattle.ic_machine.specs.subjects.Writing.{formula_at_place}

-- a text, typed into a place of a sheet, is a formula, and this one
abbrev pub IsTypedAs : Book → Sheet → CellPlace → List ℕ → Formula → Type 0
IsTypedAs book sheet place text formula = (body : List ℕ) × (typed_in book text ≡ kinds.Formula body) × (formula_at_place book sheet place body ≡ formula)

-- In a valid book a cell's formula is extended to a cell: it is typed there as the tree that it is, where that tree's
-- references lie in the sheet, counted from the other cell, and none of its names is a word of the language in force.
abbrev pub ExtendedIsSame : Type 0
ExtendedIsSame =
    (book : Book) (index : ℕ) (sheet : Sheet) (content : Content) (t : Bound) (target : CellPlace) → IsValidBook book
    → slice_get book.sheets index ≡ Some sheet
    → formula_held sheet content ≡ Some (formulas.Tree t)
    → is_cell target.0 target.1 ≡ true
    → IsKept (notations_in book) (scene_in book) (Some sheet.id) target.0 target.1 t
    → clashes_in book t ≡ false
    → IsTypedAs book sheet target (extended book sheet target content) (formulas.Tree t)

-- It is written there as it is with its lost references, whatever its names are.
abbrev pub ExtendedIsWritten : Type 0
ExtendedIsWritten =
    (book : Book) (index : ℕ) (sheet : Sheet) (content : Content) (t : Bound) (target : CellPlace) → IsValidBook book
    → slice_get book.sheets index ≡ Some sheet
    → formula_held sheet content ≡ Some (formulas.Tree t)
    → extended book sheet target content ≡ formula_text book target (formulas.Tree (with_lost target.0 target.1 t))

-- And it is typed there as that tree, where none of its names is a word of the language in force.
abbrev pub ExtendedIsTyped : Type 0
ExtendedIsTyped =
    (book : Book) (index : ℕ) (sheet : Sheet) (content : Content) (t : Bound) (target : CellPlace) → IsValidBook book
    → slice_get book.sheets index ≡ Some sheet
    → formula_held sheet content ≡ Some (formulas.Tree t)
    → is_cell target.0 target.1 ≡ true
    → clashes_in book t ≡ false
    → IsTypedAs book sheet target (extended book sheet target content) (formulas.Tree (with_lost target.0 target.1 t))

-- how formulas are written in a cell
abbrev pub form_at : Book → CellPlace → DialectMeaning
form_at book place = shown_at (notations_in book) (core_of book) place.0 place.1

-- What is written of one reference in a cell: where it lies in the sheet there, a text that is read as just that reference,
-- with the same offsets and fixed positions; where a corner of it doesn't, the word of the error value REF alone.
abbrev pub IsReferenceWritten : Book → CellPlace → RefToken → Bool → Type 0
IsReferenceWritten book target r true =
    (rest : List ℕ) → IsEnd rest → (form_at book target).read_ref (reference_text (form_at book target) r ++ rest) ≡ Some (r, rest)
IsReferenceWritten book target r false = reference_text (form_at book target) r ≡ error_in book errors.REF

abbrev pub ReferenceIsWritten : Type 0
ReferenceIsWritten =
    (book : Book) (target : CellPlace) (r : RefToken) → IsValidBook book → is_cell target.0 target.1 ≡ true → is_written_sheet r.sheet ≡ true
    → IsReferenceWritten book target r (is_inside r.place target.0 target.1)

-- a text is the formula that reads in a cell as a spelled tree
abbrev pub IsReadAs : Book → CellPlace → List ℕ → Spelled → Type 0
IsReadAs book place text t = (body : List ℕ) × (formula_typed book text ≡ Some body) × (read_as (form_at book place) body ≡ Some t)

module _ (book : Book) (source target : CellOf) where
  abbrev pub place_of : CellPlace
  place_of = (target.row, target.column)

  -- the tree of a formula that was copied, bound to what it finds from the source's sheet
  abbrev pub tree_bound : Spelled → Bound
  tree_bound u = bound (english_function (notations_in book)) (scene_in book) (source_id book source target) u

  -- as it is spelled, with the references lost that leave the sheet at the target
  abbrev pub tree_there : Spelled → Spelled
  tree_there u = spelled (scene_in book) (with_lost target.row target.column (tree_bound u))

  -- A formula that was copied reads at the source as a tree. What is answered is written of that tree, bound and spelled, with
  -- its lost references; and at the target it reads as that, where no name is a word of the language in force.
  pub record IsCopiedOver (formula answer : List ℕ) : Type 0 where
    pub tree : Spelled
    pub read : copied_tree book source target formula ≡ Some tree
    pub written : answer ≡ equals ∷ printed (form_at book place_of) (tree_there tree)
    pub reads : clashes_in book (tree_bound tree) ≡ false → IsReadAs book place_of answer (tree_there tree)

-- So it is with each accepted command that extends a copied text; a text that is no formula stays.
abbrev pub CopiedIsOver : Type 0
CopiedIsOver =
    (book : Book) (source target : CellOf) (text formula answer : List ℕ) → IsValidBook book → formula_typed book text ≡ Some formula
    → step book (OnExtending (ExtendCopiedValue text source target)) ≡ Ok (book, text_field answer)
    → IsCopiedOver book source target formula answer

abbrev pub CopiedTextStays : Type 0
CopiedTextStays =
    (book : Book) (source target : CellOf) (text answer : List ℕ) → formula_typed book text ≡ None
    → step book (OnExtending (ExtendCopiedValue text source target)) ≡ Ok (book, text_field answer)
    → answer ≡ text
