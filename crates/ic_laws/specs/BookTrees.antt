-- The formulas of a book, all at once: a fact of each tree, a book in which each is replaced, and two books with the same
-- formulas but for mentions that dangled.
use Rattle.std.specs.Prelude.{◌≡◌, ℕ, ℤ, find, nat_eq, remove, List, [], ◌∷◌, ◌++◌, map, Option, Some, None}
use Rattle.std.specs.List.{AllByRecursion, slice_get}
use Rattle.std.specs.List.Sorted.{IsPermutation}
use Rattle.ic_laws.specs.CoreBook.{CellPlace, CoreBook, Definition, Sheet, formula_at}
use Rattle.ic_laws.specs.Keeping.{mapped_cells}
use Rattle.ic_laws.specs.Mentions.{AllMentions, LocalMention, mapped}
use Rattle.ic_laws.specs.Tree.{Bound}
use Rattle.ic_laws.specs.declared.tree.Formula.{Formula}
use Rattle.ic_laws.specs.declared.tree.Formula.TheVariants as formulas
use Rattle.ic_laws.specs.declared.tree.NameMention.{NameMention}
use Rattle.ic_laws.specs.declared.tree.NameMention.TheVariants as names
use Rattle.ic_laws.specs.declared.tree.SheetMention.{SheetMention}
use Rattle.ic_laws.specs.declared.tree.SheetMention.TheVariants as sheets

-- a fact of the tree of a formula, where it has one
abbrev pub OfTree : (Bound → Type 0) → Formula → Type 0
OfTree P (formulas.Tree t) = P t
OfTree P (formulas.Raw text) = Unit {0}

module _ (P : Option ℕ → Bound → Type 0) where
  abbrev pub OfCells : Sheet → Type 0
  OfCells sheet = AllByRecursion (λ (cell : CellPlace × Formula). OfTree (P (Some sheet.id)) cell.1) sheet.cells

  abbrev pub OfBody : Definition → Type 0
  OfBody definition = OfTree (P definition.scope) definition.body

  -- a fact of each tree of a book, with the sheet that its words are looked up from
  pub record EachTree (book : CoreBook) : Type 0 where
    pub cells : AllByRecursion OfCells book.sheets
    pub bodies : AllByRecursion OfBody book.definitions

-- a formula with its tree replaced
abbrev pub with_tree : (Bound → Bound) → Formula → Formula
with_tree f (formulas.Tree t) = formulas.Tree (f t)
with_tree f (formulas.Raw text) = formulas.Raw text

module _ (f : Option ℕ → Bound → Bound) where
  abbrev pub with_cell_trees : Sheet → Sheet
  with_cell_trees sheet = record sheet { cells = mapped_cells (with_tree (f (Some sheet.id))) sheet.cells }

  abbrev pub with_body_tree : Definition → Definition
  with_body_tree definition = record definition { body = with_tree (f definition.scope) definition.body }

  -- a book with each tree replaced, by the sheet that its words are looked up from
  abbrev pub with_trees : CoreBook → CoreBook
  with_trees book = record book { sheets = map with_cell_trees book.sheets; definitions = map with_body_tree book.definitions }

-- a book with one more sheet, with no formulas
abbrev pub with_sheet_at_end : ℕ → List ℕ → CoreBook → CoreBook
with_sheet_at_end id name book = record book { sheets = book.sheets ++ record { id = id; name = name; cells = [] } ∷ [] }

-- a mention that doesn't dangle isn't replaced by another
abbrev pub LeavesFoundSheet : (SheetMention → SheetMention) → SheetMention → Type 0
LeavesFoundSheet f (sheets.Dangling name) = Unit {0}
LeavesFoundSheet f mention = f mention ≡ mention

abbrev pub LeavesFoundName : (NameMention → NameMention) → NameMention → Type 0
LeavesFoundName g (names.Dangling word) = Unit {0}
LeavesFoundName g mention = g mention ≡ mention

-- so of a word with its sheet, whether the sheet or the word was found
abbrev pub LeavesFoundLocal : (SheetMention → NameMention → LocalMention) → SheetMention → NameMention → Type 0
LeavesFoundLocal h sheet name = LeavesFoundSheet (λ s. (h s name).0) sheet × LeavesFoundName (λ w. (h sheet w).1) name

-- The second tree is the first but for mentions that dangled: each mention that was found stands in the second, too.
pub record KeepsFound (t u : Bound) : Type 0 where
  pub sheet : SheetMention → SheetMention
  pub name : NameMention → NameMention
  pub local : SheetMention → NameMention → LocalMention
  pub same : u ≡ mapped sheet name local t
  pub leaves : AllMentions (LeavesFoundSheet sheet) (LeavesFoundName name) (LeavesFoundLocal local) t

-- of two formulas; a text that didn't read stays
abbrev pub FormulaKeepsFound : Formula → Formula → Type 0
FormulaKeepsFound (formulas.Tree t) (formulas.Tree u) = KeepsFound t u
FormulaKeepsFound (formulas.Raw text) (formulas.Raw other) = text ≡ other
FormulaKeepsFound formula other = ⊥

-- there is neither, or there are both, and the relation holds of them
abbrev pub BothOrNone : {A : Type 0} → (A → A → Type 0) → Option A → Option A → Type 0
BothOrNone R None None = Unit {0}
BothOrNone R (Some a) (Some b) = R a b
BothOrNone R one other = ⊥

-- of two sheets: the same id, and formulas in the same cells
pub record SheetKeepsFound (sheet after : Sheet) : Type 0 where
  pub id : after.id ≡ sheet.id
  pub formulas : (row column : ℤ) → BothOrNone FormulaKeepsFound (formula_at sheet.cells row column) (formula_at after.cells row column)

-- of two definitions
pub record DefinitionKeepsFound (definition after : Definition) : Type 0 where
  pub name : after.name ≡ definition.name
  pub scope : after.scope ≡ definition.scope
  pub has_equals : after.has_equals ≡ definition.has_equals
  pub body : FormulaKeepsFound definition.body after.body

-- Of two books: sheet for sheet and definition for definition.
pub record BookKeepsFound (book after : CoreBook) : Type 0 where
  pub sheets : (index : ℕ) → BothOrNone SheetKeepsFound (slice_get book.sheets index) (slice_get after.sheets index)
  pub definitions : (index : ℕ) → BothOrNone DefinitionKeepsFound (slice_get book.definitions index) (slice_get after.definitions index)

-- the sheet with this id
abbrev pub sheet_of : CoreBook → ℕ → Option Sheet
sheet_of book id = find (λ (sheet : Sheet). nat_eq sheet.id id) book.sheets

-- A sheet has moved from one index to another: the sheets are the same with all that is in them, each is found by its id,
-- the others stand in the order in which they stood, and all else is the same.
pub record IsMoved (from to : ℕ) (book after : CoreBook) : Type 0 where
  pub sheets : IsPermutation book.sheets after.sheets
  pub found : (id : ℕ) → sheet_of after id ≡ sheet_of book id
  pub place : slice_get after.sheets to ≡ slice_get book.sheets from
  pub others : remove after.sheets to ≡ remove book.sheets from
  pub definitions : after.definitions ≡ book.definitions
  pub locale : after.locale ≡ book.locale
  pub language : after.language ≡ book.language
