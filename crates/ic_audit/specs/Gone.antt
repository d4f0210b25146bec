-- What becomes of mentions, each at its place, where a sheet or a definition is deleted: which dangle then, which mean another
-- definition, and that all others are what they were. Formulas are those of a book's cells and the bodies of its definitions.
use Rattle.std.specs.Prelude.{◌≡◌, ◌⊎◌, ℕ, List, Bool, true, false, ◌&&◌, Option, Some, None, Ok, is_some, remove, slice_get}
use Rattle.std.specs.List.{AllZip, Contains}
use Rattle.ic_laws.specs.Changes.{is_of_name, is_of_sheet}
use Rattle.ic_laws.specs.CoreBook as core
use Rattle.ic_laws.specs.CoreBook.{CellPlace, CoreBook, Definition, spelling_of}
use Rattle.ic_laws.specs.CoreStep.{has_definition, index_of_definition, scope_or_none}
use Rattle.ic_laws.specs.Mentions.{AllMentions, LocalMention, mapped}
use Rattle.ic_laws.specs.Scene.{key_of}
use Rattle.ic_laws.specs.Tree.{Bound}
use Rattle.ic_laws.specs.declared.tree.Formula.{Formula}
use Rattle.ic_laws.specs.declared.tree.Formula.TheVariants as formulas
use Rattle.ic_laws.specs.declared.tree.NameKey.{NameKey}
use Rattle.ic_laws.specs.declared.tree.NameMention.{NameMention}
use Rattle.ic_laws.specs.declared.tree.NameMention.TheVariants as names
use Rattle.ic_laws.specs.declared.tree.SheetMention.{SheetMention}
use Rattle.ic_pool.specs.Mentions.{is_dangling, is_dangling_word}
use Rattle.ic_machine.specs.Book.{Book, Sheet, core_of}
use Rattle.ic_machine.specs.Command.{OnDefinitions, OnSheets}
use Rattle.ic_machine.specs.Refusal.{CellSite, DefinitionSite, Site}
use Rattle.ic_machine.specs.Reply.{Field}
use Rattle.ic_machine.specs.Sites.{sites_of_name, sites_of_sheet}
use Rattle.ic_machine.specs.Step.{step}
use Rattle.ic_machine.specs.Valid.{IsValidBook}
use Rattle.ic_machine.specs.subjects.Definitions as definitions
use Rattle.ic_machine.specs.subjects.Sheets as sheets

-- A relation of what mentions were and are is given: of the sheet of a reference, of a word, and of a word with its sheet. ----

module _ (OfSheet : SheetMention → SheetMention → Type 0) (OfWord : NameMention → NameMention → Type 0) (OfLocal : SheetMention → NameMention → LocalMention → Type 0) where
  -- a formula is another but for its mentions: each, at its place, became what stands so to it
  pub record TreeBecomes (before after : Bound) : Type 0 where
    pub sheet : SheetMention → SheetMention
    pub word : NameMention → NameMention
    pub local : SheetMention → NameMention → LocalMention
    pub same : after ≡ mapped sheet word local before
    pub each : AllMentions (λ s. OfSheet s (sheet s)) (λ w. OfWord w (word w)) (λ s w. OfLocal s w (local s w)) before

  -- a text that doesn't read stays
  abbrev pub FormulaBecomes : Formula → Formula → Type 0
  FormulaBecomes (formulas.Tree before) (formulas.Tree after) = TreeBecomes before after
  FormulaBecomes (formulas.Raw before) (formulas.Raw after) = after ≡ before
  FormulaBecomes before after = ⊥

  -- so of the formula at a site, which is one of these sites; elsewhere the formula is what it was
  module _ (sites : List Site) where
    pub record SiteBecomes (site : Site) (before after : Formula) : Type 0 where
      pub formula : FormulaBecomes before after
      pub listed : Contains sites site ⊎ (after ≡ before)

    -- of a cell of the sheet with an id
    pub record CellBecomes (id : ℕ) (before after : CellPlace × Formula) : Type 0 where
      pub place : after.0 ≡ before.0
      pub formula : SiteBecomes (CellSite id before.0) before.1 after.1

    -- of a sheet with its cells
    pub record SheetBecomes (before after : core.Sheet) : Type 0 where
      pub id : after.id ≡ before.id
      pub name : after.name ≡ before.name
      pub cells : AllZip (CellBecomes before.id) before.cells after.cells

    -- of a definition
    pub record DefinitionBecomes (before after : Definition) : Type 0 where
      pub name : after.name ≡ before.name
      pub scope : after.scope ≡ before.scope
      pub has_equals : after.has_equals ≡ before.has_equals
      pub body : SiteBecomes (DefinitionSite (key_of (spelling_of before))) before.body after.body

    -- these sheets and these definitions are those of a book, but for what became of their mentions
    pub record BookBecomes (left : List core.Sheet) (defined : List Definition) (after : CoreBook) : Type 0 where
      pub sheets : AllZip SheetBecomes left after.sheets
      pub definitions : AllZip DefinitionBecomes defined after.definitions

-- A mention of what is gone dangles, and any other is what it was. ----

abbrev pub DanglesIf : {M : Type 0} → (M → Bool) → Bool → M → M → Type 0
DanglesIf dangles true before after = dangles after ≡ true
DanglesIf dangles false before after = after ≡ before

-- a word without a sheet stays where a sheet goes; a word with the sheet dangles with it
abbrev pub WordStays : NameMention → NameMention → Type 0
WordStays before after = after ≡ before

abbrev pub SheetGoes : ℕ → SheetMention → SheetMention → Type 0
SheetGoes id before after = DanglesIf is_dangling (is_of_sheet id before) before after

abbrev pub LocalGoes : ℕ → SheetMention → NameMention → LocalMention → Type 0
LocalGoes id sheet word after = SheetGoes id sheet after.0 × DanglesIf is_dangling_word (is_of_sheet id sheet) word after.1

-- After an accepted deletion of a sheet all that is left is what it was, but for the mentions of the sheet, and the words
-- with that sheet: they dangle. A formula at a site that isn't listed for the sheet is what it was.
abbrev pub SheetIsGone : Type 0
SheetIsGone =
    (book after : Book) (index : ℕ) (sheet : Sheet) (fields : List Field) → IsValidBook book → slice_get book.sheets index ≡ Some sheet → step book (OnSheets (sheets.DeleteSheet index)) ≡ Ok (after, fields)
    → BookBecomes (SheetGoes sheet.id) WordStays (LocalGoes sheet.id) (sites_of_sheet sheet.id book) (remove (core_of book).sheets index) book.definitions (core_of after)

-- Where a definition goes, sheets stay. Words that meant it dangle; but where it was local to a sheet, and there is one of an
-- agreeing name for all sheets, those that stand behind no sheet mean that one. ----

abbrev pub SheetStays : SheetMention → SheetMention → Type 0
SheetStays before after = after ≡ before

-- the definition was local to a sheet, and there is one of an agreeing name for all sheets
abbrev pub falls_back : Book → Definition → Bool
falls_back book definition = is_some definition.scope && has_definition (core_of book) definition.name None

abbrev pub FallsBackOrDangles : Bool → NameKey → NameMention → Type 0
FallsBackOrDangles true key after = after ≡ names.Name (record { name = key.name; scope = None })
FallsBackOrDangles false key after = is_dangling_word after ≡ true

abbrev pub NameGoesIf : Bool → Bool → NameKey → NameMention → NameMention → Type 0
NameGoesIf true back key before after = FallsBackOrDangles back key after
NameGoesIf false back key before after = after ≡ before

abbrev pub NameGoes : Bool → NameKey → NameMention → NameMention → Type 0
NameGoes back key before after = NameGoesIf (is_of_name key before) back key before after

abbrev pub LocalNameGoes : NameKey → SheetMention → NameMention → LocalMention → Type 0
LocalNameGoes key sheet word after = (after.0 ≡ sheet) × DanglesIf is_dangling_word (is_of_name key word) word after.1

-- After an accepted deletion of a definition all that is left is what it was, but for the words that meant it. A
-- formula at a site that isn't listed for it is what it was.
abbrev pub NameIsGone : Type 0
NameIsGone =
    (book after : Book) (name : List ℕ) (scope : Option ℕ) (index : ℕ) (definition : Definition) (fields : List Field) → IsValidBook book
    → index_of_definition (core_of book) name (scope_or_none (core_of book) scope) ≡ Some index → slice_get book.definitions index ≡ Some definition
    → step book (OnDefinitions (definitions.DeleteDefinedName name scope)) ≡ Ok (after, fields)
    → BookBecomes SheetStays (NameGoes (falls_back book definition) (key_of (spelling_of definition))) (LocalNameGoes (key_of (spelling_of definition)))
    (sites_of_name (key_of (spelling_of definition)) book) (core_of book).sheets (remove book.definitions index) (core_of after)
