-- A copy of a sheet: what is copied with it, and what becomes of a book.
use Rattle.std.specs.Prelude.{◌≡◌, ℕ, ◌+◌, List, [], ◌∷◌, ◌++◌, ◌&&◌, map, insert, Bool, true, false, not, Option, Some, IfSome, is_none}
use Rattle.std.specs.List.{AllZip, list_any, slice_get}
use Rattle.ic_laws.specs.BookTrees.{with_body_tree, with_trees}
use Rattle.ic_laws.specs.Changes.{Change, changed_tree, is_of_sheet, sheet_named}
use Rattle.ic_laws.specs.CoreBook.{CoreBook, Definition, scene_of}
use Rattle.ic_laws.specs.Mentions.{some_mention}
use Rattle.ic_laws.specs.Name.{agrees}
use Rattle.ic_laws.specs.Scene.{same_scope}
use Rattle.ic_laws.specs.Tree.{Bound}
use Rattle.ic_laws.specs.declared.tree.Formula.{Formula}
use Rattle.ic_definitions.specs.Named.{definitions_scene}
use Rattle.ic_keep.specs.Copy.{copied_for}
use Rattle.ic_machine.specs.Binds.{HasCopiedMentions, copying_of, with_copied}
use Rattle.ic_machine.specs.Book as machine
use Rattle.ic_machine.specs.Book.{core_sheet}
use Rattle.ic_machine.specs.subjects.Sheets.{copied_of, copies_of_definitions, copy_id, copy_of_sheet, formula_copied, local_in, local_to, mentions_sheet, name_of_copy, scene_with_copy, with_formula}
use Rattle.ic_sheets.specs.Rewriting.{changed_pool, look_ups, looks_up_after, sheets_of}
use Rattle.ic_sheets.specs.Sheet.{Sheet, empty_grid, plain_tab, sheet_of}
use Rattle.ic_sheets.specs.declared.sheet.Sheet.{Sheet as HeldSheet}
use Rattle.ic_parts.specs.Book.{Book, ModelState, core_of}
use Rattle.ic_changes.specs.LookUps.{looks_up_in}
use Rattle.ic_parts.specs.Scene.{scene_of_parts}
use Rattle.ic_parts.specs.Whole.{whole_of, whole_sheet}
use Rattle.ic_parts.specs.declared.contents.Contents.{Contents}
use Rattle.ic_changes.specs.declared.sheet_copies.definitions.CopiedKind.{CopiedKind}
use Rattle.ic_changes.specs.declared.sheet_copies.definitions.CopiedKind.TheVariants as kinds
use Rattle.ic_changes.specs.declared.sheet_copies.filling.Filling.{Filling}

-- What is copied with a sheet. ----

-- some mention of a tree is of this sheet
abbrev pub mentions_in : ℕ → Bound → Bool
mentions_in id t = some_mention (is_of_sheet id) (λ word. false) (λ sheet word. false) t

-- a definition is one of those of this kind that are copied with a sheet, among these
abbrev pub is_copied : CopiedKind → ℕ → List Definition → Definition → Bool
is_copied kinds.Local id definitions d = same_scope d.scope (Some id)
is_copied kinds.Shared id definitions d =
    is_none d.scope && mentions_sheet id d.body && not (list_any (λ other. agrees other.name d.name) (local_to id definitions))

-- each definition with another body
abbrev pub with_each_body : List Formula → List Definition → List Definition
with_each_body [] definitions = definitions
with_each_body (body ∷ bodies) [] = []
with_each_body (body ∷ bodies) (d ∷ definitions) = record d { body = body } ∷ with_each_body bodies definitions

-- What a copy holds. ----

-- a formula of the sheet with the id `source`, or of a definition that is copied with it, as its copy has it in a book with
-- these sheets and definitions; words that are functions are told by the first argument
abbrev pub made_for : (List ℕ → Option ℕ) → List HeldSheet → List Definition → ℕ → ℕ → Formula → Formula
made_for english sheets definitions source copy formula = copied_for english (scene_of_parts sheets definitions) source copy (Some copy) formula

-- the sheet's formulas made by this, which its look-up lacks, and all else that the sheet holds
abbrev pub filled_by : (Formula → Formula) → HeldSheet → Filling
filled_by f source = record { pool = record { formulas = map f source.pool.formulas; is_whole = false }; grid = source.grid; tab = source.tab }

-- What the contents of a book become. ----

-- the sheet at an index is copied, directly after it, as one with this id and this name
module _ (english : List ℕ → Option ℕ) (index id : ℕ) (name : List ℕ) (source : HeldSheet) (old : Contents) where
  -- the definitions that are copied with it, with their bodies as they are
  abbrev pub copied_here : List Definition
  copied_here = map (local_in id) (copied_of source.id old.definitions)

  -- the sheets with the copy, which holds nothing yet
  abbrev pub sheets_here : List HeldSheet
  sheets_here = insert old.sheets (index + 1) (record { id = id; name = name; pool = record { formulas = []; is_whole = true }; grid = empty_grid; tab = plain_tab })

  -- a formula of the sheet, or of such a definition, as the copy has it
  abbrev pub formula_here : Formula → Formula
  formula_here formula = made_for english sheets_here (old.definitions ++ copied_here) source.id id formula

  -- what becomes of all others
  abbrev pub change_here : Change
  change_here = sheet_named (definitions_scene (old.definitions ++ copied_here)) id name

  abbrev pub sheet_here : Sheet
  sheet_here = record (sheet_of source) { id = id; name = name; pool = map formula_here source.pool.formulas }

  pub record HasCopy (new : Contents) : Type 0 where
    pub sheets : sheets_of new.sheets ≡ insert (map (changed_pool change_here) (sheets_of old.sheets)) (index + 1) sheet_here
    pub definitions : new.definitions ≡ map (with_body_tree (changed_tree change_here)) old.definitions ++ map (with_formula formula_here) copied_here
    pub looks_up : look_ups new.sheets ≡ insert (map (looks_up_after change_here) old.sheets) (index + 1) false

-- What a book becomes. ----

-- a sheet and definitions more: the sheet directly after the one at an index, the definitions at the end
abbrev pub with_copied_sheet : ℕ → Sheet → List Definition → Book → Book
with_copied_sheet index copy definitions book = record book { sheets = insert book.sheets (index + 1) copy; definitions = book.definitions ++ definitions }

module _ (book : Book) (index : ℕ) (source : Sheet) where
  -- the sheet as the machine sees it
  abbrev pub whole_source : machine.Sheet
  whole_source = whole_sheet book.strings source

  -- its copy, with the fresh id, a name of its own and its own formulas
  abbrev pub sheet_copied : Sheet
  sheet_copied = record source {
    id = copy_id (whole_of book) index whole_source;
    name = name_of_copy (whole_of book) source.name;
    pool = map (formula_copied (whole_of book) index whole_source) source.pool;
  }

  -- the definitions that are copied with it
  abbrev pub definitions_copied : List Definition
  definitions_copied = copies_of_definitions (whole_of book) index whole_source

  -- a core with both
  abbrev pub core_copied : CoreBook → CoreBook
  core_copied core = with_copied index (core_sheet (copy_of_sheet (whole_of book) index whole_source)) definitions_copied core

-- The sheet at an index was copied: what dangled by a name that agrees with that of the copy is bound to it, and each other
-- mention is what it was.
abbrev pub BindsCopied : ℕ → Book → Book → Type 0
BindsCopied index old new =
    (source : Sheet) → slice_get old.sheets index ≡ Some source
    → core_of new
    ≡ core_copied old index source
    (with_trees (changed_tree (sheet_named (scene_of (core_copied old index source (core_of old))) (copy_id (whole_of old) index (whole_source old index source)) (name_of_copy (whole_of old) source.name))) (core_of old))

-- What mentioned the sheet mentions the copy in the formulas of the copy, and in the bodies of the definitions that were
-- copied with it; each word there that one of those could mean does, and all else is what it was.
abbrev pub MeansCopied : ℕ → Book → Book → Type 0
MeansCopied index old new =
    (source : Sheet) → slice_get old.sheets index ≡ Some source
    → (slice_get (whole_of new).sheets (index + 1) ≡ Some (copy_of_sheet (whole_of old) index (whole_source old index source)))
    × AllZip (HasCopiedMentions (copying_of (whole_of old) index (whole_source old index source))) source.pool (sheet_copied old index source).pool
    × AllZip (λ (d e : Definition). HasCopiedMentions (copying_of (whole_of old) index (whole_source old index source)) d.body e.body) (copied_of source.id old.definitions) (definitions_copied old index source)

-- The look-up of the copy has none of its formulas; the others are there as before where they stay.
abbrev pub LooksUpCopied : ℕ → ModelState → ModelState → Type 0
LooksUpCopied index old new =
    IfSome (slice_get old.book.sheets index) (λ source. new.has_all
    ≡ insert
    (looks_up_in (sheet_named (scene_with_copy (whole_of old.book) index (whole_source old.book index source)) (copy_id (whole_of old.book) index (whole_source old.book index source)) (name_of_copy (whole_of old.book) source.name)) old)
    (index + 1) false)
