-- What the formulas of a valid book mention after a command that adds, puts in, copies or renames a sheet, or adds, deletes
-- or updates a definition: what dangled and is bound then means that sheet or that definition, what meant a deleted
-- definition means the one for all sheets that is in sight then, or dangles, and each other mention is what it was. Formulas
-- are those of the core: of each cell, and the bodies.
use Rattle.std.specs.Prelude.{◌≡◌, ◌⊎◌, ℕ, ◌+◌, ◌++◌, List, [], ◌∷◌, map, flat_map, nat_eq, Bool, Option, Some, None, Ok, option_map, bytes_eq, insert, slice_get, if◌then◌else◌}
use Rattle.std.specs.Bool.{OnFalse}
use Rattle.std.specs.List.{AllZip, list_any}
use Rattle.ic_laws.specs.BookTrees.{with_sheet_at_end, with_trees}
use Rattle.ic_laws.specs.Changes.{changed_tree, definition_added, definition_gone, is_of_sheet, sheet_named}
use Rattle.ic_laws.specs.CoreBook as core_book
use Rattle.ic_laws.specs.CoreBook.{CoreBook, Definition, greatest_id, scene_of, spelling_of}
use Rattle.ic_laws.specs.CoreStep.{index_of_definition, index_of_name, new_definition, scope_or_none, with_definition, with_sheet_name, without_definition}
use Rattle.ic_laws.specs.FormulaReading.{Body, body_of}
use Rattle.ic_laws.specs.Mentions.{LocalMention}
use Rattle.ic_laws.specs.Name.{agrees, fold}
use Rattle.ic_laws.specs.Scene.{key_of, same_key}
use Rattle.ic_laws.specs.Tree.{Bound}
use Rattle.ic_laws.specs.declared.tree.Formula.{Formula}
use Rattle.ic_laws.specs.declared.tree.Formula.TheVariants as formulas
use Rattle.ic_laws.specs.declared.tree.NameKey.{NameKey}
use Rattle.ic_laws.specs.declared.tree.NameMention.{NameMention}
use Rattle.ic_laws.specs.declared.tree.NameMention.TheVariants as names
use Rattle.ic_laws.specs.declared.tree.SheetMention.{SheetMention}
use Rattle.ic_laws.specs.declared.tree.SheetMention.TheVariants as sheet_mentions
use Rattle.ic_laws.specs.declared.tree.Tree.{Tree-F, fold-Tree}
use Rattle.ic_laws.specs.declared.tree.Tree.TheOpen as one
use Rattle.ic_machine.specs.Book.{Book, Sheet, core_of, core_sheet, notations_in}
use Rattle.ic_machine.specs.Capture.{captured_sites, words_in, words_step}
use Rattle.ic_machine.specs.Command.{OnDefinitions, OnSheets}
use Rattle.ic_machine.specs.Reply.{Field}
use Rattle.ic_machine.specs.Step.{step}
use Rattle.ic_machine.specs.Valid.{IsValidBook}
use Rattle.ic_machine.specs.subjects.Definitions as definitions
use Rattle.ic_machine.specs.subjects.Definitions.{Update, keys_of_update, new_key, old_key}
use Rattle.ic_machine.specs.subjects.Sheets as sheets
use Rattle.ic_machine.specs.subjects.Sheets.{chosen_id, copied_of, copies_of_definitions, copy_id, copy_of_sheet, name_of_copy, new_sheet_name}

-- a new sheet is meant by what dangled by a name that agrees with its own
abbrev pub AddedIsMeant : Type 0
AddedIsMeant =
    (book after : Book) (name : List ℕ) (fields : List Field) → IsValidBook book → step book (OnSheets (sheets.AddSheet name)) ≡ Ok (after, fields)
    → core_of after ≡ with_sheet_at_end (greatest_id (core_of book) + 1) name (with_trees (changed_tree (sheet_named (scene_of (core_of book)) (greatest_id (core_of book) + 1) name)) (core_of book))

-- so is one of a new name with a number
abbrev pub NewIsMeant : Type 0
NewIsMeant =
    (book after : Book) (fields : List Field) → IsValidBook book → step book (OnSheets sheets.NewSheet) ≡ Ok (after, fields)
    → core_of after
    ≡ with_sheet_at_end (greatest_id (core_of book) + 1) (new_sheet_name book)
    (with_trees (changed_tree (sheet_named (scene_of (core_of book)) (greatest_id (core_of book) + 1) (new_sheet_name book))) (core_of book))

-- so is one that is put in among the others
abbrev pub with_sheet_among : ℕ → ℕ → List ℕ → CoreBook → CoreBook
with_sheet_among index id name book = record book { sheets = insert book.sheets index (record { id = id; name = name; cells = [] }) }

abbrev pub InsertedIsMeant : Type 0
InsertedIsMeant =
    (book after : Book) (name : List ℕ) (index : ℕ) (given : Option ℕ) (id : ℕ) (fields : List Field) → IsValidBook book → chosen_id (core_of book) given ≡ Some id
    → step book (OnSheets (sheets.InsertSheet name index given)) ≡ Ok (after, fields)
    → core_of after ≡ with_sheet_among index id name (with_trees (changed_tree (sheet_named (scene_of (core_of book)) id name)) (core_of book))

-- so is the copy of one, and a word that dangled with its name means what is copied with it. Its own formulas, and those
-- of the definitions that are copied with it, are the ones that are written for it.
abbrev pub with_copied : ℕ → core_book.Sheet → List Definition → CoreBook → CoreBook
with_copied index copy definitions book = record book { sheets = insert book.sheets (index + 1) copy; definitions = book.definitions ++ definitions }

abbrev pub CopiedIsMeant : Type 0
CopiedIsMeant =
    (book after : Book) (index : ℕ) (source : Sheet) (fields : List Field) → IsValidBook book → slice_get book.sheets index ≡ Some source
    → step book (OnSheets (sheets.DuplicateSheet index)) ≡ Ok (after, fields)
    → core_of after
    ≡ with_copied index (core_sheet (copy_of_sheet book index source)) (copies_of_definitions book index source)
    (with_trees (changed_tree (sheet_named (scene_of (with_copied index (core_sheet (copy_of_sheet book index source)) (copies_of_definitions book index source) (core_of book))) (copy_id book index source) (name_of_copy book source.name))) (core_of book))

-- the mentions of sheets of a formula, from left to right
abbrev pub sheets_step : Tree-F SheetMention NameMention (List SheetMention) (List SheetMention) → List SheetMention
sheets_step (one.Reference sheet place) = sheet ∷ []
sheets_step (one.Local sheet word) = sheet ∷ []
sheets_step (one.Paren x) = x
sheets_step (one.Prefix sign x) = x
sheets_step (one.Percent x) = x
sheets_step (one.Spill x) = x
sheets_step (one.Binary sign a b) = a ++ b
sheets_step (one.Fun number arguments) = flat_map (λ x. x) arguments
sheets_step (one.Call word arguments) = flat_map (λ x. x) arguments
sheets_step (one.Let pairs body) = flat_map (λ x. x) pairs ++ body
sheets_step (one.Lambda parameters body) = body
sheets_step (one.Apply x arguments) = x ++ flat_map (λ x. x) arguments
sheets_step kind = []

abbrev pub sheets_in : Bound → List SheetMention
sheets_in t = fold-Tree SheetMention NameMention (List SheetMention) (List SheetMention) sheets_step (λ pair. pair.value) t

-- its words without a sheet; a function that is called stands as none
abbrev pub plain_words_step : Tree-F SheetMention NameMention (List (Option NameMention)) (List (Option NameMention)) → List (Option NameMention)
plain_words_step (one.Local sheet word) = []
plain_words_step kind = words_step kind

abbrev pub plain_words_in : Bound → List (Option NameMention)
plain_words_in t = fold-Tree SheetMention NameMention (List (Option NameMention)) (List (Option NameMention)) plain_words_step (λ pair. pair.value) t

-- its words with their sheets
abbrev pub locals_step : Tree-F SheetMention NameMention (List LocalMention) (List LocalMention) → List LocalMention
locals_step (one.Local sheet word) = (sheet, word) ∷ []
locals_step (one.Paren x) = x
locals_step (one.Prefix sign x) = x
locals_step (one.Percent x) = x
locals_step (one.Spill x) = x
locals_step (one.Binary sign a b) = a ++ b
locals_step (one.Fun number arguments) = flat_map (λ x. x) arguments
locals_step (one.Call word arguments) = flat_map (λ x. x) arguments
locals_step (one.Let pairs body) = flat_map (λ x. x) pairs ++ body
locals_step (one.Lambda parameters body) = body
locals_step (one.Apply x arguments) = x ++ flat_map (λ x. x) arguments
locals_step kind = []

abbrev pub locals_in : Bound → List LocalMention
locals_in t = fold-Tree SheetMention NameMention (List LocalMention) (List LocalMention) locals_step (λ pair. pair.value) t

-- what is copied: the sheet with an id, as one with another id and name, and these definitions with it
pub record Copying : Type 0 where
  pub source : ℕ
  pub copy : ℕ
  pub name : List ℕ
  pub definitions : List Definition

abbrev pub copying_of : Book → ℕ → Sheet → Copying
copying_of book index source = record { source = source.id; copy = copy_id book index source; name = name_of_copy book source.name; definitions = copied_of source.id book.definitions }

-- what meant the sheet means the copy, and so does what dangled by a name that agrees with that of the copy
abbrev pub copied_sheet : Copying → SheetMention → SheetMention
copied_sheet c sheet_mentions.Own = sheet_mentions.Own
copied_sheet c (sheet_mentions.Sheet id) = sheet_mentions.Sheet (if nat_eq id c.source then c.copy else id)
copied_sheet c (sheet_mentions.Dangling typed) = if agrees c.name typed then sheet_mentions.Sheet c.copy else sheet_mentions.Dangling typed

-- Word for word, a copied formula means what its source means, but for what a definition that is copied with the sheet could
-- mean: that means the copied one.
abbrev pub is_copied : List Definition → List ℕ → Bool
is_copied copied folded = list_any (λ (d : Definition). bytes_eq (fold d.name) folded) copied

abbrev pub key_in_copy : ℕ → List ℕ → NameKey
key_in_copy copy folded = record { name = folded; scope = Some copy }

abbrev pub copied_word : ℕ → List Definition → NameMention → NameMention
copied_word copy copied (names.Var word) = names.Var word
copied_word copy copied (names.Name key) = if is_copied copied key.name then names.Name (key_in_copy copy key.name) else names.Name key
copied_word copy copied (names.Dangling word) = if is_copied copied (fold word) then names.Name (key_in_copy copy (fold word)) else names.Dangling word

-- so with the words whose sheet is the copy then; the others stay
abbrev pub copied_local : Copying → LocalMention → LocalMention
copied_local c local = (copied_sheet c local.0, if is_of_sheet c.copy (copied_sheet c local.0) then copied_word c.copy c.definitions local.1 else local.1)

abbrev pub HasCopiedMentions : Copying → Formula → Formula → Type 0
HasCopiedMentions c (formulas.Tree before) (formulas.Tree after) =
    (plain_words_in after ≡ map (option_map (copied_word c.copy c.definitions)) (plain_words_in before)) × (sheets_in after ≡ map (copied_sheet c) (sheets_in before))
    × (locals_in after ≡ map (copied_local c) (locals_in before))
HasCopiedMentions c before after = after ≡ before

-- the formulas of the copy, which is the next sheet, and the bodies of the copied definitions
abbrev pub CopiedMeansSame : Type 0
CopiedMeansSame =
    (book after : Book) (index : ℕ) (source : Sheet) (fields : List Field) → IsValidBook book → slice_get book.sheets index ≡ Some source
    → step book (OnSheets (sheets.DuplicateSheet index)) ≡ Ok (after, fields)
    → (slice_get after.sheets (index + 1) ≡ Some (copy_of_sheet book index source))
    × AllZip (HasCopiedMentions (copying_of book index source)) source.pool (copy_of_sheet book index source).pool
    × AllZip (λ (d e : Definition). HasCopiedMentions (copying_of book index source) d.body e.body) (copied_of source.id book.definitions) (copies_of_definitions book index source)

-- so is a renamed one, by its new name
abbrev pub RenamedIsMeant : Type 0
RenamedIsMeant =
    (book after : Book) (index : ℕ) (name : List ℕ) (sheet : Sheet) (fields : List Field) → IsValidBook book → slice_get book.sheets index ≡ Some sheet
    → step book (OnSheets (sheets.RenameSheetByIndex index name)) ≡ Ok (after, fields)
    → core_of after ≡ with_sheet_name index name (with_trees (changed_tree (sheet_named (scene_of (core_of book)) sheet.id name)) (core_of book))

-- so is one that is renamed by its old name, which is that of the first sheet whose name agrees
abbrev pub RenamedByNameIsMeant : Type 0
RenamedByNameIsMeant =
    (book after : Book) (old name : List ℕ) (index : ℕ) (sheet : Sheet) (fields : List Field) → IsValidBook book → index_of_name (core_of book) old ≡ Some index
    → slice_get book.sheets index ≡ Some sheet → step book (OnSheets (sheets.RenameSheet old name)) ≡ Ok (after, fields)
    → core_of after ≡ with_sheet_name index name (with_trees (changed_tree (sheet_named (scene_of (core_of book)) sheet.id name)) (core_of book))

-- a new definition is meant by what can mean it
abbrev pub DefinedIsMeant : Type 0
DefinedIsMeant =
    (book after : Book) (name : List ℕ) (scope : Option ℕ) (text : List ℕ) (body : Body) (fields : List Field) → IsValidBook book
    → body_of (notations_in book) (core_of book) text ≡ Some body → step book (OnDefinitions (definitions.NewDefinedName name scope text)) ≡ Ok (after, fields)
    → core_of after
    ≡ with_definition (new_definition (notations_in book) (core_of book) name (scope_or_none (core_of book) scope) body)
    (with_trees (changed_tree (definition_added (record { name = name; scope = scope_or_none (core_of book) scope }))) (core_of book))

-- what meant a deleted one means the one for all sheets, or dangles
abbrev pub DeletedIsNotMeant : Type 0
DeletedIsNotMeant =
    (book after : Book) (name : List ℕ) (scope : Option ℕ) (index : ℕ) (definition : Definition) (fields : List Field) → IsValidBook book
    → index_of_definition (core_of book) name (scope_or_none (core_of book) scope) ≡ Some index → slice_get book.definitions index ≡ Some definition
    → step book (OnDefinitions (definitions.DeleteDefinedName name scope)) ≡ Ok (after, fields)
    → core_of after
    ≡ without_definition (Some index)
    (with_trees (changed_tree (definition_gone (scene_of (without_definition (Some index) (core_of book))) (spelling_of definition))) (core_of book))

-- What becomes of a word when a definition is updated, which has this key then: what dangled dangles by the same word, or
-- means that definition; a variable is the same, and a function that is called; of what meant a definition see below.
abbrev pub IsUpdatedWord : NameKey → Option NameMention → Option NameMention → Type 0
IsUpdatedWord key None after = after ≡ None
IsUpdatedWord key (Some (names.Var word)) after = after ≡ Some (names.Var word)
IsUpdatedWord key (Some (names.Name found)) after = Unit {0}
IsUpdatedWord key (Some (names.Dangling word)) after = (after ≡ Some (names.Dangling word)) ⊎ (after ≡ Some (names.Name key))

abbrev pub IsUpdatedFormula : NameKey → Formula → Formula → Type 0
IsUpdatedFormula key (formulas.Tree before) (formulas.Tree after) = AllZip (IsUpdatedWord key) (words_in before) (words_in after) × (sheets_in after ≡ sheets_in before)
IsUpdatedFormula key before after = after ≡ before

-- the body of each definition but the one that is updated, which gets another
abbrev pub IsUpdatedBody : NameKey → NameKey → Definition → Definition → Type 0
IsUpdatedBody old new before after = OnFalse (same_key (key_of (spelling_of before)) old) (IsUpdatedFormula new before.body after.body)

-- each formula of a sheet's pool and each body, word for word; and no cell and no other body has a word that meant a
-- definition and doesn't mean the same one then
pub record UpdatesWords (book after : Book) (update : Update) : Type 0 where
  pub pools : AllZip (λ (s t : Sheet). AllZip (IsUpdatedFormula (new_key book update)) s.pool t.pool) book.sheets after.sheets
  pub bodies : AllZip (IsUpdatedBody (old_key book update) (new_key book update)) book.definitions after.definitions
  pub uncaptured : captured_sites (keys_of_update book update) (old_key book update) book after ≡ []

-- an updated definition is meant by what dangled and is bound then, and by what meant it
abbrev pub UpdatedIsMeant : Type 0
UpdatedIsMeant =
    (book after : Book) (update : Update) (fields : List Field) → IsValidBook book → step book (OnDefinitions (definitions.UpdateDefinedName update)) ≡ Ok (after, fields)
    → UpdatesWords book after update
