-- The commands on the list of sheets.
use Rattle.std.specs.Prelude.{ℕ, suc, ◌+◌, ◌-◌, List, [], ◌∷◌, ◌++◌, map, flat_map, find, filter, insert, length, take, Bool, false, not, ◌&&◌, ◌||◌, Option, Some, None, is_none, option_map, unwrap_or, nat_eq, nat_lt, bytes_eq, codes, slice_get, if◌then◌else◌}
use Rattle.std.specs.Fmt.{decimal}
use Rattle.std.specs.List.{list_any, range_with_len}
use Rattle.ic_laws.specs.Changes.{is_of_sheet}
use Rattle.ic_laws.specs.Command as core
use Rattle.ic_laws.specs.CoreBook.{CoreBook, Definition, fresh_id, greatest_id, has_sheet, ids_of}
use Rattle.ic_laws.specs.CoreStep.{core_step, index_of_id, index_of_name}
use Rattle.ic_laws.specs.Mentions.{some_mention}
use Rattle.ic_laws.specs.Name.{agrees, is_sheet_name}
use Rattle.ic_laws.specs.Scene.{same_scope}
use Rattle.ic_laws.specs.declared.scene.Scene.{Scene}
use Rattle.ic_laws.specs.declared.tree.Formula.{Formula}
use Rattle.ic_laws.specs.declared.tree.Formula.TheVariants as formulas
use Rattle.ic_cells.specs.Sheet.{state_word}
use Rattle.ic_machine.specs.Action.{Action, Asks, ChangesLists, perform}
use Rattle.ic_machine.specs.Book.{Book, Sheet, Stepped, as_core, core_of, empty_sheet, found_or, notations_in, scene_in, unless_refused}
use Rattle.ic_machine.specs.Changed.{changed_by, with_moved_sheet, with_removed_sheet, with_renamed_sheet}
use Rattle.ic_machine.specs.Refusal.{Causes, IdLive, IdsUsedUp, InvalidSheet, InvalidSheetName, OutOfRange, SheetExists}
use Rattle.ic_machine.specs.Reply.{ColorField, Field, NumberField, TextField}
use Rattle.ic_machine.specs.Row.{Row}
use Rattle.ic_machine.specs.Word.{OfIndex, OfScope, OfText, words_of}
pub use Rattle.ic_keep.specs.Copy.{copied_formula, copy_spelling}

pub data Sheets : Type 0 where
  AddSheet : (name : List ℕ) → Sheets
  InsertSheet : (name : List ℕ) (index : ℕ) (id : Option ℕ) → Sheets
  NewSheet : Sheets
  DuplicateSheet : (sheet : ℕ) → Sheets
  RenameSheet : (old new : List ℕ) → Sheets
  RenameSheetByIndex : (sheet : ℕ) (name : List ℕ) → Sheets
  MoveSheet : (sheet to : ℕ) → Sheets
  DeleteSheet : (sheet : ℕ) → Sheets
  DeleteSheetByName : (name : List ℕ) → Sheets
  DeleteSheetBySheetId : (id : ℕ) → Sheets
  GetNewSheetId : Sheets
  GetWorksheetsProperties : Sheets

abbrev pub sheet_rows : List (Row Sheets)
sheet_rows =
    record { name = codes "add_sheet"; words = words_of (OfText ∷ []); command = λ w. AddSheet w.0 }
    ∷ record { name = codes "insert_sheet"; words = words_of (OfText ∷ OfIndex ∷ OfScope ∷ []); command = λ w. InsertSheet w.0 w.1.0 w.1.1.0 }
    ∷ record { name = codes "new_sheet"; words = words_of []; command = λ w. NewSheet }
    ∷ record { name = codes "duplicate_sheet"; words = words_of (OfIndex ∷ []); command = λ w. DuplicateSheet w.0 }
    ∷ record { name = codes "rename_sheet"; words = words_of (OfText ∷ OfText ∷ []); command = λ w. RenameSheet w.0 w.1.0 }
    ∷ record { name = codes "rename_sheet_by_index"; words = words_of (OfIndex ∷ OfText ∷ []); command = λ w. RenameSheetByIndex w.0 w.1.0 }
    ∷ record { name = codes "move_sheet"; words = words_of (OfIndex ∷ OfIndex ∷ []); command = λ w. MoveSheet w.0 w.1.0 }
    ∷ record { name = codes "delete_sheet"; words = words_of (OfIndex ∷ []); command = λ w. DeleteSheet w.0 }
    ∷ record { name = codes "delete_sheet_by_name"; words = words_of (OfText ∷ []); command = λ w. DeleteSheetByName w.0 }
    ∷ record { name = codes "delete_sheet_by_sheet_id"; words = words_of (OfIndex ∷ []); command = λ w. DeleteSheetBySheetId w.0 }
    ∷ record { name = codes "get_new_sheet_id"; words = words_of []; command = λ w. GetNewSheetId }
    ∷ record { name = codes "get_worksheets_properties"; words = words_of []; command = λ w. GetWorksheetsProperties } ∷ []

-- a step that the identity machine has, too, and what it leaves of the whole book ----

abbrev pub lifted : Book → core.Command → Book → Stepped Book
lifted book command left = as_core (core_step (notations_in book) (core_of book) command) left

-- a new sheet, which holds nothing ----

abbrev pub with_inserted_sheet : ℕ → ℕ → List ℕ → Book → Book
with_inserted_sheet index id name book = record book { sheets = insert book.sheets index (empty_sheet id name) }

-- at the end, with the fresh id
abbrev pub with_new_sheet : List ℕ → Book → Book
with_new_sheet name book = record book { sheets = book.sheets ++ empty_sheet (greatest_id (core_of book) + 1) name ∷ [] }

unfoldable pub add_sheet_step : List ℕ → Book → Stepped Book
add_sheet_step name book = lifted book (core.AddSheet name) (changed_by (with_new_sheet name) book)

-- the id that is asked for is 0 or a sheet's
abbrev pub is_live : CoreBook → Option ℕ → Bool
is_live book None = false
is_live book (Some id) = nat_eq id 0 || list_any (nat_eq id) (ids_of book)

-- the id that is asked for, else the fresh one
abbrev pub chosen_id : CoreBook → Option ℕ → Option ℕ
chosen_id book None = fresh_id book
chosen_id book (Some id) = Some id

abbrev pub insert_causes : Book → List ℕ → ℕ → Option ℕ → Causes
insert_causes book name index id =
    (not (is_sheet_name name), InvalidSheetName) ∷ (has_sheet (core_of book) name, SheetExists) ∷ (nat_lt (length book.sheets) index, OutOfRange)
    ∷ (is_live (core_of book) id, IdLive) ∷ (is_none (chosen_id (core_of book) id), IdsUsedUp) ∷ []

unfoldable pub insert_sheet_step : List ℕ → ℕ → Option ℕ → Book → Stepped Book
insert_sheet_step name index id book =
    unless_refused (insert_causes book name index id)
    (changed_by (with_inserted_sheet index (unwrap_or (chosen_id (core_of book) id) 0) name) book) []

-- names with a number ----

-- how a new sheet is called in a language, before its number
abbrev pub base_name : List ℕ → List ℕ
base_name language =
    if bytes_eq language (codes "es") then codes "Hoja" else if bytes_eq language (codes "fr") then codes "Feuil"
    else if bytes_eq language (codes "de") then codes "Tabelle" else if bytes_eq language (codes "it") then codes "Foglio" else codes "Sheet"

-- the least number from 1 that makes a name which no sheet has. Of one number more than there are sheets, one does.
abbrev pub free_number : Book → (ℕ → List ℕ) → ℕ
free_number book name =
    unwrap_or (find (λ n. not (has_sheet (core_of book) (name n))) (range_with_len 1 (suc (length book.sheets)))) (suc (length book.sheets))

abbrev pub numbered_name : Book → ℕ → List ℕ
numbered_name book n = base_name book.language ++ decimal n

abbrev pub new_sheet_name : Book → List ℕ
new_sheet_name book = numbered_name book (free_number book (numbered_name book))

-- the fields of a reply that tells a sheet's name and index
abbrev pub named_fields : List ℕ → ℕ → List Field
named_fields name index = TextField name ∷ NumberField (Some index) ∷ []

unfoldable pub new_sheet_step : Book → Stepped Book
new_sheet_step book =
    unless_refused ((is_none (fresh_id (core_of book)), IdsUsedUp) ∷ []) (changed_by (with_new_sheet (new_sheet_name book)) book)
    (named_fields (new_sheet_name book) (length book.sheets))

-- a copy of a sheet ----

-- a number in brackets after a blank
abbrev pub suffix_of : ℕ → List ℕ
suffix_of n = codes " (" ++ (decimal n ++ codes ")")

-- a name with such a number, cut so that it has at most 31 characters
abbrev pub copy_name : List ℕ → ℕ → List ℕ
copy_name source n = take (31 - length (suffix_of n)) source ++ suffix_of n

abbrev pub name_of_copy : Book → List ℕ → List ℕ
name_of_copy book source = copy_name source (free_number book (copy_name source))

-- some mention in a formula is of this sheet
abbrev pub mentions_sheet : ℕ → Formula → Bool
mentions_sheet id (formulas.Tree t) = some_mention (is_of_sheet id) (λ word. false) (λ sheet word. false) t
mentions_sheet id (formulas.Raw text) = false

-- the definitions that are local to a sheet, and those local to none whose body mentions it, where the sheet has none of
-- an agreeing name
abbrev pub local_to : ℕ → List Definition → List Definition
local_to id definitions = filter (λ d. same_scope d.scope (Some id)) definitions

abbrev pub shared_about : ℕ → List Definition → List Definition
shared_about id definitions =
    filter (λ d. is_none d.scope && mentions_sheet id d.body && not (list_any (λ other. agrees other.name d.name) (local_to id definitions))) definitions

-- both, in this order, are copied with the sheet
abbrev pub copied_of : ℕ → List Definition → List Definition
copied_of id definitions = local_to id definitions ++ shared_about id definitions

-- a sheet and definitions more: the sheet directly after the one at an index, the definitions at the end
abbrev pub with_copy : ℕ → Sheet → List Definition → Book → Book
with_copy index copy definitions book = record book { sheets = insert book.sheets (index + 1) copy; definitions = book.definitions ++ definitions }

-- a definition as one of another scope, and with another body
abbrev pub local_in : ℕ → Definition → Definition
local_in id d = record d { scope = Some id }

abbrev pub with_formula : (Formula → Formula) → Definition → Definition
with_formula f d = record d { body = f d.body }

module _ (book : Book) (index : ℕ) (source : Sheet) where
  abbrev pub copy_id : ℕ
  copy_id = greatest_id (core_of book) + 1

  -- the copy and the copied definitions, with their formulas as they are in the source
  abbrev pub copy_named : Sheet
  copy_named = record source { id = copy_id; name = name_of_copy book source.name }

  abbrev pub definitions_moved : List Definition
  definitions_moved = map (local_in copy_id) (copied_of source.id book.definitions)

  -- what formulas can mention in the book with the copy
  abbrev pub scene_with_copy : Scene
  scene_with_copy = scene_in (with_copy index copy_named definitions_moved book)

  abbrev pub formula_copied : Formula → Formula
  formula_copied formula = copied_formula (notations_in book) scene_with_copy source.id copy_id formula

  -- the same with their own formulas
  abbrev pub copy_of_sheet : Sheet
  copy_of_sheet = record copy_named { pool = map formula_copied source.pool }

  abbrev pub copies_of_definitions : List Definition
  copies_of_definitions = map (with_formula formula_copied) definitions_moved

  abbrev pub duplicated : Stepped Book
  duplicated =
      unless_refused ((is_none (fresh_id (core_of book)), IdsUsedUp) ∷ []) (changed_by (with_copy index copy_of_sheet copies_of_definitions) book)
      (named_fields (name_of_copy book source.name) (index + 1))

unfoldable pub duplicate_sheet_step : ℕ → Book → Stepped Book
duplicate_sheet_step index book = found_or InvalidSheet (option_map (duplicated book index) (slice_get book.sheets index))

-- other names, places and ends ----

unfoldable pub rename_sheet_step : List ℕ → List ℕ → Book → Stepped Book
rename_sheet_step old new book =
    lifted book (core.RenameSheet old new) (changed_by (with_renamed_sheet (unwrap_or (index_of_name (core_of book) old) 0) new) book)

unfoldable pub rename_by_index_step : ℕ → List ℕ → Book → Stepped Book
rename_by_index_step index name book = lifted book (core.RenameSheetByIndex index name) (changed_by (with_renamed_sheet index name) book)

unfoldable pub move_sheet_step : ℕ → ℕ → Book → Stepped Book
move_sheet_step from to book = lifted book (core.MoveSheet from to) (with_moved_sheet from to book)

unfoldable pub delete_sheet_step : ℕ → Book → Stepped Book
delete_sheet_step index book = lifted book (core.DeleteSheet index) (changed_by (with_removed_sheet index) book)

unfoldable pub delete_by_name_step : List ℕ → Book → Stepped Book
delete_by_name_step name book =
    lifted book (core.DeleteSheetByName name) (changed_by (with_removed_sheet (unwrap_or (index_of_name (core_of book) name) 0)) book)

unfoldable pub delete_by_id_step : ℕ → Book → Stepped Book
delete_by_id_step id book =
    lifted book (core.DeleteSheetBySheetId id) (changed_by (with_removed_sheet (unwrap_or (index_of_id (core_of book) id) 0)) book)

-- readers ----

unfoldable pub new_sheet_id_step : Book → Stepped Book
new_sheet_id_step book = lifted book core.GetNewSheetId book

-- a sheet's name, state, color and id
abbrev pub property_fields : Sheet → List Field
property_fields sheet = TextField sheet.name ∷ TextField (state_word sheet.tab.state) ∷ ColorField sheet.tab.color ∷ NumberField (Some sheet.id) ∷ []

unfoldable pub properties_step : Book → Stepped Book
properties_step book = unless_refused [] book (flat_map property_fields book.sheets)

abbrev pub sheet_action : Sheets → Action
sheet_action (AddSheet name) = ChangesLists (add_sheet_step name)
sheet_action (InsertSheet name index id) = ChangesLists (insert_sheet_step name index id)
sheet_action NewSheet = ChangesLists new_sheet_step
sheet_action (DuplicateSheet sheet) = ChangesLists (duplicate_sheet_step sheet)
sheet_action (RenameSheet old new) = ChangesLists (rename_sheet_step old new)
sheet_action (RenameSheetByIndex sheet name) = ChangesLists (rename_by_index_step sheet name)
sheet_action (MoveSheet sheet to) = ChangesLists (move_sheet_step sheet to)
sheet_action (DeleteSheet sheet) = ChangesLists (delete_sheet_step sheet)
sheet_action (DeleteSheetByName name) = ChangesLists (delete_by_name_step name)
sheet_action (DeleteSheetBySheetId id) = ChangesLists (delete_by_id_step id)
sheet_action GetNewSheetId = Asks new_sheet_id_step
sheet_action GetWorksheetsProperties = Asks properties_step

abbrev pub sheet_step : Book → Sheets → Stepped Book
sheet_step book command = perform book (sheet_action command)
