-- The steps of the core book: what each command leaves and answers, and what refuses it.
use Rattle.std.specs.Prelude.{ℕ, ℤ, zero, suc, ◌+◌, List, [], ◌∷◌, ◌++◌, flat_map, insert, length, position, remove, slice_get, Bool, not, ◌&&◌, ◌==◌, Option, Some, None, is_none, option_and_then, option_map, option_to_list, unwrap_or, nat_eq, nat_lt, Result, Ok, Err}
use Rattle.std.specs.List.{list_any}
use Rattle.ic_laws.specs.Binding.{bound}
use Rattle.ic_laws.specs.Character.{equals}
use Rattle.ic_laws.specs.Command.{Command, AddSheet, RenameSheet, RenameSheetByIndex, MoveSheet, DeleteSheet, DeleteSheetByName, DeleteSheetBySheetId, NewDefinedName, DeleteDefinedName, IsValidDefinedName, GetDefinedNameList, GetNewSheetId, SetLocale, SetLanguage, UpdateCellWithFormula, GetCellFormula, Field, TextField, NumberField}
use Rattle.ic_laws.specs.CoreBook.{CoreBook, Definition, Sheet, fresh_id, formula_at, greatest_id, has_sheet, names_of, scene_of, with_formula_at}
use Rattle.ic_laws.specs.FormulaReading.{Body, body_of, cell_formula, is_formula_text, shown_body, shown_formula, without_equals}
use Rattle.ic_laws.specs.Keeping.{same_keys, with_kept}
use Rattle.ic_laws.specs.Name.{agrees, is_identifier, is_sheet_name}
use Rattle.ic_laws.specs.Notations.{Notations, english_function}
use Rattle.ic_laws.specs.Position.{is_column, is_row}
use Rattle.ic_laws.specs.Refusal.{Refusal, IdsUsedUp, InvalidColumn, InvalidLanguage, InvalidLocale, InvalidName, InvalidNameFormula, InvalidRow, InvalidScope, InvalidSheet, InvalidSheetName, NameExists, NameNotFound, NotAFormula, OnlySheet, SheetExists, SheetIndexTooLarge, SheetNotFound, TargetTooLarge, first_refusal}
use Rattle.ic_laws.specs.Scene.{same_scope}
use Rattle.ic_laws.specs.declared.scene.Scene.{Scene}
use Rattle.ic_laws.specs.declared.tree.Formula.{Formula}
use Rattle.ic_laws.specs.declared.tree.Formula.TheVariants as formulas

-- the book that a command leaves and the fields of its reply, or its refusal
abbrev pub Outcome : Type 0
Outcome = Result (CoreBook × List Field) Refusal

-- what is left and replied where nothing refuses
abbrev pub unless_refused : Option Refusal → CoreBook → List Field → Outcome
unless_refused (Some refusal) book fields = Err refusal
unless_refused None book fields = Ok (book, fields)

-- what may refuse a command, in the order in which it is told
abbrev pub Causes : Type 0
Causes = List (Bool × Refusal)

-- a change of the sheets or the definitions of a book: all formulas are kept over it
abbrev pub changed_by : Notations → (CoreBook → CoreBook) → CoreBook → CoreBook
changed_by n change book = change (with_kept n (scene_of book) (scene_of (change book)) same_keys book)

-- no sheet stands at this index
abbrev pub lacks_sheet : CoreBook → ℕ → Bool
lacks_sheet book index = not (nat_lt index (length book.sheets))

-- a new sheet ----

-- what refuses one of this name
abbrev pub add_sheet_causes : CoreBook → List ℕ → Causes
add_sheet_causes book name =
    (not (is_sheet_name name), InvalidSheetName) ∷ (has_sheet book name, SheetExists) ∷ (is_none (fresh_id book), IdsUsedUp) ∷ []

abbrev pub add_sheet_refusal : CoreBook → List ℕ → Option Refusal
add_sheet_refusal book name = first_refusal (add_sheet_causes book name)

-- the sheets with a new one of this name at their end, which has the fresh id and no formulas
abbrev pub with_new_sheet : List ℕ → CoreBook → CoreBook
with_new_sheet name book = record book { sheets = book.sheets ++ record { id = greatest_id book + 1; name = name; cells = [] } ∷ [] }

abbrev pub add_sheet_step : Notations → CoreBook → List ℕ → Outcome
add_sheet_step n book name = unless_refused (add_sheet_refusal book name) (changed_by n (with_new_sheet name) book) []

-- another name for a sheet ----

-- a sheet other than the one at this index has a name that agrees
abbrev pub has_other_sheet : CoreBook → ℕ → List ℕ → Bool
has_other_sheet book index name = list_any (agrees name) (remove (names_of book) index)

abbrev pub rename_causes : CoreBook → ℕ → List ℕ → Causes
rename_causes book index name =
    (not (is_sheet_name name), InvalidSheetName) ∷ (has_other_sheet book index name, SheetExists) ∷ (lacks_sheet book index, InvalidSheet) ∷ []

abbrev pub rename_refusal : CoreBook → ℕ → List ℕ → Option Refusal
rename_refusal book index name = first_refusal (rename_causes book index name)

-- the item at an index, changed
abbrev pub updated_at : {A : Type 0} → (A → A) → ℕ → List A → List A
updated_at f index [] = []
updated_at f zero (x ∷ xs) = f x ∷ xs
updated_at f (suc index) (x ∷ xs) = x ∷ updated_at f index xs

abbrev pub with_sheet_name : ℕ → List ℕ → CoreBook → CoreBook
with_sheet_name index name book = record book { sheets = updated_at (λ s. record s { name = name }) index book.sheets }

abbrev pub rename_step : Notations → CoreBook → ℕ → List ℕ → Outcome
rename_step n book index name = unless_refused (rename_refusal book index name) (changed_by n (with_sheet_name index name) book) []

-- the index of the first sheet whose name agrees, and of the one with this id
abbrev pub index_of_name : CoreBook → List ℕ → Option ℕ
index_of_name book name = position (λ (s : Sheet). agrees s.name name) book.sheets

abbrev pub index_of_id : CoreBook → ℕ → Option ℕ
index_of_id book id = position (λ (s : Sheet). nat_eq s.id id) book.sheets

-- a step on the sheet at an index that was looked up
abbrev pub at_found : Option ℕ → (ℕ → Outcome) → Outcome
at_found None step = Err SheetNotFound
at_found (Some index) step = step index

-- another place for a sheet ----

abbrev pub move_causes : CoreBook → ℕ → ℕ → Causes
move_causes book from to =
    (lacks_sheet book from, SheetIndexTooLarge) ∷ (lacks_sheet book to, TargetTooLarge) ∷ []

abbrev pub move_refusal : CoreBook → ℕ → ℕ → Option Refusal
move_refusal book from to = first_refusal (move_causes book from to)

-- the item at an index is taken out and put at another
abbrev pub put_back : {A : Type 0} → ℕ → List A → Option A → List A
put_back to items None = items
put_back to items (Some item) = insert items to item

abbrev pub moved : {A : Type 0} → ℕ → ℕ → List A → List A
moved from to items = put_back to (remove items from) (slice_get items from)

abbrev pub move_step : CoreBook → ℕ → ℕ → Outcome
move_step book from to = unless_refused (move_refusal book from to) (record book { sheets = moved from to book.sheets }) []

-- a sheet is taken out ----

abbrev pub delete_causes : CoreBook → ℕ → Causes
delete_causes book index =
    (length book.sheets == 1, OnlySheet) ∷ (lacks_sheet book index, SheetIndexTooLarge) ∷ []

abbrev pub delete_refusal : CoreBook → ℕ → Option Refusal
delete_refusal book index = first_refusal (delete_causes book index)

-- definitions that are local to it stay
abbrev pub without_sheet : ℕ → CoreBook → CoreBook
without_sheet index book = record book { sheets = remove book.sheets index }

abbrev pub delete_step : Notations → CoreBook → ℕ → Outcome
delete_step n book index = unless_refused (delete_refusal book index) (changed_by n (without_sheet index) book) []

-- definitions ----

-- the id of the sheet that a definition is local to, by that sheet's index; none where there is no such sheet
abbrev pub scope_of : CoreBook → Option ℕ → Option (Option ℕ)
scope_of book None = Some None
scope_of book (Some index) = option_map (λ s. Some s.id) (slice_get book.sheets index)

-- a definition of an agreeing name that is local to the same sheet, or to none too
abbrev pub is_named : List ℕ → Option ℕ → Definition → Bool
is_named name scope definition = agrees definition.name name && same_scope definition.scope scope

abbrev pub has_definition : CoreBook → List ℕ → Option ℕ → Bool
has_definition book name scope = list_any (is_named name scope) book.definitions

-- the scope where the index is that of a sheet, and none otherwise
abbrev pub scope_or_none : CoreBook → Option ℕ → Option ℕ
scope_or_none book index = unwrap_or (scope_of book index) None

abbrev pub new_definition_causes : Notations → CoreBook → List ℕ → Option ℕ → List ℕ → Causes
new_definition_causes n book name index body =
    (not (is_identifier name), InvalidName) ∷ (is_none (scope_of book index), InvalidScope) ∷ (has_definition book name (scope_or_none book index), NameExists) ∷ (is_none (body_of n book body), InvalidNameFormula) ∷ []

abbrev pub new_definition_refusal : Notations → CoreBook → List ℕ → Option ℕ → List ℕ → Option Refusal
new_definition_refusal n book name index body = first_refusal (new_definition_causes n book name index body)

-- the definitions with a new one at their end; its body is bound where the new definition is there too
abbrev pub with_definition : Definition → CoreBook → CoreBook
with_definition definition book = record book { definitions = book.definitions ++ definition ∷ [] }

-- what formulas can mention where there is a definition of this name, too
abbrev pub scene_with_definition : CoreBook → List ℕ → Option ℕ → Scene
scene_with_definition book name scope = record (scene_of book) { names = (scene_of book).names ++ record { name = name; scope = scope } ∷ [] }

abbrev pub new_definition : Notations → CoreBook → List ℕ → Option ℕ → Body → Definition
new_definition n book name scope body = record {
  name = name;
  scope = scope;
  has_equals = body.has_equals;
  body = formulas.Tree (bound (english_function n) (scene_with_definition book name scope) scope body.tree);
}

abbrev pub with_new_definition : Notations → CoreBook → List ℕ → Option ℕ → Option Body → CoreBook
with_new_definition n book name scope None = book
with_new_definition n book name scope (Some body) = changed_by n (with_definition (new_definition n book name scope body)) book

abbrev pub new_definition_step : Notations → CoreBook → List ℕ → Option ℕ → List ℕ → Outcome
new_definition_step n book name index body =
    unless_refused (new_definition_refusal n book name index body) (with_new_definition n book name (scope_or_none book index) (body_of n book body)) []

-- the same question, without a change: the id of the sheet that the definition would be local to
abbrev pub valid_definition_step : Notations → CoreBook → List ℕ → Option ℕ → List ℕ → Outcome
valid_definition_step n book name index body = unless_refused (new_definition_refusal n book name index body) book (NumberField (scope_or_none book index) ∷ [])

-- the index of the definition of an agreeing name in this scope
abbrev pub index_of_definition : CoreBook → List ℕ → Option ℕ → Option ℕ
index_of_definition book name scope = position (is_named name scope) book.definitions

abbrev pub delete_definition_causes : CoreBook → List ℕ → Option ℕ → Causes
delete_definition_causes book name index =
    (is_none (scope_of book index), InvalidSheet) ∷ (not (has_definition book name (scope_or_none book index)), NameNotFound) ∷ []

abbrev pub delete_definition_refusal : CoreBook → List ℕ → Option ℕ → Option Refusal
delete_definition_refusal book name index = first_refusal (delete_definition_causes book name index)

abbrev pub without_definition : Option ℕ → CoreBook → CoreBook
without_definition None book = book
without_definition (Some index) book = record book { definitions = remove book.definitions index }

abbrev pub delete_definition_step : Notations → CoreBook → List ℕ → Option ℕ → Outcome
delete_definition_step n book name index =
    unless_refused (delete_definition_refusal book name index) (changed_by n (without_definition (index_of_definition book name (scope_or_none book index))) book) []

-- the index of the sheet that a definition is local to, as it stands now; none where that sheet is gone
abbrev pub listed_scope : CoreBook → Option ℕ → Option (Option ℕ)
listed_scope book None = Some None
listed_scope book (Some id) = option_map (λ index. Some index) (index_of_id book id)

-- the name, the scope and the body of a definition; nothing of one whose sheet is gone
abbrev pub fields_in_scope : Notations → CoreBook → Definition → Option (Option ℕ) → List Field
fields_in_scope n book definition None = []
fields_in_scope n book definition (Some scope) =
    TextField definition.name ∷ NumberField scope ∷ TextField (shown_body n book definition.has_equals definition.body) ∷ []

abbrev pub list_fields : Notations → CoreBook → List Field
list_fields n book = flat_map (λ definition. fields_in_scope n book definition (listed_scope book definition.scope)) book.definitions

-- formulas ----

abbrev pub update_causes : CoreBook → ℕ → ℤ → ℤ → List ℕ → Causes
update_causes book index row column text =
    (lacks_sheet book index, InvalidSheet) ∷ (not (is_row row), InvalidRow) ∷ (not (is_column column), InvalidColumn) ∷ (not (is_formula_text text), NotAFormula) ∷ []

abbrev pub update_refusal : CoreBook → ℕ → ℤ → ℤ → List ℕ → Option Refusal
update_refusal book index row column text = first_refusal (update_causes book index row column text)

-- the formula of a text in a cell of this sheet
abbrev pub with_formula : Notations → CoreBook → ℤ → ℤ → List ℕ → Sheet → Sheet
with_formula n book row column text sheet = record sheet { cells = with_formula_at sheet.cells row column (cell_formula n book sheet.id row column text) }

abbrev pub update_step : Notations → CoreBook → ℕ → ℤ → ℤ → List ℕ → Outcome
update_step n book index row column text =
    unless_refused (update_refusal book index row column text)
    (record book { sheets = updated_at (with_formula n book row column (without_equals text)) index book.sheets }) []

-- the formula that is shown in a cell, if it has one
abbrev pub formula_of : CoreBook → ℕ → ℤ → ℤ → Option Formula
formula_of book index row column = option_and_then (λ sheet. formula_at sheet.cells row column) (slice_get book.sheets index)

abbrev pub shown_field : Notations → CoreBook → ℤ → ℤ → Formula → Field
shown_field n book row column formula = TextField (equals ∷ shown_formula n book row column formula)

abbrev pub formula_step : Notations → CoreBook → ℕ → ℤ → ℤ → Outcome
formula_step n book index row column =
    unless_refused (first_refusal ((lacks_sheet book index, InvalidSheet) ∷ [])) book
    (option_to_list (option_map (shown_field n book row column) (formula_of book index row column)))

-- the notation ----

abbrev pub locale_step : Notations → CoreBook → List ℕ → Outcome
locale_step n book id = unless_refused (first_refusal ((not (n.knows_locale id), InvalidLocale) ∷ [])) (record book { locale = id }) []

abbrev pub language_step : Notations → CoreBook → List ℕ → Outcome
language_step n book id = unless_refused (first_refusal ((not (n.knows_language id), InvalidLanguage) ∷ [])) (record book { language = id }) []

-- one command ----

unfoldable pub core_step : Notations → CoreBook → Command → Outcome
core_step n book (AddSheet name) = add_sheet_step n book name
core_step n book (RenameSheet old new) = at_found (index_of_name book old) (λ index. rename_step n book index new)
core_step n book (RenameSheetByIndex index name) = rename_step n book index name
core_step n book (MoveSheet from to) = move_step book from to
core_step n book (DeleteSheet index) = delete_step n book index
core_step n book (DeleteSheetByName name) = at_found (index_of_name book name) (λ index. delete_step n book index)
core_step n book (DeleteSheetBySheetId id) = at_found (index_of_id book id) (λ index. delete_step n book index)
core_step n book (NewDefinedName name index body) = new_definition_step n book name index body
core_step n book (DeleteDefinedName name index) = delete_definition_step n book name index
core_step n book (IsValidDefinedName name index body) = valid_definition_step n book name index body
core_step n book GetDefinedNameList = Ok (book, list_fields n book)
core_step n book GetNewSheetId = Ok (book, NumberField (fresh_id book) ∷ [])
core_step n book (SetLocale id) = locale_step n book id
core_step n book (SetLanguage id) = language_step n book id
core_step n book (UpdateCellWithFormula index row column text) = update_step n book index row column text
core_step n book (GetCellFormula index row column) = formula_step n book index row column
