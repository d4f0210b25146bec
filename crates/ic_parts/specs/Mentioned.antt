-- What becomes of mentions where sheets and definitions come and go: the core afterwards is the one before with each tree
-- changed alike.
use Rattle.std.specs.Prelude.{◌≡◌, ◌+◌, ℕ, List, IfSome, Option, Some}
use Rattle.std.specs.List.{slice_get}
use Rattle.ic_laws.specs.BookTrees.{with_sheet_at_end, with_trees}
use Rattle.ic_laws.specs.Changes.{changed_tree, definition_added, definition_gone, sheet_gone, sheet_named}
use Rattle.ic_laws.specs.CoreBook.{Definition, Sheet, greatest_id, scene_of, spelling_of}
use Rattle.ic_laws.specs.CoreStep.{index_of_definition, index_of_id, index_of_name, new_definition, scope_or_none, with_definition, with_sheet_name, without_definition, without_sheet}
use Rattle.ic_laws.specs.FormulaReading.{Body, body_of}
use Rattle.ic_machine.specs.Binds.{with_sheet_among}
use Rattle.ic_machine.specs.subjects.Sheets.{chosen_id}
use Rattle.ic_parts.specs.Book.{Book, core_of, notations_in}

-- A sheet of this name came: what dangled by an agreeing one is bound to it.
abbrev pub BindsAdded : List ℕ → Book → Book → Type 0
BindsAdded name old new =
    core_of new ≡ with_sheet_at_end (greatest_id (core_of old) + 1) name (with_trees (changed_tree (sheet_named (scene_of (core_of old)) (greatest_id (core_of old) + 1) name)) (core_of old))

-- One of this name was put in at an index, with this id.
abbrev pub BindsInserted : ℕ → ℕ → List ℕ → Book → Book → Type 0
BindsInserted index id name old new =
    core_of new ≡ with_sheet_among index id name (with_trees (changed_tree (sheet_named (scene_of (core_of old)) id name)) (core_of old))

-- The sheet at an index got this name: what dangled by an agreeing one is bound to it.
abbrev pub BindsNamed : ℕ → List ℕ → Book → Book → Type 0
BindsNamed index name old new =
    (sheet : Sheet) → slice_get (core_of old).sheets index ≡ Some sheet → core_of new ≡ with_sheet_name index name (with_trees (changed_tree (sheet_named (scene_of (core_of old)) sheet.id name)) (core_of old))

-- The sheet at an index went: what meant it dangles by its name.
abbrev pub DanglesWithout : ℕ → Book → Book → Type 0
DanglesWithout index old new =
    (sheet : Sheet) → slice_get (core_of old).sheets index ≡ Some sheet → core_of new ≡ without_sheet index (with_trees (changed_tree (sheet_gone (scene_of (core_of old)) sheet.id sheet.name)) (core_of old))

-- A definition of this name, scope and body came: what could mean it does.
abbrev pub BindsDefined : List ℕ → Option ℕ → List ℕ → Book → Book → Type 0
BindsDefined name scope text old new =
    (body : Body) → body_of (notations_in old) (core_of old) text ≡ Some body
    → core_of new ≡ with_definition (new_definition (notations_in old) (core_of old) name (scope_or_none (core_of old) scope) body)
    (with_trees (changed_tree (definition_added (record { name = name; scope = scope_or_none (core_of old) scope }))) (core_of old))

-- The definition of an agreeing name in this scope went: what meant it means the one that is local to none, or dangles by
-- its name.
abbrev pub DanglesUndefined : List ℕ → Option ℕ → Book → Book → Type 0
DanglesUndefined name scope old new =
    (index : ℕ) (definition : Definition) → index_of_definition (core_of old) name (scope_or_none (core_of old) scope) ≡ Some index → slice_get (core_of old).definitions index ≡ Some definition
    → core_of new ≡ without_definition (Some index) (with_trees (changed_tree (definition_gone (scene_of (without_definition (Some index) (core_of old))) (spelling_of definition))) (core_of old))

-- what holds at the index of the sheet whose name agrees, and of the one with an id, where there is one
abbrev pub AtName : List ℕ → Book → (ℕ → Type 0) → Type 0
AtName name book P = IfSome (index_of_name (core_of book) name) P

abbrev pub AtId : ℕ → Book → (ℕ → Type 0) → Type 0
AtId id book P = IfSome (index_of_id (core_of book) id) P

-- what holds of the id that a new sheet gets: the one that is given, else the fresh one, where there is one
abbrev pub AtChosen : Option ℕ → Book → (ℕ → Type 0) → Type 0
AtChosen given book P = IfSome (chosen_id (core_of book) given) P
