-- The commands on definitions.
use Rattle.std.specs.Prelude.{ℕ, pos, List, [], ◌∷◌, ◌++◌, Bool, false, not, ◌&&◌, ◌==◌, Option, Some, None, is_none, option_map, codes}
use Rattle.std.specs.Option.{option_or}
use Rattle.ic_laws.specs.Binding.{bound}
use Rattle.ic_laws.specs.Character.{equals}
use Rattle.ic_laws.specs.Command as core
use Rattle.ic_laws.specs.CoreBook.{CoreBook}
use Rattle.ic_laws.specs.CoreStep.{core_step, has_definition, index_of_definition, new_definition, scope_of, scope_or_none, updated_at}
use Rattle.ic_laws.specs.FormulaReading.{Body, body_of, shown_at, trimmed, without_equals}
use Rattle.ic_laws.specs.Keeping.{KeyChange, changed_key}
use Rattle.ic_laws.specs.Name.{agrees, is_identifier}
use Rattle.ic_laws.specs.Notations.{Notations, english, english_function}
use Rattle.ic_laws.specs.ReadAs.{read_as}
use Rattle.ic_laws.specs.Scan.{first_is}
use Rattle.ic_laws.specs.Scene.{key_of, same_scope}
use Rattle.ic_laws.specs.declared.scene.Scene.{Scene}
use Rattle.ic_laws.specs.declared.tree.Formula.{Formula}
use Rattle.ic_laws.specs.declared.tree.Formula.TheVariants as formulas
use Rattle.ic_laws.specs.declared.tree.NameKey.{NameKey}
use Rattle.ic_machine.specs.Action.{Action, Asks, ChangesLists, perform}
use Rattle.ic_machine.specs.Book.{Book, Stepped, as_core, core_of, notations_in, scene_in, unless_refused}
use Rattle.ic_machine.specs.Capture.{captured_sites, has_sites}
use Rattle.ic_machine.specs.Changed.{changed_by, changed_with, with_definition, without_definition}
use Rattle.ic_machine.specs.Refusal.{Causes, InvalidFormula, InvalidName, InvalidScope, NameExists, NameNotFound, Site, WouldCapture}
use Rattle.ic_machine.specs.Reply.{bool_field}
use Rattle.ic_machine.specs.Row.{Row}
use Rattle.ic_machine.specs.Word.{OfScope, OfText, words_of}

-- an update of a definition: its name and scope, and those that it gets with a new body. A scope is the index of a sheet,
-- or none.
pub record Update : Type 0 where
  pub name : List ℕ
  pub scope : Option ℕ
  pub new_name : List ℕ
  pub new_scope : Option ℕ
  pub body : List ℕ

pub data Definitions : Type 0 where
  NewDefinedName : (name : List ℕ) (scope : Option ℕ) (body : List ℕ) → Definitions
  DeleteDefinedName : (name : List ℕ) (scope : Option ℕ) → Definitions
  UpdateDefinedName : (update : Update) → Definitions
  WouldCaptureName : (update : Update) → Definitions
  IsValidDefinedName : (name : List ℕ) (scope : Option ℕ) (body : List ℕ) → Definitions
  GetDefinedNameList : Definitions

abbrev pub update_of : List ℕ → Option ℕ → List ℕ → Option ℕ → List ℕ → Update
update_of name scope new_name new_scope body = record { name = name; scope = scope; new_name = new_name; new_scope = new_scope; body = body }

abbrev pub definition_rows : List (Row Definitions)
definition_rows =
    record { name = codes "new_defined_name"; words = words_of (OfText ∷ OfScope ∷ OfText ∷ []); command = λ w. NewDefinedName w.0 w.1.0 w.1.1.0 }
    ∷ record { name = codes "delete_defined_name"; words = words_of (OfText ∷ OfScope ∷ []); command = λ w. DeleteDefinedName w.0 w.1.0 }
    ∷ record { name = codes "update_defined_name"; words = words_of (OfText ∷ OfScope ∷ OfText ∷ OfScope ∷ OfText ∷ []); command = λ w. UpdateDefinedName (update_of w.0 w.1.0 w.1.1.0 w.1.1.1.0 w.1.1.1.1.0) }
    ∷ record { name = codes "would_capture"; words = words_of (OfText ∷ OfScope ∷ OfText ∷ OfScope ∷ OfText ∷ []); command = λ w. WouldCaptureName (update_of w.0 w.1.0 w.1.1.0 w.1.1.1.0 w.1.1.1.1.0) }
    ∷ record { name = codes "is_valid_defined_name"; words = words_of (OfText ∷ OfScope ∷ OfText ∷ []); command = λ w. IsValidDefinedName w.0 w.1.0 w.1.1.0 }
    ∷ record { name = codes "get_defined_name_list"; words = words_of []; command = λ w. GetDefinedNameList } ∷ []

-- as the identity machine has them ----

abbrev pub with_new_definition : Book → List ℕ → Option ℕ → Option Body → Book
with_new_definition book name scope None = book
with_new_definition book name scope (Some body) = changed_by (with_definition (new_definition (notations_in book) (core_of book) name scope body)) book

unfoldable pub new_definition_step : List ℕ → Option ℕ → List ℕ → Book → Stepped Book
new_definition_step name index body book =
    as_core (core_step (notations_in book) (core_of book) (core.NewDefinedName name index body))
    (with_new_definition book name (scope_or_none (core_of book) index) (body_of (notations_in book) (core_of book) body))

unfoldable pub delete_definition_step : List ℕ → Option ℕ → Book → Stepped Book
delete_definition_step name index book =
    as_core (core_step (notations_in book) (core_of book) (core.DeleteDefinedName name index))
    (changed_by (without_definition (index_of_definition (core_of book) name (scope_or_none (core_of book) index))) book)

unfoldable pub valid_definition_step : List ℕ → Option ℕ → List ℕ → Book → Stepped Book
valid_definition_step name index body book = as_core (core_step (notations_in book) (core_of book) (core.IsValidDefinedName name index body)) book

unfoldable pub list_step : Book → Stepped Book
list_step book = as_core (core_step (notations_in book) (core_of book) core.GetDefinedNameList) book

-- an update ----

-- the new body: any formula, with blanks around it, and with or without one `=`; in the notation in force, else in English
abbrev pub update_body : Notations → CoreBook → List ℕ → Option Body
update_body n book text =
    option_map (λ t. record { has_equals = first_is (λ c. c == equals) (trimmed text); tree = t })
    (option_or (read_as (shown_at n book (pos 1) (pos 1)) (without_equals (trimmed text))) (read_as (n.shown english english (pos 1) (pos 1)) (without_equals (trimmed text))))

module _ (book : Book) (update : Update) where
  abbrev pub old_scope : Option ℕ
  old_scope = scope_or_none (core_of book) update.scope

  abbrev pub new_scope_id : Option ℕ
  new_scope_id = scope_or_none (core_of book) update.new_scope

  abbrev pub old_key : NameKey
  old_key = key_of (record { name = update.name; scope = old_scope })

  abbrev pub new_key : NameKey
  new_key = key_of (record { name = update.new_name; scope = new_scope_id })

  abbrev pub keys_of_update : KeyChange
  keys_of_update = changed_key old_key new_key

  -- another definition has the new name and the new scope
  abbrev pub meets_other : Bool
  meets_other =
      has_definition (core_of book) update.new_name new_scope_id && not (agrees update.name update.new_name && same_scope old_scope new_scope_id)

  -- the definition keeps its index and gets the new name, scope, equals sign and body
  abbrev pub with_update : Bool → Formula → Option ℕ → Book → Book
  with_update has_equals body None b = b
  with_update has_equals body (Some index) b =
      record b { definitions = updated_at (λ d. record { name = update.new_name; scope = new_scope_id; has_equals = has_equals; body = body }) index b.definitions }

  abbrev pub updated_index : Option ℕ
  updated_index = index_of_definition (core_of book) update.name old_scope

  -- what formulas can mention then
  abbrev pub scene_updated : Scene
  scene_updated = scene_in (with_update false (formulas.Raw []) updated_index book)

  -- the new body is bound in the book with the new name, for the new scope; all other formulas are kept
  abbrev pub with_body : Option Body → Book
  with_body None = book
  with_body (Some body) =
      changed_with keys_of_update
      (with_update body.has_equals (formulas.Tree (bound (english_function (notations_in book)) scene_updated new_scope_id body.tree)) updated_index) book

  abbrev pub updated_book : Book
  updated_book = with_body (update_body (notations_in book) (core_of book) update.body)

  -- what the update would capture
  abbrev pub update_sites : List Site
  update_sites = captured_sites keys_of_update old_key book updated_book

  abbrev pub captures : Bool
  captures = has_sites update_sites

  -- what refuses the question whether it would capture
  abbrev pub question_causes : Causes
  question_causes =
      (not (is_identifier update.new_name), InvalidName) ∷ (is_none (scope_of (core_of book) update.scope), InvalidScope)
      ∷ (is_none (scope_of (core_of book) update.new_scope), InvalidScope) ∷ (meets_other, NameExists)
      ∷ (is_none (update_body (notations_in book) (core_of book) update.body), InvalidFormula)
      ∷ (not (has_definition (core_of book) update.name old_scope), NameNotFound) ∷ []

  -- and what refuses the update
  abbrev pub update_causes : Causes
  update_causes = question_causes ++ (captures, WouldCapture update_sites) ∷ []

unfoldable pub update_name_step : Update → Book → Stepped Book
update_name_step update book = unless_refused (update_causes book update) (updated_book book update) []

unfoldable pub would_capture_step : Update → Book → Stepped Book
would_capture_step update book = unless_refused (question_causes book update) book (bool_field (captures book update))

abbrev pub definition_action : Definitions → Action
definition_action (NewDefinedName name scope body) = ChangesLists (new_definition_step name scope body)
definition_action (DeleteDefinedName name scope) = ChangesLists (delete_definition_step name scope)
definition_action (UpdateDefinedName update) = ChangesLists (update_name_step update)
definition_action (WouldCaptureName update) = Asks (would_capture_step update)
definition_action (IsValidDefinedName name scope body) = Asks (valid_definition_step name scope body)
definition_action GetDefinedNameList = Asks list_step

abbrev pub definition_step : Book → Definitions → Stepped Book
definition_step book command = perform book (definition_action command)
