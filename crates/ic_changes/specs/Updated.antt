-- An update of a definition: what was checked of it, and what refuses it only after memory was taken.
use Rattle.std.specs.Prelude.{◌≡◌, ◌==◌, ◌&&◌, ◌||◌, ℕ, List, map, Bool, true, false, Option, None, Some}
use Rattle.std.specs.List.{AllByRecursion, list_any}
use Rattle.ic_laws.specs.Keeping.{changed_key}
use Rattle.ic_laws.specs.Refusal.{NameNotFound}
use Rattle.ic_laws.specs.Scene.{key_of}
use Rattle.ic_pool.specs.Remade.{LeavesUntouched, Remade}
use Rattle.ic_pool.specs.Tested.{Test}
use Rattle.ic_keep.specs.Capture.{captured_formula}
use Rattle.ic_keep.specs.declared.change.KeyChange.{KeyChange}
use Rattle.ic_definitions.specs.Bodies.{FitsBodies, with_bodies}
use Rattle.ic_definitions.specs.Remade.{LeavesBody, remade_body, touched_bodies}
use Rattle.ic_definitions.specs.Tested.{passes_body}
use Rattle.ic_sheets.specs.Remade.{AreRemade}
use Rattle.ic_sheets.specs.Tested.{passes_in}
use Rattle.ic_sheets.specs.declared.sheet.Sheet.{Sheet}
use Rattle.ic_machine.specs.Book as machine
use Rattle.ic_machine.specs.Book.{core_of, notations_in}
use Rattle.ic_machine.specs.Refusal.{InvalidFormula, OfCore, Refusal, WouldCapture, first_refusal}
use Rattle.ic_machine.specs.subjects.Definitions.{Update, new_scope_id, old_scope, question_causes, update_body, updated_index}
use Rattle.ic_parts.specs.Definitions.{body_of_typed}
use Rattle.ic_parts.specs.Scene.{scene_of_parts, scene_renamed}
use Rattle.ic_parts.specs.Sites.{kept_where_touched, listed_sites}
use Rattle.ic_parts.specs.declared.contents.Contents.{Contents}
use Rattle.ic_changes.specs.declared.definitions.remaking.PreparedUpdate.{PreparedUpdate}
use Rattle.ic_changes.specs.declared.definitions.update.CheckedUpdate.{CheckedUpdate}

-- the refusals of the question whether an update would capture that need memory to be seen
abbrev pub is_late_question : Refusal → Bool
is_late_question InvalidFormula = true
is_late_question (OfCore refusal) = refusal.place == NameNotFound.place
is_late_question refusal = false

-- and those of the update
abbrev pub is_late_update : Refusal → Bool
is_late_update (WouldCapture sites) = true
is_late_update refusal = is_late_question refusal

-- Nothing refuses the question of an update: the ids of the sheets that the definition is local to before and after it, its
-- index, and the body that it gets.
pub record IsChecked (book : machine.Book) (update : Update) (checked : CheckedUpdate) : Type 0 where
  pub old_scope : old_scope book update ≡ checked.old_scope
  pub new_scope : new_scope_id book update ≡ checked.new_scope
  pub index : updated_index book update ≡ Some checked.index
  pub body : update_body (notations_in book) (core_of book) update.body ≡ Some (body_of_typed checked.body)
  pub accepted : first_refusal (question_causes book update) ≡ None

-- the keys of a definition before and after an update, by its names
abbrev pub keys_named : List ℕ → List ℕ → CheckedUpdate → KeyChange
keys_named name new_name checked = record { old = key_of (record { name = name; scope = checked.old_scope }); new = key_of (record { name = new_name; scope = checked.new_scope }) }

-- the rule by which an update makes formulas anew: of the definition at an index, which gets another name and another key
abbrev pub rule_of_update : (List ℕ → Option ℕ) → Contents → ℕ → List ℕ → KeyChange → Remade
rule_of_update english contents index new_name change =
    kept_where_touched english (scene_of_parts contents.sheets contents.definitions) (scene_renamed contents.sheets contents.definitions index new_name change.new.scope) change.old change.new

-- a rule touches a formula, and what it makes of it captures a word of it
abbrev pub captures_by : Remade → KeyChange → Test
captures_by rule change scope formula = rule.touches scope formula && captured_formula (changed_key change.old change.new) formula (rule.becomes scope formula)

-- so does it some formula of the sheets, whether a cell has it or not, or some body
abbrev pub captures_some : Remade → KeyChange → Contents → Bool
captures_some rule change contents = list_any (passes_in (captures_by rule change)) contents.sheets || list_any (passes_body (captures_by rule change)) contents.definitions

-- a rule leaves each formula of a book that it doesn't touch
pub record LeavesAll (rule : Remade) (contents : Contents) : Type 0 where
  pub formulas : AllByRecursion (λ (s : Sheet). AllByRecursion (LeavesUntouched rule (Some s.id)) s.pool.formulas) contents.sheets
  pub bodies : AllByRecursion (LeavesBody rule) contents.definitions

-- It was prepared by a rule for the formulas of a book, with the sites of what it would capture.
pub record IsPrepared (rule : Remade) (change : KeyChange) (contents : Contents) (prepared : PreparedUpdate) : Type 0 where
  pub formulas : AreRemade rule prepared.formulas.items contents.sheets
  pub made : with_bodies prepared.bodies.bodies.items contents.definitions ≡ map (remade_body rule) contents.definitions
  pub listed : prepared.bodies.bodies.items ≡ touched_bodies rule 0 contents.definitions
  pub fits : FitsBodies prepared.bodies contents.definitions
  pub sites : prepared.sites.items ≡ listed_sites (changed_key change.old change.new) change.old contents.sheets contents.definitions prepared.formulas.items prepared.bodies.bodies.items
