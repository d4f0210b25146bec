-- No command makes the body of a definition that is a text which doesn't read.
use Rattle.std.proofs.Common.{◌≡◌, ℕ, List, [], ◌∷◌, filter, map, Bool, true, false, Option, Some, None, Ok, Err, refl, sym, ap, subst, ◌∙◌}
use Rattle.std.specs.List.{AllByRecursion, find, slice_get}
use Rattle.std.specs.Prelude.{option_map}
use Rattle.ic_laws.proofs.binding.SceneLemmas.{find_later}
use Rattle.ic_laws.proofs.core.Lists.{all_removed}
use Rattle.ic_laws.specs.CoreBook.{Definition, spelling_of}
use Rattle.ic_laws.specs.CoreStep.{Outcome}
use Rattle.ic_laws.specs.FormulaReading.{Body, body_of}
use Rattle.ic_laws.specs.Keeping.{KeyChange, kept_formula, kept_in_body}
use Rattle.ic_laws.specs.Notations.{Notations, english_function}
use Rattle.ic_laws.specs.Scene.{key_of}
use Rattle.ic_laws.specs.declared.scene.Scene.{Scene}
use Rattle.ic_laws.specs.declared.tree.Formula.{Formula}
use Rattle.ic_laws.specs.declared.tree.Formula.TheVariants as formulas
use Rattle.ic_keep.specs.Copy.{copied_for}
use Rattle.ic_machine.specs.Action.{Action, ChangesLists, leaves_lists, perform}
use Rattle.ic_machine.specs.Book.{Book, Sheet, Stepped, as_core, core_of, found_or, notations_in, scene_in, unless}
use Rattle.ic_machine.specs.Changed.{changed_by, changed_with, with_kept_formulas, without_definition}
use Rattle.ic_machine.specs.Command.{Command, OnArrays, OnDefinitions, OnLayout, OnNotation, OnSheets, OnStyles, OnTabs, action, command_in, commands}
use Rattle.ic_machine.specs.Kinds.{IsLeftBy, LeavesSo}
use Rattle.ic_machine.specs.Refusal.{InvalidSheet, Refusal}
use Rattle.ic_machine.specs.Reply.{Field}
use Rattle.ic_machine.specs.Step.{command_step, english_errors, outcome_of, step}
use Rattle.ic_machine.specs.Translation.{left_after}
use Rattle.ic_machine.specs.subjects.Arrays as arrays
use Rattle.ic_machine.specs.subjects.Arrays.{arrays_action}
use Rattle.ic_machine.specs.subjects.Definitions as definitions
use Rattle.ic_machine.specs.subjects.Definitions.{Update, definition_action, delete_definition_step, keys_of_update, new_definition_step, update_body, update_name_step, updated_index, with_body, with_new_definition, with_update}
use Rattle.ic_machine.specs.subjects.Layout as layout
use Rattle.ic_machine.specs.subjects.Layout.{layout_action}
use Rattle.ic_machine.specs.subjects.Notation as notation
use Rattle.ic_machine.specs.subjects.Notation.{notation_action}
use Rattle.ic_machine.specs.subjects.Sheets as sheets
use Rattle.ic_machine.specs.subjects.Sheets.{add_sheet_step, copied_of, copies_of_definitions, copy_id, delete_by_id_step, delete_by_name_step, delete_sheet_step, duplicate_sheet_step, formula_copied, insert_sheet_step, local_in, local_to, move_sheet_step, new_sheet_step, rename_by_index_step, rename_sheet_step, shared_about, sheet_action, with_formula}
use Rattle.ic_machine.specs.subjects.Styles as styles
use Rattle.ic_machine.specs.subjects.Styles.{style_action}
use Rattle.ic_machine.specs.subjects.Tabs as tabs
use Rattle.ic_machine.specs.subjects.Tabs.{tab_action}
use Rattle.ic_machine.proofs.bound.CopyKeys.{all_appended, all_in_map}
use Rattle.ic_machine.proofs.kinds.KindLemmas.{definitions_left, left_by_kind}
use Rattle.ic_machine.proofs.valid.ValidLemmas.{all_of, all_put}
use Rattle.ic_dump.specs.Refused.{is_raw, raw_body}
use Rattle.ic_dump.proofs.ListLemmas.{filtered_holds}
use Rattle.ic_dump.proofs.RunLemmas.{run}

-- the body is a tree
abbrev pub IsTree : Definition → Type 0
IsTree d = is_raw d.body ≡ false

abbrev pub AreTrees : List Definition → Type 0
AreTrees ds = AllByRecursion IsTree ds

abbrev LeavesTrees : Stepped Book → Type 0
LeavesTrees (Ok done) = AreTrees done.0.definitions
LeavesTrees (Err refusal) = Unit {0}

-- Formulas that are kept or copied. ----

kept_raw : (n : Notations) (before after : Scene) (keys : KeyChange) (scope : Option ℕ) (f : Formula) → is_raw (kept_formula (english_function n) before after keys scope f) ≡ is_raw f
kept_raw n before after keys scope (formulas.Raw text) = refl
kept_raw n before after keys scope (formulas.Tree t) = refl

copied_raw : (english : List ℕ → Option ℕ) (after : Scene) (source copy : ℕ) (scope : Option ℕ) (f : Formula) → is_raw (copied_for english after source copy scope f) ≡ is_raw f
copied_raw english after source copy scope (formulas.Raw text) = refl
copied_raw english after source copy scope (formulas.Tree t) = refl

kept_trees : (n : Notations) (before after : Scene) (keys : KeyChange) (ds : List Definition) → AreTrees ds → AreTrees (map (kept_in_body n before after keys) ds)
kept_trees n before after keys ds h =
    all_in_map (kept_in_body n before after keys) IsTree ds (all_of IsTree (λ (d : Definition). IsTree (kept_in_body n before after keys d)) (λ d e. kept_raw n before after keys d.scope d.body ∙ e) ds h)

-- those of a list that pass a test
some_trees : (p : Definition → Bool) (ds : List Definition) → AreTrees ds → AreTrees (filter p ds)
some_trees p ds h = filtered_holds IsTree p ds (all_of IsTree (λ (d : Definition). p d ≡ true → IsTree d) (λ d e g. e) ds h)

module _ (b : Book) (trees : AreTrees b.definitions) where
  -- Steps. ----

  kept : (o : Option Refusal) (left : Book) (fields : List Field) → AreTrees left.definitions → LeavesTrees (unless o left fields)
  kept None left fields h = h
  kept (Some refusal) left fields h = tt

  kept_core : (o : Outcome) (left : Book) → AreTrees left.definitions → LeavesTrees (as_core o left)
  kept_core (Ok done) left h = h
  kept_core (Err refusal) left h = tt

  at_found : (o : Option Sheet) (f : Sheet → Stepped Book) → ((sheet : Sheet) → LeavesTrees (f sheet)) → LeavesTrees (found_or InvalidSheet (option_map f o))
  at_found None f h = tt
  at_found (Some sheet) f h = h sheet

  -- what is to be shown of a step: it is one on the lists of sheets and definitions, or leaves all definitions
  abbrev Fits : Action → Type 0
  Fits (ChangesLists f) = LeavesTrees (f b)
  Fits a = Unit {0}

  -- Sheets: all bodies are kept, and those of a copied sheet are copied. ----

  all_kept : (later : Scene) (keys : KeyChange) → AreTrees (with_kept_formulas (notations_in b) (scene_in b) later keys b).definitions
  all_kept later keys = kept_trees (notations_in b) (scene_in b) later keys b.definitions trees

  copies : (index : ℕ) (source : Sheet) → AreTrees (copies_of_definitions b index source)
  copies index source =
      let scope : ℕ = copy_id b index source in
      let all : AreTrees (copied_of source.id b.definitions) = all_appended IsTree (local_to source.id b.definitions) (shared_about source.id b.definitions) (some_trees _ b.definitions trees) (some_trees _ b.definitions trees) in
      all_in_map (with_formula (formula_copied b index source)) IsTree (map (local_in scope) (copied_of source.id b.definitions))
      (all_in_map (local_in scope) (λ (d : Definition). IsTree (with_formula (formula_copied b index source) d)) (copied_of source.id b.definitions)
      (all_of IsTree (λ (d : Definition). IsTree (with_formula (formula_copied b index source) (local_in scope d))) (λ d e. copied_raw _ _ _ _ _ d.body ∙ e) (copied_of source.id b.definitions) all))

  sheet_trees : (command : sheets.Sheets) → Fits (sheet_action command)
  unfolding add_sheet_step insert_sheet_step new_sheet_step duplicate_sheet_step rename_sheet_step rename_by_index_step move_sheet_step delete_sheet_step delete_by_name_step delete_by_id_step
  sheet_trees (sheets.AddSheet name) = kept_core _ _ (all_kept _ _)
  sheet_trees (sheets.InsertSheet name index id) = kept _ _ _ (all_kept _ _)
  sheet_trees sheets.NewSheet = kept _ _ _ (all_kept _ _)
  sheet_trees (sheets.DuplicateSheet sheet) =
      at_found (slice_get b.sheets sheet) _ (λ source. kept _ _ _ (all_appended IsTree _ (copies_of_definitions b sheet source) (all_kept _ _) (copies sheet source)))
  sheet_trees (sheets.RenameSheet old new) = kept_core _ _ (all_kept _ _)
  sheet_trees (sheets.RenameSheetByIndex sheet name) = kept_core _ _ (all_kept _ _)
  sheet_trees (sheets.MoveSheet from to) = kept_core _ _ trees
  sheet_trees (sheets.DeleteSheet sheet) = kept_core _ _ (all_kept _ _)
  sheet_trees (sheets.DeleteSheetByName name) = kept_core _ _ (all_kept _ _)
  sheet_trees (sheets.DeleteSheetBySheetId id) = kept_core _ _ (all_kept _ _)
  sheet_trees command = tt

  -- Definitions: a new body is a tree. ----

  made : (name : List ℕ) (scope : Option ℕ) (o : Option Body) → AreTrees (with_new_definition b name scope o).definitions
  made name scope None = trees
  made name scope (Some body) = all_appended IsTree _ (_ ∷ []) (all_kept _ _) (refl, tt)

  gone : (o : Option ℕ) → AreTrees (changed_by (without_definition o) b).definitions
  gone None = all_kept _ _
  gone (Some index) = all_removed IsTree _ index (all_kept _ _)

  put : (u : Update) (has : Bool) (f : Formula) → is_raw f ≡ false → (o : Option ℕ) → AreTrees (changed_with (keys_of_update b u) (with_update b u has f o) b).definitions
  put u has f tree None = all_kept _ _
  put u has f tree (Some index) = all_put IsTree index _ _ (all_kept _ _) tree

  updated : (u : Update) (o : Option Body) → AreTrees (with_body b u o).definitions
  updated u None = trees
  updated u (Some body) = put u body.has_equals _ refl (updated_index b u)

  definition_trees : (command : definitions.Definitions) → Fits (definition_action command)
  unfolding new_definition_step delete_definition_step update_name_step
  definition_trees (definitions.NewDefinedName name scope body) = kept_core _ _ (made name _ (body_of (notations_in b) (core_of b) body))
  definition_trees (definitions.DeleteDefinedName name scope) = kept_core _ _ (gone _)
  definition_trees (definitions.UpdateDefinedName update) = kept _ _ _ (updated update (update_body (notations_in b) (core_of b) update.body))
  definition_trees command = tt

  -- No other command is one on the lists. ----

  notation_trees : (command : notation.Notation) → Fits (notation_action command)
  notation_trees notation.GetLocale = tt
  notation_trees command = tt

  style_trees : (command : styles.Styles) → Fits (style_action command)
  style_trees (styles.GetRowStyle sheet row) = tt
  style_trees command = tt

  layout_trees : (command : layout.Layout) → Fits (layout_action command)
  layout_trees (layout.GetRowHeight sheet row) = tt
  layout_trees command = tt

  tab_trees : (command : tabs.Tabs) → Fits (tab_action command)
  tab_trees tabs.GetTheme = tt
  tab_trees command = tt

  array_trees : (command : arrays.Arrays) → Fits (arrays_action command)
  array_trees (arrays.PutSpill sheet block values) = tt
  array_trees command = tt

  fits : (command : Command) → Fits (action command)
  fits (OnSheets command) = sheet_trees command
  fits (OnDefinitions command) = definition_trees command
  fits (OnNotation command) = notation_trees command
  fits (OnStyles command) = style_trees command
  fits (OnLayout command) = layout_trees command
  fits (OnTabs command) = tab_trees command
  fits (OnArrays command) = array_trees command
  fits command = tt

  other_trees : (a : Action) → leaves_lists a ≡ true → (stepped : Stepped Book) → LeavesSo (IsLeftBy a) b stepped → LeavesTrees stepped
  other_trees a e (Ok done) h = subst AreTrees (sym (definitions_left b a done.0 e h)) trees
  other_trees a e (Err refusal) h = tt

  by_kind : (a : Action) → Fits a → LeavesSo (IsLeftBy a) b (perform b a) → LeavesTrees (perform b a)
  by_kind (ChangesLists f) fit h = fit
  by_kind a fit h = other_trees a refl (perform b a) h

  step_trees : (command : Command) → LeavesTrees (step b command)
  step_trees command = by_kind (action command) (fits command) (left_by_kind b command)

  -- so does a line
  line_trees : (line : List ℕ) → AreTrees (left_after b line).definitions
  line_trees line = by_command (command_in (english_errors b) commands line)
    where
      by_outcome : (stepped : Stepped Book) → LeavesTrees stepped → AreTrees (outcome_of b stepped).0.definitions
      by_outcome (Ok done) h = h
      by_outcome (Err refusal) h = trees

      by_command : (o : Option Command) → AreTrees (command_step b o).0.definitions
      by_command None = trees
      by_command (Some command) = by_outcome (step b command) (step_trees command)

-- and lines one after another
pub run_trees : (b : Book) (lines : List (List ℕ)) → AreTrees b.definitions → AreTrees (run b lines).definitions
run_trees b [] h = h
run_trees b (line ∷ lines) h = run_trees (left_after b line) lines (line_trees b h line)

-- of such bodies none is found that is none
pub none_found : (ds : List Definition) → AreTrees ds → find (λ (d : Definition). is_raw d.body) ds ≡ None
none_found [] h = refl
none_found (d ∷ ds) h = find_later (λ (x : Definition). is_raw x.body) d ds h.0 ∙ none_found ds h.1

pub no_raw_body : (b : Book) → AreTrees b.definitions → raw_body (core_of b) ≡ None
no_raw_body b h = ap (option_map (λ (d : Definition). key_of (spelling_of d))) (none_found b.definitions h)
