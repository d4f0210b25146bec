-- No command looks at the metadata of a book, and so neither does whether a line can be translated.
use Rattle.std.proofs.Common.{◌≡◌, ℕ, ◌+◌, List, [], ◌∷◌, ◌++◌, Bool, true, false, cond, ◌||◌, Option, Some, None, Ok, Err, refl, sym, ap, ap₂, subst, ◌∙◌}
use Rattle.std.specs.List.{slice_get}
use Rattle.std.specs.Prelude.{option_and_then, option_map}
use Rattle.ic_laws.specs.Binding.{bound}
use Rattle.ic_laws.specs.CoreBook.{CellPlace, Definition}
use Rattle.ic_laws.specs.CoreStep.{Outcome, scope_or_none}
use Rattle.ic_laws.specs.FormulaReading.{Body, body_of}
use Rattle.ic_laws.specs.Notations.{english_function}
use Rattle.ic_laws.specs.declared.scene.Scene.{Scene}
use Rattle.ic_laws.specs.declared.tree.Formula.{Formula}
use Rattle.ic_laws.specs.declared.tree.Formula.TheVariants as formulas
use Rattle.ic_cells.specs.declared.workbook.Metadata.{Metadata}
use Rattle.ic_input.specs.declared.input.Typed.{Typed}
use Rattle.ic_input.specs.declared.input.Typed.TheVariants as kinds
use Rattle.ic_machine.specs.Action.{Action, Asks, ChangesCells, ChangesGrid, ChangesLists, ChangesNotation, ChangesSettings, ChangesTab, only_asks, perform}
use Rattle.ic_machine.specs.Book.{Book, Grid, Sheet, Stepped, Tab, as_core, core_of, found_or, notations_in, on_grid, on_tab, put_in, scene_in, unless, with_sheet}
use Rattle.ic_machine.specs.Capture.{captured_sites, has_sites}
use Rattle.ic_machine.specs.Changed.{changed_by, changed_with, without_definition}
use Rattle.ic_machine.specs.Command.{Command, OnArrays, OnDefinitions, OnExtending, OnLayout, OnNotation, OnReading, OnSheets, OnStyles, OnTabs, OnWriting, action, command_in, commands}
use Rattle.ic_machine.specs.InForce.{typed_in}
use Rattle.ic_machine.specs.Readers.{Leaves, LeavesIf, is_reader}
use Rattle.ic_machine.specs.Refusal.{InvalidSheet, Refusal, WouldCapture, first_refusal}
use Rattle.ic_machine.specs.Reply.{Field}
use Rattle.ic_machine.specs.Step.{command_step, english_errors, outcome_of, step}
use Rattle.ic_machine.specs.Translation.{Why, first_hindered, first_of, in_notation, is_switch, kept_command, left_after, left_by, own_formula, updated_definition, why_line_not, why_not}
use Rattle.ic_machine.specs.subjects.Arrays as arrays
use Rattle.ic_machine.specs.subjects.Arrays.{array_step, arrays_action}
use Rattle.ic_machine.specs.subjects.Definitions as definitions
use Rattle.ic_machine.specs.subjects.Definitions.{Update, definition_action, delete_definition_step, keys_of_update, new_definition_step, new_scope_id, old_key, question_causes, scene_updated, update_body, update_name_step, updated_book, updated_index, with_body, with_new_definition, with_update}
use Rattle.ic_machine.specs.subjects.Layout as layout
use Rattle.ic_machine.specs.subjects.Layout.{layout_action}
use Rattle.ic_machine.specs.subjects.Notation as notation
use Rattle.ic_machine.specs.subjects.Notation.{notation_action, set_language_step, set_locale_step, set_timezone_step}
use Rattle.ic_machine.specs.subjects.Sheets as sheets
use Rattle.ic_machine.specs.subjects.Sheets.{add_sheet_step, delete_by_id_step, delete_by_name_step, delete_sheet_step, duplicate_sheet_step, insert_sheet_step, move_sheet_step, new_sheet_step, rename_by_index_step, rename_sheet_step, sheet_action}
use Rattle.ic_machine.specs.subjects.Styles as styles
use Rattle.ic_machine.specs.subjects.Styles.{set_column_step, set_row_step, style_action}
use Rattle.ic_machine.specs.subjects.Tabs as tabs
use Rattle.ic_machine.specs.subjects.Tabs.{set_theme_step, tab_action}
use Rattle.ic_machine.specs.subjects.Writing as writing
use Rattle.ic_machine.specs.subjects.Writing.{Written, bool_step, formula_step, input_step, number_step, text_step, typed_written, with_written, writing_step}
use Rattle.ic_machine.proofs.kinds.ReaderLemmas.{readers_leave}

-- a book with other metadata
abbrev pub with_metadata : Metadata → Book → Book
with_metadata m book = record book { metadata = m }

module _ (m : Metadata) (b : Book) where
  abbrev M : Book → Book
  M = with_metadata m

  -- what an action does, done to the book with other metadata; nothing is said of one that only asks
  abbrev Follows : Bool → Action → Type 0
  Follows true a = Unit {0}
  Follows false a = put_in M (perform b a) ≡ perform (M b) a

  -- what is to be shown of it; nothing, where it is a step on a tab or a grid
  abbrev Fits : Action → Type 0
  Fits (Asks f) = Unit {0}
  Fits (ChangesTab index f) = Unit {0}
  Fits (ChangesGrid index f) = Unit {0}
  Fits (ChangesCells f) = put_in M (f b) ≡ f (M b)
  Fits (ChangesSettings f) = put_in M (f b) ≡ f (M b)
  Fits (ChangesNotation f) = put_in M (f b) ≡ f (M b)
  Fits (ChangesLists f) = put_in M (f b) ≡ f (M b)

  -- Forms of steps. ----

  by_causes : (o : Option Refusal) (left : Book) (fields : List Field) → put_in M (unless o left fields) ≡ unless o (M left) fields
  by_causes None left fields = refl
  by_causes (Some refusal) left fields = refl

  by_core : (o : Outcome) (left : Book) → put_in M (as_core o left) ≡ as_core o (M left)
  by_core (Ok done) left = refl
  by_core (Err refusal) left = refl

  at_found : (o : Option Sheet) (f g : Sheet → Stepped Book) → ((sheet : Sheet) → put_in M (f sheet) ≡ g sheet) → put_in M (found_or InvalidSheet (option_map f o)) ≡ found_or InvalidSheet (option_map g o)
  at_found None f g h = refl
  at_found (Some sheet) f g h = h sheet

  put_grid : (index : ℕ) (sheet : Sheet) (stepped : Stepped Grid) → put_in M (put_in (with_sheet b index) (put_in (λ (grid : Grid). let s : Sheet = record sheet { grid = grid } in s) stepped))
      ≡ put_in (with_sheet (M b) index) (put_in (λ (grid : Grid). let s : Sheet = record sheet { grid = grid } in s) stepped)
  put_grid index sheet (Ok done) = refl
  put_grid index sheet (Err refusal) = refl

  put_tab : (index : ℕ) (sheet : Sheet) (stepped : Stepped Tab) → put_in M (put_in (with_sheet b index) (put_in (λ (tab : Tab). let s : Sheet = record sheet { tab = tab } in s) stepped))
      ≡ put_in (with_sheet (M b) index) (put_in (λ (tab : Tab). let s : Sheet = record sheet { tab = tab } in s) stepped)
  put_tab index sheet (Ok done) = refl
  put_tab index sheet (Err refusal) = refl

  grids : (index : ℕ) (f : Grid → Stepped Grid) → put_in M (on_grid b index f) ≡ on_grid (M b) index f
  unfolding on_grid
  grids index f = at_found (slice_get b.sheets index) _ _ (λ sheet. put_grid index sheet (f sheet.grid))

  on_tabs : (index : ℕ) (f : Tab → Stepped Tab) → put_in M (on_tab b index f) ≡ on_tab (M b) index f
  unfolding on_tab
  on_tabs index f = at_found (slice_get b.sheets index) _ _ (λ sheet. put_tab index sheet (f sheet.tab))

  -- The commands, by subjects. ----

  sheets_follow : (command : sheets.Sheets) → Fits (sheet_action command)
  unfolding add_sheet_step delete_by_id_step delete_by_name_step delete_sheet_step duplicate_sheet_step insert_sheet_step move_sheet_step new_sheet_step rename_by_index_step rename_sheet_step
  sheets_follow (sheets.AddSheet name) = by_core _ _
  sheets_follow (sheets.InsertSheet name index id) = by_causes _ _ _
  sheets_follow sheets.NewSheet = by_causes _ _ _
  sheets_follow (sheets.DuplicateSheet sheet) = at_found (slice_get b.sheets sheet) _ _ (λ s. by_causes _ _ _)
  sheets_follow (sheets.RenameSheet old new) = by_core _ _
  sheets_follow (sheets.RenameSheetByIndex sheet name) = by_core _ _
  sheets_follow (sheets.MoveSheet sheet to) = by_core _ _
  sheets_follow (sheets.DeleteSheet sheet) = by_core _ _
  sheets_follow (sheets.DeleteSheetByName name) = by_core _ _
  sheets_follow (sheets.DeleteSheetBySheetId id) = by_core _ _
  sheets_follow command = tt

  with_new : (name : List ℕ) (scope : Option ℕ) (o : Option Body) → M (with_new_definition b name scope o) ≡ with_new_definition (M b) name scope o
  with_new name scope None = refl
  with_new name scope (Some body) = refl

  without : (o : Option ℕ) → M (changed_by (without_definition o) b) ≡ changed_by (without_definition o) (M b)
  without None = refl
  without (Some index) = refl

  module _ (u : Update) where
    scene_at : (o : Option ℕ) → scene_in (with_update b u false (formulas.Raw []) o b) ≡ scene_in (with_update (M b) u false (formulas.Raw []) o (M b))
    scene_at None = refl
    scene_at (Some index) = refl

    scene_same : scene_updated b u ≡ scene_updated (M b) u
    scene_same = scene_at (updated_index b u)

    put : (has : Bool) (body : Formula) (o : Option ℕ) → M (changed_with (keys_of_update b u) (with_update b u has body o) b) ≡ changed_with (keys_of_update (M b) u) (with_update (M b) u has body o) (M b)
    put has body None = refl
    put has body (Some index) = refl

    updated : (o : Option Body) → M (with_body b u o) ≡ with_body (M b) u o
    updated None = refl
    updated (Some body) =
        put body.has_equals (formulas.Tree (bound (english_function (notations_in b)) (scene_updated b u) (new_scope_id b u) body.tree)) (updated_index b u)
        ∙ ap (λ (scene : Scene). changed_with (keys_of_update (M b) u) (with_update (M b) u body.has_equals (formulas.Tree (bound (english_function (notations_in b)) scene (new_scope_id b u) body.tree)) (updated_index (M b) u)) (M b)) scene_same

    -- what it leaves, refused by what that captures
    abbrev leaving : Book → Stepped Book
    leaving left =
        unless (first_refusal (question_causes (M b) u ++ (has_sites (captured_sites (keys_of_update (M b) u) (old_key (M b) u) (M b) left), WouldCapture (captured_sites (keys_of_update (M b) u) (old_key (M b) u) (M b) left)) ∷ [])) left []

    update_follows : put_in M (step b (OnDefinitions (definitions.UpdateDefinedName u))) ≡ step (M b) (OnDefinitions (definitions.UpdateDefinedName u))
    unfolding update_name_step
    update_follows = by_causes _ (updated_book b u) [] ∙ ap leaving (updated (update_body (notations_in b) (core_of b) u.body))

    definition_same : (body : Body) → updated_definition b u body ≡ updated_definition (M b) u body
    definition_same body =
        ap (λ (scene : Scene). let d : Definition = record {
          name = u.new_name;
          scope = new_scope_id b u;
          has_equals = body.has_equals;
          body = formulas.Tree (bound (english_function (notations_in b)) scene (new_scope_id b u) body.tree);
        } in d) scene_same

    defined_same : (o : Option Body) → option_map (updated_definition b u) o ≡ option_map (updated_definition (M b) u) o
    defined_same None = refl
    defined_same (Some body) = ap (λ (d : Definition). let o : Option Definition = Some d in o) (definition_same body)

  definitions_follow : (command : definitions.Definitions) → Fits (definition_action command)
  unfolding new_definition_step delete_definition_step
  definitions_follow (definitions.NewDefinedName name scope body) =
      by_core _ _ ∙ ap (as_core _) (with_new name (scope_or_none (core_of b) scope) (body_of (notations_in b) (core_of b) body))
  definitions_follow (definitions.DeleteDefinedName name scope) = by_core _ _ ∙ ap (as_core _) (without _)
  definitions_follow (definitions.UpdateDefinedName update) = update_follows update
  definitions_follow command = tt

  notation_follows : (command : notation.Notation) → Fits (notation_action command)
  unfolding set_language_step set_locale_step set_timezone_step
  notation_follows (notation.SetLocale id) = by_core _ _
  notation_follows (notation.SetLanguage id) = by_core _ _
  notation_follows (notation.SetTimezone id) = by_causes _ _ _
  notation_follows command = tt

  typed_same : (sheet : Sheet) (place : CellPlace) (t : Typed) → typed_written b sheet place t ≡ typed_written (M b) sheet place t
  typed_same sheet place kinds.Empty = refl
  typed_same sheet place (kinds.Quoted text) = refl
  typed_same sheet place (kinds.Formula text) = refl
  typed_same sheet place (kinds.Number amount code) = refl
  typed_same sheet place (kinds.Boolean truth) = refl
  typed_same sheet place (kinds.Error e) = refl
  typed_same sheet place (kinds.Text text) = refl

  writing_follows : (command : writing.Writing) → put_in M (writing_step b command) ≡ writing_step (M b) command
  unfolding input_step text_step formula_step bool_step number_step
  writing_follows (writing.SetUserInput sheet row column text) =
      at_found (slice_get b.sheets sheet) _ _ (λ s. by_causes _ _ _ ∙ ap (λ (w : Written). unless (first_refusal (writing.place_causes (row, column) ++ (writing.write_causes s (row, column) ++ []))) (with_written (M b) sheet s (row, column) w) []) (typed_same s (row, column) (typed_in b text)))
  writing_follows (writing.UpdateCellWithText sheet row column text) = at_found (slice_get b.sheets sheet) _ _ (λ s. by_causes _ _ _)
  writing_follows (writing.UpdateCellWithFormula sheet row column text) = at_found (slice_get b.sheets sheet) _ _ (λ s. by_causes _ _ _)
  writing_follows (writing.UpdateCellWithBool sheet row column truth) = at_found (slice_get b.sheets sheet) _ _ (λ s. by_causes _ _ _)
  writing_follows (writing.UpdateCellWithNumber sheet row column amount) = at_found (slice_get b.sheets sheet) _ _ (λ s. by_causes _ _ _)

  styles_follow : (command : styles.Styles) → Fits (style_action command)
  unfolding set_column_step set_row_step
  styles_follow (styles.SetColumnStyle sheet column style) = at_found (slice_get b.sheets sheet) _ _ (λ s. by_causes _ _ _)
  styles_follow (styles.SetRowStyle sheet row style) = at_found (slice_get b.sheets sheet) _ _ (λ s. by_causes _ _ _)
  styles_follow command = tt

  layout_follows : (command : layout.Layout) → Fits (layout_action command)
  layout_follows (layout.SetColumnWidth sheet column width) = tt
  layout_follows command = tt

  tabs_follow : (command : tabs.Tabs) → Fits (tab_action command)
  unfolding set_theme_step
  tabs_follow (tabs.SetTheme name) = refl
  tabs_follow command = tt

  arrays_follow : (command : arrays.Arrays) → Fits (arrays_action command)
  unfolding array_step
  arrays_follow (arrays.SetUserArrayFormula sheet block text) = at_found (slice_get b.sheets sheet) _ _ (λ s. by_causes _ _ _)
  arrays_follow command = tt

  fits : (command : Command) → Fits (action command)
  fits (OnSheets command) = sheets_follow command
  fits (OnDefinitions command) = definitions_follow command
  fits (OnNotation command) = notation_follows command
  fits (OnWriting command) = writing_follows command
  fits (OnReading command) = tt
  fits (OnExtending command) = tt
  fits (OnStyles command) = styles_follow command
  fits (OnLayout command) = layout_follows command
  fits (OnTabs command) = tabs_follow command
  fits (OnArrays command) = arrays_follow command

  by_kind : (a : Action) → Fits a → Follows (only_asks a) a
  by_kind (Asks f) h = tt
  by_kind (ChangesTab index f) h = on_tabs index f
  by_kind (ChangesGrid index f) h = grids index f
  by_kind (ChangesCells f) h = h
  by_kind (ChangesSettings f) h = h
  by_kind (ChangesNotation f) h = h
  by_kind (ChangesLists f) h = h

  follows : (command : Command) → Follows (is_reader command) (action command)
  follows command = by_kind (action command) (fits command)

  -- A line's own formula, and what it leaves. ----

  own_same : (command : Command) → own_formula b command ≡ own_formula (M b) command
  own_same (OnWriting (writing.SetUserInput sheet row column text)) = refl
  own_same (OnArrays (arrays.SetUserArrayFormula sheet block text)) = refl
  own_same (OnDefinitions (definitions.UpdateDefinedName update)) = ap (option_map (λ (d : Definition). d.body)) (defined_same update (update_body (notations_in b) (core_of b) update.body))
  own_same command = refl

  -- what a command leaves, whether it is accepted or not
  abbrev LeavesWith : Stepped Book → Stepped Book → Type 0
  LeavesWith one other = M (outcome_of b one).0 ≡ (outcome_of (M b) other).0

  by_step : (stepped : Stepped Book) → LeavesWith stepped (put_in M stepped)
  by_step (Ok done) = refl
  by_step (Err refusal) = refl

  by_reading : (one other : Stepped Book) → Leaves b one → Leaves (M b) other → LeavesWith one other
  by_reading (Ok done) (Ok more) h k = ap M h ∙ sym k
  by_reading (Ok done) (Err refusal) h k = ap M h
  by_reading (Err refusal) (Ok more) h k = sym k
  by_reading (Err refusal) (Err other) h k = refl

  left_by_reader : (reads : Bool) (command : Command) → Follows reads (action command) → LeavesIf reads b (step b command) → LeavesIf reads (M b) (step (M b) command) → LeavesWith (step b command) (step (M b) command)
  left_by_reader true command f h k = by_reading (step b command) (step (M b) command) h k
  left_by_reader false command f h k = subst (LeavesWith (step b command)) f (by_step (step b command))

  left_by_command : (o : Option Command) → M (command_step b o).0 ≡ (command_step (M b) o).0
  left_by_command None = refl
  left_by_command (Some command) = left_by_reader (is_reader command) command (follows command) (readers_leave b command) (readers_leave (M b) command)

  pub left_same : (line : List ℕ) → M (left_after b line) ≡ left_after (M b) line
  left_same line = left_by_command (command_in (english_errors b) commands line)

  -- Why a line can't be translated. ----

  module _ (locale language : List ℕ) where
    why_same : (formula : Formula) → why_not (in_notation locale language b) formula ≡ why_not (in_notation locale language (M b)) formula
    why_same (formulas.Raw text) = refl
    why_same (formulas.Tree t) = refl

    why_own : (o : Option Formula) → option_and_then (why_not (in_notation locale language b)) o ≡ option_and_then (why_not (in_notation locale language (M b))) o
    why_own None = refl
    why_own (Some formula) = why_same formula

    abbrev why_kept : Book → Option (Command × Book) → Option Why
    why_kept book o = option_and_then (λ (kept : Command × Book). option_and_then (why_not (in_notation locale language book)) (own_formula book kept.0)) o

    by_left : (command : Command) (stepped : Stepped Book) → why_kept b (option_map (λ left. let kept : Command × Book = (command, left) in kept) (left_by stepped))
        ≡ why_kept (M b) (option_map (λ left. let kept : Command × Book = (command, left) in kept) (left_by (put_in M stepped)))
    by_left command (Ok done) = why_own (own_formula b command) ∙ ap (option_and_then (why_not (in_notation locale language (M b)))) (own_same command)
    by_left command (Err refusal) = refl

    by_drop : (reads switches : Bool) (command : Command) → Follows reads (action command)
        → why_kept b (cond (reads || switches) None (option_map (λ left. let kept : Command × Book = (command, left) in kept) (left_by (step b command))))
        ≡ why_kept (M b) (cond (reads || switches) None (option_map (λ left. let kept : Command × Book = (command, left) in kept) (left_by (step (M b) command))))
    by_drop true switches command f = refl
    by_drop false true command f = refl
    by_drop false false command f =
        by_left command (step b command)
        ∙ ap (λ (stepped : Stepped Book). why_kept (M b) (option_map (λ left. let kept : Command × Book = (command, left) in kept) (left_by stepped))) f

    why_command : (o : Option Command) → why_kept b (option_and_then (kept_command b) o) ≡ why_kept (M b) (option_and_then (kept_command (M b)) o)
    why_command None = refl
    why_command (Some command) = by_drop (is_reader command) (is_switch command) command (follows command)

    why_line_same : (line : List ℕ) → why_line_not locale language b line ≡ why_line_not locale language (M b) line
    why_line_same line = why_command (command_in (english_errors b) commands line)

-- the first line that can't be
pub hindered_same : (locale language : List ℕ) (m : Metadata) (lines : List (List ℕ)) (book : Book) (number : ℕ) → first_hindered locale language number book lines ≡ first_hindered locale language number (with_metadata m book) lines
hindered_same locale language m [] book number = refl
hindered_same locale language m (line ∷ lines) book number =
    ap₂ (λ (why : Option Why) (others : Option (ℕ × Why)). first_of number why others) (why_line_same m book locale language line)
    (hindered_same locale language m lines (left_after book line) (number + 1) ∙ ap (λ (left : Book). first_hindered locale language (number + 1) left lines) (left_same m book line))
