-- What the identity machine's commands leave of a book without merged cells and arrays of several cells.
use Rattle.std.proofs.Common.{◌≡◌, ℕ, ◌+◌, pos, List, [], ◌∷◌, ◌++◌, Bool, true, false, cond, not, ◌&&◌, map, Option, Some, None, Ok, Err, option_map, slice_get, unwrap_or, refl, sym, ap, subst, ◌∙◌}
use mathlib.Core.Bool.{and-false as no_and}
use Rattle.std.specs.FinMap as finite
use Rattle.std.specs.List.{AllByRecursion}
use Rattle.std.specs.Prelude.{is_none, option_and_then}
use Rattle.ic_laws.proofs.core.Lists.{all_pushed, all_removed, all_updated}
use Rattle.ic_laws.specs.Command as core
use Rattle.ic_laws.specs.CoreBook.{greatest_id}
use Rattle.ic_laws.specs.CoreStep.{Outcome, core_step, new_definition, index_of_definition, index_of_id, index_of_name, scope_or_none}
use Rattle.ic_laws.specs.FormulaReading.{Body, body_of}
use Rattle.ic_laws.specs.Keeping.{KeyChange, same_keys}
use Rattle.ic_laws.specs.Notations.{Notations}
use Rattle.ic_laws.specs.declared.scene.Scene.{Scene}
use Rattle.ic_cells.specs.declared.cell.ArrayKind.TheVariants as arrays
use Rattle.ic_cells.specs.declared.value.FormulaValue.TheVariants as fvalues
use Rattle.ic_grid.specs.Arrays.{anchor_at, array_from, array_of, is_fixed, is_fixed_at}
use Rattle.ic_grid.specs.Block.{Place, same_place}
use Rattle.ic_grid.specs.Contents.{Contents}
use Rattle.ic_grid.specs.Prepare.{prepared, released, released_if, unspilled, without_spill, written}
use Rattle.ic_grid.specs.Shape.{Anchor, Empty, Formula, Shape, SpillOf, Value, is_anchor, is_cse, is_loose, is_spill_of, reset}
use Rattle.ic_machine.proofs.contents.HaveLemmas.{AllHave, all_put, all_remade}
use Rattle.ic_machine.proofs.valid.SheetsStay.{all_moved}
use Rattle.ic_machine.proofs.valid.ValidLemmas.{all_at}
use Rattle.ic_machine.specs.Book.{Book, Grid, Sheet, Stepped, as_core, core_of, empty_grid, empty_sheet, found_or, notations_in, scene_in, style_number_at, unless, unless_refused}
use Rattle.ic_machine.specs.Changed.{changed_by, with_definition, with_kept_formulas, with_kept_pool, with_moved_sheet, with_removed_sheet, with_renamed_sheet, without_definition}
use Rattle.ic_machine.specs.Content as contents
use Rattle.ic_machine.specs.Content.{Content, held, shape_of}
use Rattle.ic_machine.specs.Core.{whole_command}
use Rattle.ic_machine.specs.InForce.{formula_typed}
use Rattle.ic_machine.specs.Refusal.{InvalidSheet, NotAFormula, Refusal, first_refusal}
use Rattle.ic_machine.specs.Reply.{Field}
use Rattle.ic_machine.specs.Placed.{index_in_pool, is_dynamic}
use Rattle.ic_machine.specs.Step.{outcome_of, step}
use Rattle.ic_machine.specs.Styling.{restyled}
use Rattle.ic_machine.specs.subjects.Definitions.{delete_definition_step, list_step, new_definition_step, valid_definition_step, with_new_definition}
use Rattle.ic_machine.specs.subjects.Notation.{set_language_step, set_locale_step}
use Rattle.ic_machine.specs.subjects.Reading.{cell_formula_step}
use Rattle.ic_machine.specs.subjects.Sheets.{add_sheet_step, delete_by_id_step, delete_by_name_step, delete_sheet_step, move_sheet_step, new_sheet_id_step, rename_by_index_step, rename_sheet_step, with_new_sheet}
use Rattle.ic_machine.specs.subjects.Writing.{Written, formula_at_place, formula_step, formula_written, place_causes, with_content, with_written, write_causes}
use Rattle.ic_run.specs.Core.{IsPlain, IsPlainBook}

-- No array is fixed. ----

single_free : (a : Place) (s : Shape) → is_loose s ≡ true → is_fixed (array_from a s) ≡ false
single_free a Empty h = refl
single_free a Value h = refl
single_free a Formula h = refl
single_free a (Anchor width height kind) h = ap (λ t. is_cse kind && not t) h ∙ no_and (is_cse kind)
single_free a (SpillOf b) h = refl

pub none_fixed : (grid : Grid) → IsPlain grid → (p : Place) → is_fixed_at held grid.contents p ≡ false
none_fixed grid h p = at_anchor (anchor_at held grid.contents p)
  where
    at_content : (a : Place) (o : Option Content) → ((x : Content) → o ≡ Some x → is_loose (shape_of x) ≡ true) → is_fixed (option_and_then (λ x. array_from a (shape_of x)) o) ≡ false
    at_content a None loose = refl
    at_content a (Some x) loose = single_free a (shape_of x) (loose x refl)

    at_anchor : (o : Option Place) → is_fixed (option_and_then (array_of held grid.contents) o) ≡ false
    at_anchor None = refl
    at_anchor (Some a) = at_content a (finite.get grid.contents a) (h.loose a)

-- A cell that is written. ----

abbrev IsLoose : Place → Content → Type 0
IsLoose q x = is_loose (shape_of x) ≡ true

either : (t : Bool) (q : Place) (x y : Content) → IsLoose q x → IsLoose q y → IsLoose q (cond t x y)
either true q x y p r = p
either false q x y p r = r

made_so : (q : Place) (x y : Content) → IsLoose q x → (let o : Option Content = Some x in o ≡ Some y) → IsLoose q y
made_so q x y p e = let same : x ≡ y = cc in subst (IsLoose q) same p

loose_reset : (q : Place) (x : Content) → IsLoose q x → IsLoose q (reset held x)
loose_reset q (contents.EmptyContent style) h = refl
loose_reset q (contents.BoolContent truth style) h = refl
loose_reset q (contents.NumContent amount style) h = refl
loose_reset q (contents.ErrContent e style) h = refl
loose_reset q (contents.TextContent text style) h = refl
loose_reset q (contents.FormulaContent index value style) h = refl
loose_reset q (contents.AnchorContent index area kind value style) h = refl
loose_reset q (contents.SpillContent anchor value style) h = h

abbrev AllLoose : Contents Content → Type 0
AllLoose m = AllHave held IsLoose m

unspilled_loose : (a : Place) (m : Contents Content) → AllLoose m → AllLoose (without_spill held a m)
unspilled_loose a m all =
    all_remade held IsLoose _ (λ q x p y e. made_so q (unspilled held a x) y (either (is_spill_of a (shape_of x)) q (contents.EmptyContent (contents.style_of x)) x refl p) e) m all

released_loose : (a : Place) (m : Contents Content) → AllLoose m → AllLoose (released held a m)
released_loose a m all =
    all_remade held IsLoose _
    (λ q x p y e. made_so q _ y (either (same_place q a) q (cond (is_anchor (shape_of x)) (reset held x) x) x (either (is_anchor (shape_of x)) q (reset held x) x (loose_reset q x p) p) p) e) (without_spill held a m)
    (unspilled_loose a m all)

prepared_loose : (o : Option Place) (m : Contents Content) → AllLoose m → AllLoose (released_if held o m)
prepared_loose None m all = all
prepared_loose (Some a) m all = released_loose a m all

pub loose_formula : (dynamic : Bool) (index style : ℕ) → is_loose (shape_of (cond dynamic (contents.AnchorContent index (pos 1, pos 1) arrays.Dynamic fvalues.Unevaluated style) (contents.FormulaContent index fvalues.Unevaluated style))) ≡ true
loose_formula true index style = refl
loose_formula false index style = refl

pub written_plain : (grid : Grid) (p : Place) (x : Content) → is_loose (shape_of x) ≡ true → IsPlain grid → IsPlain (record grid { contents = written held p x grid.contents })
written_plain grid p x loose h = record {
  merges = h.merges;
  loose = all_put held IsLoose (prepared held p grid.contents) p x (prepared_loose (anchor_at held grid.contents p) grid.contents h.loose) loose;
}

-- Sheets. ----

empty_plain : IsPlain empty_grid
empty_plain = record { merges = refl; loose = λ place content e. let none : None ≡ Some content = sym (finite.get-empty _ place) ∙ e in cc }

kept_plain : (n : Notations) (before after : Scene) (change : KeyChange) (sheets : List Sheet) → AllByRecursion (λ (s : Sheet). IsPlain s.grid) sheets → AllByRecursion (λ (s : Sheet). IsPlain s.grid) (map (with_kept_pool n before after change) sheets)
kept_plain n before after change [] h = tt
kept_plain n before after change (s ∷ sheets) h = (h.0, kept_plain n before after change sheets h.1)

module _ (b : Book) (plain : IsPlainBook b) where
  abbrev kept_sheets : Scene → List Sheet
  kept_sheets after = map (with_kept_pool (notations_in b) (scene_in b) after same_keys) b.sheets

  kept : (after : Scene) → AllByRecursion (λ (s : Sheet). IsPlain s.grid) (kept_sheets after)
  kept after = kept_plain (notations_in b) (scene_in b) after same_keys b.sheets plain

  added : (name : List ℕ) → IsPlainBook (changed_by (with_new_sheet name) b)
  added name =
      let after : Scene = scene_in (with_new_sheet name b) in
      let between : Book = with_kept_formulas (notations_in b) (scene_in b) after same_keys b in
      all_pushed (λ (s : Sheet). IsPlain s.grid) (kept_sheets after) (empty_sheet (greatest_id (core_of between) + 1) name) (kept after) empty_plain

  renamed : (index : ℕ) (name : List ℕ) → IsPlainBook (changed_by (with_renamed_sheet index name) b)
  renamed index name =
      let after : Scene = scene_in (with_renamed_sheet index name b) in
      all_updated (λ (s : Sheet). IsPlain s.grid) (λ s. record s { name = name }) (λ s h. h) index (kept_sheets after) (kept after)

  removed : (index : ℕ) → IsPlainBook (changed_by (with_removed_sheet index) b)
  removed index =
      let after : Scene = scene_in (with_removed_sheet index b) in
      all_removed (λ (s : Sheet). IsPlain s.grid) (kept_sheets after) index (kept after)

  defined : (name : List ℕ) (scope : Option ℕ) (body : Option Body) → IsPlainBook (with_new_definition b name scope body)
  defined name scope None = plain
  defined name scope (Some body) = kept (scene_in (with_definition (new_definition (notations_in b) (core_of b) name scope body) b))

  undefined : (index : Option ℕ) → IsPlainBook (changed_by (without_definition index) b)
  undefined None = kept (scene_in b)
  undefined (Some index) = kept (scene_in (without_definition (Some index) b))

  core_plain : (o : Outcome) (left : Book) → IsPlainBook left → IsPlainBook (outcome_of b (as_core o left)).0
  core_plain (Ok done) left h = h
  core_plain (Err refusal) left h = plain

  unless_plain : (refusal : Option Refusal) (left : Book) (fields : List Field) → IsPlainBook left → IsPlainBook (outcome_of b (unless refusal left fields)).0
  unless_plain (Some refusal) left fields h = plain
  unless_plain None left fields h = h

  found_plain : (o : Option Sheet) (step : Sheet → Stepped Book) → ((s : Sheet) → o ≡ Some s → IsPlainBook (outcome_of b (step s)).0) → IsPlainBook (outcome_of b (found_or InvalidSheet (option_map step o))).0
  found_plain None step h = plain
  found_plain (Some s) step h = h s refl

  formula_plain : (index : ℕ) (place : Place) (s : Sheet) → slice_get b.sheets index ≡ Some s → (body : List ℕ) → IsPlainBook (with_written b index s place (formula_written b s (formula_at_place b s place body)))
  formula_plain index place s at body =
      let formula = formula_at_place b s place body in
      let w : Written = formula_written b s formula in
      let number : ℕ = (restyled w.change (style_number_at s.grid place.0 place.1) b.styles).number in
      let its : IsPlain s.grid = all_at (λ (s : Sheet). IsPlain s.grid) index b.sheets s plain at in
      all_updated (λ (s : Sheet). IsPlain s.grid) (λ old. with_content place w.pool (w.content number) s)
      (λ old h. written_plain s.grid place (w.content number) (loose_formula (is_dynamic b.tables.kinds formula) (index_in_pool formula s.pool) number) its) index b.sheets plain

  -- each command of the identity machine leaves such a book
  pub stays_plain : (k : core.Command) → IsPlainBook (outcome_of b (step b (whole_command k))).0
  unfolding add_sheet_step rename_sheet_step rename_by_index_step move_sheet_step delete_sheet_step delete_by_name_step delete_by_id_step new_sheet_id_step new_definition_step delete_definition_step valid_definition_step list_step set_locale_step set_language_step cell_formula_step formula_step
  stays_plain (core.AddSheet name) = core_plain (core_step (notations_in b) (core_of b) (core.AddSheet name)) (changed_by (with_new_sheet name) b) (added name)
  stays_plain (core.RenameSheet old new) = core_plain (core_step (notations_in b) (core_of b) (core.RenameSheet old new)) (changed_by (with_renamed_sheet (unwrap_or (index_of_name (core_of b) old) 0) new) b) (renamed (unwrap_or (index_of_name (core_of b) old) 0) new)
  stays_plain (core.RenameSheetByIndex sheet name) = core_plain (core_step (notations_in b) (core_of b) (core.RenameSheetByIndex sheet name)) (changed_by (with_renamed_sheet sheet name) b) (renamed sheet name)
  stays_plain (core.MoveSheet sheet to) = core_plain (core_step (notations_in b) (core_of b) (core.MoveSheet sheet to)) (with_moved_sheet sheet to b) (all_moved (λ (s : Sheet). IsPlain s.grid) sheet to b.sheets plain)
  stays_plain (core.DeleteSheet sheet) = core_plain (core_step (notations_in b) (core_of b) (core.DeleteSheet sheet)) (changed_by (with_removed_sheet sheet) b) (removed sheet)
  stays_plain (core.DeleteSheetByName name) = core_plain (core_step (notations_in b) (core_of b) (core.DeleteSheetByName name)) (changed_by (with_removed_sheet (unwrap_or (index_of_name (core_of b) name) 0)) b) (removed (unwrap_or (index_of_name (core_of b) name) 0))
  stays_plain (core.DeleteSheetBySheetId id) = core_plain (core_step (notations_in b) (core_of b) (core.DeleteSheetBySheetId id)) (changed_by (with_removed_sheet (unwrap_or (index_of_id (core_of b) id) 0)) b) (removed (unwrap_or (index_of_id (core_of b) id) 0))
  stays_plain (core.SetLocale id) = core_plain (core_step (notations_in b) (core_of b) (core.SetLocale id)) (record b { locale = id }) plain
  stays_plain (core.SetLanguage id) = core_plain (core_step (notations_in b) (core_of b) (core.SetLanguage id)) (record b { language = id }) plain
  stays_plain (core.NewDefinedName name scope body) =
      core_plain (core_step (notations_in b) (core_of b) (core.NewDefinedName name scope body)) (with_new_definition b name (scope_or_none (core_of b) scope) (body_of (notations_in b) (core_of b) body)) (defined name (scope_or_none (core_of b) scope) (body_of (notations_in b) (core_of b) body))
  stays_plain (core.DeleteDefinedName name scope) =
      core_plain (core_step (notations_in b) (core_of b) (core.DeleteDefinedName name scope)) (changed_by (without_definition (index_of_definition (core_of b) name (scope_or_none (core_of b) scope))) b) (undefined (index_of_definition (core_of b) name (scope_or_none (core_of b) scope)))
  stays_plain (core.IsValidDefinedName name scope body) = core_plain (core_step (notations_in b) (core_of b) (core.IsValidDefinedName name scope body)) b plain
  stays_plain core.GetDefinedNameList = core_plain (core_step (notations_in b) (core_of b) core.GetDefinedNameList) b plain
  stays_plain core.GetNewSheetId = core_plain (core_step (notations_in b) (core_of b) core.GetNewSheetId) b plain
  stays_plain (core.GetCellFormula sheet row column) = core_plain (core_step (notations_in b) (core_of b) (core.GetCellFormula sheet row column)) b plain
  stays_plain (core.UpdateCellWithFormula sheet row column text) =
      let body : List ℕ = unwrap_or (formula_typed b text) [] in
      let w = λ (s : Sheet). formula_written b s (formula_at_place b s (row, column) body) in
      let causes = λ (s : Sheet). place_causes (row, column) ++ (write_causes s (row, column) ++ (is_none (formula_typed b text), NotAFormula) ∷ []) in
      let left = λ (s : Sheet). with_written b sheet s (row, column) (w s) in
      found_plain (slice_get b.sheets sheet) (λ s. unless_refused (causes s) (left s) []) (λ s at. unless_plain (first_refusal (causes s)) (left s) [] (formula_plain sheet (row, column) s at body))
