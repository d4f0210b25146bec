-- A valid book: its core and its pools, and that it stays valid over each change.
use Rattle.std.proofs.Common.{◌≡◌, ℕ, ◌+◌, ◌<◌, ◌≤◌, List, [], ◌∷◌, map, not, length, true, Option, Some, None, Ok, refl, sym, ap, subst, ◌∙◌, arith}
use Rattle.std.proofs.lemmas.Option.{slice_get-map}
use Rattle.std.specs.FinMap as finite
use Rattle.std.specs.List.{AllByRecursion, slice_get}
use Rattle.std.specs.Prelude.{option_map}
use Rattle.ic_laws.proofs.core.Lists.{all_pushed, all_removed, all_updated}
use Rattle.ic_laws.specs.Command.{AddSheet, Command, DeleteDefinedName, DeleteSheet, MoveSheet, NewDefinedName, RenameSheetByIndex, SetLanguage, SetLocale}
use Rattle.ic_laws.specs.CoreBook.{CellPlace, CoreBook, Definition, greatest_id}
use Rattle.ic_laws.specs.CoreStep as core_step
use Rattle.ic_laws.specs.CoreStep.{add_sheet_refusal, delete_definition_refusal, delete_refusal, index_of_definition, move_refusal, new_definition, new_definition_refusal, rename_refusal, scope_or_none}
use Rattle.ic_laws.specs.FormulaReading.{Body, body_of}
use Rattle.ic_laws.specs.Notations.{AreNotations, Notations}
use Rattle.ic_laws.specs.Refusal.{InvalidLanguage, InvalidLocale, first_refusal}
use Rattle.ic_laws.specs.ValidCore.{IsKeptFormula, IsPooled, IsValidCore}
use Rattle.ic_laws.specs.declared.scene.Scene.{Scene}
use Rattle.ic_laws.specs.declared.tree.Formula.{Formula}
use Rattle.ic_grid.specs.declared.grid.Grid.{Grid}
use Rattle.ic_machine.proofs.contents.AlikeGrid.{get-seen}
use Rattle.ic_machine.proofs.as_core.CoreValid as machine_core
use Rattle.ic_machine.proofs.valid.InsertedStays.{insert_stays}
use Rattle.ic_machine.proofs.valid.NamesStay.{definitions_stay, sheets_stay}
use Rattle.ic_machine.proofs.valid.SheetsStay.{all_inserted, all_moved}
use Rattle.ic_machine.proofs.valid.SubjectsStay.{notation_stays}
use Rattle.ic_machine.proofs.valid.ValidLemmas.{HoldsOf, holds_at, same_styles}
use Rattle.ic_machine.specs.Book as machine
use Rattle.ic_machine.specs.Book.{as_core, unless}
use Rattle.ic_machine.specs.Changed as changed
use Rattle.ic_machine.specs.Content.{content_of, formula_index}
use Rattle.ic_machine.specs.Kept.{StaysValid, is_given_id}
use Rattle.ic_machine.specs.Refusal.{first_refusal as first_refusal_whole}
use Rattle.ic_machine.specs.Valid as valid_machine
use Rattle.ic_machine.specs.Valid.{HasCellFormulas, HasFormula, IsKeptPool}
use Rattle.ic_machine.specs.subjects.Definitions as definitions
use Rattle.ic_machine.specs.subjects.Definitions.{delete_definition_step, new_definition_step, with_new_definition}
use Rattle.ic_machine.specs.subjects.Notation as notation
use Rattle.ic_machine.specs.subjects.Notation.{set_language_step, set_locale_step}
use Rattle.ic_machine.specs.subjects.Sheets as sheets
use Rattle.ic_machine.specs.subjects.Sheets.{add_sheet_step, delete_sheet_step, insert_causes, insert_sheet_step, move_sheet_step, rename_by_index_step, with_new_sheet}
use Rattle.ic_pool.specs.Pool.{IsPlaced}
use Rattle.ic_sheets.proofs.PoolLemmas.{all_placed, has_placed}
use Rattle.ic_sheets.specs.Sheet.{IsValidPool, Sheet, empty_grid, kept_pool, plain_tab}
use Rattle.ic_tree.proofs.NotationLaws.{notations_are}
use Rattle.ic_parts.specs.Book.{Book, HasStrings, IsValidBook, core_of, notations_in, scene_in, whole_of, whole_sheet}
use Rattle.ic_parts.specs.Change.{book_changed_by, with_added_definition, with_added_sheet, with_inserted_sheet, with_kept_pools, with_language, with_locale, with_moved_sheet, with_removed_definition, with_removed_sheet, with_renamed_sheet}
use Rattle.ic_parts.specs.Written.{with_pool}
use Rattle.ic_parts.proofs.Accepted.{add_accepted, delete_accepted, delete_definition_accepted, language_accepted, locale_accepted, move_accepted, new_definition_accepted, rename_accepted}
use Rattle.ic_parts.proofs.WholeLemmas.{index_seen, whole_added, whole_changed, whole_core, whole_defined, whole_inserted, whole_moved, whole_removed, whole_renamed, whole_scene, whole_undefined}
use Rattle.ic_parts.proofs.WrittenLemmas.{updated_alike}

-- What holds of the grid of each sheet, over changes that leave grids, and new ones empty. ----

module _ (P : Grid → Type 0) where
  pub grids_kept : (n : Notations) (before after : Scene) (sheets : List Sheet) → AllByRecursion (λ (s : Sheet). P s.grid) sheets → AllByRecursion (λ (s : Sheet). P s.grid) (map (kept_pool n before after) sheets)
  grids_kept n before after [] h = tt
  grids_kept n before after (s ∷ sheets) h = (h.0, grids_kept n before after sheets h.1)

-- no cell, no string
pub no_strings : (count : ℕ) → HasStrings count empty_grid
no_strings count place cell e = let none : None ≡ Some cell = sym (finite.get-empty _ place) ∙ e in cc

-- the pools of sheets, by those of their whole sheets
module _ (n : Notations) (scene : Scene) (strings : List (List ℕ)) where
  placed_in : (sheet : Sheet) (place : CellPlace) (o : Option ℕ) (at : ℕ) → o ≡ Some at → HasFormula n scene (whole_sheet strings sheet) place o → at < length sheet.pool
  placed_in sheet place None at e h = cc
  placed_in sheet place (Some k) at e h = let same : k ≡ at = cc in subst (λ i. i < length sheet.pool) same h.0

  pools_of : (sheets : List Sheet) → AllByRecursion (IsKeptPool n scene) (map (whole_sheet strings) sheets) → AllByRecursion (HasCellFormulas n scene) (map (whole_sheet strings) sheets) → AllByRecursion (IsValidPool n scene) sheets
  pools_of [] h g = tt
  pools_of (s ∷ sheets) h g = (
    record {
      formulas = h.0;
      indexes = λ place cell at e is.
          placed_in s place (formula_index (content_of strings cell)) at (index_seen strings cell ∙ is) (g.0 place (content_of strings cell) (get-seen (content_of strings) s.grid.cells place ∙ ap (option_map (content_of strings)) e));
    },
    pools_of sheets h.1 g.1,
  )

module _ (book : Book) (valid : IsValidBook book) where
  abbrev n : Notations
  n = notations_in book

  abbrev core : CoreBook
  core = core_of book

  abbrev whole : machine.Book
  whole = whole_of book

  pub notations : AreNotations (notations_in book)
  notations = notations_are book.tables valid.whole.tables

  -- its core is valid, and its pools are
  pub core_valid : IsValidCore (notations_in book) (core_of book)
  core_valid = subst (IsValidCore n) (whole_core book) (machine_core.core_valid whole valid.whole)

  pub pools_valid : AllByRecursion (IsValidPool (notations_in book) (scene_in book)) book.sheets
  pools_valid =
      subst (λ scene. AllByRecursion (IsValidPool n scene) book.sheets) (whole_scene book)
      (pools_of n (machine.scene_in whole) book.strings book.sheets valid.whole.kept.pools valid.whole.formulas)

  -- what an accepted step of the identity machine leaves of the whole book is valid, where the step keeps that
  lifted_valid : (command : Command) (after : CoreBook) (left : machine.Book) → core_step.core_step n core command ≡ Ok (after, []) → StaysValid (as_core (core_step.core_step n (machine.core_of whole) command) left) → valid_machine.IsValidBook left
  lifted_valid command after left e h = subst (λ o. StaysValid (as_core o left)) (ap (λ c. core_step.core_step n c command) (whole_core book) ∙ e) h

  -- sheets ----

  added_whole : (name : List ℕ) → add_sheet_refusal core name ≡ None → valid_machine.IsValidBook (changed.changed_by (with_new_sheet name) whole)
  unfolding add_sheet_step
  added_whole name e = lifted_valid (AddSheet name) _ _ (add_accepted n core name e) (sheets_stay whole valid.whole (sheets.AddSheet name))

  pub added_valid : (name : List ℕ) → add_sheet_refusal core name ≡ None → IsValidBook (book_changed_by (with_added_sheet name) book)
  added_valid name e =
      let after : Scene = scene_in (with_added_sheet name book) in
      record {
        whole = subst valid_machine.IsValidBook (sym (whole_changed (with_added_sheet name) (with_new_sheet name) (whole_added name) book)) (added_whole name e);
        strings = all_pushed (λ (s : Sheet). HasStrings (length book.strings) s.grid) (map (kept_pool n (scene_in book) after) book.sheets) (record { id = greatest_id (core_of (with_kept_pools n (scene_in book) after book)) + 1; name = name; pool = []; grid = empty_grid; tab = plain_tab }) (grids_kept (HasStrings (length book.strings)) n (scene_in book) after book.sheets valid.strings) (no_strings (length book.strings));
      }

  inserted_whole : (index id : ℕ) (name : List ℕ) → is_given_id (Some id) ≡ true → first_refusal_whole (insert_causes whole name index (Some id)) ≡ None → valid_machine.IsValidBook (changed.changed_by (sheets.with_inserted_sheet index id name) whole)
  unfolding insert_sheet_step
  inserted_whole index id name small e = subst StaysValid (ap (λ o. unless o (changed.changed_by (sheets.with_inserted_sheet index id name) whole) []) e) (insert_stays whole valid.whole name index (Some id) small)

  pub inserted_valid : (index id : ℕ) (name : List ℕ) → is_given_id (Some id) ≡ true → first_refusal_whole (insert_causes (whole_of book) name index (Some id)) ≡ None → IsValidBook (book_changed_by (with_inserted_sheet index id name) book)
  inserted_valid index id name small e =
      let after : Scene = scene_in (with_inserted_sheet index id name book) in
      record {
        whole = subst valid_machine.IsValidBook (sym (whole_changed (with_inserted_sheet index id name) (sheets.with_inserted_sheet index id name) (whole_inserted index id name) book)) (inserted_whole index id name small e);
        strings = all_inserted (λ (s : Sheet). HasStrings (length book.strings) s.grid) (map (kept_pool n (scene_in book) after) book.sheets) index (record { id = id; name = name; pool = []; grid = empty_grid; tab = plain_tab }) (grids_kept (HasStrings (length book.strings)) n (scene_in book) after book.sheets valid.strings) (no_strings (length book.strings));
      }

  renamed_whole : (index : ℕ) (name : List ℕ) → rename_refusal core index name ≡ None → valid_machine.IsValidBook (changed.changed_by (changed.with_renamed_sheet index name) whole)
  unfolding rename_by_index_step
  renamed_whole index name e = lifted_valid (RenameSheetByIndex index name) _ _ (rename_accepted n core index name e) (sheets_stay whole valid.whole (sheets.RenameSheetByIndex index name))

  pub renamed_valid : (index : ℕ) (name : List ℕ) → rename_refusal core index name ≡ None → IsValidBook (book_changed_by (with_renamed_sheet index name) book)
  renamed_valid index name e =
      let after : Scene = scene_in (with_renamed_sheet index name book) in
      record {
        whole = subst valid_machine.IsValidBook (sym (whole_changed (with_renamed_sheet index name) (changed.with_renamed_sheet index name) (whole_renamed index name) book)) (renamed_whole index name e);
        strings = all_updated (λ (s : Sheet). HasStrings (length book.strings) s.grid) (λ s. record s { name = name }) (λ s h. h) index (map (kept_pool n (scene_in book) after) book.sheets) (grids_kept (HasStrings (length book.strings)) n (scene_in book) after book.sheets valid.strings);
      }

  removed_whole : (index : ℕ) → delete_refusal core index ≡ None → valid_machine.IsValidBook (changed.changed_by (changed.with_removed_sheet index) whole)
  unfolding delete_sheet_step
  removed_whole index e = lifted_valid (DeleteSheet index) _ _ (delete_accepted n core index e) (sheets_stay whole valid.whole (sheets.DeleteSheet index))

  pub removed_valid : (index : ℕ) → delete_refusal core index ≡ None → IsValidBook (book_changed_by (with_removed_sheet index) book)
  removed_valid index e =
      let after : Scene = scene_in (with_removed_sheet index book) in
      record {
        whole = subst valid_machine.IsValidBook (sym (whole_changed (with_removed_sheet index) (changed.with_removed_sheet index) (whole_removed index) book)) (removed_whole index e);
        strings = all_removed (λ (s : Sheet). HasStrings (length book.strings) s.grid) (map (kept_pool n (scene_in book) after) book.sheets) index (grids_kept (HasStrings (length book.strings)) n (scene_in book) after book.sheets valid.strings);
      }

  moved_whole : (from to : ℕ) → move_refusal core from to ≡ None → valid_machine.IsValidBook (changed.with_moved_sheet from to whole)
  unfolding move_sheet_step
  moved_whole from to e = lifted_valid (MoveSheet from to) _ _ (move_accepted n core from to e) (sheets_stay whole valid.whole (sheets.MoveSheet from to))

  pub moved_valid : (from to : ℕ) → move_refusal core from to ≡ None → IsValidBook (with_moved_sheet from to book)
  moved_valid from to e = record {
    whole = subst valid_machine.IsValidBook (sym (whole_moved from to book)) (moved_whole from to e);
    strings = all_moved (λ (s : Sheet). HasStrings (length book.strings) s.grid) from to book.sheets valid.strings;
  }

  -- definitions ----

  named_whole : (name : List ℕ) (index : Option ℕ) (text : List ℕ) (body : Body) → new_definition_refusal n core name index text ≡ None → body_of n core text ≡ Some body
      → valid_machine.IsValidBook (with_new_definition whole name (scope_or_none core index) (Some body))
  unfolding new_definition_step
  named_whole name index text body e typed =
      subst valid_machine.IsValidBook (ap (λ (c : CoreBook). with_new_definition whole name (scope_or_none c index) (body_of n c text)) (whole_core book) ∙ ap (with_new_definition whole name (scope_or_none core index)) typed)
      (lifted_valid (NewDefinedName name index text) _ _ (new_definition_accepted n core name index text e) (definitions_stay whole valid.whole (definitions.NewDefinedName name index text)))

  pub defined_valid : (name : List ℕ) (index : Option ℕ) (text : List ℕ) (body : Body) → new_definition_refusal n core name index text ≡ None → body_of n core text ≡ Some body
      → IsValidBook (book_changed_by (with_added_definition (new_definition n core name (scope_or_none core index) body)) book)
  defined_valid name index text body e typed =
      let new : Definition = new_definition n core name (scope_or_none core index) body in
      let after : Scene = scene_in (with_added_definition new book) in
      record {
        whole =
            subst valid_machine.IsValidBook
            (sym
            (whole_changed (with_added_definition new) (changed.with_definition new) (whole_defined new) book
            ∙ ap (λ (c : CoreBook). changed.changed_by (changed.with_definition (new_definition n c name (scope_or_none core index) body)) whole) (sym (whole_core book))))
            (named_whole name index text body e typed);
        strings = grids_kept (HasStrings (length book.strings)) n (scene_in book) after book.sheets valid.strings;
      }

  unnamed_whole : (name : List ℕ) (index : Option ℕ) (at : ℕ) → delete_definition_refusal core name index ≡ None → index_of_definition core name (scope_or_none core index) ≡ Some at
      → valid_machine.IsValidBook (changed.changed_by (changed.without_definition (Some at)) whole)
  unfolding delete_definition_step
  unnamed_whole name index at e found =
      subst valid_machine.IsValidBook (ap (λ (o : Option ℕ). changed.changed_by (changed.without_definition o) whole) (ap (λ (c : CoreBook). index_of_definition c name (scope_or_none c index)) (whole_core book) ∙ found))
      (lifted_valid (DeleteDefinedName name index) _ _ (delete_definition_accepted n core name index e) (definitions_stay whole valid.whole (definitions.DeleteDefinedName name index)))

  pub undefined_valid : (name : List ℕ) (index : Option ℕ) (at : ℕ) → delete_definition_refusal core name index ≡ None → index_of_definition core name (scope_or_none core index) ≡ Some at
      → IsValidBook (book_changed_by (with_removed_definition (Some at)) book)
  undefined_valid name index at e found =
      let after : Scene = scene_in (with_removed_definition (Some at) book) in
      record {
        whole = subst valid_machine.IsValidBook (sym (whole_changed (with_removed_definition (Some at)) (changed.without_definition (Some at)) (whole_undefined (Some at)) book)) (unnamed_whole name index at e found);
        strings = grids_kept (HasStrings (length book.strings)) n (scene_in book) after book.sheets valid.strings;
      }

  -- the notation ----

  pub in_locale : (id : List ℕ) → first_refusal ((not (n.knows_locale id), InvalidLocale) ∷ []) ≡ None → IsValidBook (with_locale id book)
  unfolding set_locale_step
  in_locale id e = record {
    whole = lifted_valid (SetLocale id) _ _ (locale_accepted n core id e) (notation_stays whole (notation.SetLocale id) valid.whole);
    strings = valid.strings;
  }

  pub in_language : (id : List ℕ) → first_refusal ((not (n.knows_language id), InvalidLanguage) ∷ []) ≡ None → IsValidBook (with_language id book)
  unfolding set_language_step
  in_language id e = record {
    whole = lifted_valid (SetLanguage id) _ _ (language_accepted n core id e) (notation_stays whole (notation.SetLanguage id) valid.whole);
    strings = valid.strings;
  }

  -- a formula that gets its place in a pool ----

  module _ (index : ℕ) (sheet : Sheet) (at_index : slice_get book.sheets index ≡ Some sheet) (place : ℕ) (pool : List Formula) (formula : Formula) (placed : IsPlaced formula place sheet.pool pool) (pooled : IsPooled n (scene_in book) (Some sheet.id) formula) where
    abbrev old : machine.Sheet
    old = whole_sheet book.strings sheet

    abbrev new : machine.Sheet
    new = record old { pool = pool }

    there : slice_get whole.sheets index ≡ Some old
    there = slice_get-map (whole_sheet book.strings) book.sheets index ∙ ap (option_map (whole_sheet book.strings)) at_index

    longer : (q : CellPlace) (o : Option ℕ) → HasFormula n (machine.scene_in whole) old q o → HasFormula n (machine.scene_in whole) new q o
    longer q None h = tt
    longer q (Some k) h =
        let grown = has_placed formula place sheet.pool pool placed in
        let more : length sheet.pool ≤ length pool = grown.longer in
        let less : k < length sheet.pool = h.0 in
        let below : k < length pool = omega (arith, less, more) in
        (below, subst (λ (f : Formula). IsKeptFormula n (machine.scene_in whole) (Some sheet.id) q.0 q.1 f) (sym (grown.others k h.0)) h.1)

    new_holds : HoldsOf n (machine.scene_in whole) (length whole.styles) new
    new_holds =
        let holds = holds_at whole valid.whole index old there in
        record {
          pool = all_placed (IsPooled n (machine.scene_in whole) (Some sheet.id)) formula place sheet.pool pool placed (subst (λ scene. IsPooled n scene (Some sheet.id) formula) (sym (whole_scene book)) pooled) holds.pool;
          inside = holds.inside;
          formulas = λ q x e. longer q (formula_index x) (holds.formulas q x e);
          styles = holds.styles;
          arrays = holds.arrays;
          merges = holds.merges;
          layout = record { frozen = holds.layout.frozen; lines = holds.layout.lines };
          amounts = holds.amounts;
        }

    pub placed_valid : IsValidBook (with_pool index pool book)
    placed_valid = record {
      whole =
          subst valid_machine.IsValidBook
          (ap (λ (all : List machine.Sheet). let b : machine.Book = record whole { sheets = all } in b) (sym (updated_alike (whole_sheet book.strings) (λ s. record s { pool = pool }) (λ s. new) index book.sheets sheet at_index refl)))
          (same_styles whole valid.whole index old new there refl refl new_holds);
      strings = all_updated (λ (s : Sheet). HasStrings (length book.strings) s.grid) (λ s. record s { pool = pool }) (λ s h. h) index book.sheets valid.strings;
    }
