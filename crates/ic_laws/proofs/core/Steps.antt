-- A command that is accepted leaves a valid book valid.
use Rattle.std.proofs.Common.{◌≡◌, ℕ, ℤ, zero, suc, pos, ◌<◌, List, [], ◌∷◌, ◌++◌, map, Bool, true, false, not, ◌&&◌, Option, Some, None, is_none, option_map, unwrap_or, Ok, Err, slice_get, refl, ap, sym, subst, ◌∙◌, length, arith, nat_eq, nat_lt, codes}
use Rattle.std.specs.List.{AllByRecursion}
use Rattle.std.specs.Option.{option_or}
use Rattle.std.proofs.lemmas.Bool.{ltb-true}
use Rattle.std.proofs.lemmas.Bool.Decides.{nat_tests}
use Rattle.std.proofs.lemmas.List.{map-append}
use Rattle.ic_laws.proofs.CoreLemmas.{fresh_room}
use Rattle.ic_laws.proofs.core.CellWritten.{written_valid}
use Rattle.ic_laws.proofs.core.Defined.{defined_valid, same_again, undefined_valid}
use Rattle.ic_laws.proofs.core.KeptBook.{KeepsTrees}
use Rattle.ic_laws.proofs.core.Named.{IsNamed, added_named, book_named, defined_named, deleted_named, renamed_named, undefined_named}
use Rattle.ic_laws.proofs.core.SheetAdded.{added_valid}
use Rattle.ic_laws.proofs.core.SheetDeleted.{deleted_valid}
use Rattle.ic_laws.proofs.core.SheetMoved.{KeepsAlike, moved_valid}
use Rattle.ic_laws.proofs.core.SheetRenamed.{renamed_valid}
use Rattle.ic_laws.proofs.keeping.Accepted.{accepted, none_holds}
use Rattle.ic_laws.specs.Binding.{bound}
use Rattle.ic_laws.specs.Command.{Command, AddSheet, RenameSheet, RenameSheetByIndex, MoveSheet, DeleteSheet, DeleteSheetByName, DeleteSheetBySheetId, NewDefinedName, DeleteDefinedName, IsValidDefinedName, GetDefinedNameList, GetNewSheetId, SetLocale, SetLanguage, UpdateCellWithFormula, GetCellFormula, Field, NumberField}
use Rattle.ic_laws.specs.CoreBook.{CoreBook, Definition, Sheet, fresh_id, scene_of, spelling_of}
use Rattle.ic_laws.specs.CoreStep.{Outcome, add_sheet_causes, add_sheet_step, at_found, changed_by, core_step, delete_causes, delete_definition_step, delete_step, has_definition, index_of_definition, index_of_id, index_of_name, lacks_sheet, language_step, list_fields, locale_step, move_causes, move_step, moved, new_definition, new_definition_causes, new_definition_step, rename_causes, rename_step, scene_with_definition, scope_of, scope_or_none, unless_refused, update_causes, update_step, with_definition, with_new_definition, without_definition}
use Rattle.ic_laws.specs.Dialect.{DialectMeaning}
use Rattle.ic_laws.specs.FormulaReading.{Body, body_of, cell_formula, shown_at, tree_or_raw, without_equals}
use Rattle.ic_laws.specs.Notations.{AreNotations, IsShownForm, Notations, english_function, is_cell}
use Rattle.ic_laws.specs.Position.{is_column, is_row}
use Rattle.ic_laws.specs.ReadAs.{read_as}
use Rattle.ic_laws.specs.Refusal.{InvalidLanguage, InvalidLocale}
use Rattle.ic_laws.specs.Tree.{Spelled}
use Rattle.ic_laws.specs.ValidCore.{IsKept, IsKeptFormula, IsScope, IsValidCore, IsValidDefinition, IsValidSheet}
use Rattle.ic_laws.specs.declared.scene.NameSpelling.{NameSpelling}
use Rattle.ic_laws.specs.declared.scene.Scene.{Scene}
use Rattle.ic_laws.specs.declared.tree.Formula.TheVariants as formulas

-- what is known of trees: kept over a change they are kept after it, and what is read in a cell, or as the body of a
-- definition, is kept there
pub record TreeFacts (n : Notations) : Type 0 where
  pub keeps : (before after : Scene) → IsNamed before → IsNamed after → KeepsTrees n before after
  pub reads : (scene : Scene) → IsNamed scene → (d : DialectMeaning) (row column : ℤ) → IsShownForm n d row column → (text : List ℕ) (t : Spelled) → read_as d text ≡ Some t → (scope : Option ℕ) → IsKept n scene scope row column (bound (english_function n) scene scope t)
  pub body : (book : CoreBook) → n.knows_locale book.locale ≡ true → n.knows_language book.language ≡ true → (scene : Scene) → IsNamed scene → (text : List ℕ) (b : Body) → body_of n book text ≡ Some b → (scope : Option ℕ) → IsKept n scene scope (pos 1) (pos 1) (bound (english_function n) scene scope b.tree)
  pub alike : (book : CoreBook) → IsValidCore n book → (from to : ℕ) → from < length book.sheets → KeepsAlike n (scene_of book) (scene_of (record book { sheets = moved from to book.sheets }))

-- the book that is left, and another where the command was refused
abbrev left_by : Outcome → CoreBook → CoreBook
left_by (Ok done) other = done.0
left_by (Err refusal) other = other

not_false : (b : Bool) → not b ≡ false → b ≡ true
not_false true e = refl
not_false false e = cc

sheet_there : (book : CoreBook) (index : ℕ) → lacks_sheet book index ≡ false → index < length book.sheets
sheet_there book index e = ltb-true index (length book.sheets) (not_false (nat_lt index (length book.sheets)) e)

pub is_there : {A : Type 0} (o : Option A) → is_none o ≡ false → (x : A) × (o ≡ Some x)
is_there None e = cc
is_there (Some x) e = (x, refl)

pub and_true : (a b : Bool) → a ≡ true → b ≡ true → (a && b) ≡ true
and_true a b p q = rw (p, q) refl

more_than_one : (count : ℕ) → 0 < count → nat_eq count 1 ≡ false → 1 < count
more_than_one count some e = grind (arith, nat_tests)

-- the sheet that a definition is local to has an id
sheet_scope : (n : Notations) (scene : Scene) (sheets : List Sheet) (index : ℕ) (o : Option Sheet) → slice_get sheets index ≡ o → (scope : Option ℕ) → option_map (λ (s : Sheet). Some s.id) o ≡ Some scope → AllByRecursion (IsValidSheet n scene) sheets → IsScope scope
sheet_scope n scene sheets index None at scope e h = cc
sheet_scope n scene [] index (Some s) at scope e h = cc
sheet_scope n scene (x ∷ sheets) zero (Some s) at scope e h = let same : Some x.id ≡ scope = cc in subst IsScope same h.0.id
sheet_scope n scene (x ∷ sheets) (suc index) (Some s) at scope e h = sheet_scope n scene sheets index (Some s) at scope e h.1

-- the same book in another notation
in_notation : (n : Notations) (book : CoreBook) → IsValidCore n book → (locale language : List ℕ) → n.knows_locale locale ≡ true → n.knows_language language ≡ true → IsValidCore n (record book { locale = locale; language = language })
in_notation n book valid locale language l g = record {
  some_sheet = valid.some_sheet;
  few = valid.few;
  sheets = valid.sheets;
  definitions = valid.definitions;
  ids_differ = valid.ids_differ;
  names_differ = valid.names_differ;
  keys_differ = valid.keys_differ;
  locale = l;
  language = g;
}

module _ (n : Notations) (are : AreNotations n) (facts : TreeFacts n) (book : CoreBook) (valid : IsValidCore n book) where
  form_at : (row column : ℤ) → IsShownForm n (shown_at n book row column) row column
  form_at row column = are.shown book.locale book.language row column valid.locale valid.language

  -- what is read in a cell is kept there
  cell_kept : (id : ℕ) (row column : ℤ) (text : List ℕ) (o p : Option Spelled) → read_as (shown_at n book row column) text ≡ o → read_as (shown_at n book row column) (text ++ codes ")") ≡ p
      → IsKeptFormula n (scene_of book) (Some id) row column (tree_or_raw (λ t. formulas.Tree (bound (english_function n) (scene_of book) (Some id) t)) text (option_or o p))
  cell_kept id row column text (Some t) p e f = facts.reads (scene_of book) (book_named n book valid) (shown_at n book row column) row column (form_at row column) text t e (Some id)
  cell_kept id row column text None (Some t) e f = facts.reads (scene_of book) (book_named n book valid) (shown_at n book row column) row column (form_at row column) (text ++ codes ")") t f (Some id)
  cell_kept id row column text None None e f = tt

  add_keeps : (name : List ℕ) (after : CoreBook) (told : List Field) → add_sheet_step n book name ≡ Ok (after, told) → IsValidCore n after
  add_keeps name after told e =
      let a = accepted _ _ _ _ _ e in
      let h = none_holds (add_sheet_causes book name) a.unrefused in
      let named = not_false _ h.0 in
      subst (IsValidCore n) (sym a.left)
      (added_valid n book name valid (facts.keeps _ _ (book_named n book valid) (added_named n book valid name named h.1.0)) named h.1.0 (fresh_room book h.1.1.0))

  rename_keeps : (index : ℕ) (name : List ℕ) (after : CoreBook) (told : List Field) → rename_step n book index name ≡ Ok (after, told) → IsValidCore n after
  rename_keeps index name after told e =
      let a = accepted _ _ _ _ _ e in
      let h = none_holds (rename_causes book index name) a.unrefused in
      let named = not_false _ h.0 in
      subst (IsValidCore n) (sym a.left)
      (renamed_valid n book index name valid (facts.keeps _ _ (book_named n book valid) (renamed_named n book valid index name named h.1.0)) named h.1.0)

  move_keeps : (from to : ℕ) (after : CoreBook) (told : List Field) → move_step book from to ≡ Ok (after, told) → IsValidCore n after
  move_keeps from to after told e =
      let a = accepted _ _ _ _ _ e in
      let inside = sheet_there book from (none_holds (move_causes book from to) a.unrefused).0 in
      subst (IsValidCore n) (sym a.left) (moved_valid n book from to valid inside (facts.alike book valid from to inside))

  delete_keeps : (index : ℕ) (after : CoreBook) (told : List Field) → delete_step n book index ≡ Ok (after, told) → IsValidCore n after
  delete_keeps index after told e =
      let a = accepted _ _ _ _ _ e in
      let h = none_holds (delete_causes book index) a.unrefused in
      let others : 1 < length book.sheets = more_than_one (length book.sheets) valid.some_sheet h.0 in
      subst (IsValidCore n) (sym a.left)
      (deleted_valid n book index valid (facts.keeps _ _ (book_named n book valid) (deleted_named n book valid index)) others (sheet_there book index h.1.0))

  update_keeps : (index : ℕ) (row column : ℤ) (text : List ℕ) (after : CoreBook) (told : List Field) → update_step n book index row column text ≡ Ok (after, told) → IsValidCore n after
  update_keeps index row column text after told e =
      let a = accepted _ _ _ _ _ e in
      let h = none_holds (update_causes book index row column text) a.unrefused in
      let inside : is_cell row column ≡ true = and_true (is_row row) (is_column column) (not_false _ h.1.0) (not_false _ h.1.1.0) in
      let body : List ℕ = without_equals text in
      subst (IsValidCore n) (sym a.left)
      (written_valid n book index row column (λ id. cell_formula n book id row column body) valid inside
      (λ id. cell_kept id row column body (read_as (shown_at n book row column) body) (read_as (shown_at n book row column) (body ++ codes ")")) refl refl))

  scene_named : (name : List ℕ) (scope : Option ℕ) (d : Definition) → spelling_of d ≡ record { name = name; scope = scope } → scene_of (with_definition d book) ≡ scene_with_definition book name scope
  scene_named name scope d same =
      ap (λ (x : List NameSpelling). record { sheets = (scene_of book).sheets; names = x })
      (map-append spelling_of book.definitions (d ∷ []) ∙ ap (λ x. map spelling_of book.definitions ++ x ∷ []) same)

  scope_good : (index : Option ℕ) (scope : Option ℕ) → scope_of book index ≡ Some scope → IsScope scope
  scope_good None scope e = let same : None ≡ scope = cc in subst IsScope same tt
  scope_good (Some index) scope e = sheet_scope n (scene_of book) book.sheets index (slice_get book.sheets index) refl scope e valid.sheets

  define_keeps : (name : List ℕ) (index : Option ℕ) (body : List ℕ) (after : CoreBook) (told : List Field) → new_definition_step n book name index body ≡ Ok (after, told) → IsValidCore n after
  define_keeps name index body after told e =
      let a = accepted _ _ _ _ _ e in
      let h = none_holds (new_definition_causes n book name index body) a.unrefused in
      let named = not_false _ h.0 in
      let scope = is_there (scope_of book index) h.1.0 in
      let b = is_there (body_of n book body) h.1.1.1.0 in
      let at : scope_or_none book index ≡ scope.0 = ap (λ o. unwrap_or o None) scope.1 in
      let new : Definition = new_definition n book name scope.0 b.0 in
      let seen : scene_of (with_definition new book) ≡ scene_with_definition book name scope.0 = scene_named name scope.0 new refl in
      let later = defined_named n book valid new named in
      let kept_body : IsKept n (scene_of (with_definition new book)) scope.0 (pos 1) (pos 1) (bound (english_function n) (scene_with_definition book name scope.0) scope.0 b.0.tree) =
      subst (λ s. IsKept n (scene_of (with_definition new book)) scope.0 (pos 1) (pos 1) (bound (english_function n) s scope.0 b.0.tree)) seen
      (facts.body book valid.locale valid.language (scene_of (with_definition new book)) later body b.0 b.1 scope.0) in
      let good : IsValidDefinition n (scene_of (with_definition new book)) new = record { name = named; scope = scope_good index scope.0 scope.1; body = kept_body } in
      let left : changed_by n (with_definition new) book ≡ after =
      sym (ap (λ o. with_new_definition n book name scope.0 o) b.1) ∙ sym (ap (λ s. with_new_definition n book name s (body_of n book body)) at) ∙ sym a.left in
      let other : has_definition book name scope.0 ≡ false = sym (ap (has_definition book name) at) ∙ h.1.1.0 in
      subst (IsValidCore n) left (defined_valid n book new valid (facts.keeps _ _ (book_named n book valid) later) good other)

  undefine_keeps : (name : List ℕ) (index : Option ℕ) (after : CoreBook) (told : List Field) → delete_definition_step n book name index ≡ Ok (after, told) → IsValidCore n after
  undefine_keeps name index after told e =
      let a = accepted _ _ _ _ _ e in
      subst (IsValidCore n) (sym a.left) (without (index_of_definition book name (scope_or_none book index)))
    where
      without : (o : Option ℕ) → IsValidCore n (changed_by n (without_definition o) book)
      without None = same_again n book valid (facts.keeps _ _ (book_named n book valid) (book_named n book valid))
      without (Some i) = undefined_valid n book i valid (facts.keeps _ _ (book_named n book valid) (undefined_named n book valid i))

  locale_keeps : (id : List ℕ) (after : CoreBook) (told : List Field) → locale_step n book id ≡ Ok (after, told) → IsValidCore n after
  locale_keeps id after told e =
      let a = accepted _ _ _ _ _ e in
      let h = none_holds ((not (n.knows_locale id), InvalidLocale) ∷ []) a.unrefused in
      subst (IsValidCore n) (sym a.left) (in_notation n book valid id book.language (not_false _ h.0) valid.language)

  language_keeps : (id : List ℕ) (after : CoreBook) (told : List Field) → language_step n book id ≡ Ok (after, told) → IsValidCore n after
  language_keeps id after told e =
      let a = accepted _ _ _ _ _ e in
      let h = none_holds ((not (n.knows_language id), InvalidLanguage) ∷ []) a.unrefused in
      subst (IsValidCore n) (sym a.left) (in_notation n book valid book.locale id valid.locale (not_false _ h.0))

  found_keeps : (o : Option ℕ) (step : ℕ → Outcome) (after : CoreBook) (told : List Field) → ((index : ℕ) → step index ≡ Ok (after, told) → IsValidCore n after) → at_found o step ≡ Ok (after, told) → IsValidCore n after
  found_keeps None step after told each e = cc
  found_keeps (Some index) step after told each e = each index e

  same_keeps : (after : CoreBook) (fields told : List Field) → unless_refused None book fields ≡ Ok (after, told) → IsValidCore n after
  same_keeps after fields told e = subst (IsValidCore n) (ap (λ o. left_by o book) e) valid

  -- A command that is accepted leaves a valid book valid.
  pub step_keeps : (command : Command) (after : CoreBook) (told : List Field) → core_step n book command ≡ Ok (after, told) → IsValidCore n after
  unfolding core_step
  step_keeps (AddSheet name) after told e = add_keeps name after told e
  step_keeps (RenameSheet old new) after told e = found_keeps (index_of_name book old) (λ index. rename_step n book index new) after told (λ index. rename_keeps index new after told) e
  step_keeps (RenameSheetByIndex index name) after told e = rename_keeps index name after told e
  step_keeps (MoveSheet from to) after told e = move_keeps from to after told e
  step_keeps (DeleteSheet index) after told e = delete_keeps index after told e
  step_keeps (DeleteSheetByName name) after told e = found_keeps (index_of_name book name) (λ index. delete_step n book index) after told (λ index. delete_keeps index after told) e
  step_keeps (DeleteSheetBySheetId id) after told e = found_keeps (index_of_id book id) (λ index. delete_step n book index) after told (λ index. delete_keeps index after told) e
  step_keeps (NewDefinedName name index body) after told e = define_keeps name index body after told e
  step_keeps (DeleteDefinedName name index) after told e = undefine_keeps name index after told e
  step_keeps (IsValidDefinedName name index body) after told e = subst (IsValidCore n) (sym (accepted _ _ _ _ _ e).left) valid
  step_keeps GetDefinedNameList after told e = same_keeps after (list_fields n book) told e
  step_keeps GetNewSheetId after told e = same_keeps after (NumberField (fresh_id book) ∷ []) told e
  step_keeps (SetLocale id) after told e = locale_keeps id after told e
  step_keeps (SetLanguage id) after told e = language_keeps id after told e
  step_keeps (UpdateCellWithFormula index row column text) after told e = update_keeps index row column text after told e
  step_keeps (GetCellFormula index row column) after told e = subst (IsValidCore n) (sym (accepted _ _ _ _ _ e).left) valid
