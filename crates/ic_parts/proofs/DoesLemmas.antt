-- What the calls of a model do is the step of their command.
use Rattle.std.proofs.Common.{◌≡◌, ℕ, ℤ, List, [], ◌∷◌, ◌++◌, true, false, map, not, option_map, Option, Some, None, Result, Ok, Err, is_some, refl, sym, ap, ap₂, subst, ◌∙◌, inl, inr, IfOk, OnOk, OnErr}
use Rattle.std.specs.Prelude.{flat_map, is_none, option_to_list, unwrap_or, String, chars, string_bytes}
use Rattle.std.proofs.lemmas.Grind.{flat_map-append}
use Rattle.std.proofs.lemmas.List.{map-append}
use Rattle.std.proofs.lemmas.List.Folds.{flat_map-map}
use Rattle.ic_laws.proofs.keeping.Accepted.{none_holds}
use Rattle.std.specs.Global.{Vec}
use Rattle.std.specs.declared.alloc.Global.{Global}
use Rattle.std.proofs.lemmas.Bool.{not-false as not_false}
use Rattle.ic_laws.specs.Character.{equals}
use Rattle.ic_laws.specs.Command as commands
use Rattle.ic_laws.specs.CoreBook.{CoreBook, Definition, fresh_id}
use Rattle.ic_laws.specs.CoreStep as core
use Rattle.ic_laws.specs.CoreStep.{add_sheet_refusal, core_step, delete_definition_causes, delete_definition_refusal, delete_refusal, fields_in_scope, formula_of, index_of_definition, index_of_id, index_of_name, is_named, lacks_sheet, list_fields, listed_scope, move_refusal, moved, new_definition, new_definition_causes, new_definition_refusal, rename_refusal, scope_or_none, shown_field, with_sheet_name, without_sheet}
use Rattle.ic_laws.specs.FormulaReading.{Body, body_of, shown_body, shown_formula}
use Rattle.ic_laws.specs.Notations.{Notations}
use Rattle.ic_laws.specs.Refusal.{InvalidLanguage, InvalidLocale, InvalidNameFormula, InvalidSheet, Refusal, first_refusal}
use Rattle.ic_laws.specs.declared.tree.Formula.{Formula}
use Rattle.ic_machine.specs.Book as machine
use Rattle.ic_machine.specs.Book.{Stepped, as_core}
use Rattle.ic_machine.specs.Changed as changed
use Rattle.ic_machine.specs.Refusal.{OfCore}
use Rattle.ic_machine.specs.Reply.{Field, NumberField, of_core_field, of_core_fields, optional_text_field}
use Rattle.ic_machine.specs.subjects.Definitions.{DeleteDefinedName, GetDefinedNameList, IsValidDefinedName, NewDefinedName, definition_step, delete_definition_step, list_step, new_definition_step, valid_definition_step, with_new_definition}
use Rattle.ic_machine.specs.subjects.Notation.{SetLanguage, SetLocale, notation_step, set_language_step, set_locale_step}
use Rattle.ic_machine.specs.subjects.Reading.{GetCellFormula, cell_formula_step, reading_step}
use Rattle.ic_machine.specs.subjects.Sheets.{AddSheet, DeleteSheet, DeleteSheetByName, DeleteSheetBySheetId, GetNewSheetId, MoveSheet, RenameSheet, RenameSheetByIndex, add_sheet_step, delete_by_id_step, delete_by_name_step, delete_sheet_step, move_sheet_step, new_sheet_id_step, rename_by_index_step, rename_sheet_step, sheet_step, with_new_sheet}
use Rattle.ic_definitions.proofs.NamesFacts.{position_any}
use Rattle.ic_parts.specs.Book.{Book, IsValidBook, ModelState, core_of, notations_in}
use Rattle.ic_parts.specs.Change.{book_changed_by, with_added_definition, with_added_sheet, with_language, with_locale, with_moved_sheet, with_removed_definition, with_removed_sheet, with_renamed_sheet}
use Rattle.ic_parts.specs.Does.{Does, DoesOnly, DoesOr, DoesStep, IsDone, Made, Never, Refused, Wanted, WantedOr}
use Rattle.ic_parts.specs.Fields.{fields_of_listed, listed_fields, no_fields, scope_field, string_field}
use Rattle.ic_parts.specs.Definitions.{Listed, listed, listed_definition, listed_definitions}
use Rattle.ic_parts.specs.Refused.{Refuses, RefusesOnly, RefusesOr, TellsCore, refusal_of}
use Rattle.ic_parts.specs.Whole.{whole_of}
use Rattle.ic_parts.specs.declared.error.BookError.{BookError}
use Rattle.ic_parts.specs.declared.error.BookError.TheVariants as errors
use Rattle.ic_parts.proofs.BookValid.{added_valid, defined_valid, in_language, in_locale, moved_valid, removed_valid, renamed_valid, undefined_valid}
use Rattle.ic_parts.proofs.WholeLemmas.{whole_added, whole_changed, whole_core, whole_defined, whole_moved, whole_removed, whole_renamed, whole_undefined}

-- what an error tells of the identity machine's refusals it tells of all
pub told_whole : (e : BookError) (refusal : Option Refusal) → TellsCore e refusal → option_map OfCore refusal ≡ refusal_of e
told_whole errors.BadLine refusal h = ap (option_map OfCore) h
told_whole errors.InvalidSheet refusal h = ap (option_map OfCore) h
told_whole errors.InvalidRow refusal h = ap (option_map OfCore) h
told_whole errors.InvalidColumn refusal h = ap (option_map OfCore) h
told_whole errors.BadArea refusal h = absurd h
told_whole errors.OutOfRange refusal h = absurd h
told_whole errors.SheetIndexTooLarge refusal h = ap (option_map OfCore) h
told_whole errors.TargetTooLarge refusal h = ap (option_map OfCore) h
told_whole errors.InvalidSheetName refusal h = ap (option_map OfCore) h
told_whole errors.SheetExists refusal h = ap (option_map OfCore) h
told_whole errors.SheetNotFound refusal h = ap (option_map OfCore) h
told_whole errors.OnlySheet refusal h = ap (option_map OfCore) h
told_whole errors.IdLive refusal h = absurd h
told_whole errors.IdsUsedUp refusal h = ap (option_map OfCore) h
told_whole errors.InvalidName refusal h = ap (option_map OfCore) h
told_whole errors.InvalidScope refusal h = ap (option_map OfCore) h
told_whole errors.NameExists refusal h = ap (option_map OfCore) h
told_whole errors.NameNotFound refusal h = ap (option_map OfCore) h
told_whole errors.InvalidNameFormula refusal h = ap (option_map OfCore) h
told_whole errors.BadReference refusal h = absurd h
told_whole errors.InvalidFormula refusal h = absurd h
told_whole errors.NotAFormula refusal h = ap (option_map OfCore) h
told_whole errors.InvalidLocale refusal h = ap (option_map OfCore) h
told_whole errors.InvalidLanguage refusal h = ap (option_map OfCore) h
told_whole errors.InvalidTimezone refusal h = ap (option_map OfCore) h
told_whole errors.MergedPart refusal h = absurd h
told_whole errors.ArrayPart refusal h = absurd h
told_whole errors.ClearArray refusal h = absurd h
told_whole errors.FrozenNegative refusal h = absurd h
told_whole errors.TooManyRows refusal h = absurd h
told_whole errors.TooManyColumns refusal h = absurd h
told_whole errors.NoFormulaCell refusal h = absurd h
told_whole (errors.SpillBlocked row column) refusal h = absurd h
told_whole (errors.BadWorkbook condition) refusal h = absurd h
told_whole (errors.WouldCapture sites) refusal h = absurd h
told_whole errors.OutOfMemory refusal h = ap (option_map OfCore) h

-- A step of the identity machine, seen as one of the whole, where nothing but this refuses it. ----

module _ {T : Type 0} (refusal : Option Refusal) (book : CoreBook) (told : List commands.Field) (left : machine.Book) (fields : T → List Field) (old new : ModelState) where
  abbrev made : Stepped machine.Book
  made = as_core (core.unless_refused refusal book told) left

  -- what a call leaves and answers where nothing refuses
  abbrev Leaves : T → Type 0
  Leaves value = (whole_of new.book ≡ left) × (fields value ≡ of_core_fields told)

  made_so : (o : Option Refusal) → refusal ≡ o → made ≡ as_core (core.unless_refused o book told) left
  made_so o e = ap (λ r. as_core (core.unless_refused r book told) left) e

  done : refusal ≡ None → IsDone made
  done e = subst IsDone (sym (made_so None e)) tt

  accepted : (value : T) → refusal ≡ None → Leaves value → made ≡ Ok (whole_of new.book, fields value)
  accepted value e leaves = made_so None e ∙ ap₂ (λ (w : machine.Book) (fs : List Field). Ok (w, fs)) (sym leaves.0) (sym leaves.1)

  made_wanted : (result : Result T BookError) → Refuses result refusal → IfOk result Leaves → OnErr result (new ≡ old) → Made Wanted made fields old new result
  made_wanted (Ok value) e leaves same = accepted value e leaves
  made_wanted (Err error) e leaves same = subst (Refused Wanted made old new) (told_whole error refusal e) (told_so refusal refl)
    where
      told_so : (o : Option Refusal) → refusal ≡ o → Refused Wanted made old new (option_map OfCore o)
      told_so None e = (done e, same)
      told_so (Some r) e = (made_so (Some r) e, same)

  made_never : (result : Result T BookError) → RefusesOnly result refusal → IfOk result Leaves → OnErr result (new ≡ old) → Made Never made fields old new result
  made_never (Ok value) e leaves same = accepted value e leaves
  made_never (Err error) e leaves same = subst (Refused Never made old new) (told_whole error (Some e.0) e.1) (made_so (Some e.0) e.2, same)

  made_or : (late : Refusal) (result : Result T BookError) → RefusesOr late result refusal → IfOk result Leaves → OnErr result (new ≡ old) → Made (WantedOr late) made fields old new result
  made_or late (Ok value) e leaves same = accepted value e leaves
  made_or late (Err error) (inl e) leaves same = subst (Refused (WantedOr late) made old new) (told_whole error refusal e) (told_so refusal refl)
    where
      told_so : (o : Option Refusal) → refusal ≡ o → Refused (WantedOr late) made old new (option_map OfCore o)
      told_so None e = (inl (done e), same)
      told_so (Some r) e = (made_so (Some r) e, same)
  made_or late (Err error) (inr both) leaves same =
      subst (λ e. Refused (WantedOr late) made old new (refusal_of e)) (sym both.1) (inr (made_so (Some late) both.0), same)

-- the book is valid afterwards, where it is after what was done
left_valid : {T : Type 0} (result : Result T BookError) (old new becomes : Book) → IsValidBook old → OnOk result (new ≡ becomes) → OnErr result (new ≡ old) → OnOk result (IsValidBook becomes) → IsValidBook new
left_valid (Ok value) old new becomes valid is same after = subst IsValidBook (sym is) after
left_valid (Err error) old new becomes valid is same after = subst IsValidBook (sym same) valid

same_book : {T : Type 0} (result : Result T BookError) (old new : ModelState) → OnErr result (new ≡ old) → OnErr result (new.book ≡ old.book)
same_book (Ok value) old new same = tt
same_book (Err error) old new same = ap (λ (m : ModelState). m.book) same

-- a call that leaves a changed book, and answers no fields
module _ (result : Result (Unit {0}) BookError) (old new : ModelState) (becomes : Book) (is : OnOk result (new.book ≡ becomes)) where
  leaves_now : (r : Result (Unit {0}) BookError) → OnOk r (new.book ≡ becomes) → (left : machine.Book) → whole_of becomes ≡ left → IfOk r (Leaves None (core_of old.book) [] left no_fields old new)
  leaves_now (Ok value) is left e = (ap whole_of is ∙ e, refl)
  leaves_now (Err error) is left e = tt

-- on Ok nothing refused
none_refused : {T : Type 0} (result : Result T BookError) (refusal : Option Refusal) (P : Type 0) → Refuses result refusal → (refusal ≡ None → P) → OnOk result P
none_refused (Ok value) refusal P e f = f e
none_refused (Err error) refusal P e f = tt

none_refused_only : {T : Type 0} (result : Result T BookError) (refusal : Option Refusal) (P : Type 0) → RefusesOnly result refusal → (refusal ≡ None → P) → OnOk result P
none_refused_only (Ok value) refusal P e f = f e
none_refused_only (Err error) refusal P e f = tt

none_refused_or : {T : Type 0} (late : Refusal) (result : Result T BookError) (refusal : Option Refusal) (P : Type 0) → RefusesOr late result refusal → (refusal ≡ None → P) → OnOk result P
none_refused_or late (Ok value) refusal P e f = f e
none_refused_or late (Err error) refusal P e f = tt

-- A call on a valid book that leaves what a change makes of it. ----

module _ (result : Result (Unit {0}) BookError) (old new : ModelState) (valid : IsValidBook old.book) (same : OnErr result (new ≡ old)) where
  abbrev n : Notations
  n = notations_in old.book

  abbrev whole : machine.Book
  whole = whole_of old.book

  -- its core
  abbrev seen : machine.core_of (whole_of old.book) ≡ core_of old.book
  seen = whole_core old.book

  -- the step of a command whose refusal is this, by the core, and that leaves this
  module _ (becomes : Book) (is : OnOk result (new.book ≡ becomes)) (refusal : CoreBook → Option Refusal) (leaves : CoreBook → CoreBook) (left : machine.Book) (e : whole_of becomes ≡ left) where
    abbrev step : Stepped machine.Book
    step = as_core (core.unless_refused (refusal (machine.core_of whole)) (leaves (machine.core_of whole)) []) left

    pub step_wanted : Refuses result (refusal (core_of old.book)) → (refusal (core_of old.book) ≡ None → IsValidBook becomes) → DoesStep Wanted step no_fields result old new
    step_wanted refused after = record {
      done = made_wanted (refusal (machine.core_of whole)) (leaves (machine.core_of whole)) [] left no_fields old new result (subst (λ c. Refuses result (refusal c)) (sym seen) refused) (leaves_now result old new becomes is result is left e) same;
      before = valid;
      after = left_valid result old.book new.book becomes valid is (same_book result old new same) (none_refused result (refusal (core_of old.book)) (IsValidBook becomes) refused after);
    }

    pub step_never : RefusesOnly result (refusal (core_of old.book)) → (refusal (core_of old.book) ≡ None → IsValidBook becomes) → DoesStep Never step no_fields result old new
    step_never refused after = record {
      done = made_never (refusal (machine.core_of whole)) (leaves (machine.core_of whole)) [] left no_fields old new result (subst (λ c. RefusesOnly result (refusal c)) (sym seen) refused) (leaves_now result old new becomes is result is left e) same;
      before = valid;
      after = left_valid result old.book new.book becomes valid is (same_book result old new same) (none_refused_only result (refusal (core_of old.book)) (IsValidBook becomes) refused after);
    }

    pub step_or : (late : Refusal) → RefusesOr late result (refusal (core_of old.book)) → (refusal (core_of old.book) ≡ None → IsValidBook becomes) → DoesStep (WantedOr late) step no_fields result old new
    step_or late refused after = record {
      done = made_or (refusal (machine.core_of whole)) (leaves (machine.core_of whole)) [] left no_fields old new late result (subst (λ c. RefusesOr late result (refusal c)) (sym seen) refused) (leaves_now result old new becomes is result is left e) same;
      before = valid;
      after = left_valid result old.book new.book becomes valid is (same_book result old new same) (none_refused_or late result (refusal (core_of old.book)) (IsValidBook becomes) refused after);
    }

  -- sheets ----

  pub adds : (name : List ℕ) → OnOk result (new.book ≡ book_changed_by (with_added_sheet name) old.book) → Refuses result (add_sheet_refusal (core_of old.book) name) → Does sheet_step (AddSheet name) no_fields result old new
  unfolding core_step add_sheet_step
  adds name is refused =
      step_wanted (book_changed_by (with_added_sheet name) old.book) is (λ c. add_sheet_refusal c name) (core.changed_by n (core.with_new_sheet name)) (changed.changed_by (with_new_sheet name) whole)
      (whole_changed (with_added_sheet name) (with_new_sheet name) (whole_added name) old.book) refused (added_valid old.book valid name)

  pub renames_at : (index : ℕ) (name : List ℕ) → OnOk result (new.book ≡ book_changed_by (with_renamed_sheet index name) old.book) → Refuses result (rename_refusal (core_of old.book) index name) → Does sheet_step (RenameSheetByIndex index name) no_fields result old new
  unfolding core_step rename_by_index_step
  renames_at index name is refused =
      step_wanted (book_changed_by (with_renamed_sheet index name) old.book) is (λ c. rename_refusal c index name) (core.changed_by n (with_sheet_name index name)) (changed.changed_by (changed.with_renamed_sheet index name) whole)
      (whole_changed (with_renamed_sheet index name) (changed.with_renamed_sheet index name) (whole_renamed index name) old.book) refused (renamed_valid old.book valid index name)

  pub deletes_at : (index : ℕ) → OnOk result (new.book ≡ book_changed_by (with_removed_sheet index) old.book) → Refuses result (delete_refusal (core_of old.book) index) → Does sheet_step (DeleteSheet index) no_fields result old new
  unfolding core_step delete_sheet_step
  deletes_at index is refused =
      step_wanted (book_changed_by (with_removed_sheet index) old.book) is (λ c. delete_refusal c index) (core.changed_by n (without_sheet index)) (changed.changed_by (changed.with_removed_sheet index) whole)
      (whole_changed (with_removed_sheet index) (changed.with_removed_sheet index) (whole_removed index) old.book) refused (removed_valid old.book valid index)

  -- a sheet that is looked up, at the index where it is found
  pub renames : (from name : List ℕ) (index : ℕ) → index_of_name (core_of old.book) from ≡ Some index → OnOk result (new.book ≡ book_changed_by (with_renamed_sheet index name) old.book) → Refuses result (rename_refusal (core_of old.book) index name) → Does sheet_step (RenameSheet from name) no_fields result old new
  unfolding core_step rename_sheet_step rename_by_index_step
  renames from name index found is refused =
      subst (λ step. DoesStep Wanted step no_fields result old new)
      (sym (ap (λ o. as_core (core.at_found o (λ i. core.rename_step n (machine.core_of whole) i name)) (changed.changed_by (changed.with_renamed_sheet (unwrap_or o 0) name) whole)) (ap (λ c. index_of_name c from) seen ∙ found)))
      (renames_at index name is refused)

  pub deletes_named : (name : List ℕ) (index : ℕ) → index_of_name (core_of old.book) name ≡ Some index → OnOk result (new.book ≡ book_changed_by (with_removed_sheet index) old.book) → Refuses result (delete_refusal (core_of old.book) index) → Does sheet_step (DeleteSheetByName name) no_fields result old new
  unfolding core_step delete_by_name_step delete_sheet_step
  deletes_named name index found is refused =
      subst (λ step. DoesStep Wanted step no_fields result old new)
      (sym (ap (λ o. as_core (core.at_found o (λ i. core.delete_step n (machine.core_of whole) i)) (changed.changed_by (changed.with_removed_sheet (unwrap_or o 0)) whole)) (ap (λ c. index_of_name c name) seen ∙ found)))
      (deletes_at index is refused)

  pub deletes_with_id : (id index : ℕ) → index_of_id (core_of old.book) id ≡ Some index → OnOk result (new.book ≡ book_changed_by (with_removed_sheet index) old.book) → Refuses result (delete_refusal (core_of old.book) index) → Does sheet_step (DeleteSheetBySheetId id) no_fields result old new
  unfolding core_step delete_by_id_step delete_sheet_step
  deletes_with_id id index found is refused =
      subst (λ step. DoesStep Wanted step no_fields result old new)
      (sym (ap (λ o. as_core (core.at_found o (λ i. core.delete_step n (machine.core_of whole) i)) (changed.changed_by (changed.with_removed_sheet (unwrap_or o 0)) whole)) (ap (λ c. index_of_id c id) seen ∙ found)))
      (deletes_at index is refused)

  -- definitions ----

  -- the book without a definition that is looked up
  abbrev undefined_book : List ℕ → Option ℕ → Book
  undefined_book name scope = book_changed_by (with_removed_definition (index_of_definition (core_of old.book) name (scope_or_none (core_of old.book) scope))) old.book

  undefined_after : (name : List ℕ) (scope : Option ℕ) → delete_definition_refusal (core_of old.book) name scope ≡ None → IsValidBook (undefined_book name scope)
  undefined_after name scope e =
      let has = not_false _ (none_holds (delete_definition_causes (core_of old.book) name scope) e).1.0 in
      at_index (index_of_definition (core_of old.book) name (scope_or_none (core_of old.book) scope)) refl (position_any (is_named name (scope_or_none (core_of old.book) scope)) old.book.definitions ∙ has)
    where
      at_index : (o : Option ℕ) → index_of_definition (core_of old.book) name (scope_or_none (core_of old.book) scope) ≡ o → is_some o ≡ true → IsValidBook (book_changed_by (with_removed_definition o) old.book)
      at_index None found h = cc
      at_index (Some index) found h = undefined_valid old.book valid name scope index e found

  pub undefines : (name : List ℕ) (scope : Option ℕ) → OnOk result (new.book ≡ book_changed_by (with_removed_definition (index_of_definition (core_of old.book) name (scope_or_none (core_of old.book) scope))) old.book)
      → Refuses result (delete_definition_refusal (core_of old.book) name scope) → Does definition_step (DeleteDefinedName name scope) no_fields result old new
  unfolding core_step delete_definition_step
  undefines name scope is refused =
      let index : Option ℕ = index_of_definition (core_of old.book) name (scope_or_none (core_of old.book) scope) in
      step_wanted (undefined_book name scope) is (λ c. delete_definition_refusal c name scope) (λ c. core.changed_by n (core.without_definition (index_of_definition c name (scope_or_none c scope))) c)
      (changed.changed_by (changed.without_definition (index_of_definition (machine.core_of whole) name (scope_or_none (machine.core_of whole) scope))) whole)
      (whole_changed (with_removed_definition index) (changed.without_definition index) (whole_undefined index) old.book
      ∙ ap (λ c. changed.changed_by (changed.without_definition (index_of_definition c name (scope_or_none c scope))) whole) (sym seen)) refused (undefined_after name scope)

  -- the book with a new definition, where its body reads
  module _ (name : List ℕ) (scope : Option ℕ) where
    abbrev new_in : CoreBook → Body → Definition
    new_in c body = new_definition n c name (scope_or_none c scope) body

    abbrev defined_book : Option Body → Book
    defined_book None = old.book
    defined_book (Some body) = book_changed_by (with_added_definition (new_in (core_of old.book) body)) old.book

    whole_with : (o : Option Body) → whole_of (defined_book o) ≡ with_new_definition whole name (scope_or_none (core_of old.book) scope) o
    whole_with None = refl
    whole_with (Some body) =
        whole_changed (with_added_definition (new_in (core_of old.book) body)) (changed.with_definition (new_in (core_of old.book) body)) (whole_defined (new_in (core_of old.book) body)) old.book
        ∙ ap (λ c. changed.changed_by (changed.with_definition (new_definition n c name (scope_or_none (core_of old.book) scope) body)) whole) (sym seen)

    module _ (text : List ℕ) where
      defined_after : new_definition_refusal n (core_of old.book) name scope text ≡ None → IsValidBook (defined_book (body_of n (core_of old.book) text))
      defined_after e = with_body (body_of n (core_of old.book) text) refl
        where
          with_body : (o : Option Body) → body_of n (core_of old.book) text ≡ o → IsValidBook (defined_book o)
          with_body None read = valid
          with_body (Some body) read = defined_valid old.book valid name scope text body e read

      abbrev Read : Body → Type 0
      Read body = body_of n (core_of old.book) text ≡ Some body

      defined_so : (r : Result (Unit {0}) BookError) → OnOk r ((body : Body) → Read body → new.book ≡ defined_book (Some body)) → RefusesOr InvalidNameFormula r (new_definition_refusal n (core_of old.book) name scope text)
          → OnOk r (new.book ≡ defined_book (body_of n (core_of old.book) text))
      defined_so (Err error) is e = tt
      defined_so (Ok value) is e = with_body (body_of n (core_of old.book) text) refl
        where
          with_body : (o : Option Body) → body_of n (core_of old.book) text ≡ o → new.book ≡ defined_book o
          with_body None read = let unread : is_none (body_of n (core_of old.book) text) ≡ false = (none_holds (new_definition_causes n (core_of old.book) name scope text) e).1.1.1.0 in let no : true ≡ false = ap is_none (sym read) ∙ unread in cc
          with_body (Some body) read = is body read

      pub defines : OnOk result ((body : Body) → body_of (notations_in old.book) (core_of old.book) text ≡ Some body
          → new.book ≡ book_changed_by (with_added_definition (new_definition (notations_in old.book) (core_of old.book) name (scope_or_none (core_of old.book) scope) body)) old.book)
          → RefusesOr InvalidNameFormula result (new_definition_refusal (notations_in old.book) (core_of old.book) name scope text) → DoesOr InvalidNameFormula definition_step (NewDefinedName name scope text) no_fields result old new
      unfolding core_step new_definition_step
      defines is refused =
          step_or (defined_book (body_of n (core_of old.book) text)) (defined_so result is refused) (λ c. new_definition_refusal n c name scope text) (λ c. core.with_new_definition n c name (scope_or_none c scope) (body_of n c text))
          (with_new_definition whole name (scope_or_none (machine.core_of whole) scope) (body_of n (machine.core_of whole) text))
          (whole_with (body_of n (core_of old.book) text) ∙ ap (λ c. with_new_definition whole name (scope_or_none c scope) (body_of n c text)) (sym seen)) InvalidNameFormula refused defined_after

  -- without memory ----

  pub moves : (from to : ℕ) → OnOk result (new.book ≡ with_moved_sheet from to old.book) → RefusesOnly result (move_refusal (core_of old.book) from to) → DoesOnly sheet_step (MoveSheet from to) no_fields result old new
  unfolding core_step move_sheet_step
  moves from to is refused =
      step_never (with_moved_sheet from to old.book) is (λ c. move_refusal c from to) (λ c. record c { sheets = moved from to c.sheets }) (changed.with_moved_sheet from to whole) (whole_moved from to old.book) refused
      (moved_valid old.book valid from to)

  pub puts_locale : (id : List ℕ) → OnOk result (new.book ≡ with_locale id old.book) → RefusesOnly result (first_refusal ((not ((notations_in old.book).knows_locale id), InvalidLocale) ∷ [])) → DoesOnly notation_step (SetLocale id) no_fields result old new
  unfolding core_step set_locale_step
  puts_locale id is refused =
      step_never (with_locale id old.book) is (λ c. first_refusal ((not (n.knows_locale id), InvalidLocale) ∷ [])) (λ c. record c { locale = id }) (record whole { locale = id }) refl refused (in_locale old.book valid id)

  pub puts_language : (id : List ℕ) → OnOk result (new.book ≡ with_language id old.book) → RefusesOnly result (first_refusal ((not ((notations_in old.book).knows_language id), InvalidLanguage) ∷ [])) → DoesOnly notation_step (SetLanguage id) no_fields result old new
  unfolding core_step set_language_step
  puts_language id is refused =
      step_never (with_language id old.book) is (λ c. first_refusal ((not (n.knows_language id), InvalidLanguage) ∷ [])) (λ c. record c { language = id }) (record whole { language = id }) refl refused (in_language old.book valid id)

-- a sheet that isn't found
module _ (now : ModelState) (valid : IsValidBook now.book) where
  pub renames_none : (from name : List ℕ) → index_of_name (core_of now.book) from ≡ None → Does sheet_step (RenameSheet from name) no_fields (Err errors.SheetNotFound) now now
  unfolding core_step rename_sheet_step
  renames_none from name none = record {
    done = (
      ap (λ o. as_core (core.at_found o (λ i. core.rename_step (notations_in now.book) (machine.core_of (whole_of now.book)) i name)) (changed.changed_by (changed.with_renamed_sheet (unwrap_or o 0) name) (whole_of now.book)))
          (ap (λ c. index_of_name c from) (whole_core now.book) ∙ none),
      refl,
    );
    before = valid;
    after = valid;
  }

  pub deletes_named_none : (name : List ℕ) → index_of_name (core_of now.book) name ≡ None → Does sheet_step (DeleteSheetByName name) no_fields (Err errors.SheetNotFound) now now
  unfolding core_step delete_by_name_step
  deletes_named_none name none = record {
    done = (
      ap (λ o. as_core (core.at_found o (λ i. core.delete_step (notations_in now.book) (machine.core_of (whole_of now.book)) i)) (changed.changed_by (changed.with_removed_sheet (unwrap_or o 0)) (whole_of now.book)))
          (ap (λ c. index_of_name c name) (whole_core now.book) ∙ none),
      refl,
    );
    before = valid;
    after = valid;
  }

  pub deletes_no_id : (id : ℕ) → index_of_id (core_of now.book) id ≡ None → Does sheet_step (DeleteSheetBySheetId id) no_fields (Err errors.SheetNotFound) now now
  unfolding core_step delete_by_id_step
  deletes_no_id id none = record {
    done = (
      ap (λ o. as_core (core.at_found o (λ i. core.delete_step (notations_in now.book) (machine.core_of (whole_of now.book)) i)) (changed.changed_by (changed.with_removed_sheet (unwrap_or o 0)) (whole_of now.book)))
          (ap (λ c. index_of_id c id) (whole_core now.book) ∙ none),
      refl,
    );
    before = valid;
    after = valid;
  }

-- Readers. ----

-- a reader's call leaves all, and its step does
reads : {T : Type 0} (result : Result T BookError) (left : machine.Book) (told : List Field) (fields : T → List Field) (Told : T → Type 0) → ((value : T) → Told value → fields value ≡ told) → IfOk result Told → IfOk result (λ value. (left ≡ left) × (fields value ≡ told))
reads (Ok value) left told fields Told f h = (refl, f value h)
reads (Err error) left told fields Told f h = tt

unchanged : {T : Type 0} (result : Result T BookError) (now : ModelState) → OnErr result (now ≡ now)
unchanged (Ok value) now = refl_done
  where
    refl_done : Unit {0}
    refl_done = tt
unchanged (Err error) now = refl

module _ (now : ModelState) (valid : IsValidBook now.book) where
  abbrev notation : Notations
  notation = notations_in now.book

  abbrev all : machine.Book
  all = whole_of now.book

  abbrev all_seen : machine.core_of (whole_of now.book) ≡ core_of now.book
  all_seen = whole_core now.book

  pub tells_id : (id : Option ℕ) → id ≡ fresh_id (core_of now.book) → DoesOnly sheet_step GetNewSheetId scope_field (Ok id) now now
  unfolding core_step new_sheet_id_step
  tells_id id is = record {
    done = ap (λ (o : Option ℕ). let fields : List Field = NumberField o ∷ [] in let made : Stepped machine.Book = Ok (all, fields) in made) (ap fresh_id all_seen ∙ sym is);
    before = valid;
    after = valid;
  }

  pub checks : (result : Result (Option ℕ) BookError) (name : List ℕ) (scope : Option ℕ) (text : List ℕ) → IfOk result (λ id. id ≡ scope_or_none (core_of now.book) scope)
      → RefusesOr InvalidNameFormula result (new_definition_refusal (notations_in now.book) (core_of now.book) name scope text) → DoesOr InvalidNameFormula definition_step (IsValidDefinedName name scope text) scope_field result now now
  unfolding core_step valid_definition_step
  checks result name scope text is refused = record {
    done =
        made_or (new_definition_refusal notation (machine.core_of all) name scope text) (machine.core_of all) (commands.NumberField (scope_or_none (machine.core_of all) scope) ∷ []) all scope_field now now InvalidNameFormula result
        (subst (λ c. RefusesOr InvalidNameFormula result (new_definition_refusal notation c name scope text)) (sym all_seen) refused)
        (reads result all (NumberField (scope_or_none (machine.core_of all) scope) ∷ []) scope_field (λ id. id ≡ scope_or_none (core_of now.book) scope)
        (λ id e. ap (λ (o : Option ℕ). let fields : List Field = NumberField o ∷ [] in fields) (e ∙ ap (λ c. scope_or_none c scope) (sym all_seen))) is) (unchanged result now);
    before = valid;
    after = valid;
  }

  -- the fields of one definition, and of all
  one_listed : (d : Definition) (o : Option (Option ℕ)) → flat_map fields_of_listed (option_to_list (option_map (λ (scope : Option ℕ). let item : Listed = (d.name, scope, shown_body notation (core_of now.book) d.has_equals d.body) in item) o))
      ≡ of_core_fields (fields_in_scope notation (core_of now.book) d o)
  one_listed d None = refl
  one_listed d (Some scope) = refl

  all_listed : (ds : List Definition) → flat_map fields_of_listed (flat_map (listed_definition notation (core_of now.book)) ds) ≡ of_core_fields (flat_map (λ d. fields_in_scope notation (core_of now.book) d (listed_scope (core_of now.book) d.scope)) ds)
  all_listed [] = refl
  all_listed (d ∷ ds) =
      flat_map-append fields_of_listed (listed_definition notation (core_of now.book) d) (flat_map (listed_definition notation (core_of now.book)) ds)
      ∙ ap₂ (λ (a b : List Field). a ++ b) (one_listed d (listed_scope (core_of now.book) d.scope)) (all_listed ds)
      ∙ sym (map-append of_core_field (fields_in_scope notation (core_of now.book) d (listed_scope (core_of now.book) d.scope)) (flat_map (λ d. fields_in_scope notation (core_of now.book) d (listed_scope (core_of now.book) d.scope)) ds))

  pub lists : (result : Result (Vec (String Global × Option ℕ × String Global)) BookError) → IfOk result (λ names. map listed names.items ≡ listed_definitions (notations_in now.book) (core_of now.book)) → Refuses result None
      → Does definition_step GetDefinedNameList listed_fields result now now
  unfolding core_step list_step
  lists result is refused = record {
    done =
        made_wanted None (machine.core_of all) (list_fields notation (machine.core_of all)) all listed_fields now now result refused
        (reads result all (of_core_fields (list_fields notation (machine.core_of all))) listed_fields (λ names. map listed names.items ≡ listed_definitions notation (core_of now.book))
        (λ names e. sym (flat_map-map fields_of_listed listed names.items) ∙ ap (flat_map fields_of_listed) e ∙ all_listed now.book.definitions ∙ ap (λ c. of_core_fields (list_fields notation c)) (sym all_seen)) is) (unchanged result now);
    before = valid;
    after = valid;
  }

  one_shown : (c : CoreBook) (row column : ℤ) (o : Option Formula) → optional_text_field (option_map (λ f. equals ∷ shown_formula notation c row column f) o) ≡ of_core_fields (option_to_list (option_map (shown_field notation c row column) o))
  one_shown c row column None = refl
  one_shown c row column (Some formula) = refl

  pub shows : (result : Result (Option (String Global)) BookError) (sheet : ℕ) (row column : ℤ)
      → IfOk result (λ text. option_map (λ s. chars (string_bytes s)) text ≡ option_map (λ f. equals ∷ shown_formula (notations_in now.book) (core_of now.book) row column f) (formula_of (core_of now.book) sheet row column))
      → Refuses result (first_refusal ((lacks_sheet (core_of now.book) sheet, InvalidSheet) ∷ [])) → Does reading_step (GetCellFormula sheet row column) string_field result now now
  unfolding core_step cell_formula_step
  shows result sheet row column is refused = record {
    done =
        made_wanted (first_refusal ((lacks_sheet (machine.core_of all) sheet, InvalidSheet) ∷ [])) (machine.core_of all) (option_to_list (option_map (shown_field notation (machine.core_of all) row column) (formula_of (machine.core_of all) sheet row column))) all string_field now now result
        (subst (λ c. Refuses result (first_refusal ((lacks_sheet c sheet, InvalidSheet) ∷ []))) (sym all_seen) refused)
        (reads result all (of_core_fields (option_to_list (option_map (shown_field notation (machine.core_of all) row column) (formula_of (machine.core_of all) sheet row column)))) string_field
        (λ text. option_map (λ s. chars (string_bytes s)) text ≡ option_map (λ f. equals ∷ shown_formula notation (core_of now.book) row column f) (formula_of (core_of now.book) sheet row column))
        (λ text e. ap optional_text_field e ∙ one_shown (core_of now.book) row column (formula_of (core_of now.book) sheet row column)
        ∙ ap (λ c. of_core_fields (option_to_list (option_map (shown_field notation c row column) (formula_of c sheet row column)))) (sym all_seen)) is) (unchanged result now);
    before = valid;
    after = valid;
  }
