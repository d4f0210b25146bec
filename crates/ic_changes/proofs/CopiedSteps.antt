-- What the call that copies a sheet does is the step of the machine.
use Rattle.std.proofs.Common.{◌≡◌, ℕ, ◌+◌, ◌≤◌, List, [], ◌∷◌, length, Bool, true, false, Option, Some, None, option_map, Result, Ok, Err, IsErr, IsErrAnd, String, string_bytes, chars, refl, sym, ap, ap₂, subst, ◌∙◌, arith}
use Rattle.std.proofs.lemmas.List.{length-map}
use Rattle.std.proofs.lemmas.Option.{slice_get-map}
use Rattle.std.specs.declared.alloc.Global.{Global}
use Rattle.std.specs.List.{slice_get}
use Rattle.std.specs.Prelude.{is_none}
use Rattle.ic_laws.specs.BookTrees.{with_trees}
use Rattle.ic_laws.specs.Changes.{changed_tree, sheet_named}
use Rattle.ic_laws.specs.CoreBook.{CoreBook, fresh_id, scene_of}
use Rattle.ic_laws.specs.Name.{is_sheet_name}
use Rattle.ic_machine.proofs.bound.CopiedBinds.{copied_is_meant}
use Rattle.ic_machine.proofs.bound.CopiedWords.{copied_means_same}
use Rattle.ic_machine.proofs.bound.CopyNames.{copy_is_good}
use Rattle.ic_machine.proofs.valid.DuplicatedStays.{duplicate_stays}
use Rattle.ic_machine.proofs.bound.NumberLemmas.{small}
use Rattle.ic_machine.proofs.valid.ValidLemmas.{all_at}
use Rattle.ic_machine.specs.Book as machine
use Rattle.ic_machine.specs.Book.{Stepped, found_or, unless}
use Rattle.ic_machine.specs.Changed as changed
use Rattle.ic_machine.specs.Refusal as refusals
use Rattle.ic_machine.specs.Refusal.{first_refusal}
use Rattle.ic_machine.specs.Reply.{Field}
use Rattle.ic_machine.specs.subjects.Sheets.{DuplicateSheet, copy_id, copy_name, copy_of_sheet, duplicate_sheet_step, duplicated, free_number, name_of_copy, named_fields, sheet_step, with_copy}
use Rattle.ic_sheets.specs.Sheet.{Sheet}
use Rattle.ic_parts.specs.Book.{IsValidBook, ModelState, core_of, whole_sheet}
use Rattle.ic_parts.specs.Change.{book_changed_by}
use Rattle.ic_changes.specs.Copied.{BindsCopied, MeansCopied, core_copied, definitions_copied, sheet_copied, whole_source, with_copied_sheet}
use Rattle.ic_parts.specs.Does.{Does, DoesStep, IsDone, Wanted}
use Rattle.ic_parts.specs.Fields.{named_sheet_fields}
use Rattle.ic_parts.specs.SheetNames.{IsNumbered}
use Rattle.ic_parts.specs.Whole.{whole_of}
use Rattle.ic_parts.specs.declared.error.BookError.{BookError}
use Rattle.ic_parts.specs.declared.error.BookError.TheVariants as errors
use Rattle.ic_changes.proofs.CopiedHeld.{copied_valid, copied_whole}
use Rattle.ic_parts.proofs.WholeLemmas.{whole_core}

module _ (old : ModelState) (valid : IsValidBook old.book) (index : ℕ) where
  abbrev whole : machine.Book
  whole = whole_of old.book

  -- no sheet stands there
  lacks_made : slice_get old.book.sheets index ≡ None → sheet_step whole (DuplicateSheet index) ≡ Err refusals.InvalidSheet
  unfolding duplicate_sheet_step
  lacks_made none = ap (λ (o : Option machine.Sheet). found_or refusals.InvalidSheet (option_map (duplicated whole index) o)) (slice_get-map (whole_sheet old.book.strings) old.book.sheets index ∙ ap (option_map (whole_sheet old.book.strings)) none)

  pub copy_lacks : slice_get old.book.sheets index ≡ None → {T : Type 0} (fields : T → List Field) → DoesStep Wanted (sheet_step (whole_of old.book) (DuplicateSheet index)) fields (Err errors.InvalidSheet) old old
  copy_lacks none fields = record { done = (lacks_made none, refl); before = valid; after = valid }

  module _ (source : Sheet) (at : slice_get old.book.sheets index ≡ Some source) where
    abbrev ws : machine.Sheet
    ws = whole_source old.book index source

    abbrev name : List ℕ
    name = name_of_copy whole source.name

    abbrev left : machine.Book
    left = changed.changed_by (with_copy index (copy_of_sheet whole index ws) (definitions_copied old.book index source)) whole

    there : slice_get whole.sheets index ≡ Some ws
    there = slice_get-map (whole_sheet old.book.strings) old.book.sheets index ∙ ap (option_map (whole_sheet old.book.strings)) at

    made : (o : Bool) → is_none (fresh_id (core_of old.book)) ≡ o → sheet_step whole (DuplicateSheet index) ≡ unless (first_refusal ((o, refusals.IdsUsedUp) ∷ [])) left (named_fields name (index + 1))
    unfolding duplicate_sheet_step
    made o e =
        ap (λ (o : Option machine.Sheet). found_or refusals.InvalidSheet (option_map (duplicated whole index) o)) there
        ∙ ap (λ b. unless (first_refusal ((b, refusals.IdsUsedUp) ∷ [])) left (named_fields name (index + 1))) (ap (λ c. is_none (fresh_id c)) (whole_core old.book) ∙ e)

    pub copy_used_up : is_none (fresh_id (core_of old.book)) ≡ true → {T : Type 0} (fields : T → List Field) → DoesStep Wanted (sheet_step (whole_of old.book) (DuplicateSheet index)) fields (Err errors.IdsUsedUp) old old
    copy_used_up e fields = record { done = (made true e, refl); before = valid; after = valid }

    -- it is a name that a sheet may have, with a small number
    pub copy_good : is_sheet_name (name_of_copy (whole_of old.book) source.name) ≡ true
    copy_good = copy_is_good whole valid.whole source.name (all_at (λ (s : machine.Sheet). is_sheet_name s.name ≡ true) index whole.sheets ws valid.whole.sheet_names.names there)

    pub copy_numbered : (called : List ℕ) → called ≡ name_of_copy (whole_of old.book) source.name → IsNumbered (length old.book.sheets) (copy_name source.name) called
    copy_numbered called is =
        let most : free_number whole (copy_name source.name) ≤ length whole.sheets + 1 = small whole (copy_name source.name) in
        let count : length whole.sheets ≡ length old.book.sheets = length-map old.book.sheets (whole_sheet old.book.strings) in
        (free_number whole (copy_name source.name), omega (arith, most, count), is)

    module _ (some : is_none (fresh_id (core_of old.book)) ≡ false) where
      pub copy_wants : {T : Type 0} (fields : T → List Field) (r : Result T BookError) → IsErr r × IsErrAnd r (λ e. e ≡ errors.OutOfMemory) → (new : ModelState) → new ≡ old → DoesStep Wanted (sheet_step (whole_of old.book) (DuplicateSheet index)) fields r old new
      copy_wants fields (Ok value) h new same = let no : false ≡ true = h.0 in cc
      copy_wants {T} fields (Err e) h new same =
          let result : BookError → Result T BookError = λ e. Err e in
          subst (λ m. DoesStep Wanted (sheet_step whole (DuplicateSheet index)) fields (result e) old m) (sym same)
          (subst (λ e. DoesStep Wanted (sheet_step whole (DuplicateSheet index)) fields (result e) old old) (sym h.1) (record { done = (subst IsDone (sym (made false some)) tt, refl); before = valid; after = valid }))

      pub valid_then : IsValidBook (book_changed_by (with_copied_sheet index (sheet_copied old.book index source) (definitions_copied old.book index source)) old.book)
      valid_then = copied_valid old.book valid index source at some (duplicate_stays whole valid.whole index) (made false some)

      pub copy_done : (new : ModelState) (called : String Global) (place : ℕ) → chars (string_bytes called) ≡ name_of_copy (whole_of old.book) source.name → place ≡ index + 1
          → new.book ≡ book_changed_by (with_copied_sheet index (sheet_copied old.book index source) (definitions_copied old.book index source)) old.book
          → Does sheet_step (DuplicateSheet index) named_sheet_fields (Ok (called, place)) old new
      copy_done new called place is place_is becomes = record {
        done =
            made false some
            ∙ ap₂ (λ (b : machine.Book) (fs : List Field). let done : Stepped machine.Book = Ok (b, fs) in done) (sym (ap whole_of becomes ∙ copied_whole old.book valid index source at some)) (ap₂ named_fields (sym is) (sym place_is));
        before = valid;
        after = subst IsValidBook (sym becomes) valid_then;
      }

  -- what that means for what is mentioned
  module _ (new : ModelState) (fields : List Field) (done : sheet_step (whole_of old.book) (DuplicateSheet index) ≡ Ok (whole_of new.book, fields)) where
    pub copy_binds : BindsCopied index old.book new.book
    copy_binds source at =
        let ws = whole_source old.book index source in
        sym (whole_core new.book)
        ∙ copied_is_meant whole (whole_of new.book) index ws fields valid.whole (there source at) done
        ∙ ap (λ (c : CoreBook). core_copied old.book index source (with_trees (changed_tree (sheet_named (scene_of (core_copied old.book index source c)) (copy_id whole index ws) (name_of_copy whole source.name))) c)) (whole_core old.book)

    pub copy_means : MeansCopied index old.book new.book
    copy_means source at = copied_means_same whole (whole_of new.book) index (whole_source old.book index source) fields valid.whole (there source at) done
