-- A call that puts a sheet in among the others does its step.
use Rattle.std.proofs.Common.{◌≡◌, ℕ, ◌<◌, ◌≤◌, List, [], ◌∷◌, true, false, length, Option, Some, None, Result, Ok, Err, IsErr, IsErrAnd, refl, sym, ap, subst, ◌∙◌, arith}
use Rattle.std.proofs.lemmas.Bool.{le-ltb, lt-ltb, ne_eqb}
use Rattle.std.proofs.lemmas.List.{length-map}
use Rattle.std.specs.List.{list_any}
use Rattle.std.specs.Prelude.{is_none, nat_eq, unwrap_or}
use Rattle.ic_laws.specs.CoreBook.{CoreBook, fresh_id, has_sheet, ids_of}
use Rattle.ic_laws.specs.Name.{is_sheet_name}
use Rattle.ic_machine.proofs.valid.InsertedStays.{fresh_fits, none_holds}
use Rattle.ic_machine.specs.Book as machine
use Rattle.ic_machine.specs.Book.{Stepped, unless}
use Rattle.ic_machine.specs.Changed.{changed_by}
use Rattle.ic_machine.specs.Kept.{is_given_id}
use Rattle.ic_machine.specs.Refusal.{IdLive, IdsUsedUp, OutOfRange, Refusal, SheetExists, first_refusal}
use Rattle.ic_machine.specs.subjects.Sheets as sheets
use Rattle.ic_machine.specs.subjects.Sheets.{InsertSheet, chosen_id, insert_causes, insert_sheet_step, is_live, sheet_step}
use Rattle.ic_parts.specs.Book.{Book, IsValidBook, ModelState, core_of, whole_of, whole_sheet}
use Rattle.ic_parts.specs.Change.{book_changed_by, with_inserted_sheet}
use Rattle.ic_parts.specs.Does.{Does, IsDone, Refused, Wanted}
use Rattle.ic_parts.specs.Fields.{no_fields}
use Rattle.ic_parts.specs.Refused.{refusal_of}
use Rattle.ic_parts.specs.declared.error.BookError.{BookError}
use Rattle.ic_parts.specs.declared.error.BookError.TheVariants as errors
use Rattle.ic_parts.proofs.BookValid.{inserted_valid}
use Rattle.ic_parts.proofs.WholeLemmas.{whole_changed, whole_core, whole_inserted}

-- What refuses it. ----

module _ (book : Book) (name : List ℕ) (index : ℕ) (given : Option ℕ) (good : is_sheet_name name ≡ true) where
  -- the name agrees with that of a sheet
  pub taken_told : has_sheet (core_of book) name ≡ true → first_refusal (insert_causes (whole_of book) name index given) ≡ Some SheetExists
  taken_told taken = rw good (rw (ap (λ c. has_sheet c name) (whole_core book) ∙ taken) refl)

  module _ (new : has_sheet (core_of book) name ≡ false) (count : ℕ) (counted : count ≡ length book.sheets) where
    free : has_sheet (machine.core_of (whole_of book)) name ≡ false
    free = ap (λ c. has_sheet c name) (whole_core book) ∙ new

    same_count : count ≡ length (whole_of book).sheets
    same_count = counted ∙ sym (length-map book.sheets (whole_sheet book.strings))

    -- the place is past the end
    pub past_told : count < index → first_refusal (insert_causes (whole_of book) name index given) ≡ Some OutOfRange
    past_told lt = rw good (rw free (rw (lt-ltb (length (whole_of book).sheets) index (subst (λ k. k < index) same_count lt)) refl))

    -- it isn't, so the id alone is left to tell
    pub id_told : index ≤ count → first_refusal (insert_causes (whole_of book) name index given)
        ≡ first_refusal ((is_live (core_of book) given, IdLive) ∷ (is_none (chosen_id (core_of book) given), IdsUsedUp) ∷ [])
    id_told le =
        rw good (rw free (rw (le-ltb (length (whole_of book).sheets) index (subst (λ k. index ≤ k) same_count le)) (ap (λ c. first_refusal ((is_live c given, IdLive) ∷ (is_none (chosen_id c given), IdsUsedUp) ∷ [])) (whole_core book))))

-- where nothing refuses it, nothing does with the id that it gets
module _ (book : Book) (valid : IsValidBook book) (name : List ℕ) (index : ℕ) where
  abbrev whole : machine.Book
  whole = whole_of book

  abbrev core : CoreBook
  core = machine.core_of (whole_of book)

  -- an id that is above 0 and no sheet's
  with_id : (given : Option ℕ) (id : ℕ) → first_refusal (insert_causes whole name index given) ≡ None → nat_eq id 0 ≡ false → list_any (nat_eq id) (ids_of core) ≡ false → first_refusal (insert_causes whole name index (Some id)) ≡ None
  with_id given id none some free =
      let clear = none_holds (insert_causes whole name index given) none in
      rw clear.0 (rw clear.1.0 (rw clear.1.1.0 (rw some (rw free refl))))

  pub accepts_chosen : (given : Option ℕ) (id : ℕ) → chosen_id (core_of book) given ≡ Some id → first_refusal (insert_causes (whole_of book) name index given) ≡ None → first_refusal (insert_causes (whole_of book) name index (Some id)) ≡ None
  accepts_chosen None id chosen none =
      let clear = none_holds (insert_causes whole name index None) none in
      let fresh : fresh_id core ≡ Some id = ap fresh_id (whole_core book) ∙ chosen in
      let fits = fresh_fits whole valid.whole (Some id) (sym fresh) refl in
      with_id None id none (ne_eqb id 0 (let some = fits.0.0 in omega (arith, some))) fits.1
  accepts_chosen (Some other) id chosen none = subst (λ o. first_refusal (insert_causes whole name index o) ≡ None) chosen none

-- What it does. ----

module _ (name : List ℕ) (index : ℕ) (given : Option ℕ) where
  -- a refusal
  pub insert_refused : (now : ModelState) → IsValidBook now.book → (e : BookError) → (told : Refusal) × (refusal_of e ≡ Some told) × (first_refusal (insert_causes (whole_of now.book) name index given) ≡ Some told)
      → (result : Result (Unit {0}) BookError) → IsErr result × IsErrAnd result (λ f. f ≡ e) → Does sheet_step (InsertSheet name index given) no_fields result now now
  unfolding insert_sheet_step
  insert_refused now valid e told (Ok done) h = let no : false ≡ true = h.0 in cc
  insert_refused now valid e told (Err f) h = record {
    done =
        subst (Refused Wanted (insert_sheet_step name index given (whole_of now.book)) now now) (sym (ap refusal_of h.1 ∙ told.1))
        (ap (λ o. unless o (changed_by (sheets.with_inserted_sheet index (unwrap_or (chosen_id (machine.core_of (whole_of now.book)) given) 0) name) (whole_of now.book)) []) told.2, refl);
    before = valid;
    after = valid;
  }

  module _ (old : ModelState) (valid : IsValidBook old.book) (id : ℕ) (chosen : chosen_id (core_of old.book) given ≡ Some id) (none : first_refusal (insert_causes (whole_of old.book) name index given) ≡ None) where
    abbrev left : machine.Book
    left = changed_by (sheets.with_inserted_sheet index id name) (whole_of old.book)

    accepted : insert_sheet_step name index given (whole_of old.book) ≡ Ok (left, [])
    unfolding insert_sheet_step
    accepted =
        ap (λ o. unless o (changed_by (sheets.with_inserted_sheet index (unwrap_or (chosen_id (machine.core_of (whole_of old.book)) given) 0) name) (whole_of old.book)) []) none
        ∙ ap (λ o. let made : Stepped machine.Book = Ok (changed_by (sheets.with_inserted_sheet index (unwrap_or o 0) name) (whole_of old.book), []) in made) (ap (λ c. chosen_id c given) (whole_core old.book) ∙ chosen)

    -- memory ran out
    pub insert_wanted : (new : ModelState) → new ≡ old → (result : Result (Unit {0}) BookError) → IsErr result × IsErrAnd result (λ f. f ≡ errors.OutOfMemory) → Does sheet_step (InsertSheet name index given) no_fields result old new
    insert_wanted new same (Ok done) h = let no : false ≡ true = h.0 in cc
    insert_wanted new same (Err f) h = record {
      done = subst (Refused Wanted (insert_sheet_step name index given (whole_of old.book)) old new) (sym (ap refusal_of h.1)) (subst IsDone (sym accepted) tt, same);
      before = valid;
      after = subst (λ (m : ModelState). IsValidBook m.book) (sym same) valid;
    }

    pub inserts : (new : ModelState) → is_given_id (Some id) ≡ true → new.book ≡ book_changed_by (with_inserted_sheet index id name) old.book → Does sheet_step (InsertSheet name index given) no_fields (Ok tt) old new
    inserts new small is = record {
      done =
          accepted
          ∙ ap (λ (w : machine.Book). let made : Stepped machine.Book = Ok (w, []) in made)
          (sym (ap whole_of is ∙ whole_changed (with_inserted_sheet index id name) (sheets.with_inserted_sheet index id name) (whole_inserted index id name) old.book));
      before = valid;
      after = subst IsValidBook (sym is) (inserted_valid old.book valid index id name small (accepts_chosen old.book valid name index given id chosen none));
    }
