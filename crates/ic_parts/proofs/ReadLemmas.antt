-- What a call does that reads one sheet.
use Rattle.std.proofs.Common.{◌≡◌, ℕ, List, Option, Some, None, Ok, Err, option_map, refl, ap, sym, subst, ◌∙◌}
use Rattle.std.specs.List.{slice_get}
use Rattle.std.proofs.lemmas.Option.{slice_get-map}
use Rattle.ic_machine.specs.Book as machine
use Rattle.ic_machine.specs.Book.{Stepped, at_sheet, found_or, unless, unless_refused}
use Rattle.ic_machine.specs.Refusal.{Causes, InvalidSheet, Refusal, first_refusal}
use Rattle.ic_machine.specs.Reply.{Field}
use Rattle.ic_sheets.specs.Sheet.{Sheet}
use Rattle.ic_parts.specs.Book.{IsValidBook, ModelState}
use Rattle.ic_parts.specs.Does.{DoesStep, IsDone, Memory, Refused, Wanted}
use Rattle.ic_parts.specs.Refused.{refusal_of}
use Rattle.ic_parts.specs.Whole.{whole_of, whole_sheet}
use Rattle.ic_parts.specs.declared.error.BookError.{BookError}
use Rattle.ic_parts.specs.declared.error.BookError.TheVariants as errors

module _ (now : ModelState) (index : ℕ) where
  -- a step at an index, where there is the sheet, and where there is none
  pub sheet_found : (step : machine.Sheet → Stepped machine.Book) (s : Sheet) → slice_get now.book.sheets index ≡ Some s
      → at_sheet (whole_of now.book) index step ≡ step (whole_sheet now.book.strings s)
  sheet_found step s is =
      ap (λ o. found_or InvalidSheet (option_map step o)) (slice_get-map (whole_sheet now.book.strings) now.book.sheets index ∙ ap (option_map (whole_sheet now.book.strings)) is)

  pub sheet_lacking : (step : machine.Sheet → Stepped machine.Book) → slice_get now.book.sheets index ≡ None → at_sheet (whole_of now.book) index step ≡ Err InvalidSheet
  sheet_lacking step none =
      ap (λ o. found_or InvalidSheet (option_map step o)) (slice_get-map (whole_sheet now.book.strings) now.book.sheets index ∙ ap (option_map (whole_sheet now.book.strings)) none)

  module _ (valid : IsValidBook now.book) {T : Type 0} (memory : Memory) (fields : T → List Field) (causes : Causes) (told : machine.Sheet → List Field) where
    abbrev reads : Stepped machine.Book
    reads = at_sheet (whole_of now.book) index (λ sheet. unless_refused causes (whole_of now.book) (told sheet))

    its_reading : (s : Sheet) → slice_get now.book.sheets index ≡ Some s → (o : Option Refusal) → first_refusal causes ≡ o
        → reads ≡ unless o (whole_of now.book) (told (whole_sheet now.book.strings s))
    its_reading s is o e =
        sheet_found (λ sheet. unless_refused causes (whole_of now.book) (told sheet)) s is ∙ ap (λ o. unless o (whole_of now.book) (told (whole_sheet now.book.strings s))) e

    pub sheet_told : (s : Sheet) → slice_get now.book.sheets index ≡ Some s → first_refusal causes ≡ None → (value : T) → fields value ≡ told (whole_sheet now.book.strings s)
        → DoesStep memory reads fields (Ok value) now now
    sheet_told s is none value e = record {
      done = its_reading s is None none ∙ ap (λ (fs : List Field). let done : Stepped machine.Book = Ok (whole_of now.book, fs) in done) (sym e);
      before = valid;
      after = valid;
    }

    pub sheet_missing : slice_get now.book.sheets index ≡ None → (e : BookError) → e ≡ errors.InvalidSheet → DoesStep memory reads fields (Err e) now now
    sheet_missing none e is = record {
      done =
          subst (Refused memory reads now now) (sym (ap refusal_of is))
          (sheet_lacking (λ sheet. unless_refused causes (whole_of now.book) (told sheet)) none, refl);
      before = valid;
      after = valid;
    }

    pub sheet_refused : (s : Sheet) → slice_get now.book.sheets index ≡ Some s → (refusal : Refusal) → first_refusal causes ≡ Some refusal → (e : BookError) → refusal_of e ≡ Some refusal
        → DoesStep memory reads fields (Err e) now now
    sheet_refused s is refusal first e tells = record {
      done = subst (Refused memory reads now now) (sym tells) (its_reading s is (Some refusal) first, refl);
      before = valid;
      after = valid;
    }

  -- memory ran out
  pub sheet_wants : (valid : IsValidBook now.book) {T : Type 0} (fields : T → List Field) (causes : Causes) (told : machine.Sheet → List Field) (s : Sheet) → slice_get now.book.sheets index ≡ Some s
      → first_refusal causes ≡ None → (e : BookError) → e ≡ errors.OutOfMemory
      → DoesStep Wanted (at_sheet (whole_of now.book) index (λ sheet. unless_refused causes (whole_of now.book) (told sheet))) fields (Err e) now now
  sheet_wants valid fields causes told s is none e out = record {
    done =
        subst (Refused Wanted (at_sheet (whole_of now.book) index (λ sheet. unless_refused causes (whole_of now.book) (told sheet))) now now) (sym (ap refusal_of out))
        (subst IsDone (sym (its_reading valid Wanted fields causes told s is None none)) tt, refl);
    before = valid;
    after = valid;
  }
