-- A book with another part of one sheet.
use Rattle.std.proofs.Common.{◌≡◌, ℕ, zero, suc, List, [], ◌∷◌, Bool, true, false, length, Option, Some, None, Ok, Err, option_map, refl, ap, sym, subst, ◌∙◌}
use Rattle.std.specs.List.{slice_get}
use Rattle.std.proofs.lemmas.Option.{slice_get-map}
use Rattle.ic_laws.proofs.core.Lists.{all_updated}
use Rattle.ic_laws.specs.CoreStep.{updated_at}
use Rattle.ic_machine.specs.Book as machine
use Rattle.ic_machine.specs.Book.{Stepped, found_or, on_sheet, put_in, with_sheet}
use Rattle.ic_machine.proofs.valid.ValidLemmas.{HoldsOf, holds_at, same_styles}
use Rattle.ic_machine.specs.Refusal.{InvalidSheet, Refusal}
use Rattle.ic_machine.specs.Valid as valid_machine
use Rattle.ic_machine.specs.Valid.{IsFrozen}
use Rattle.ic_sheets.specs.Sheet.{Sheet}
use Rattle.ic_sheets.specs.declared.tab.Tab.{Tab}
use Rattle.ic_parts.specs.Book.{Book, HasStrings, IsValidBook, ModelState, notations_in}
use Rattle.ic_parts.specs.Does.{IsDone, PartRefused, Refused, wants}
use Rattle.ic_parts.specs.Whole.{whole_of, whole_sheet, whole_tab}
use Rattle.ic_parts.proofs.WrittenLemmas.{updated_alike}

-- lists whose item at an index is changed into itself stay
pub updated_same : {X : Type 0} (f : X → X) (i : ℕ) (xs : List X) (x : X) → slice_get xs i ≡ Some x → f x ≡ x → updated_at f i xs ≡ xs
updated_same f i [] x at e = refl
updated_same {X} f zero (y ∷ xs) x at e = let same : x ≡ y = cc in ap (λ z. z ∷ xs) (subst (λ (z : X). f z ≡ z) same e)
updated_same f (suc i) (y ∷ xs) x at e = ap (λ rest. y ∷ rest) (updated_same f i xs x at e)

-- a book with another tab for the sheet at an index ----

abbrev pub with_tab : ℕ → Tab → Book → Book
with_tab index tab book = record book { sheets = updated_at (λ s. record s { tab = tab }) index book.sheets }

module _ (index : ℕ) (tab : Tab) (book : Book) (valid : IsValidBook book) (sheet : Sheet) (at : slice_get book.sheets index ≡ Some sheet) where
  abbrev pub old_sheet : machine.Sheet
  old_sheet = whole_sheet book.strings sheet

  abbrev new_sheet : machine.Sheet
  new_sheet = record old_sheet { tab = whole_tab tab }

  pub old_there : slice_get (whole_of book).sheets index ≡ Some old_sheet
  old_there = slice_get-map (whole_sheet book.strings) book.sheets index ∙ ap (option_map (whole_sheet book.strings)) at

  pub old_holds : HoldsOf (notations_in book) (machine.scene_in (whole_of book)) (length book.styles) old_sheet
  old_holds = holds_at (whole_of book) valid.whole index old_sheet old_there

  -- few enough of its rows and columns stay in sight
  pub frozen_there : IsFrozen (whole_tab sheet.tab)
  frozen_there = old_holds.layout.frozen

  pub whole_with_tab : whole_of (with_tab index tab book) ≡ with_sheet (whole_of book) index new_sheet
  whole_with_tab =
      ap (λ (sheets : List machine.Sheet). let b : machine.Book = record (whole_of book) { sheets = sheets } in b)
      (updated_alike (whole_sheet book.strings) (λ s. record s { tab = tab }) (λ s. new_sheet) index book.sheets sheet at refl)

  pub valid_with_tab : IsFrozen (whole_tab tab) → IsValidBook (with_tab index tab book)
  valid_with_tab frozen = record {
    whole =
        subst valid_machine.IsValidBook (sym whole_with_tab)
        (same_styles (whole_of book) valid.whole index old_sheet new_sheet old_there refl refl
        (record {
          pool = old_holds.pool;
          inside = old_holds.inside;
          formulas = old_holds.formulas;
          styles = old_holds.styles;
          arrays = old_holds.arrays;
          merges = old_holds.merges;
          layout = record { frozen = frozen; lines = old_holds.layout.lines };
          amounts = old_holds.amounts;
        }));
    strings = all_updated (λ (s : Sheet). HasStrings (length book.strings) s.grid) (λ s. record s { tab = tab }) (λ s h. h) index book.sheets valid.strings;
  }

-- what is done to a part of a sheet is done to the book ----

module _ (book : Book) (index : ℕ) where
  abbrev strings : List (List ℕ)
  strings = book.strings

  pub found : (step : machine.Sheet → Stepped machine.Sheet) (sheet : Sheet) → slice_get book.sheets index ≡ Some sheet
      → on_sheet (whole_of book) index step ≡ put_in (with_sheet (whole_of book) index) (step (whole_sheet strings sheet))
  found step sheet is =
      ap (λ o. found_or InvalidSheet (option_map (λ s. put_in (with_sheet (whole_of book) index) (step s)) o)) (slice_get-map (whole_sheet strings) book.sheets index ∙ ap (option_map (whole_sheet strings)) is)

  pub missing : (step : machine.Sheet → Stepped machine.Sheet) → slice_get book.sheets index ≡ None → on_sheet (whole_of book) index step ≡ Err InvalidSheet
  missing step none =
      ap (λ o. found_or InvalidSheet (option_map (λ s. put_in (with_sheet (whole_of book) index) (step s)) o)) (slice_get-map (whole_sheet strings) book.sheets index ∙ ap (option_map (whole_sheet strings)) none)

pub done_in : {A B : Type 0} (f : A → B) (made : Stepped A) → IsDone made → IsDone (put_in f made)
done_in f (Ok done) h = tt
done_in f (Err refusal) h = h

pub refused_in : {A B : Type 0} (f : A → B) (memory : Bool) (made : Stepped A) (refusal : Option Refusal) → PartRefused memory made refusal → PartRefused memory (put_in f made) refusal
refused_in f memory made (Some refusal) h = ap (put_in f) h
refused_in f memory made None h = (h.0, done_in f made h.1)

pub part_refused : (memory : Bool) (made : Stepped machine.Book) (old new : ModelState) (refusal : Option Refusal) → PartRefused memory made refusal → new ≡ old → Refused (wants memory) made old new refusal
part_refused memory made old new (Some refusal) h same = (h, same)
part_refused true made old new None h same = (h.1, same)
part_refused false made old new None h same = let no : false ≡ true = h.0 in cc
