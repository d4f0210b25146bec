-- A row or a column of a sheet that is given a style: what that leaves of a book, and of a model.
use Rattle.std.proofs.Common.{◌≡◌, ℕ, zero, suc, List, [], ◌∷◌, ◌++◌, Bool, true, false, cond, length, take, Option, Some, None, Result, Ok, Err, IsErr, IsErrAnd, refl, sym, ap, subst, ◌∙◌, arith}
use Rattle.std.specs.List.{slice_get}
use Rattle.std.specs.Prelude.{is_some}
use Rattle.std.proofs.lemmas.List.{take_all, take-append-le}
use Rattle.ic_laws.proofs.core.Lists.{all_updated}
use Rattle.ic_laws.specs.CoreStep.{updated_at}
use Rattle.ic_cells.specs.Style.{first_place, style_number, with_style_in}
use Rattle.ic_cells.specs.declared.style.Style.{Style}
use Rattle.ic_grid.specs.declared.grid.Grid.{Grid}
use Rattle.ic_machine.proofs.valid.StylesStay.{styles_stay}
use Rattle.ic_machine.specs.Book as machine
use Rattle.ic_machine.specs.Book.{Stepped, unless, unless_refused}
use Rattle.ic_machine.specs.Kept.{StaysValid}
use Rattle.ic_machine.specs.Refusal.{Refusal, first_refusal}
use Rattle.ic_machine.specs.Styling.{numbered}
use Rattle.ic_machine.specs.Valid as valid_machine
use Rattle.ic_machine.specs.subjects.Styles as styles
use Rattle.ic_machine.specs.subjects.Styles.{set_column_step, set_row_step, with_grid_style}
use Rattle.ic_sheets.specs.Sheet.{Sheet}
use Rattle.ic_parts.specs.Book.{Book, HasStrings, IsValidBook, ModelState, whole_grid}
use Rattle.ic_parts.specs.Does.{DoesStep, IsDone, Refused, Wanted}
use Rattle.ic_parts.specs.Fields.{no_fields}
use Rattle.ic_parts.specs.Refused.{TellsOnly, refusal_of}
use Rattle.ic_parts.specs.Styled.{line_causes, set_line_step, whole_with_line_style, with_line_style}
use Rattle.ic_parts.specs.Whole.{whole_of, whole_sheet}
use Rattle.ic_parts.specs.declared.error.BookError.{BookError}
use Rattle.ic_parts.specs.declared.error.BookError.TheVariants as errors
use Rattle.ic_parts.specs.declared.styled.Line.{Line}
use Rattle.ic_parts.specs.declared.styled.Line.TheVariants as lines
use Rattle.ic_parts.proofs.ReadLemmas.{sheet_found, sheet_lacking}
use Rattle.ic_parts.proofs.WrittenLemmas.{updated_alike}

-- two changes that make the same of the item at an index
pub updated_as : {X : Type 0} (f g : X → X) (i : ℕ) (xs : List X) (x : X) → slice_get xs i ≡ Some x → f x ≡ g x → updated_at f i xs ≡ updated_at g i xs
updated_as f g i [] x at e = refl
updated_as {X} f g zero (y ∷ xs) x at e = let same : x ≡ y = cc in ap (λ z. z ∷ xs) (subst (λ (z : X). f z ≡ g z) same e)
updated_as f g (suc i) (y ∷ xs) x at e = ap (λ rest. y ∷ rest) (updated_as f g i xs x at e)

-- a style that was put at the end is taken back
pub style_taken_back : (style : Style) (all : List Style) → take (length all) (with_style_in style all) ≡ all
style_taken_back style all = by_place (is_some (first_place style all))
  where
    by_place : (b : Bool) → take (length all) (cond b all (all ++ style ∷ [])) ≡ all
    by_place true = take_all (length all) all (omega arith)
    by_place false = take-append-le (length all) all (style ∷ []) (omega arith) ∙ take_all (length all) all (omega arith)

-- what a style for a row or a column leaves of a sheet ----

line_seen : (strings : List (List ℕ)) (line : Line) (number : ℕ) (grid : Grid) → whole_grid strings (with_line_style line number grid) ≡ whole_with_line_style line number (whole_grid strings grid)
line_seen strings (lines.Row row) number grid = refl
line_seen strings (lines.Column column) number grid = refl

line_strings : (count : ℕ) (line : Line) (number : ℕ) (grid : Grid) → HasStrings count grid → HasStrings count (with_line_style line number grid)
line_strings count (lines.Row row) number grid h = h
line_strings count (lines.Column column) number grid h = h

line_stays : (b : machine.Book) (index : ℕ) (line : Line) (style : Style) → valid_machine.IsValidBook b → StaysValid (set_line_step index line style b)
unfolding set_row_step set_column_step
line_stays b index (lines.Row row) style valid = styles_stay b (styles.SetRowStyle index row style) valid
line_stays b index (lines.Column column) style valid = styles_stay b (styles.SetColumnStyle index column style) valid

-- of a book ----

abbrev pub with_line : ℕ → Line → ℕ → List Style → Book → Book
with_line index line number all book = record book { sheets = updated_at (λ s. record s { grid = with_line_style line number s.grid }) index book.sheets; styles = all }

abbrev pub styled_book : ℕ → Line → Style → Book → Book
styled_book index line style book = with_line index line (style_number style book.styles) (with_style_in style book.styles) book

module _ (book : Book) (valid : IsValidBook book) (index : ℕ) (line : Line) (style : Style) (s : Sheet) (at : slice_get book.sheets index ≡ Some s) where
  abbrev number : ℕ
  number = style_number style book.styles

  abbrev left : machine.Book
  left = with_grid_style (whole_of book) index (whole_sheet book.strings s) (whole_with_line_style line) (numbered style book.styles)

  abbrev left_sheet : machine.Sheet
  left_sheet = record (whole_sheet book.strings s) { grid = whole_with_line_style line number (whole_grid book.strings s.grid) }

  whole_left : whole_of (styled_book index line style book) ≡ left
  whole_left =
      ap (λ (sheets : List machine.Sheet). let b : machine.Book = record (whole_of book) { sheets = sheets; styles = with_style_in style book.styles } in b)
      (updated_alike (whole_sheet book.strings) (λ s. record s { grid = with_line_style line number s.grid }) (λ s. left_sheet) index book.sheets s at
      (ap (λ (g : machine.Grid). let made : machine.Sheet = record (whole_sheet book.strings s) { grid = g } in made) (line_seen book.strings line number s.grid)))

  line_step : (o : Option Refusal) → first_refusal (line_causes line) ≡ o → set_line_step index line style (whole_of book) ≡ unless o left []
  line_step o e =
      sheet_found (record { book = book; has_all = [] }) index (λ sheet. unless_refused (line_causes line) (with_grid_style (whole_of book) index sheet (whole_with_line_style line) (numbered style book.styles)) []) s at
      ∙ ap (λ o. unless o left []) e

  pub styled_valid : first_refusal (line_causes line) ≡ None → IsValidBook (styled_book index line style book)
  styled_valid clear = record {
    whole = subst valid_machine.IsValidBook (sym whole_left) (subst StaysValid (line_step None clear) (line_stays (whole_of book) index line style valid.whole));
    strings = all_updated (λ (s : Sheet). HasStrings (length book.strings) s.grid) (λ s. record s { grid = with_line_style line number s.grid }) (λ s h. line_strings (length book.strings) line number s.grid h) index book.sheets valid.strings;
  }

-- of a model ----

module _ (old : ModelState) (valid : IsValidBook old.book) (index : ℕ) (line : Line) (style : Style) where
  abbrev made : Stepped machine.Book
  made = set_line_step index line style (whole_of old.book)

  pub lacks_line_sheet : slice_get old.book.sheets index ≡ None → DoesStep Wanted (set_line_step index line style (whole_of old.book)) no_fields (Err errors.InvalidSheet) old old
  lacks_line_sheet none = record {
    done = (sheet_lacking old index (λ sheet. unless_refused (line_causes line) (with_grid_style (whole_of old.book) index sheet (whole_with_line_style line) (numbered style old.book.styles)) []) none, refl);
    before = valid;
    after = valid;
  }

  module _ (s : Sheet) (at : slice_get old.book.sheets index ≡ Some s) where
    pub refuses_line : (e : BookError) → TellsOnly (let r : Result (Unit {0}) BookError = Err e in r) (first_refusal (line_causes line)) → (r : Result (Unit {0}) BookError) → IsErr r × IsErrAnd r (λ f. f ≡ e)
        → DoesStep Wanted (set_line_step index line style (whole_of old.book)) no_fields r old old
    refuses_line e tells (Ok value) is = let no : false ≡ true = is.0 in cc
    refuses_line e tells (Err f) is = record {
      done = subst (Refused Wanted made old old) (sym (ap refusal_of is.1 ∙ tells.1)) (line_step old.book valid index line style s at (Some tells.0) tells.2, refl);
      before = valid;
      after = valid;
    }

    pub wants_line : first_refusal (line_causes line) ≡ None → (e : BookError) → e ≡ errors.OutOfMemory → (new : ModelState) → new ≡ old → DoesStep Wanted (set_line_step index line style (whole_of old.book)) no_fields (Err e) old new
    wants_line clear e is new same = record {
      done = subst (Refused Wanted made old new) (sym (ap refusal_of is)) (subst IsDone (sym (line_step old.book valid index line style s at None clear)) tt, same);
      before = valid;
      after = subst (λ (m : ModelState). IsValidBook m.book) (sym same) valid;
    }

    pub wants_line_memory : first_refusal (line_causes line) ≡ None → (r : Result (Unit {0}) BookError) → IsErr r × IsErrAnd r (λ f. f ≡ errors.OutOfMemory) → (new : ModelState) → new ≡ old
        → DoesStep Wanted (set_line_step index line style (whole_of old.book)) no_fields r old new
    wants_line_memory clear (Ok value) is new same = let no : false ≡ true = is.0 in cc
    wants_line_memory clear (Err e) is new same = wants_line clear e is.1 new same

    pub styles_line : first_refusal (line_causes line) ≡ None → (new : ModelState) → new ≡ record old { book = styled_book index line style old.book } → DoesStep Wanted (set_line_step index line style (whole_of old.book)) no_fields (Ok tt) old new
    styles_line clear new becomes = record {
      done =
          line_step old.book valid index line style s at None clear
          ∙ ap (λ (b : machine.Book). let done : Stepped machine.Book = Ok (b, []) in done) (sym (ap (λ (m : ModelState). whole_of m.book) becomes ∙ whole_left old.book valid index line style s at));
      before = valid;
      after = subst (λ (m : ModelState). IsValidBook m.book) (sym becomes) (styled_valid old.book valid index line style s at clear);
    }
