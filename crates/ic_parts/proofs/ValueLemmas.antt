-- A value that is written into a cell, as the core sees it.
use Rattle.std.proofs.Common.{◌≡◌, ℕ, ℤ, ◌++◌, List, [], ◌∷◌, Bool, not, length, Option, Some, None, option_map, Ok, Err, refl, sym, ap, subst, ◌∙◌, arith}
use Rattle.std.proofs.lemmas.Option.{slice_get-map}
use Rattle.std.specs.List.{slice_get}
use Rattle.ic_laws.proofs.core.Lists.{all_updated}
use Rattle.ic_laws.specs.CoreBook.{CellPlace}
use Rattle.ic_laws.specs.Position.{is_column, is_row}
use Rattle.ic_cells.specs.declared.cell.Cell.{Cell}
use Rattle.ic_cells.specs.declared.style.Style.{Style}
use Rattle.ic_grid.specs.Contents.{Contents}
use Rattle.ic_grid.specs.Merges.{is_covered}
use Rattle.ic_grid.specs.Shape.{celled, is_loose}
use Rattle.ic_machine.proofs.contents.AlikeGrid.{is_fixed_at-seen, style_at-seen, written-seen}
use Rattle.ic_machine.proofs.contents.AlikeLemmas.{cells_are_contents}
use Rattle.ic_machine.proofs.valid.ValidLemmas.{holds_at}
use Rattle.ic_machine.proofs.valid.WritingSteps.{IsGood, write_stays}
use Rattle.ic_machine.specs.Book as machine
use Rattle.ic_machine.specs.Book.{Stepped, found_or, unless, with_sheet}
use Rattle.ic_machine.specs.Content.{Content, content_of, held}
use Rattle.ic_machine.specs.Kept.{StaysValid}
use Rattle.ic_machine.specs.Refusal.{ArrayPart, InvalidColumn, InvalidRow, InvalidSheet, MergedPart, Refusal, first_refusal}
use Rattle.ic_machine.specs.Styling.{Numbered, restyled}
use Rattle.ic_machine.specs.Valid.{HasFormula}
use Rattle.ic_machine.specs.subjects.Writing.{Written, place_causes, with_content, with_written, write_causes, write_step}
use Rattle.ic_sheets.specs.Sheet.{Sheet, with_cell_in}
use Rattle.ic_parts.specs.Book.{Book, HasStrings, IsValidBook}
use Rattle.ic_parts.specs.Does.{IsDone}
use Rattle.ic_parts.specs.Values.{IsValueCell, changed_style, content_written, value_causes, value_refusal, value_refusal_in, value_step, with_value}
use Rattle.ic_parts.specs.Whole.{whole_of, whole_sheet, whole_tab}
use Rattle.ic_parts.proofs.GridLemmas.{strings_with}
use Rattle.ic_parts.proofs.WholeLemmas.{amount_seen, index_seen}
use Rattle.ic_parts.proofs.WrittenLemmas.{updated_alike}

-- a sheet stands there where nothing refuses a value
pub there_in : (place : CellPlace) (o : Option Sheet) → value_refusal_in place o ≡ None → (s : Sheet) × (o ≡ Some s) × (first_refusal (value_causes s.grid place) ≡ None)
there_in place None e = cc
there_in place (Some s) e = (s, refl, e)

-- The machine's step. ----

module _ (book : Book) (index : ℕ) (row column : ℤ) (w : machine.Sheet → Written) where
  abbrev place : CellPlace
  place = (row, column)

  abbrev whole : machine.Book
  whole = whole_of book

  abbrev seen : Sheet → machine.Sheet
  seen s = whole_sheet book.strings s

  abbrev left_at : Sheet → machine.Book
  left_at s = with_written whole index (seen s) place (w (seen s))

  abbrev step_at : Option machine.Sheet → Stepped machine.Book
  step_at o = found_or InvalidSheet (option_map (λ sheet. unless (first_refusal (place_causes place ++ (write_causes sheet place ++ []))) (with_written whole index sheet place (w sheet)) []) o)

  step_is : write_step whole index place w [] ≡ step_at (option_map seen (slice_get book.sheets index))
  step_is = ap step_at (slice_get-map seen book.sheets index)

  causes_are : (s : Sheet) → first_refusal (place_causes place ++ (write_causes (seen s) place ++ [])) ≡ first_refusal (value_causes s.grid place)
  causes_are s =
      ap (λ (fixed : Bool). first_refusal ((not (is_row row), InvalidRow) ∷ (not (is_column column), InvalidColumn) ∷ (is_covered s.grid.merged_cells place, MergedPart) ∷ (fixed, ArrayPart) ∷ []))
      (is_fixed_at-seen (content_of book.strings) celled held (cells_are_contents book.strings) s.grid.cells place)

  step_told : (o : Option Sheet) (r : Refusal) → value_refusal_in place o ≡ Some r → step_at (option_map seen o) ≡ Err r
  step_told None r e = let is : InvalidSheet ≡ r = cc in ap (λ (x : Refusal). let made : Stepped machine.Book = Err x in made) is
  step_told (Some s) r e = ap (λ o. unless o (left_at s) []) (causes_are s ∙ e)

  step_done : (s : Sheet) → first_refusal (value_causes s.grid place) ≡ None → step_at (Some (seen s)) ≡ Ok (left_at s, [])
  step_done s e = ap (λ o. unless o (left_at s) []) (causes_are s ∙ e)

  pub step_refused : (r : Refusal) → value_refusal book index row column ≡ Some r → write_step (whole_of book) index (row, column) w [] ≡ Err r
  step_refused r e = step_is ∙ step_told (slice_get book.sheets index) r e

  pub step_accepted : value_refusal book index row column ≡ None → IsDone (write_step (whole_of book) index (row, column) w [])
  step_accepted e =
      let found = there_in place (slice_get book.sheets index) e in
      subst IsDone (sym (step_is ∙ ap (λ o. step_at (option_map seen o)) found.1 ∙ step_done found.0 found.2)) tt

module _ (book : Book) (valid : IsValidBook book) (index : ℕ) (row column : ℤ) (change : Style → Style) (cell : ℕ → Cell) where
  abbrev its_content : ℕ → Content
  its_content = λ style. content_of book.strings (cell style)

  abbrev its_place : CellPlace
  its_place = (row, column)

  abbrev its_whole : machine.Book
  its_whole = whole_of book

  abbrev as_seen : Sheet → machine.Sheet
  as_seen s = whole_sheet book.strings s

  module _ (is_value : IsValueCell (length book.strings) cell) where
    good : (s : machine.Sheet) → slice_get its_whole.sheets index ≡ Some s → IsGood (machine.notations_in its_whole) (machine.scene_in its_whole) s its_place (content_written change its_content s)
    good s e = record {
      loose = λ k. ap is_loose ((cells_are_contents book.strings).shape (cell k)) ∙ is_value.loose k;
      style = λ k. (cells_are_contents book.strings).style (cell k) ∙ is_value.style k;
      pool = (holds_at its_whole valid.whole index s e).pool;
      longer = omega (arith);
      stays = λ i lt. refl;
      formula = λ k. subst (HasFormula (machine.notations_in its_whole) (machine.scene_in its_whole) s its_place) (sym (index_seen book.strings (cell k) ∙ is_value.formula k)) tt;
      amount = λ k. amount_seen book.strings (length book.strings) (cell k) (is_value.string k);
    }

    stays : StaysValid (value_step book index row column change cell)
    stays = write_stays its_whole valid.whole index its_place (content_written change its_content) [] (λ s e r c. good s e)

    module _ (s : Sheet) (at_index : slice_get book.sheets index ≡ Some s) (none : first_refusal (value_causes s.grid its_place) ≡ None) where
      abbrev styled : Numbered
      styled = changed_style book s row column change

      abbrev sheet_with : ℕ → machine.Sheet
      sheet_with number = with_content its_place s.pool (content_of book.strings (cell number)) (as_seen s)

      left_is : left_at book index row column (content_written change its_content) s ≡ record (with_sheet its_whole index (sheet_with styled.number)) { styles = styled.styles }
      left_is =
          ap (λ number. let by : Numbered = restyled change number book.styles in let b : machine.Book = record (with_sheet its_whole index (sheet_with by.number)) { styles = by.styles } in b)
          (style_at-seen (content_of book.strings) celled held (cells_are_contents book.strings) s.grid.cells s.grid.rows s.grid.columns its_place)

      sheet_put : as_seen (record s { grid = with_cell_in its_place (cell styled.number) s.grid }) ≡ sheet_with styled.number
      sheet_put =
          ap (λ (m : Contents Content). let sheet : machine.Sheet = record { id = s.id; name = s.name; pool = s.pool; grid = record { contents = m; rows = s.grid.rows; columns = s.grid.columns; merges = s.grid.merged_cells }; tab = whole_tab s.tab } in sheet)
          (sym (written-seen (content_of book.strings) celled held (cells_are_contents book.strings) s.grid.cells its_place (cell styled.number)))

      pub step_leaves : value_step book index row column change cell ≡ Ok (whole_of (with_value index its_place cell styled book), [])
      step_leaves =
          step_is book index row column (content_written change its_content) ∙ ap (λ o. step_at book index row column (content_written change its_content) (option_map as_seen o)) at_index ∙ step_done book index row column (content_written change its_content) s none
          ∙ ap (λ (b : machine.Book). let made : Stepped machine.Book = Ok (b, []) in made)
          (left_is
          ∙ ap (λ (sheets : List machine.Sheet). let b : machine.Book = record its_whole { sheets = sheets; styles = styled.styles } in b)
          (sym (updated_alike as_seen (λ s. record s { grid = with_cell_in its_place (cell styled.number) s.grid }) (λ old. sheet_with styled.number) index book.sheets s at_index sheet_put)))

      pub value_valid : IsValidBook (with_value index its_place cell styled book)
      value_valid = record {
        whole = subst StaysValid step_leaves stays;
        strings = all_updated (λ (s : Sheet). HasStrings (length book.strings) s.grid) (λ s. record s { grid = with_cell_in its_place (cell styled.number) s.grid }) (λ s h. strings_with (length book.strings) its_place (cell styled.number) (is_value.string styled.number) s.grid h) index book.sheets valid.strings;
      }
