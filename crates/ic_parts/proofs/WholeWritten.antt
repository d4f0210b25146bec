-- A formula that is written into a cell, as the whole machine writes it.
use Rattle.std.proofs.Common.{◌≡◌, ℕ, pos, List, [], ◌∷◌, ◌++◌, Bool, true, false, not, length, Option, Some, None, option_map, Result, Ok, Err, refl, sym, ap, ap₂, subst, ◌∙◌, if◌then◌else◌, codes, IfSome, OnOk, OnErr}
use Rattle.std.specs.List.{slice_get}
use Rattle.std.proofs.lemmas.Option.{slice_get-map}
use Rattle.ic_laws.proofs.core.Lists.{all_updated}
use Rattle.ic_laws.specs.CoreBook.{CellPlace, CoreBook}
use Rattle.ic_laws.specs.FormulaReading.{cell_formula}
use Rattle.ic_laws.specs.Notations.{english}
use Rattle.ic_laws.specs.Position.{is_column, is_row}
use Rattle.ic_laws.specs.declared.tree.Formula.{Formula}
use Rattle.ic_tables.proofs.Lookups.{is_some-find}
use Rattle.ic_tables.proofs.WellFormed.{has_english}
use Rattle.ic_tables.specs.Tables.{language_of, locale_of}
use Rattle.ic_tables.specs.declared.language.FunctionKind.{FunctionKind}
use Rattle.ic_tables.specs.declared.language.Language.{Language}
use Rattle.ic_tables.specs.declared.locale.NamedLocale.{NamedLocale}
use Rattle.ic_tree.proofs.NotationLaws.{knows_language_is, knows_locale_is}
use Rattle.ic_cells.specs.declared.cell.ArrayKind.TheVariants as arrays
use Rattle.ic_cells.specs.declared.cell.Cell.{Cell}
use Rattle.ic_cells.specs.declared.value.FormulaValue.TheVariants as fvalues
use Rattle.ic_grid.specs.Contents.{Contents}
use Rattle.ic_grid.specs.Merges.{is_covered}
use Rattle.ic_grid.specs.Prepare.{written}
use Rattle.ic_grid.specs.Shape.{celled}
use Rattle.ic_machine.proofs.contents.AlikeGrid.{is_fixed_at-seen, style_at-seen, written-seen}
use Rattle.ic_machine.proofs.contents.AlikeLemmas.{cells_are_contents}
use Rattle.ic_machine.proofs.contents.PlacedLemmas.{placed_index}
use Rattle.ic_machine.proofs.valid.WritingSteps.{text_good, write_stays}
use Rattle.ic_machine.specs.Book as machine
use Rattle.ic_machine.specs.Book.{Stepped, found_or, style_number_at, unless, with_sheet}
use Rattle.ic_machine.specs.Content.{AnchorContent, Content, FormulaContent, content_of, held}
use Rattle.ic_machine.specs.InForce.{InForce, all_there, in_force}
use Rattle.ic_machine.specs.Kept.{StaysValid}
use Rattle.ic_machine.specs.Placed.{index_in_pool, is_dynamic, pool_with}
use Rattle.ic_machine.specs.Refusal.{ArrayPart, Causes, InvalidColumn, InvalidRow, InvalidSheet, MergedPart, first_refusal}
use Rattle.ic_machine.specs.Styling.{Numbered, restyled}
use Rattle.ic_machine.specs.subjects.Writing.{formula_at_place, formula_content, formula_written, place_causes, unquoted, with_content, with_written, write_causes}
use Rattle.ic_sheets.specs.Sheet.{Sheet, formula_cell, with_cell_in}
use Rattle.ic_sheets.specs.declared.sheet.FormulaKind.TheVariants as kinds_of
use Rattle.ic_parts.specs.Book.{Book, HasStrings, IsValidBook, ModelState, notations_in, whole_of, whole_sheet, whole_tab}
use Rattle.ic_parts.specs.Does.{DoesStep, IsDone, Refused, WantedIn}
use Rattle.ic_parts.specs.Fields.{no_fields}
use Rattle.ic_parts.specs.Refused.{Tells}
use Rattle.ic_parts.specs.Written.{WritesFormula, kind_of, put_formula_step, value_causes, value_refusal, value_refusal_in, with_cell, written_formula, written_style}
use Rattle.ic_parts.specs.declared.error.BookError.{BookError}
use Rattle.ic_parts.proofs.GridLemmas.{strings_written}
use Rattle.ic_parts.proofs.WholeLemmas.{whole_core}
use Rattle.ic_parts.proofs.WrittenLemmas.{updated_alike}
use Rattle.ic_laws.proofs.General.{some_there as there}

-- the notation in force of a valid book ----

-- English is there
pub english_there : (book : Book) → IsValidBook book → (l : Language) × (language_of book.tables english ≡ Some l)
english_there book valid = there (language_of book.tables english) (is_some-find (λ (l : Language). l.code) (codes "en") book.tables.languages ∙ (has_english book.tables valid.whole.tables).0)

-- and so are the locale and the language in force
pub locale_there : (book : Book) → IsValidBook book → (l : NamedLocale) × (locale_of book.tables book.locale ≡ Some l)
locale_there book valid = there (locale_of book.tables book.locale) (sym (knows_locale_is book.tables book.locale) ∙ valid.whole.locale)

pub language_there : (book : Book) → IsValidBook book → (l : Language) × (language_of book.tables book.language ≡ Some l)
language_there book valid = there (language_of book.tables book.language) (sym (knows_language_is book.tables book.language) ∙ valid.whole.language)

pub in_force_there : (book : Book) → IsValidBook book → (f : InForce) × (in_force (whole_of book) ≡ Some f)
in_force_there book valid =
    let l = locale_there book valid in
    let language = language_there book valid in
    let beside = english_there book valid in (
      record { locale = l.0.locale; language = language.0; beside = beside.0 },
      ap (λ (o : Option NamedLocale). all_there o (language_of book.tables book.language) (language_of book.tables english)) l.1
          ∙ ap (λ (o : Option Language). all_there (Some l.0) o (language_of book.tables english)) language.1
          ∙ ap (λ (o : Option Language). all_there (Some l.0) (Some language.0) o) beside.1,
    )

-- what refuses a write ----

module _ (book : Book) (valid : IsValidBook book) (index : ℕ) (place : CellPlace) (body : List ℕ) where
  abbrev whole : machine.Book
  whole = whole_of book

  abbrev seen : Sheet → machine.Sheet
  seen s = whole_sheet book.strings s

  abbrev kinds : List FunctionKind
  kinds = book.tables.kinds

  -- the step on a sheet that is there
  abbrev causes_at : Sheet → Causes
  causes_at s = place_causes place ++ (write_causes (seen s) place ++ [])

  abbrev its_formula : Sheet → Formula
  its_formula s = formula_at_place whole (seen s) place body

  abbrev left_at : Sheet → machine.Book
  left_at s = with_written whole index (seen s) place (formula_written whole (seen s) (its_formula s))

  abbrev step_at : Option machine.Sheet → Stepped machine.Book
  step_at o =
      found_or InvalidSheet (option_map (λ sheet. unless (first_refusal (place_causes place ++ (write_causes sheet place ++ [])))
      (with_written whole index sheet place (formula_written whole sheet (formula_at_place whole sheet place body))) []) o)

  step_is : put_formula_step whole index place body ≡ step_at (option_map seen (slice_get book.sheets index))
  step_is = ap step_at (slice_get-map seen book.sheets index)

  causes_are : (s : Sheet) → first_refusal (causes_at s) ≡ first_refusal (value_causes s.grid place)
  causes_are s =
      ap (λ (fixed : Bool). first_refusal ((not (is_row place.0), InvalidRow) ∷ (not (is_column place.1), InvalidColumn) ∷ (is_covered s.grid.merged_cells place, MergedPart) ∷ (fixed, ArrayPart) ∷ []))
      (is_fixed_at-seen (content_of book.strings) celled held (cells_are_contents book.strings) s.grid.cells place)

  step_done : (s : Sheet) → first_refusal (value_causes s.grid place) ≡ None → step_at (Some (seen s)) ≡ Ok (left_at s, [])
  step_done s e = ap (λ o. unless o (left_at s) []) (causes_are s ∙ e)

  -- a write that nothing refuses
  sheet_there : (o : Option Sheet) → value_refusal_in place o ≡ None → (s : Sheet) × (o ≡ Some s) × (first_refusal (value_causes s.grid place) ≡ None)
  sheet_there None e = cc
  sheet_there (Some s) e = (s, refl, e)

  pub write_accepted : value_refusal book index place.0 place.1 ≡ None → IsDone (put_formula_step (whole_of book) index place body)
  write_accepted e =
      let found = sheet_there (slice_get book.sheets index) e in
      subst IsDone (sym (step_is ∙ ap (λ o. step_at (option_map seen o)) found.1 ∙ step_done found.0 found.2)) tt

  -- the whole book stays valid
  put_stays : StaysValid (put_formula_step (whole_of book) index place body)
  put_stays =
      write_stays whole valid.whole index place (λ sheet. formula_written whole sheet (formula_at_place whole sheet place body))
      [] (λ sheet e r c. text_good whole valid.whole index sheet e place body)

  module _ (s : Sheet) (at_index : slice_get book.sheets index ≡ Some s) (new : Book) (w : WritesFormula index s place body book new) (none : first_refusal (value_causes s.grid place) ≡ None) where
    abbrev formula : Formula
    formula = written_formula book s place body

    abbrev styled : Numbered
    styled = written_style book s place

    abbrev cell : Cell
    cell = formula_cell (kind_of kinds formula) w.at styled.number

    formula_is : its_formula s ≡ formula
    formula_is =
        ap (λ (c : CoreBook). cell_formula (notations_in book) c s.id place.0 place.1 body) (whole_core book)

    abbrev sheet_with : Formula → List Formula → ℕ → Numbered → machine.Sheet
    sheet_with f p i by = with_content place p (formula_content kinds f i by.number) (seen s)

    abbrev book_with : Formula → List Formula → ℕ → Numbered → machine.Book
    book_with f p i by = record (with_sheet whole index (sheet_with f p i by)) { styles = by.styles }

    styled_is : restyled unquoted (style_number_at (seen s).grid place.0 place.1) book.styles ≡ styled
    styled_is = ap (λ number. restyled unquoted number book.styles) (style_at-seen (content_of book.strings) celled held (cells_are_contents book.strings) s.grid.cells s.grid.rows s.grid.columns place)

    index_is : (index_in_pool formula s.pool ≡ w.at) × (pool_with formula s.pool ≡ w.pool)
    index_is = placed_index formula w.at s.pool w.pool w.placed

    left_is : left_at s ≡ book_with formula w.pool w.at styled
    left_is =
        ap (λ f. book_with f (pool_with f s.pool) (index_in_pool f s.pool) (restyled unquoted (style_number_at (seen s).grid place.0 place.1) book.styles)) formula_is
        ∙ ap (λ by. book_with formula (pool_with formula s.pool) (index_in_pool formula s.pool) by) styled_is
        ∙ ap₂ (λ p i. book_with formula p i styled) index_is.1 index_is.0

    content_is : content_of book.strings cell ≡ formula_content kinds formula w.at styled.number
    content_is =
        elim (is_dynamic kinds formula) as (λ b. content_of book.strings (formula_cell (if b then kinds_of.Dynamic else kinds_of.Single) w.at styled.number) ≡ (if b then AnchorContent w.at (pos 1, pos 1) arrays.Dynamic fvalues.Unevaluated styled.number else FormulaContent w.at fvalues.Unevaluated styled.number)) [
          | true ↦ refl
          | false ↦ refl
        ]

    -- the sheet with the cell, as a whole one
    abbrev put_in_sheet : Sheet → Sheet
    put_in_sheet s = record s { pool = w.pool; grid = with_cell_in place cell s.grid }

    sheet_put : seen (put_in_sheet s) ≡ sheet_with formula w.pool w.at styled
    sheet_put =
        ap (λ (m : Contents Content). let sheet : machine.Sheet = record { id = s.id; name = s.name; pool = w.pool; grid = record { contents = m; rows = s.grid.rows; columns = s.grid.columns; merges = s.grid.merged_cells }; tab = whole_tab s.tab } in sheet)
        (sym (written-seen (content_of book.strings) celled held (cells_are_contents book.strings) s.grid.cells place cell)
        ∙ ap (λ c. written held place c (seen s).grid.contents) content_is)

    abbrev left : Book
    left = with_cell index w.pool place cell styled.styles book

    left_done : put_formula_step (whole_of book) index place body ≡ Ok (whole_of left, [])
    left_done =
        step_is ∙ ap (λ o. step_at (option_map seen o)) at_index ∙ step_done s none
        ∙ ap (λ (b : machine.Book). let made : Stepped machine.Book = Ok (b, []) in made)
        (left_is
        ∙ ap (λ (sheets : List machine.Sheet). let b : machine.Book = record whole { sheets = sheets; styles = styled.styles } in b)
        (sym (updated_alike seen put_in_sheet (λ old. sheet_with formula w.pool w.at styled) index book.sheets s at_index sheet_put)))

    pub write_done : put_formula_step (whole_of book) index place body ≡ Ok (whole_of new, [])
    write_done = left_done ∙ ap (λ (b : Book). let made : Stepped machine.Book = Ok (whole_of b, []) in made) (sym w.is)

    pub written_valid : IsValidBook new
    written_valid = subst IsValidBook (sym w.is) (record {
      whole = subst StaysValid left_done put_stays;
      strings = all_updated (λ (s : Sheet). HasStrings (length book.strings) s.grid) put_in_sheet (λ s h. strings_written (length book.strings) place (kind_of kinds formula) w.at styled.number s.grid h) index book.sheets valid.strings;
    })

-- the call that writes, where nothing refuses it
module _ (result : Result (Unit {0}) BookError) (old new : ModelState) (valid : IsValidBook old.book) (index : ℕ) (place : CellPlace) (body : List ℕ) where
  -- what it says of a sheet that is there
  abbrev Writes : Sheet → Type 0
  Writes s = WritesFormula index s place body old.book new.book

  writes_so : (r : Result (Unit {0}) BookError) → value_refusal old.book index place.0 place.1 ≡ None → OnOk r (IfSome (slice_get old.book.sheets index) Writes) → Tells r None → OnErr r (new.book ≡ old.book)
      → DoesStep WantedIn (put_formula_step (whole_of old.book) index place body) no_fields r old new
  writes_so (Ok done) none written e same =
      let found = sheet_there old.book valid index place body (slice_get old.book.sheets index) none in
      let w : Writes found.0 = subst (λ o. IfSome o Writes) found.1 written in
      record {
        done = write_done old.book valid index place body found.0 found.1 new.book w found.2;
        before = valid;
        after = written_valid old.book valid index place body found.0 found.1 new.book w found.2;
      }
  writes_so (Err error) none written e same =
      record { done = subst (Refused WantedIn (put_formula_step (whole_of old.book) index place body) old new) e (write_accepted old.book valid index place body none, same); before = valid; after = subst IsValidBook (sym same) valid }

  pub writes : value_refusal old.book index place.0 place.1 ≡ None → OnOk result (IfSome (slice_get old.book.sheets index) (λ s. WritesFormula index s place body old.book new.book)) → Tells result None → OnErr result (new.book ≡ old.book)
      → DoesStep WantedIn (put_formula_step (whole_of old.book) index place body) no_fields result old new
  writes = writes_so result
