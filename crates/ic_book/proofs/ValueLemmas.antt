-- What a model holds after a value was written into a cell.
use Rattle.std.proofs.Common.{◌≡◌, ℕ, ℤ, ◌<◌, List, [], Bool, length, map, Option, Some, None, option_map, Ok, Err, refl, sym, ap, subst, ◌∙◌, IfSome}
use Rattle.std.proofs.lemmas.Option.{slice_get-map, slice_get_within}
use Rattle.std.specs.List.{slice_get}
use Rattle.ic_laws.proofs.core.Lists.{updated_seen, updated_unseen}
use Rattle.ic_laws.specs.CoreBook.{CellPlace}
use Rattle.ic_laws.specs.CoreStep.{updated_at}
use Rattle.ic_cells.specs.declared.cell.Cell.{Cell}
use Rattle.ic_cells.specs.declared.style.Style.{Style}
use Rattle.ic_machine.specs.Book as machine
use Rattle.ic_machine.specs.Book.{Stepped}
use Rattle.ic_machine.specs.Content.{Content}
use Rattle.ic_machine.specs.Refusal.{Refusal, first_refusal}
use Rattle.ic_machine.specs.Styling.{Numbered, restyled}
use Rattle.ic_sheets.specs.Sheet.{Sheet, TakesCell, sheet_of, with_cell_in}
use Rattle.ic_sheets.specs.declared.sheet.Sheet.{Sheet as HeldSheet}
use Rattle.ic_parts.specs.Book.{Book, IsValidBook, ModelState}
use Rattle.ic_parts.specs.Does.{DoesStep, Refused, Wanted}
use Rattle.ic_parts.specs.Fields.{no_fields}
use Rattle.ic_book.specs.Inside.{IsHeld, held_state, with_sheets, with_styles}
use Rattle.ic_parts.specs.Refused.{refusal_of}
use Rattle.ic_parts.specs.Values.{IsValueCell, Shows, changed_style, content_written, put_step, shown_style, value_causes, value_refusal, value_refusal_in, value_step, with_value}
use Rattle.ic_parts.specs.Whole.{whole_of}
use Rattle.ic_book.specs.declared.model.Model.TheInside.{Inside}
use Rattle.ic_parts.specs.declared.error.BookError.{BookError}
use Rattle.ic_parts.specs.declared.error.BookError.TheVariants as errors
use Rattle.ic_parts.proofs.GridLemmas.{its_grid, style_below, takes_cell}
use Rattle.ic_parts.proofs.ValueLemmas.{there_in}
use Rattle.ic_parts.proofs.ValueLemmas.{step_accepted, step_leaves, step_refused, value_valid}

-- what refuses a value at a place, and the style that it shows, where it is this row and this column ----

pub refusal_there : (book : Book) (index : ℕ) (row column : ℤ) (p : CellPlace) → p ≡ (row, column) → (o : Option Refusal) → value_refusal_in p (slice_get book.sheets index) ≡ o → value_refusal book index row column ≡ o
refusal_there book index row column p same o e = ap (λ p. value_refusal_in p (slice_get book.sheets index)) (sym same) ∙ e

-- What the call does. ----

module _ (old : ModelState) (valid : IsValidBook old.book) (index : ℕ) (row column : ℤ) (change : Style → Style) (content : ℕ → Content) where
  abbrev step : Stepped machine.Book
  step = put_step (whole_of old.book) index row column change content

  -- it is refused
  pub value_refused : (e : BookError) → (told : Refusal) × (refusal_of e ≡ Some told) × (value_refusal old.book index row column ≡ Some told) → DoesStep Wanted (put_step (whole_of old.book) index row column change content) no_fields (Err e) old old
  value_refused e t = record {
    done = subst (Refused Wanted step old old) (sym t.1) (step_refused old.book index row column (content_written change content) t.0 t.2, refl);
    before = valid;
    after = valid;
  }

  -- memory ran out
  pub value_wants : (new : ModelState) → new ≡ old → value_refusal old.book index row column ≡ None → (e : BookError) → e ≡ errors.OutOfMemory → DoesStep Wanted (put_step (whole_of old.book) index row column change content) no_fields (Err e) old new
  value_wants new same none e out = record {
    done = subst (Refused Wanted step old new) (sym (ap refusal_of out)) (step_accepted old.book index row column (content_written change content) none, same);
    before = valid;
    after = subst (λ (m : ModelState). IsValidBook m.book) (sym same) valid;
  }

module _ (old : ModelState) (valid : IsValidBook old.book) (index : ℕ) (row column : ℤ) (change : Style → Style) (cell : ℕ → Cell) where
  -- it is done
  pub value_does : IsValueCell (length old.book.strings) cell → (new : ModelState) (s : Sheet) → slice_get old.book.sheets index ≡ Some s → first_refusal (value_causes s.grid (row, column)) ≡ None
      → new.book ≡ with_value index (row, column) cell (changed_style old.book s row column change) old.book → DoesStep Wanted (value_step old.book index row column change cell) no_fields (Ok tt) old new
  value_does is_value new s at none is = record {
    done = step_leaves old.book valid index row column change cell is_value s at none ∙ ap (λ (b : Book). let made : Stepped machine.Book = Ok (whole_of b, []) in made) (sym is);
    before = valid;
    after = subst IsValidBook (sym is) (value_valid old.book valid index row column change cell is_value s at none);
  }

-- What a model holds then. ----

module _ (inside : Inside) (h : IsHeld inside) (index : ℕ) (row column : ℤ)
    (none : value_refusal (held_state inside).book index row column ≡ None)
  where
    abbrev ws : List HeldSheet
    ws = inside.contents.sheets

    abbrev its_state : ModelState
    its_state = held_state inside

    held_in : (o : Option HeldSheet) (s : Sheet) → option_map sheet_of o ≡ Some s → (x : HeldSheet) × (o ≡ Some x) × (sheet_of x ≡ s)
    held_in None s e = cc
    held_in (Some x) s e = let same : sheet_of x ≡ s = cc in (x, refl, same)

    -- the sheet, which takes a cell at the place
    pub its_sheet : (x : HeldSheet) × (slice_get ws index ≡ Some x) × (slice_get its_state.book.sheets index ≡ Some (sheet_of x)) × (first_refusal (value_causes x.grid (row, column)) ≡ None)
    its_sheet =
        let found = there_in (row, column) (slice_get its_state.book.sheets index) none in
        let x = held_in (slice_get ws index) found.0 (sym (slice_get-map sheet_of ws index) ∙ found.1) in (
          x.0,
          x.1,
          slice_get-map sheet_of ws index ∙ ap (option_map sheet_of) x.1,
          ap (λ (s : Sheet). first_refusal (value_causes s.grid (row, column))) x.2 ∙ found.2,
        )

    pub is_within : index < length ws
    is_within = slice_get_within ws index its_sheet.0 its_sheet.1

    pub takes_there : IfSome (slice_get ws index) (λ (s : HeldSheet). TakesCell (row, column) s.grid)
    takes_there =
        subst (λ o. IfSome o (λ (s : HeldSheet). TakesCell (row, column) s.grid)) (sym its_sheet.1)
        (takes_cell its_sheet.0.grid (row, column) (its_grid its_state.book h index (sheet_of its_sheet.0) its_sheet.2) its_sheet.3)

    module _ (n : ℕ) (shows : Shows (held_state inside).book index row column n) where
      shown_is : n ≡ shown_style (sheet_of its_sheet.0) row column
      shown_is = subst (λ o. IfSome o (λ (s : Sheet). n ≡ shown_style s row column)) its_sheet.2 shows

      pub style_within : n < length inside.lists.styles
      style_within = subst (λ k. k < length inside.lists.styles) (sym shown_is) (style_below its_state.book h index (sheet_of its_sheet.0) its_sheet.2 (row, column))

      module _ (change : Style → Style) (cell : ℕ → Cell) (number : ℕ) (styles : List Style) (now : List HeldSheet) (numbered : number ≡ (restyled change n inside.lists.styles).number) (styled : styles ≡ (restyled change n inside.lists.styles).styles)
          (e : now ≡ updated_at (λ s. record s { grid = with_cell_in (row, column) (cell number) s.grid }) index ws)
        where
          abbrev by : Numbered
          by = changed_style its_state.book (sheet_of its_sheet.0) row column change

          make : List Sheet → List Style → List Bool → ModelState
          make sheets styles all = record { book = record its_state.book { sheets = sheets; styles = styles }; has_all = all }

          sheets_are : map sheet_of now ≡ (with_value index (row, column) cell by its_state.book).sheets
          sheets_are =
              ap (map sheet_of) e
              ∙ updated_seen sheet_of (λ s. record s { grid = with_cell_in (row, column) (cell number) s.grid }) (λ s. record s { grid = with_cell_in (row, column) (cell number) s.grid }) (λ s. refl) index ws
              ∙ ap (λ (k : ℕ). updated_at (λ (s : Sheet). record s { grid = with_cell_in (row, column) (cell k) s.grid }) index (map sheet_of ws)) (numbered ∙ ap (λ k. (restyled change k inside.lists.styles).number) shown_is)

          look_ups_are : map (λ (s : HeldSheet). s.pool.is_whole) now ≡ its_state.has_all
          look_ups_are = ap (map (λ (s : HeldSheet). s.pool.is_whole)) e ∙ updated_unseen (λ (s : HeldSheet). s.pool.is_whole) (λ s. record s { grid = with_cell_in (row, column) (cell number) s.grid }) (λ s. refl) index ws

          pub value_state : held_state (with_styles styles (with_sheets now inside)) ≡ record its_state { book = with_value index (row, column) cell by its_state.book }
          unfolding make
          value_state =
              ap (λ (sheets : List Sheet). make sheets styles (map (λ (s : HeldSheet). s.pool.is_whole) now)) sheets_are
              ∙ ap (λ (st : List Style). make (with_value index (row, column) cell by its_state.book).sheets st (map (λ (s : HeldSheet). s.pool.is_whole) now)) (styled ∙ ap (λ k. (restyled change k inside.lists.styles).styles) shown_is)
              ∙ ap (make (with_value index (row, column) cell by its_state.book).sheets by.styles) look_ups_are

          pub value_held : IsValueCell (length inside.lists.strings) cell → IsHeld (with_styles styles (with_sheets now inside))
          value_held is_value = subst (λ (m : ModelState). IsValidBook m.book) (sym value_state) (value_valid its_state.book h index row column change cell is_value (sheet_of its_sheet.0) its_sheet.2 its_sheet.3)

          pub value_done : IsValueCell (length inside.lists.strings) cell → DoesStep Wanted (value_step its_state.book index row column change cell) no_fields (Ok tt) its_state (held_state (with_styles styles (with_sheets now inside)))
          value_done is_value =
              value_does its_state h index row column change cell is_value (held_state (with_styles styles (with_sheets now inside))) (sheet_of its_sheet.0) its_sheet.2 its_sheet.3
              (ap (λ (m : ModelState). m.book) value_state)
