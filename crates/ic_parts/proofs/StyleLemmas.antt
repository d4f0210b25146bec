-- What the readers of styles do.
use Rattle.std.proofs.Common.{◌≡◌, ◌<◌, ℕ, List, [], Option, Some, None, Result, Ok, Err, IsErr, IsErrAnd, true, false, length, option_map, refl, sym, ap, subst, ◌∙◌}
use Rattle.std.specs.FinMap as finite
use Rattle.std.specs.List.{slice_get}
use Rattle.std.specs.Option.{option_map_or}
use Rattle.std.specs.Prelude.{option_and_then, unwrap_or}
use Rattle.std.proofs.lemmas.Option.{slice_get-map}
use Rattle.ic_laws.specs.CoreBook.{CellPlace}
use Rattle.ic_cells.specs.Cell.{style_of}
use Rattle.ic_cells.specs.Style.{style_at}
use Rattle.ic_cells.specs.declared.cell.Cell.{Cell}
use Rattle.ic_cells.specs.declared.layout.ColumnProps.{ColumnProps}
use Rattle.ic_cells.specs.declared.layout.RowProps.{RowProps}
use Rattle.ic_cells.specs.declared.style.Style.{Style}
use Rattle.ic_grid.specs.Shape.{celled}
use Rattle.ic_grid.specs.Style as grid_style
use Rattle.ic_grid.specs.declared.grid.Grid.{Grid}
use Rattle.ic_machine.proofs.contents.AlikeGrid.{get-seen, style_at-seen}
use Rattle.ic_machine.proofs.contents.AlikeLemmas.{cells_are_contents}
use Rattle.ic_machine.proofs.valid.ValidLemmas.{HoldsOf, holds_at}
use Rattle.ic_machine.specs.Book as machine
use Rattle.ic_machine.specs.Book.{at_sheet, content_at, style_number_at, unless_refused}
use Rattle.ic_machine.specs.Content as contents
use Rattle.ic_machine.specs.Content.{content_of, held}
use Rattle.ic_machine.specs.Fields.{optional_style_fields}
use Rattle.ic_machine.specs.Refusal.{Causes, first_refusal}
use Rattle.ic_machine.specs.Reply.{Field, number_field}
use Rattle.ic_machine.specs.Styling.{style_fields}
use Rattle.ic_machine.specs.Valid.{IsStyleNumber}
use Rattle.ic_machine.specs.subjects.Styles.{cell_style_step, optional_style, own_style_step, style_index_step}
use Rattle.ic_sheets.specs.Sheet.{Sheet}
use Rattle.ic_parts.specs.Book.{IsValidBook, ModelState, notations_in, whole_grid}
use Rattle.ic_parts.specs.Does.{DoesStep, Memory, Never, Wanted}
use Rattle.ic_parts.specs.Refused.{TellsOnly, refusal_of}
use Rattle.ic_parts.specs.Styled.{line_causes, line_style, line_style_step, whole_line_style}
use Rattle.ic_parts.specs.Whole.{whole_of, whole_sheet}
use Rattle.ic_parts.specs.declared.error.BookError.{BookError}
use Rattle.ic_parts.specs.declared.error.BookError.TheVariants as errors
use Rattle.ic_parts.specs.declared.styled.Line.{Line}
use Rattle.ic_parts.specs.declared.styled.Line.TheVariants as lines
use Rattle.ic_parts.proofs.ReadLemmas.{sheet_missing, sheet_refused, sheet_told, sheet_wants}

-- the numbers of styles, in the whole sheet ----

module _ (strings : List (List ℕ)) (grid : Grid) where
  pub shown_number : (place : CellPlace) → style_number_at (whole_grid strings grid) place.0 place.1 ≡ grid_style.style_at celled grid.cells grid.rows grid.columns place
  shown_number place = style_at-seen (content_of strings) celled held (cells_are_contents strings) grid.cells grid.rows grid.columns place

  own_number : (place : CellPlace) → option_map contents.style_of (finite.get (whole_grid strings grid).contents (place.0, place.1)) ≡ option_map style_of (finite.get grid.cells place)
  own_number place = ap (option_map contents.style_of) (get-seen (content_of strings) grid.cells place) ∙ seen (finite.get grid.cells place)
    where
      seen : (o : Option Cell) → option_map contents.style_of (option_map (content_of strings) o) ≡ option_map style_of o
      seen None = refl
      seen (Some x) = ap (λ (n : ℕ). let o : Option ℕ = Some n in o) ((cells_are_contents strings).style x)

  line_number : (line : Line) → whole_line_style line (whole_grid strings grid) ≡ line_style line grid.rows grid.columns
  line_number (lines.Row row) = set (finite.get grid.rows row)
    where
      set : (o : Option RowProps) → (unwrap_or o (record { height = None; hidden = false; style = None })).style ≡ option_and_then (λ props. props.style) o
      set None = refl
      set (Some props) = refl
  line_number (lines.Column column) = set (finite.get grid.columns column)
    where
      set : (o : Option ColumnProps) → (unwrap_or o (record { width = None; hidden = false; style = None })).style ≡ option_and_then (λ props. props.style) o
      set None = refl
      set (Some props) = refl

fields_if_set : (styles : List Style) (number : Option ℕ) (style : Option Style) → style ≡ option_map (style_at styles) number → optional_style_fields style ≡ option_map_or (λ n. style_fields (style_at styles n)) number []
fields_if_set styles None style e = ap optional_style_fields e
fields_if_set styles (Some n) style e = ap optional_style_fields e

-- what is told of a sheet ----

abbrev pub number_told : CellPlace → machine.Sheet → List Field
number_told place sheet = number_field (style_number_at sheet.grid place.0 place.1)

abbrev pub style_told : machine.Book → CellPlace → machine.Sheet → List Field
style_told book place sheet = style_fields (style_at book.styles (style_number_at sheet.grid place.0 place.1))

abbrev pub own_told : machine.Book → CellPlace → machine.Sheet → List Field
own_told book place sheet = optional_style book (option_map contents.style_of (content_at sheet place.0 place.1))

abbrev pub line_told : machine.Book → Line → machine.Sheet → List Field
line_told book line sheet = optional_style book (whole_line_style line sheet.grid)

module _ (now : ModelState) (valid : IsValidBook now.book) (index : ℕ) where
  -- an error that is passed on ----

  module _ {T : Type 0} (memory : Memory) (fields : T → List Field) (causes : Causes) (told : machine.Sheet → List Field) where
    pub passes_missing : (e : BookError) → (slice_get now.book.sheets index ≡ None) × (e ≡ errors.InvalidSheet) → (r : Result T BookError) → IsErr r × IsErrAnd r (λ f. f ≡ e)
        → DoesStep memory (at_sheet (whole_of now.book) index (λ sheet. unless_refused causes (whole_of now.book) (told sheet))) fields r now now
    passes_missing e none (Ok value) is = let no : false ≡ true = is.0 in cc
    passes_missing e none (Err f) is = sheet_missing now index valid memory fields causes told none.0 f (is.1 ∙ none.1)

    pub passes_refusal : (s : Sheet) → slice_get now.book.sheets index ≡ Some s → (e : BookError) → TellsOnly (let r : Result T BookError = Err e in r) (first_refusal causes) → (r : Result T BookError) → IsErr r × IsErrAnd r (λ f. f ≡ e)
        → DoesStep memory (at_sheet (whole_of now.book) index (λ sheet. unless_refused causes (whole_of now.book) (told sheet))) fields r now now
    passes_refusal s at e tells (Ok value) is = let no : false ≡ true = is.0 in cc
    passes_refusal s at e tells (Err f) is = sheet_refused now index valid memory fields causes told s at tells.0 tells.2 f (ap refusal_of is.1 ∙ tells.1)

  pub passes_memory : {T : Type 0} (fields : T → List Field) (causes : Causes) (told : machine.Sheet → List Field) (s : Sheet) → slice_get now.book.sheets index ≡ Some s → first_refusal causes ≡ None → (r : Result T BookError) → IsErr r × IsErrAnd r (λ f. f ≡ errors.OutOfMemory)
      → DoesStep Wanted (at_sheet (whole_of now.book) index (λ sheet. unless_refused causes (whole_of now.book) (told sheet))) fields r now now
  passes_memory fields causes told s at none (Ok value) is = let no : false ≡ true = is.0 in cc
  passes_memory fields causes told s at none (Err f) is = sheet_wants now index valid fields causes told s at none f is.1

  module _ (s : Sheet) (at : slice_get now.book.sheets index ≡ Some s) where
    -- the numbers are those of styles ----

    its_holds : HoldsOf (notations_in now.book) (machine.scene_in (whole_of now.book)) (length now.book.styles) (whole_sheet now.book.strings s)
    its_holds = holds_at (whole_of now.book) valid.whole index (whole_sheet now.book.strings s) (slice_get-map (whole_sheet now.book.strings) now.book.sheets index ∙ ap (option_map (whole_sheet now.book.strings)) at)

    pub own_below : (place : CellPlace) → IsStyleNumber (length now.book.styles) (option_map style_of (finite.get s.grid.cells place))
    own_below place = held_below (finite.get s.grid.cells place) refl
      where
        seen_at : (x : Cell) → finite.get s.grid.cells place ≡ Some x → finite.get (whole_grid now.book.strings s.grid).contents place ≡ Some (content_of now.book.strings x)
        seen_at x is = get-seen (content_of now.book.strings) s.grid.cells place ∙ ap (option_map (content_of now.book.strings)) is

        held_below : (o : Option Cell) → finite.get s.grid.cells place ≡ o → IsStyleNumber (length now.book.styles) (option_map style_of o)
        held_below None is = tt
        held_below (Some x) is =
            subst (λ n. n < length now.book.styles) ((cells_are_contents now.book.strings).style x)
            (its_holds.styles.contents place (content_of now.book.strings x) (seen_at x is))

    pub line_below : (line : Line) → IsStyleNumber (length now.book.styles) (line_style line s.grid.rows s.grid.columns)
    line_below (lines.Row row) = set_below (finite.get s.grid.rows row) refl
      where
        set_below : (o : Option RowProps) → finite.get s.grid.rows row ≡ o → IsStyleNumber (length now.book.styles) (option_and_then (λ props. props.style) o)
        set_below None is = tt
        set_below (Some props) is = its_holds.styles.rows row props is
    line_below (lines.Column column) = set_below (finite.get s.grid.columns column) refl
      where
        set_below : (o : Option ColumnProps) → finite.get s.grid.columns column ≡ o → IsStyleNumber (length now.book.styles) (option_and_then (λ props. props.style) o)
        set_below None is = tt
        set_below (Some props) is = its_holds.styles.columns column props is

    -- what is answered ----

    pub tells_number : (place : CellPlace) (number : ℕ) → number ≡ grid_style.style_at celled s.grid.cells s.grid.rows s.grid.columns place
        → DoesStep Never (style_index_step index place (whole_of now.book)) number_field (Ok number) now now
    unfolding style_index_step
    tells_number place number is = sheet_told now index valid Never number_field [] (number_told place) s at refl number (ap number_field (is ∙ sym (shown_number now.book.strings s.grid place)))

    pub tells_style : (place : CellPlace) (number : ℕ) (style : Style) → number ≡ grid_style.style_at celled s.grid.cells s.grid.rows s.grid.columns place → style ≡ style_at now.book.styles number
        → DoesStep Wanted (cell_style_step index place (whole_of now.book)) style_fields (Ok style) now now
    unfolding cell_style_step
    tells_style place number style is copied =
        sheet_told now index valid Wanted style_fields [] (style_told (whole_of now.book) place) s at refl style
        (ap style_fields (copied ∙ ap (style_at now.book.styles) (is ∙ sym (shown_number now.book.strings s.grid place))))

    pub tells_own : (place : CellPlace) (number : Option ℕ) (style : Option Style) → number ≡ option_map style_of (finite.get s.grid.cells place) → style ≡ option_map (style_at now.book.styles) number
        → DoesStep Wanted (own_style_step index place (whole_of now.book)) optional_style_fields (Ok style) now now
    unfolding own_style_step
    tells_own place number style is copied =
        sheet_told now index valid Wanted optional_style_fields [] (own_told (whole_of now.book) place) s at refl style
        (fields_if_set now.book.styles number style copied ∙ ap (λ o. option_map_or (λ n. style_fields (style_at now.book.styles n)) o []) (is ∙ sym (own_number now.book.strings s.grid place)))

    pub tells_line : (line : Line) (number : Option ℕ) (style : Option Style) → number ≡ line_style line s.grid.rows s.grid.columns → style ≡ option_map (style_at now.book.styles) number → first_refusal (line_causes line) ≡ None
        → DoesStep Wanted (line_style_step index line (whole_of now.book)) optional_style_fields (Ok style) now now
    tells_line line number style is copied none =
        sheet_told now index valid Wanted optional_style_fields (line_causes line) (line_told (whole_of now.book) line) s at none style
        (fields_if_set now.book.styles number style copied ∙ ap (λ o. option_map_or (λ n. style_fields (style_at now.book.styles n)) o []) (is ∙ sym (line_number now.book.strings s.grid line)))
