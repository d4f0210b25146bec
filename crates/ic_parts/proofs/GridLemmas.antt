-- The grid of a sheet: what a write leaves of each cell, that it is a grid where its whole sheet is valid, and the style that
-- is written.
use Rattle.std.proofs.Common.{◌≡◌, ℕ, ◌<◌, List, [], ◌∷◌, Bool, true, false, cond, not, length, take, Option, Some, None, Result, Ok, Err, IsErr, IsErrAnd, refl, if◌then◌else◌, sym, ap, ap₂, subst, ◌∙◌}
use mathlib.Core.Bool.{and-false as no_and}
use Rattle.std.proofs.lemmas.Bool.{and_from, or_parts as no_or}
use Rattle.std.proofs.lemmas.Option.{slice_get-map, slice_get_within}
use Rattle.std.specs.FinMap as finite
use Rattle.std.specs.List.{slice_get}
use Rattle.std.specs.Prelude.{◌&&◌, ◌||◌, ◌++◌, bytes_eq, is_some, option_and_then, option_map}
use Rattle.ic_laws.proofs.core.CellWritten.{place_cmp_total}
use Rattle.ic_laws.specs.CoreBook.{CellPlace}
use Rattle.ic_laws.specs.Position.{is_column, is_row}
use Rattle.std.proofs.lemmas.Slice.Eq.{bytes_eq-Decides}
pub use Rattle.std.proofs.Math.Seq.{take-length as take_all}
use Rattle.ic_cells.specs.Style.{default_style, first_place, is_color, is_flag, is_style, style_at, with_format, with_quote_prefix}
use Rattle.ic_cells.specs.declared.cell.Cell.{Cell}
use Rattle.ic_cells.specs.declared.cell.Cell.TheVariants as cells
use Rattle.ic_cells.specs.declared.style.Style.{Style}
use Rattle.ic_cells.specs.Cell.{style_of}
use Rattle.ic_grid.proofs.WriteLemmas.{after_release, released_at}
use Rattle.ic_grid.specs.Arrays.{anchor_at, is_fixed_at}
use Rattle.ic_grid.specs.Block.{Place, same_place}
use Rattle.ic_grid.specs.Calls.{can_write, refused_by}
use Rattle.ic_grid.specs.Contents.{Contents}
use Rattle.ic_grid.specs.Merges.{is_covered}
use Rattle.ic_grid.specs.Prepare.{prepared, released_if, unspilled, written}
use Rattle.ic_grid.specs.Shape.{celled, is_anchor, is_spill_of, reset, shape_of}
use Rattle.ic_grid.specs.Style as grid_style
use Rattle.ic_grid.specs.Conditions.{IsStyleNumber}
use Rattle.ic_grid.specs.Whole.{IsGrid, IsStyled}
use Rattle.ic_grid.specs.declared.error.GridError.{GridError}
use Rattle.ic_grid.specs.declared.error.GridError.TheVariants as grid_errors
use Rattle.ic_grid.specs.declared.grid.Grid.{Grid}
use Rattle.ic_input.specs.Code.{is_date_code}
use Rattle.ic_machine.proofs.contents.AlikeGrid.{arrays_held, get-seen, inside_held, merges_held, style_at-seen}
use Rattle.ic_machine.proofs.contents.AlikeLemmas.{cells_are_contents}
use Rattle.ic_machine.proofs.valid.ValidLemmas.{HoldsOf, holds_at}
use Rattle.ic_machine.proofs.valid.WritingSteps.{number_below}
use Rattle.ic_machine.specs.Book as machine
use Rattle.ic_machine.specs.Content.{content_of, held}
use Rattle.ic_machine.specs.Refusal.{ArrayPart, InvalidColumn, InvalidRow, MergedPart, Refusal, first_refusal}
use Rattle.ic_machine.specs.Styling.{Numbered, numbered, restyled}
use Rattle.ic_machine.specs.Valid as valid_machine
use Rattle.ic_machine.specs.subjects.Writing.{coded, unquoted}
use Rattle.ic_sheets.specs.Sheet.{Sheet, TakesCell, formula_cell, with_cell_in}
use Rattle.ic_sheets.specs.declared.sheet.FormulaKind.{FormulaKind}
use Rattle.ic_sheets.specs.declared.sheet.FormulaKind.TheVariants as kinds
use Rattle.ic_parts.specs.Book.{Book, HasString, HasStrings, IsValidBook, notations_in, whole_of, whole_sheet}
use Rattle.ic_parts.specs.Refused.{TellsOnly, of_grid, refusal_of}
use Rattle.ic_parts.specs.Values.{keeps_code, value_causes}
use Rattle.ic_parts.specs.Written.{cell_causes}
use Rattle.ic_parts.specs.declared.error.BookError.{BookError}
use Rattle.ic_cells.proofs.StyleLemmas.{flag_again as flag_itself, color_again as color_itself, style_again as style_itself}

-- What holds of each cell, and of an empty one, and of a formula's that is reset, holds after a write. ----

module _ (Q : Cell → Type 0) (empties : (s : ℕ) → Q (cells.EmptyCell s)) (resets : (x : Cell) → Q x → Q (reset celled x)) where
  either : (t : Bool) (x y : Cell) → Q x → Q y → Q (cond t x y)
  either true x y p q = p
  either false x y p q = q

  released_so : (a q : Place) (x : Cell) → Q x → Q (after_release a q x)
  released_so a q x h =
      let u : Cell = unspilled celled a x in
      let hu : Q u = either (is_spill_of a (shape_of x)) (cells.EmptyCell (style_of x)) x (empties (style_of x)) h in
      either (same_place q a) _ u (either (is_anchor (shape_of u)) (reset celled u) u (resets u hu) hu) hu

  found_so : (f : Cell → Cell) → ((x : Cell) → Q x → Q (f x)) → (o : Option Cell) → ((x : Cell) → o ≡ Some x → Q x) → (y : Cell) → option_map f o ≡ Some y → Q y
  found_so f keeps None h y e = cc
  found_so f keeps (Some x) h y e = let same : f x ≡ y = cc in subst Q same (keeps x (h x refl))

  module _ (m : Contents Cell) (all : (q : Place) (x : Cell) → finite.get m q ≡ Some x → Q x) where
    if_released : (o : Option Place) (q : Place) (y : Cell) → finite.get (released_if celled o m) q ≡ Some y → Q y
    if_released None q y e = all q y e
    if_released (Some a) q y e = found_so (after_release a q) (released_so a q) (finite.get m q) (all q) y (made (finite.get m q) ∙ sym (released_at m a q) ∙ e)
      where
        made : (o : Option Cell) → option_map (after_release a q) o ≡ option_and_then (λ x. Some (after_release a q x)) o
        made None = refl
        made (Some x) = refl

    pub written_so : (p : Place) (x : Cell) → Q x → (q : Place) (y : Cell) → finite.get (written celled p x m) q ≡ Some y → Q y
    written_so p x h q y e = at (same_place q p) (sym (finite.get-insert place_cmp_total (prepared celled p m) p x q) ∙ e)
      where
        at : (t : Bool) → cond t (Some x) (finite.get (prepared celled p m) q) ≡ Some y → Q y
        at true f = let same : x ≡ y = cc in subst Q same h
        at false f = if_released (anchor_at celled m p) q y f

-- shared strings ----

strings_reset : (count : ℕ) (x : Cell) → HasString count x → HasString count (reset celled x)
strings_reset count (cells.EmptyCell s) h = tt
strings_reset count (cells.BooleanCell v s) h = tt
strings_reset count (cells.NumberCell v s) h = h
strings_reset count (cells.ErrorCell e s) h = tt
strings_reset count (cells.SharedString i s) h = h
strings_reset count (cells.CellFormula f s v) h = tt
strings_reset count (cells.ArrayFormula kind f s r v) h = tt
strings_reset count (cells.SpillCell s a v) h = tt

formula_string : (count : ℕ) (kind : FormulaKind) (at style : ℕ) → HasString count (formula_cell kind at style)
formula_string count kinds.Single at style = tt
formula_string count kinds.Dynamic at style = tt

pub strings_with : (count : ℕ) (place : CellPlace) (cell : Cell) → HasString count cell → (grid : Grid) → HasStrings count grid → HasStrings count (with_cell_in place cell grid)
strings_with count place cell is grid h = written_so (HasString count) (λ s. tt) (strings_reset count) grid.cells h place cell is

pub strings_written : (count : ℕ) (place : CellPlace) (kind : FormulaKind) (at style : ℕ) (grid : Grid) → HasStrings count grid → HasStrings count (with_cell_in place (formula_cell kind at style) grid)
strings_written count place kind at style = strings_with count place (formula_cell kind at style) (formula_string count kind at style)

-- A sheet of a valid book. ----

module _ (book : Book) (valid : IsValidBook book) (index : ℕ) (s : Sheet) (at : slice_get book.sheets index ≡ Some s) where
  its_holds : HoldsOf (notations_in book) (machine.scene_in (whole_of book)) (length book.styles) (whole_sheet book.strings s)
  its_holds = holds_at (whole_of book) valid.whole index (whole_sheet book.strings s) (slice_get-map (whole_sheet book.strings) book.sheets index ∙ ap (option_map (whole_sheet book.strings)) at)

  pub its_grid : IsGrid s.grid
  its_grid = record {
    inside = inside_held (content_of book.strings) celled held (cells_are_contents book.strings) s.grid.cells its_holds.inside;
    arrays = arrays_held (content_of book.strings) celled held (cells_are_contents book.strings) s.grid.cells its_holds.arrays;
    merges = merges_held (content_of book.strings) celled held (cells_are_contents book.strings) s.grid.cells s.grid.merged_cells its_holds.merges;
  }

  -- each style that it names is one of the book's
  pub its_styles : IsStyled book.styles s.grid
  its_styles = record {
    contents = λ p x e.
        subst (λ k. k < length book.styles) ((cells_are_contents book.strings).style x)
        (its_holds.styles.contents p (content_of book.strings x) (get-seen (content_of book.strings) s.grid.cells p ∙ ap (option_map (content_of book.strings)) e));
    rows = λ row props e. is_number (length book.styles) props.style (its_holds.styles.rows row props e);
    columns = λ column props e. is_number (length book.styles) props.style (its_holds.styles.columns column props e);
  }
    where
      is_number : (count : ℕ) (o : Option ℕ) → valid_machine.IsStyleNumber count o → IsStyleNumber count o
      is_number count None h = tt
      is_number count (Some n) h = h

  -- the style of each place is one of the book's
  pub style_below : (place : CellPlace) → grid_style.style_at celled s.grid.cells s.grid.rows s.grid.columns place < length book.styles
  style_below place =
      subst (λ k. k < length book.styles) (style_at-seen (content_of book.strings) celled held (cells_are_contents book.strings) s.grid.cells s.grid.rows s.grid.columns place)
      (number_below (length book.styles) (whole_sheet book.strings s).grid place its_holds.styles (slice_get_within book.styles 0 default_style valid.whole.styles.styles.default))

-- an error that is passed on tells the same
pub told_again : {T : Type 0} (r : Result T BookError) (e : BookError) (o : Option Refusal) → IsErr r × IsErrAnd r (λ f. f ≡ e) → (told : Refusal) × (refusal_of e ≡ Some told) × (o ≡ Some told) → TellsOnly r o
told_again (Ok x) e o h t = let no : false ≡ true = h.0 in cc
told_again (Err f) e o h t = (t.0, ap refusal_of h.1 ∙ t.1, t.2)

-- what refuses to write a cell is told by the error that a grid's error becomes
pub cell_told : (T : Type 0) (grid : Grid) (place : CellPlace) (e : GridError) (f : BookError) → can_write celled grid.merged_cells grid.cells place ≡ Err e → f ≡ of_grid e → TellsOnly {T = T} (Err f) (first_refusal (cell_causes grid place))
cell_told T grid place e f refused is = told (is_covered grid.merged_cells place) (is_fixed_at celled grid.cells place) refused
  where
    told : (covered fixed : Bool) → refused_by covered grid_errors.MergedPart (refused_by fixed grid_errors.ArrayPart (Ok tt)) ≡ Err e → TellsOnly {T = T} (Err f) (first_refusal ((covered, MergedPart) ∷ (fixed, ArrayPart) ∷ []))
    told true fixed h = let same : e ≡ grid_errors.MergedPart = cc in (MergedPart, ap refusal_of is ∙ ap (λ (x : GridError). refusal_of (of_grid x)) same, refl)
    told false true h = let same : e ≡ grid_errors.ArrayPart = cc in (ArrayPart, ap refusal_of is ∙ ap (λ (x : GridError). refusal_of (of_grid x)) same, refl)
    told false false h = absurd (cc)

free_cell : (grid : Grid) (place : CellPlace) → IsGrid grid → is_row place.0 ≡ true → is_column place.1 ≡ true → is_covered grid.merged_cells place ≡ false → is_fixed_at celled grid.cells place ≡ false → TakesCell place grid
free_cell grid place whole row column uncovered unfixed = record {
  whole = whole;
  inside = and_from _ _ row column;
  free = ap₂ (λ (covered fixed : Bool). refused_by covered grid_errors.MergedPart (refused_by fixed grid_errors.ArrayPart (Ok tt))) uncovered unfixed;
}

-- Where nothing refuses a write. ----

pub value_clear : (a b c d : Bool) → first_refusal ((not a, InvalidRow) ∷ (not b, InvalidColumn) ∷ (c, MergedPart) ∷ (d, ArrayPart) ∷ []) ≡ None → (a ≡ true) × (b ≡ true) × (c ≡ false) × (d ≡ false)
value_clear false b c d h = cc
value_clear true false c d h = cc
value_clear true true true d h = cc
value_clear true true false true h = cc
value_clear true true false false h = (refl, refl, refl, refl)

pub takes_cell : (grid : Grid) (place : CellPlace) → IsGrid grid → first_refusal (value_causes grid place) ≡ None → TakesCell place grid
takes_cell grid place whole none =
    let clear = value_clear (is_row place.0) (is_column place.1) (is_covered grid.merged_cells place) (is_fixed_at celled grid.cells place) none in
    free_cell grid place whole clear.0 clear.1 clear.2 clear.3

-- what refuses it, by what refuses the cell
pub value_told : (grid : Grid) (place : CellPlace) → is_row place.0 ≡ true → is_column place.1 ≡ true → first_refusal (value_causes grid place) ≡ first_refusal (cell_causes grid place)
value_told grid place row column = ap₂ (λ (row column : Bool). first_refusal ((not row, InvalidRow) ∷ (not column, InvalidColumn) ∷ cell_causes grid place)) row column

-- A style with another quote flag. ----

abbrev restyled_by : (Style → Style) → Bool → List Style → ℕ → Numbered
restyled_by change same styles number = if same then record { number = number; styles = styles } else numbered (change (style_at styles number)) styles

is_same : (quoted : Bool) (s : Style) → s.quote_prefix ≡ quoted → is_style (with_quote_prefix quoted s) s ≡ true
unfolding is_style
is_same quoted s e =
    and_from _ _ (and_from _ _ (and_from _ _ ((bytes_eq-Decides s.num_fmt s.num_fmt).1 refl) (ap (is_flag quoted) e ∙ flag_itself quoted)) (flag_itself s.bold)) (color_itself s.fill)

is_other : (quoted : Bool) (s : Style) → s.quote_prefix ≡ not quoted → is_style (with_quote_prefix quoted s) s ≡ false
unfolding is_style
is_other quoted s e =
    ap (λ (b : Bool). bytes_eq s.num_fmt s.num_fmt && b && is_flag s.bold s.bold && is_color s.fill s.fill) (ap (is_flag quoted) e ∙ flag_not quoted)
    ∙ ap (λ (b : Bool). b && is_flag s.bold s.bold && is_color s.fill s.fill) (no_and (bytes_eq s.num_fmt s.num_fmt))
  where
    flag_not : (b : Bool) → is_flag b (not b) ≡ false
    flag_not true = refl
    flag_not false = refl

pub quote_kept : (quoted : Bool) (styles : List Style) (number : ℕ) → (style_at styles number).quote_prefix ≡ quoted → restyled (with_quote_prefix quoted) number styles ≡ record { number = number; styles = styles }
quote_kept quoted styles number e = ap (λ b. restyled_by (with_quote_prefix quoted) b styles number) (is_same quoted (style_at styles number) e)

pub quote_new : (quoted : Bool) (styles : List Style) (number : ℕ) → (style_at styles number).quote_prefix ≡ not quoted → restyled (with_quote_prefix quoted) number styles ≡ numbered (with_quote_prefix quoted (style_at styles number)) styles
quote_new quoted styles number e = ap (λ b. restyled_by (with_quote_prefix quoted) b styles number) (is_other quoted (style_at styles number) e)

-- where nothing changes, and where a code and the flag do ----

pub nothing_changed : (styles : List Style) (number : ℕ) → restyled (λ s. s) number styles ≡ record { number = number; styles = styles }
nothing_changed styles number = ap (λ b. restyled_by (λ s. s) b styles number) (style_itself (style_at styles number))

no_front : (a b c d : Bool) → a ≡ false → (a && b && c && d) ≡ false
no_front true b c d e = cc
no_front false b c d e = refl

other_code : (code : List ℕ) (s : Style) → bytes_eq s.num_fmt code ≡ false → is_style (unquoted (with_format code s)) s ≡ false
unfolding is_style
other_code code s e = no_front (bytes_eq code s.num_fmt) (is_flag false s.quote_prefix) (is_flag s.bold s.bold) (is_color s.fill s.fill) (flip (bytes_eq code s.num_fmt) refl)
  where
    flip : (b : Bool) → bytes_eq code s.num_fmt ≡ b → b ≡ false
    flip false h = refl
    flip true h =
        let same : code ≡ s.num_fmt = (bytes_eq-Decides code s.num_fmt).0 h in
        sym ((bytes_eq-Decides s.num_fmt code).1 (sym same)) ∙ e

dated : (date : Bool) (code : List ℕ) (s : Style) → date ≡ false → (if date then s else with_format code s) ≡ with_format code s
dated true code s e = cc
dated false code s e = refl

pub code_new : (code : List ℕ) (styles : List Style) (number : ℕ) → keeps_code code (style_at styles number) ≡ false
    → restyled (λ s. unquoted (coded (Some code) s)) number styles ≡ numbered (unquoted (with_format code (style_at styles number))) styles
code_new code styles number e =
    let s : Style = style_at styles number in
    let parts = no_or (bytes_eq s.num_fmt code) (is_date_code code && is_date_code s.num_fmt) e in
    ap (λ (t : Style). if is_style (unquoted t) s then record { number = number; styles = styles } else numbered (unquoted t) styles) (dated (is_date_code code && is_date_code s.num_fmt) code s parts.1)
    ∙ ap (λ (b : Bool). if b then record { number = number; styles = styles } else numbered (unquoted (with_format code s)) styles) (other_code code s parts.0)

keeps_it : (same date : Bool) (code : List ℕ) (s : Style) → bytes_eq s.num_fmt code ≡ same → (same || date) ≡ true → (if date then s else with_format code s) ≡ s
keeps_it same true code s is e = refl
keeps_it true false code s is e = let equal : s.num_fmt ≡ code = (bytes_eq-Decides s.num_fmt code).0 is in ap (λ (c : List ℕ). with_format c s) (sym equal)
keeps_it false false code s is e = cc

pub code_kept : (code : List ℕ) (styles : List Style) (number : ℕ) → keeps_code code (style_at styles number) ≡ true → restyled (λ s. unquoted (coded (Some code) s)) number styles ≡ restyled (with_quote_prefix false) number styles
code_kept code styles number e =
    let s : Style = style_at styles number in
    ap (λ (t : Style). if is_style (unquoted t) s then record { number = number; styles = styles } else numbered (unquoted t) styles)
    (keeps_it (bytes_eq s.num_fmt code) (is_date_code code && is_date_code s.num_fmt) code s refl e)

pub take_front : {X : Type 0} (xs ys : List X) → take (length xs) (xs ++ ys) ≡ xs
take_front [] [] = refl
take_front [] (y ∷ ys) = refl
take_front (x ∷ xs) ys = ap (λ rest. x ∷ rest) (take_front xs ys)

pub all_taken_back : (change : Style → Style) (styles : List Style) (number : ℕ) → take (length styles) (restyled change number styles).styles ≡ styles
all_taken_back change styles number = at (is_style (change (style_at styles number)) (style_at styles number))
  where
    in_or_at_end : (t : Bool) (s : Style) → take (length styles) (cond t styles (styles ++ s ∷ [])) ≡ styles
    in_or_at_end true s = take_all styles
    in_or_at_end false s = take_front styles (s ∷ [])

    at : (t : Bool) → take (length styles) (restyled_by change t styles number).styles ≡ styles
    at true = take_all styles
    at false = in_or_at_end (is_some (first_place (change (style_at styles number)) styles)) (change (style_at styles number))

pub taken_back : (styles : List Style) (number : ℕ) → take (length styles) (restyled unquoted number styles).styles ≡ styles
taken_back = all_taken_back unquoted
