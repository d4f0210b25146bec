-- The commands on styles keep what always holds of a book.
use Rattle.std.proofs.Common.{◌≡◌, ℕ, ℤ, zero, suc, ◌+◌, ◌<◌, ◌≤◌, List, [], ◌∷◌, ◌++◌, length, Bool, true, false, cond, Option, Some, None, refl, ap, ap₂, ◌∙◌, arith, length-append}
use Rattle.std.proofs.lemmas.Bool.{and_from, and_parts, not-false}
use Rattle.std.proofs.lemmas.Option.{slice_get_within}
use Rattle.std.specs.FinMap as finite
use Rattle.std.specs.Prelude.{◌&&◌, is_some, not, option_map, unwrap_or}
use Rattle.ic_laws.specs.Position.{is_column, is_row}
use Rattle.ic_cells.specs.Style.{AreStyles, are_different, default_style, first_place, is_color, is_flag, is_style, style_number, with_style_in}
use Rattle.ic_cells.specs.declared.layout.ColumnProps.{ColumnProps}
use Rattle.ic_cells.specs.declared.layout.RowProps.{RowProps}
use Rattle.ic_cells.specs.declared.style.Color.{Color}
use Rattle.ic_cells.specs.declared.style.Color.TheVariants as colors
use Rattle.ic_cells.specs.declared.style.Style.{Style}
use Rattle.ic_machine.specs.Book.{Book, Grid, scene_in}
use Rattle.ic_machine.specs.Command.{OnStyles}
use Rattle.ic_machine.specs.Kept.{StaysValid}
use Rattle.ic_machine.specs.Line.{column_causes, from_column, from_row, row_causes, with_column, with_row}
use Rattle.ic_machine.specs.Refusal.{InvalidColumn, InvalidRow, first_refusal}
use Rattle.ic_machine.specs.Valid.{IsValidBook}
use Rattle.ic_machine.specs.subjects.Styles as styles
use Rattle.ic_machine.specs.subjects.Styles.{Styles, delete_column_step, delete_row_step, set_column_step, set_row_step, style_step, without_column_style, without_row_style}
use Rattle.ic_machine.proofs.kinds.ReaderLemmas.{readers_leave}
use Rattle.ic_machine.proofs.valid.SubjectsStay.{lines_unless, not_caused}
use Rattle.ic_machine.proofs.valid.ValidLemmas.{AreLines, column_put, grids_stay, holds_at, lines_held, lines_of, put_valid, row_put, stays_found, stays_leaving, stays_unless, styles_more}
use Rattle.ic_cells.proofs.PlacedLemmas.{none_is as not_some}
use Rattle.ic_laws.proofs.General.{bytes_eq-flip, none_left as none_before, in_front}

-- one style is another whichever is named first ----

flag_flip : (a b : Bool) → is_flag a b ≡ is_flag b a
flag_flip true true = refl
flag_flip true false = refl
flag_flip false true = refl
flag_flip false false = refl

color_flip : (a b : Color) → is_color a b ≡ is_color b a
color_flip colors.None colors.None = refl
color_flip colors.None (colors.Rgb b) = refl
color_flip (colors.Rgb a) colors.None = refl
color_flip (colors.Rgb a) (colors.Rgb b) = bytes_eq-flip a b

style_flip : (a b : Style) → is_style a b ≡ is_style b a
unfolding is_style
style_flip a b =
    ap₂ ◌&&◌ (ap₂ ◌&&◌ (ap₂ ◌&&◌ (bytes_eq-flip a.num_fmt b.num_fmt) (flag_flip a.quote_prefix b.quote_prefix)) (flag_flip a.bold b.bold)) (color_flip a.fill b.fill)

-- a style among others, or at their end ----

past_first : (b : Bool) (o : Option ℕ) (n at : ℕ) → ((k : ℕ) → o ≡ Some k → k < n) → cond b (Some 0) (option_map suc o) ≡ Some at → at < suc n
past_first true o n at h e = let start : zero ≡ at = cc in omega (arith, start)
past_first false None n at h e = cc
past_first false (Some k) n at h e = let next : suc k ≡ at = cc in let lt = h k refl in omega (arith, next, lt)

place_below : (s : Style) (all : List Style) (at : ℕ) → first_place s all ≡ Some at → at < length all
place_below s [] at e = cc
place_below s (t ∷ all) at e = past_first (is_style s t) (first_place s all) (length all) at (place_below s all) e

pushed_none : (t s : Style) (all : List Style) → first_place t all ≡ None → is_style t s ≡ false → first_place t (all ++ s ∷ []) ≡ None
pushed_none t s [] e f = ap (λ b. cond b (Some 0) (option_map suc None)) f
pushed_none t s (u ∷ all) e f =
    let parts = none_before (is_style t u) (first_place t all) e in
    ap (λ b. cond b (Some 0) (option_map suc (first_place t (all ++ s ∷ [])))) parts.0 ∙ ap (λ o. option_map suc o) (pushed_none t s all parts.1 f)

pushed_different : (s : Style) (all : List Style) → first_place s all ≡ None → are_different all ≡ true → are_different (all ++ s ∷ []) ≡ true
pushed_different s [] e d = refl
pushed_different s (t ∷ all) e d =
    let parts = none_before (is_style s t) (first_place s all) e in
    let both = and_parts (not (is_some (first_place t all))) (are_different all) d in
    and_from _ _ (ap (λ (o : Option ℕ). not (is_some o)) (pushed_none t s all (not_some (first_place t all) both.0) (style_flip t s ∙ parts.0)))
    (pushed_different s all parts.1 both.1)

-- what a style's number and the list with it are
pub record HasNumber (before after : List Style) (number : ℕ) : Type 0 where
  pub are : AreStyles after
  pub more : length before ≤ length after
  pub below : number < length after

number_by : (s : Style) (all : List Style) → AreStyles all → (o : Option ℕ) → first_place s all ≡ o → HasNumber all (cond (is_some o) all (all ++ s ∷ [])) (unwrap_or o (length all))
number_by s all are (Some at) e = record { are = are; more = omega (arith); below = place_below s all at e }
number_by s all are None e =
    let longer : length (all ++ s ∷ []) ≡ length all + 1 = length-append all (s ∷ []) in
    record {
      are = record {
        default = in_front all (s ∷ []) 0 (slice_get_within all 0 default_style are.default) ∙ are.default;
        different = pushed_different s all e are.different;
      };
      more = omega (arith, longer);
      below = omega (arith, longer);
    }

pub has_number : (s : Style) (all : List Style) → AreStyles all → HasNumber all (with_style_in s all) (style_number s all)
has_number s all are = number_by s all are (first_place s all) refl

-- the commands ----

module _ (b : Book) (valid : IsValidBook b) where
  from_column_stays : (column : ℤ) (grid : Grid) → AreLines (length b.styles) grid.rows grid.columns → is_column column ≡ true → (o : Option ColumnProps)
      → AreLines (length b.styles) grid.rows (from_column o column without_column_style grid.columns)
  from_column_stays column grid lines is None = lines
  from_column_stays column grid lines is (Some props) = column_put (length b.styles) grid.rows grid.columns lines column (without_column_style props) is tt

  from_row_stays : (row : ℤ) (grid : Grid) → AreLines (length b.styles) grid.rows grid.columns → is_row row ≡ true → (o : Option RowProps)
      → AreLines (length b.styles) (from_row o row without_row_style grid.rows) grid.columns
  from_row_stays row grid lines is None = lines
  from_row_stays row grid lines is (Some props) = row_put (length b.styles) grid.rows grid.columns lines row (without_row_style props) is tt

  column_styled : (index : ℕ) (column : ℤ) (style : Style) → StaysValid (set_column_step index column style b)
  unfolding set_column_step
  column_styled index column style =
      stays_found b valid index _
      (λ s e.
      let number = has_number style b.styles valid.styles.styles in
      let holds = holds_at b valid index s e in
      let columns = with_column column (λ props. record props { style = Some (style_number style b.styles) }) s.grid.columns in
      stays_unless (first_refusal (column_causes column)) _ []
      (λ clear.
      put_valid b valid index s (record s { grid = record s.grid { columns = columns } }) e refl refl (with_style_in style b.styles) number.are number.more
      (lines_held b valid (scene_in b) (length b.styles) s s.grid.rows columns holds (length (with_style_in style b.styles)) number.more
      (column_put (length (with_style_in style b.styles)) s.grid.rows s.grid.columns
      (lines_of (length (with_style_in style b.styles)) s.grid (styles_more (length b.styles) (length (with_style_in style b.styles)) number.more s.grid holds.styles) holds.layout.lines)
      column _ (not-false (is_column column) (not_caused (not (is_column column)) InvalidColumn clear)) number.below))))

  row_styled : (index : ℕ) (row : ℤ) (style : Style) → StaysValid (set_row_step index row style b)
  unfolding set_row_step
  row_styled index row style =
      stays_found b valid index _
      (λ s e.
      let number = has_number style b.styles valid.styles.styles in
      let holds = holds_at b valid index s e in
      let rows = with_row row (λ props. record props { style = Some (style_number style b.styles) }) s.grid.rows in
      stays_unless (first_refusal (row_causes row)) _ []
      (λ clear.
      put_valid b valid index s (record s { grid = record s.grid { rows = rows } }) e refl refl (with_style_in style b.styles) number.are number.more
      (lines_held b valid (scene_in b) (length b.styles) s rows s.grid.columns holds (length (with_style_in style b.styles)) number.more
      (row_put (length (with_style_in style b.styles)) s.grid.rows s.grid.columns
      (lines_of (length (with_style_in style b.styles)) s.grid (styles_more (length b.styles) (length (with_style_in style b.styles)) number.more s.grid holds.styles) holds.layout.lines)
      row _ (not-false (is_row row) (not_caused (not (is_row row)) InvalidRow clear)) number.below))))

pub styles_stay : (b : Book) (command : Styles) → IsValidBook b → StaysValid (style_step b command)
unfolding delete_column_step delete_row_step
styles_stay b (styles.SetColumnStyle sheet column style) valid = column_styled b valid sheet column style
styles_stay b (styles.SetRowStyle sheet row style) valid = row_styled b valid sheet row style
styles_stay b (styles.DeleteColumnStyle sheet column) valid =
    grids_stay b valid sheet (delete_column_step column)
    (λ grid l. lines_unless (length b.styles) grid (first_refusal (column_causes column)) _ []
    (λ clear. record {
      rows = grid.rows;
      columns = from_column (finite.get grid.columns column) column without_column_style grid.columns;
      is = refl;
      lines = from_column_stays b valid column grid l (not-false (is_column column) (not_caused (not (is_column column)) InvalidColumn clear)) (finite.get grid.columns column);
    }))
styles_stay b (styles.DeleteRowStyle sheet row) valid =
    grids_stay b valid sheet (delete_row_step row)
    (λ grid l. lines_unless (length b.styles) grid (first_refusal (row_causes row)) _ []
    (λ clear. record {
      rows = from_row (finite.get grid.rows row) row without_row_style grid.rows;
      columns = grid.columns;
      is = refl;
      lines = from_row_stays b valid row grid l (not-false (is_row row) (not_caused (not (is_row row)) InvalidRow clear)) (finite.get grid.rows row);
    }))
styles_stay b command valid = stays_leaving b valid _ (readers_leave b (OnStyles command))
