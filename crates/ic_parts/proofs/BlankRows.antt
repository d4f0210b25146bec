-- A row in which no cell stands and that has no style shows what the row behind the sheet shows.
use Rattle.std.proofs.Common.{◌≡◌, ◌≤◌, ◌+◌, ◌++◌, [], ◌∙◌, ◌&&◌, ℕ, ℤ, pos, zero, suc, arith, subst, of_z, w32, nat_eq, List, Bool, true, false, not, Option, Some, None, codes, option_map, refl, sym, ap, ap₂}
use Rattle.std.specs.Prelude.{◌≤ℤ◌, flat_map, option_and_then}
use Rattle.std.specs.Bool.{IsTrue}
use Rattle.std.specs.FinMap as finite
use Rattle.std.specs.Ordering.{int_eq}
use Rattle.std.proofs.lemmas.Bool.Decides.{nat_tests}
use Rattle.ic_grid.specs.Block.{Place}
use Rattle.ic_grid.specs.Walk.{IsFirst, is_from}
use Rattle.std.specs.List.{join_by, range_with_len, slice_get}
use Rattle.std.specs.Option.{option_map_or}
use Rattle.std.proofs.lemmas.Int.{ints}
use Rattle.std.proofs.lemmas.Option.{slice_get-map}
use Rattle.ic_laws.specs.Position.{is_column, is_row}
use Rattle.ic_cells.specs.Style.{style_at}
use Rattle.ic_cells.specs.declared.cell.Cell.{Cell}
use Rattle.ic_cells.specs.declared.layout.ColumnProps.{ColumnProps}
use Rattle.ic_cells.specs.declared.layout.RowProps.{RowProps}
use Rattle.ic_grid.specs.Style.{first_style}
use Rattle.ic_machine.proofs.contents.AlikeGrid.{get-seen}
use Rattle.ic_machine.proofs.valid.ValidLemmas.{all_at}
use Rattle.ic_machine.specs.Book.{style_number_at}
use Rattle.ic_machine.specs.Content.{Content, content_of, held}
use Rattle.ic_machine.specs.Valid.{HasLayout, HasLines}
use Rattle.ic_machine.specs.subjects.Reading.{content_markup, emphasized}
use Rattle.ic_sheets.specs.Sheet.{Sheet}
use Rattle.ic_parts.specs.Book.{Book, IsValidBook}
use Rattle.ic_parts.specs.Markup.{IsBlankRow, place_shown, row_behind, row_shown}
use Rattle.ic_parts.specs.Shown.{StandsIn}
use Rattle.ic_parts.specs.Whole.{whole_of, whole_sheet}
use Rattle.ic_parts.proofs.GridLemmas.{its_grid}
pub use Rattle.ic_grid.proofs.WriteLemmas.{none_there as none_when}

-- what is joined of equal texts is equal ----

module _ (f g : ℕ → List ℕ) (sep : List ℕ) (same : (k : ℕ) → 1 ≤ k → f k ≡ g k) where
  each_same : (a n : ℕ) → 1 ≤ a → flat_map (λ y. sep ++ f y) (range_with_len a n) ≡ flat_map (λ y. sep ++ g y) (range_with_len a n)
  each_same a zero h = refl
  each_same a (suc n) h = ap₂ (λ (x rest : List ℕ). (sep ++ x) ++ rest) (same a h) (each_same (a + 1) n (omega (arith, h)))

  joined_same : (n : ℕ) → join_by f sep (range_with_len 1 n) ≡ join_by g sep (range_with_len 1 n)
  joined_same zero = refl
  joined_same (suc n) = ap₂ (λ (x rest : List ℕ). x ++ rest) (same 1 (omega arith)) (each_same 2 n (omega arith))

-- where nothing stands in a row ----

pub in_its_row : (row column : ℤ) → pos 1 ≤ℤ column → is_from (row, pos 1) (row, column) ≡ true
unfolding is_from
in_its_row row column from = grind (arith, ints, from)

pub apart : (a b : ℤ) → IsTrue (not (nat_eq (of_z w32 a) (of_z w32 b))) → a ≡ b → ⊥
apart a b h e = no (nat_eq (of_z w32 b) (of_z w32 b)) (eq-same (of_z w32 b)) (subst (λ z. IsTrue (not (nat_eq (of_z w32 z) (of_z w32 b)))) e h)
  where
    no : (t : Bool) → t ≡ true → IsTrue (not t) → ⊥
    no false e h = cc
    no true e h = let never : false ≡ true = h in cc

    eq-same : (n : ℕ) → nat_eq n n ≡ true
    eq-same n = grind (arith, nat_tests)

behind_it : (row column : ℤ) (p : Place) → is_from (row, pos 1) p ≡ true → int_eq p.0 row ≡ false → is_from p (row, column) ≡ false
unfolding is_from
behind_it row column p behind other = grind (arith, ints, behind, other)

module _ {X : Type 0} (get : Place → Option X) where
  -- the first from a row on stands in another
  pub none_in_row : (row column : ℤ) (p : Place) → IsFirst get (row, pos 1) p → (p.0 ≡ row → ⊥) → pos 1 ≤ℤ column → get (row, column) ≡ None
  none_in_row row column p first other from = first.first (row, column) (in_its_row row column from) (behind_it row column p first.behind (by (int_eq p.0 row) refl))
    where
      by : (t : Bool) → int_eq p.0 row ≡ t → t ≡ false
      by false e = refl
      by true e = absurd (other (grind (arith, ints, e)))

-- what a place of such a row shows ----

module _ (book : Book) (s : Sheet) where
  -- its column tells it
  abbrev by_column : ℤ → List ℕ
  by_column column =
      emphasized (style_at (whole_of book).styles (first_style None None (option_and_then (λ (props : ColumnProps). props.style) (finite.get s.grid.columns column)))).bold []

  none_there : (row column : ℤ) → finite.get s.grid.cells (row, column) ≡ None → finite.get (whole_sheet book.strings s).grid.contents (row, column) ≡ None
  none_there row column e = get-seen (content_of book.strings) s.grid.cells (row, column) ∙ ap (option_map (content_of book.strings)) e

  place_blank : (row column : ℤ) → IsBlankRow s.grid row → pos 1 ≤ℤ column → place_shown book s row column ≡ by_column column
  place_blank row column blank from =
      let none : finite.get (whole_sheet book.strings s).grid.contents (row, column) ≡ None = none_there row column (blank.free column from) in
      let number : style_number_at (whole_sheet book.strings s).grid row column ≡ first_style None None (option_and_then (λ (props : ColumnProps). props.style) (finite.get s.grid.columns column)) =
      ap₂ (λ (o : Option Content) (r : Option ℕ). first_style (option_map held.style o) r (option_and_then (λ (props : ColumnProps). props.style) (finite.get s.grid.columns column))) none blank.plain
      in
      ap₂ emphasized (ap (λ n. (style_at (whole_of book).styles n).bold) number) (ap (λ (o : Option Content). option_map_or (content_markup (whole_of book) (whole_sheet book.strings s) (row, column)) o []) none)

  from_one : (k : ℕ) → 1 ≤ k → pos 1 ≤ℤ pos k
  from_one k h = grind (arith, ints, h)

  pub blank_shown : (row columns : ℕ) → IsBlankRow s.grid (pos row) → IsBlankRow s.grid (pos row_behind) → row_shown book s columns row_behind ≡ row_shown book s columns row
  blank_shown row columns blank behind =
      joined_same (λ k. place_shown book s (pos row_behind) (pos k)) (λ k. place_shown book s (pos row) (pos k)) (codes "|")
      (λ k h. place_blank (pos row_behind) (pos k) behind (from_one k h) ∙ sym (place_blank (pos row) (pos k) blank (from_one k h))) columns

-- and the row behind a sheet of a valid book is one ----

module _ (book : Book) (valid : IsValidBook book) (s : Sheet) (stands : StandsIn s book) where
  its_lines : HasLines (whole_sheet book.strings s).grid
  its_lines =
      let whole : slice_get (whole_of book).sheets stands.0 ≡ Some (whole_sheet book.strings s) = slice_get-map (whole_sheet book.strings) book.sheets stands.0 ∙ ap (option_map (whole_sheet book.strings)) stands.1 in
      let layout : HasLayout (whole_sheet book.strings s) = all_at HasLayout stands.0 (whole_of book).sheets (whole_sheet book.strings s) valid.whole.layout whole in
      layout.lines

  no_cell : (column : ℤ) (o : Option Cell) → finite.get s.grid.cells (pos row_behind, column) ≡ o → o ≡ None
  no_cell column None e = refl
  no_cell column (Some cell) e =
      let inside : (is_row (pos row_behind) && is_column column) ≡ true = (its_grid book valid stands.0 s stands.1).inside (pos row_behind, column) cell e in
      let never : false ≡ true = inside in cc

  no_style : (o : Option RowProps) → finite.get s.grid.rows (pos row_behind) ≡ o → option_and_then (λ (props : RowProps). props.style) o ≡ None
  no_style None e = refl
  no_style (Some props) e = let never : false ≡ true = its_lines.rows (pos row_behind) props e in cc

  pub behind_blank : IsBlankRow s.grid (pos row_behind)
  behind_blank = record {
    free = λ column from. no_cell column (finite.get s.grid.cells (pos row_behind, column)) refl;
    plain = no_style (finite.get s.grid.rows (pos row_behind)) refl;
  }
