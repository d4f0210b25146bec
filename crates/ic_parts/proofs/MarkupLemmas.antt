-- A sheet as a table.
use Rattle.std.proofs.Common.{◌≡◌, ◌∷◌, ◌++◌, ◌+◌, ◌-◌, ◌≤◌, ℕ, ℤ, pos, negsuc, nat_abs, zero, suc, arith, to_z, w32, append-nil, append_assoc, codes, List, [], Bool, true, false, ◌&&◌, ◌||◌, map, Option, Some, None, option_map, refl, sym, ap, ap₂, subst, ◌∙◌}
use Rattle.std.specs.Prelude.{flat_map, int_le, max, option_and_then, unwrap_or}
use Rattle.std.specs.List.{join_by, list_any, range_with_len, slice_get}
use Rattle.std.proofs.lemmas.Bool.{and_parts, or_right}
use Rattle.std.proofs.lemmas.Bool.Decides.{nat_tests}
use Rattle.std.proofs.lemmas.Grind.{flat_map-append}
use Rattle.std.proofs.lemmas.Int.{ints, to_z_pos}
use Rattle.std.proofs.Math.Nat.{le-max_left, max-le}
use Rattle.std.specs.FinMap as finite
use Rattle.std.specs.Option.{option_map_or}
use Rattle.ic_laws.specs.Character.{equals, line_feed}
use Rattle.ic_laws.specs.CoreBook.{CellPlace, CoreBook}
use Rattle.ic_laws.specs.FormulaReading.{shown_formula}
use Rattle.ic_laws.specs.Greatest.{greatest}
use Rattle.ic_laws.specs.Position.{column_count, is_column, is_row, row_count}
use Rattle.ic_laws.specs.declared.tree.Formula.{Formula}
use Rattle.ic_laws.specs.declared.tree.Formula.TheVariants as kept
use Rattle.ic_cells.specs.Cell.{cell_formula_index}
use Rattle.ic_cells.specs.declared.cell.Cell.{Cell}
use Rattle.ic_cells.specs.declared.cell.Cell.TheVariants as cells
use Rattle.ic_grid.proofs.ContentsLemmas.{same_itself}
use Rattle.ic_grid.specs.Block.{same_place}
use Rattle.ic_grid.specs.Whole.{IsGrid}
use Rattle.ic_machine.proofs.contents.AlikeGrid.{entries-seen, get-seen}
use Rattle.ic_machine.specs.Book as machine
use Rattle.ic_machine.specs.Content.{Content, content_of}
use Rattle.ic_machine.specs.Reply.{Field, text_field}
use Rattle.ic_machine.specs.subjects.Reading.{content_markup, emphasized, formatted_content, formula_text, sheet_markup}
use Rattle.ic_sheets.specs.Sheet.{Sheet}
use Rattle.ic_parts.specs.Book.{Book, IsValidBook, ModelState, core_of, notations_in}
use Rattle.ic_parts.specs.Markup.{last_of, plain_shown, row_behind, row_shown, sheet_shown}
use Rattle.ic_parts.specs.Shown.{StandsIn}
use Rattle.ic_parts.specs.Whole.{whole_of, whole_sheet}
use Rattle.ic_parts.proofs.WholeLemmas.{whole_core}
use Rattle.ic_laws.proofs.General.{some_there}

module _ (now : ModelState) (valid : IsValidBook now.book) (s : Sheet) (stands : StandsIn s now.book) (place : CellPlace) where
  abbrev whole : machine.Book
  whole = whole_of now.book

  abbrev seen : machine.Sheet
  seen = whole_sheet now.book.strings s

  pub plain_there : (o : Option Cell) → finite.get s.grid.cells place ≡ o → option_map_or (content_markup whole seen place) (option_map (content_of now.book.strings) o) [] ≡ plain_shown now.book s place
  plain_there o there = ap (λ c. option_map_or (content_markup whole seen place) c []) (sym (get-seen (content_of now.book.strings) s.grid.cells place ∙ ap (option_map (content_of now.book.strings)) there))

  module _ (cell : Cell) (there : finite.get s.grid.cells place ≡ Some cell) where
    pub formula_marked : (f : Formula) → option_and_then (slice_get s.pool) (cell_formula_index cell) ≡ Some f
        → equals ∷ shown_formula (notations_in now.book) (core_of now.book) place.0 place.1 f ≡ content_markup whole seen place (content_of now.book.strings cell)
    formula_marked f e =
        ap (λ (c : CoreBook). equals ∷ shown_formula (notations_in now.book) c place.0 place.1 f) (sym (whole_core now.book)) ∙ by_cell cell e
      where
        held_text : (i : ℕ) → slice_get s.pool i ≡ Some f → formula_text whole place f ≡ formula_text whole place (unwrap_or (slice_get s.pool i) (kept.Raw []))
        held_text i e = sym (ap (λ (o : Option Formula). formula_text whole place (unwrap_or o (kept.Raw []))) e)

        by_cell : (x : Cell) → option_and_then (slice_get s.pool) (cell_formula_index x) ≡ Some f → formula_text whole place f ≡ content_markup whole seen place (content_of now.book.strings x)
        by_cell (cells.EmptyCell n) e = cc
        by_cell (cells.BooleanCell v n) e = cc
        by_cell (cells.NumberCell v n) e = cc
        by_cell (cells.ErrorCell v n) e = cc
        by_cell (cells.SharedString i n) e = cc
        by_cell (cells.CellFormula i n v) e = held_text i e
        by_cell (cells.ArrayFormula kind i n r v) e = held_text i e
        by_cell (cells.SpillCell n a v) e = cc

    pub value_marked : cell_formula_index cell ≡ None → formatted_content whole (content_of now.book.strings cell) ≡ content_markup whole seen place (content_of now.book.strings cell)
    value_marked e = by_cell cell e
      where
        by_cell : (x : Cell) → cell_formula_index x ≡ None → formatted_content whole (content_of now.book.strings x) ≡ content_markup whole seen place (content_of now.book.strings x)
        by_cell (cells.EmptyCell n) e = refl
        by_cell (cells.BooleanCell v n) e = refl
        by_cell (cells.NumberCell v n) e = refl
        by_cell (cells.ErrorCell v n) e = refl
        by_cell (cells.SharedString i n) e = refl
        by_cell (cells.CellFormula i n v) e = cc
        by_cell (cells.ArrayFormula kind i n r v) e = cc
        by_cell (cells.SpillCell n a v) e = refl

abbrev pub markup_told : machine.Book → machine.Sheet → List Field
markup_told book sheet = text_field (sheet_markup book sheet)

-- what is joined, one after another ----

pub range_more : (a n : ℕ) → range_with_len a (suc n) ≡ range_with_len a n ++ (a + n) ∷ []
range_more a zero = ap (λ k. k ∷ []) (let same : a ≡ a + 0 = omega arith in same)
range_more a (suc n) = ap (λ xs. a ∷ xs) (range_more (a + 1) n ∙ ap (λ k. range_with_len (a + 1) n ++ k ∷ []) (let same : a + 1 + n ≡ a + suc n = omega arith in same))

module _ (f : ℕ → List ℕ) (sep : List ℕ) where
  -- what follows the first of so many
  abbrev pub followed : ℕ → List ℕ
  followed n = flat_map (λ y. sep ++ f y) (range_with_len 2 (n - 1))

  followed_more : (n : ℕ) → 1 ≤ n → followed (n + 1) ≡ followed n ++ (sep ++ f (n + 1))
  followed_more zero h = absurd (omega (arith, h))
  followed_more (suc n) h =
      let more : suc n + 1 - 1 ≡ suc n = omega arith in
      let less : suc n - 1 ≡ n = omega arith in
      let last : 2 + n ≡ suc n + 1 = omega arith in
      ap (λ k. flat_map (λ y. sep ++ f y) (range_with_len 2 k)) more
      ∙ ap (flat_map (λ y. sep ++ f y)) (range_more 2 n)
      ∙ flat_map-append (λ y. sep ++ f y) (range_with_len 2 n) ((2 + n) ∷ [])
      ∙ ap (λ rest. flat_map (λ y. sep ++ f y) (range_with_len 2 n) ++ rest) (append-nil (sep ++ f (2 + n)) ∙ ap (λ k. sep ++ f k) last)
      ∙ ap (λ k. flat_map (λ y. sep ++ f y) (range_with_len 2 k) ++ (sep ++ f (suc n + 1))) (sym less)

  first_followed : (n : ℕ) → 1 ≤ n → f 1 ++ followed n ≡ join_by f sep (range_with_len 1 n)
  first_followed zero h = absurd (omega (arith, h))
  first_followed (suc n) h =
      let less : suc n - 1 ≡ n = omega arith in
      ap (λ k. f 1 ++ flat_map (λ y. sep ++ f y) (range_with_len 2 k)) less

  pub none_followed : (text : List ℕ) → text ≡ text ++ followed 1
  none_followed text = sym (append-nil text)

  pub one_more : (n : ℕ) → 1 ≤ n → (before text put new : List ℕ) → text ≡ before ++ followed n → put ≡ text ++ sep → new ≡ put ++ f (n + 1) → new ≡ before ++ followed (n + 1)
  one_more n h before text put new so_far parted shown =
      shown ∙ ap (λ t. t ++ f (n + 1)) (parted ∙ ap (λ t. t ++ sep) so_far)
      ∙ append_assoc (before ++ followed n) sep (f (n + 1))
      ∙ append_assoc before (followed n) (sep ++ f (n + 1))
      ∙ ap (λ rest. before ++ rest) (sym (followed_more n h))

  pub all_joined : (n : ℕ) → 1 ≤ n → (before first new : List ℕ) → first ≡ before ++ f 1 → new ≡ first ++ followed n → new ≡ before ++ join_by f sep (range_with_len 1 n)
  all_joined n h before first new shown more =
      more ∙ ap (λ t. t ++ followed n) shown ∙ append_assoc before (f 1) (followed n) ∙ ap (λ rest. before ++ rest) (first_followed n h)

-- between stars ----

pub is_marked : (bold : Bool) → bold ≡ true → (shown before first second third : List ℕ) → first ≡ before ++ codes "**" → second ≡ first ++ shown → third ≡ second ++ codes "**" → third ≡ before ++ emphasized bold shown
is_marked false h shown before first second third a b c = cc
is_marked true h shown before first second third a b c =
    c ∙ ap (λ t. t ++ codes "**") (b ∙ ap (λ t. t ++ shown) a) ∙ append_assoc (before ++ codes "**") shown (codes "**") ∙ append_assoc before (codes "**") (shown ++ codes "**")

-- the last row and column lie in a sheet ----

module _ (size : CellPlace → ℕ) (most : ℕ) where
  pub greatest_kept : (ks : List CellPlace) → ((k : CellPlace) → list_any (same_place k) ks ≡ true → size k ≤ most) → greatest (map size ks) ≤ most
  greatest_kept [] h = omega arith
  greatest_kept (k ∷ ks) h =
      let first : size k ≤ most = h k (ap (λ b. b || list_any (same_place k) ks) (same_itself k)) in
      let others : greatest (map size ks) ≤ most = greatest_kept ks (λ q e. h q (or_right (same_place q k) (list_any (same_place q) ks) e)) in
      max-le first others

  pub last_kept : 1 ≤ most → (ks : List CellPlace) → ((k : CellPlace) → list_any (same_place k) ks ≡ true → size k ≤ most) → (1 ≤ max 1 (greatest (map size ks))) × (max 1 (greatest (map size ks)) ≤ most)
  last_kept some ks h = (le-max_left 1 (greatest (map size ks)), max-le some (greatest_kept ks h))

up_to : (z : ℤ) (most : ℕ) → (int_le (pos 1) z && int_le z (pos most)) ≡ true → nat_abs z ≤ most
up_to (pos k) most e = let below = (and_parts (int_le (pos 1) (pos k)) (int_le (pos k) (pos most)) e).1 in grind (arith, ints, nat_tests, below)
up_to (negsuc k) most e = absurd (grind (arith, ints, nat_tests, e))

-- the places of a sheet's cells
-- so their numbers are as small as a row and a column
pub row_small : (n : ℕ) → n ≤ row_behind → to_z w32 n ≡ pos n
row_small n h = to_z_pos w32 n (omega (arith, h))

pub column_small : (n : ℕ) → n ≤ column_count → to_z w32 n ≡ pos n
column_small n h = to_z_pos w32 n (omega (arith, h))

module _ (s : Sheet) (grid : IsGrid s.grid) where
  inside : (k : CellPlace) → list_any (same_place k) (finite.keys s.grid.cells) ≡ true → (is_row k.0 && is_column k.1) ≡ true
  inside k e = let x = some_there (finite.get s.grid.cells k) (finite.contains_key-keys s.grid.cells k ∙ e) in grid.inside k x.0 x.1

  pub rows_within : (rows : ℕ) → rows ≡ (last_of (finite.keys s.grid.cells)).0 → (1 ≤ rows) × (rows ≤ row_count)
  rows_within rows e =
      subst (λ n. (1 ≤ n) × (n ≤ row_count)) (sym e)
      (last_kept (λ p. nat_abs p.0) row_count (omega arith) (finite.keys s.grid.cells) (λ k h. up_to k.0 row_count (and_parts (is_row k.0) (is_column k.1) (inside k h)).0))

  pub columns_within : (columns : ℕ) → columns ≡ (last_of (finite.keys s.grid.cells)).1 → (1 ≤ columns) × (columns ≤ column_count)
  columns_within columns e =
      subst (λ n. (1 ≤ n) × (n ≤ column_count)) (sym e)
      (last_kept (λ p. nat_abs p.1) column_count (omega arith) (finite.keys s.grid.cells) (λ k h. up_to k.1 column_count (and_parts (is_row k.0) (is_column k.1) (inside k h)).1))

-- they are those of the machine's sheet
module _ (book : Book) (s : Sheet) where
  same_sizes : (size : CellPlace → ℕ) (es : List (CellPlace × Cell)) → map (λ (e : CellPlace × Content). size e.0) (map (λ (e : CellPlace × Cell). let read : CellPlace × Content = (e.0, content_of book.strings e.1) in read) es) ≡ map size (map (λ (e : CellPlace × Cell). e.0) es)
  same_sizes size [] = refl
  same_sizes size (e ∷ es) = ap (λ ns. size e.0 ∷ ns) (same_sizes size es)

  greatest_seen : (size : CellPlace → ℕ) → greatest (map size (finite.keys s.grid.cells)) ≡ greatest (map (λ (e : CellPlace × Content). size e.0) (finite.entries (whole_sheet book.strings s).grid.contents))
  greatest_seen size = ap greatest (sym (same_sizes size (finite.entries s.grid.cells)) ∙ ap (map (λ (e : CellPlace × Content). size e.0)) (sym (entries-seen (content_of book.strings) s.grid.cells)))

  pub table_told : (rows columns : ℕ) → rows ≡ (last_of (finite.keys s.grid.cells)).0 → columns ≡ (last_of (finite.keys s.grid.cells)).1
      → join_by (row_shown book s columns) (line_feed ∷ []) (range_with_len 1 rows) ≡ sheet_shown book s
  table_told rows columns is_rows is_columns =
      ap₂ (λ r c. join_by (row_shown book s c) (line_feed ∷ []) (range_with_len 1 r)) (is_rows ∙ ap (max 1) (greatest_seen (λ p. nat_abs p.0))) (is_columns ∙ ap (max 1) (greatest_seen (λ p. nat_abs p.1)))
