-- Which numbers and places blocks hold, as they grow by a column or a row.
use Rattle.std.proofs.Common.{◌≡◌, ◌∙◌, refl, sym, ap, ap₂, Bool, true, false, ◌&&◌, ◌||◌, ℤ, pos, arith}
use Rattle.std.proofs.lemmas.Bool.{and_parts, and_from, and_right as right_false}
use Rattle.std.proofs.lemmas.Bool.Decides.{Decides-int_eq}
use Rattle.std.proofs.lemmas.Int.{ints}
use Rattle.std.specs.Prelude.{int_le, int_lt, ◌+ℤ◌, ◌≤ℤ◌}
use Rattle.std.specs.Ordering.{int_cmp, int_eq}
use Rattle.ic_laws.specs.Position.{is_column, is_row}
use Rattle.ic_laws.specs.declared.reference.TheConstants.{LAST_COLUMN, LAST_ROW}
use Rattle.ic_grid.specs.Block.{Place, blocks_meet, is_area, is_between, is_in_span, spans_meet, is_block_within, has_places, block_at, is_in_block, is_in_lines, is_in_sheet, is_span_within, same_place, whole_sheet}
use Rattle.ic_grid.specs.declared.block.Block.{Block}
use Rattle.ic_laws.proofs.General.{both_equal as by_parts}

-- one more number
pub between_more : (first last n : ℤ) → first ≤ℤ last → is_between first (last +ℤ pos 1) n ≡ (is_between first last n || int_eq n last)
unfolding is_between
between_more first last n h = grind (arith, ints)

-- none yet
pub between_none : (first n : ℤ) → is_between first first n ≡ false
unfolding is_between
between_none first n = grind (arith, ints)

-- one alone
pub between_one : (first n : ℤ) → is_between first (first +ℤ pos 1) n ≡ int_eq n first
unfolding is_between
between_one first n = grind (arith, ints)

-- a place is another where both numbers are
pub same_by_parts : (p q : Place) → same_place p q ≡ (int_eq p.0 q.0 && int_eq p.1 q.1)
same_by_parts p q = by_parts (int_cmp p.0 q.0) (int_cmp p.1 q.1)

spread_and : (a b c : Bool) → (a && (b || c)) ≡ ((a && b) || (a && c))
spread_and true b c = refl
spread_and false b c = refl

and_spread : (a b c : Bool) → ((a || b) && c) ≡ ((a && c) || (b && c))
and_spread true true true = refl
and_spread true true false = refl
and_spread true false true = refl
and_spread true false false = refl
and_spread false b c = refl

-- no columns yet, and no rows
pub no_columns : (row last_row column : ℤ) (q : Place) → is_in_lines row last_row column column q ≡ false
no_columns row last_row column q = right_false _ _ (between_none column q.1)

pub no_rows : (row column last_column : ℤ) (q : Place) → is_in_lines row row column last_column q ≡ false
no_rows row column last_column q = ap (λ b. b && is_between column last_column q.1) (between_none row q.0)

-- one more column of a row, and one more row
pub column_more : (row column last : ℤ) (q : Place) → column ≤ℤ last
    → is_in_lines row (row +ℤ pos 1) column (last +ℤ pos 1) q ≡ (is_in_lines row (row +ℤ pos 1) column last q || same_place q (row, last))
column_more row column last q h =
    ap (λ b. is_between row (row +ℤ pos 1) q.0 && b) (between_more column last q.1 h) ∙ spread_and (is_between row (row +ℤ pos 1) q.0) (is_between column last q.1) (int_eq q.1 last)
    ∙ ap (λ b. is_in_lines row (row +ℤ pos 1) column last q || (b && int_eq q.1 last)) (between_one row q.0)
    ∙ ap (λ b. is_in_lines row (row +ℤ pos 1) column last q || b) (sym (same_by_parts q (row, last)))

pub row_more : (row last column last_column : ℤ) (q : Place) → row ≤ℤ last
    → is_in_lines row (last +ℤ pos 1) column last_column q ≡ (is_in_lines row last column last_column q || is_in_lines last (last +ℤ pos 1) column last_column q)
row_more row last column last_column q h =
    ap (λ b. b && is_between column last_column q.1) (between_more row last q.0 h) ∙ and_spread (is_between row last q.0) (int_eq q.0 last) (is_between column last_column q.1)
    ∙ ap (λ b. is_in_lines row last column last_column q || (b && is_between column last_column q.1)) (sym (between_one last q.0))

-- the bounds of an area: it has a row and a column, and lies in the sheet
pub record Bounds (b : Block) : Type 0 where
  pub wide : pos 1 ≤ℤ b.width
  pub high : pos 1 ≤ℤ b.height
  pub row : pos 1 ≤ℤ b.row
  pub column : pos 1 ≤ℤ b.column
  pub last_row : (b.row +ℤ b.height) ≤ℤ pos 1048577
  pub last_column : (b.column +ℤ b.width) ≤ℤ pos 16385

pub area_bounds : (b : Block) → is_area b ≡ true → Bounds b
unfolding is_span_within
area_bounds b e =
    let one = and_parts (has_places b) (is_block_within b whole_sheet) e in
    let sizes = and_parts (int_le (pos 1) b.width) (int_le (pos 1) b.height) one.0 in
    let spans = and_parts (is_span_within b.row b.height whole_sheet.row whole_sheet.height) (is_span_within b.column b.width whole_sheet.column whole_sheet.width) one.1 in
    let rows = and_parts (int_le (pos 1) b.row) (int_le (b.row +ℤ b.height) (pos 1 +ℤ LAST_ROW)) spans.0 in
    let columns = and_parts (int_le (pos 1) b.column) (int_le (b.column +ℤ b.width) (pos 1 +ℤ LAST_COLUMN)) spans.1 in
    record {
      wide = grind (arith, ints, sizes.0);
      high = grind (arith, ints, sizes.1);
      row = grind (arith, ints, rows.0);
      column = grind (arith, ints, columns.0);
      last_row = grind (arith, ints, rows.1);
      last_column = grind (arith, ints, columns.1);
    }

-- a width and a height of 1
one_by_one : (w t : ℤ) → (int_eq w (pos 1) && int_eq t (pos 1)) ≡ true → (w ≡ pos 1) × (t ≡ pos 1)
one_by_one w t e =
    let both = and_parts (int_eq w (pos 1)) (int_eq t (pos 1)) e in
    ((Decides-int_eq w (pos 1)).0 both.0, (Decides-int_eq t (pos 1)).0 both.1)

place_within : (n last : ℤ) → (int_le (pos 1) n && int_le n last) ≡ true → (int_le (pos 1) n && int_le (n +ℤ pos 1) (pos 1 +ℤ last)) ≡ true
place_within n last e =
    let both = and_parts (int_le (pos 1) n) (int_le n last) e in
    and_from (int_le (pos 1) n) (int_le (n +ℤ pos 1) (pos 1 +ℤ last)) both.0 (grind (arith, ints, both.1))

-- a block of one place of the sheet is an area, and has no other place
one_area : (a : Place) → is_in_sheet a ≡ true → is_area (block_at a (pos 1) (pos 1)) ≡ true
unfolding is_span_within
one_area a e =
    let both = and_parts (is_row a.0) (is_column a.1) e in
    and_from _ _ (place_within a.0 LAST_ROW both.0) (place_within a.1 LAST_COLUMN both.1)

pub one_is_area : (a : Place) (w t : ℤ) → (int_eq w (pos 1) && int_eq t (pos 1)) ≡ true → is_in_sheet a ≡ true → is_area (block_at a w t) ≡ true
one_is_area a w t e inside =
    let one = one_by_one w t e in
    ap (λ n. is_area (block_at a n t)) one.0 ∙ ap (λ n. is_area (block_at a (pos 1) n)) one.1 ∙ one_area a inside

only_one : (a p : Place) → is_in_block (block_at a (pos 1) (pos 1)) p ≡ true → same_place p a ≡ true
only_one a p e =
    same_by_parts p a ∙ sym (ap₂ (λ b c. b && c) (between_one a.0 p.0) (between_one a.1 p.1)) ∙ e

pub block_of_one : (a p : Place) (w t : ℤ) → (int_eq w (pos 1) && int_eq t (pos 1)) ≡ true → is_in_block (block_at a w t) p ≡ true → same_place p a ≡ true
block_of_one a p w t e inside =
    let one = one_by_one w t e in
    only_one a p (ap (λ n. is_in_block (block_at a (pos 1) n) p) (sym one.1) ∙ ap (λ n. is_in_block (block_at a n t) p) (sym one.0) ∙ inside)

-- two blocks with a place in common meet, and two that meet have one
spans_at : (f n g k at : ℤ) → is_between f (f +ℤ n) at ≡ true → is_between g (g +ℤ k) at ≡ true → spans_meet f n g k ≡ true
unfolding is_between spans_meet
spans_at f n g k at e h = grind (arith, ints, e, h)

pub meets_at : (b c : Block) (p : Place) → is_in_block b p ≡ true → is_in_block c p ≡ true → blocks_meet b c ≡ true
meets_at b c p e h =
    let one = and_parts (is_in_span b.row b.height p.0) (is_in_span b.column b.width p.1) e in
    let two = and_parts (is_in_span c.row c.height p.0) (is_in_span c.column c.width p.1) h in
    and_from _ _ (spans_at b.row b.height c.row c.height p.0 one.0 two.0) (spans_at b.column b.width c.column c.width p.1 one.1 two.1)

span_common : (f n g k : ℤ) → pos 1 ≤ℤ n → pos 1 ≤ℤ k → spans_meet f n g k ≡ true → (at : ℤ) × (is_between f (f +ℤ n) at ≡ true) × (is_between g (g +ℤ k) at ≡ true)
unfolding is_between spans_meet
span_common f n g k many more e = by_order (int_le f g) refl
  where
    by_order : (t : Bool) → int_le f g ≡ t → (at : ℤ) × ((int_le f at && int_lt at (f +ℤ n)) ≡ true) × ((int_le g at && int_lt at (g +ℤ k)) ≡ true)
    by_order true t = (g, grind (arith, ints, t, e, many, more), grind (arith, ints, t, e, many, more))
    by_order false t = (f, grind (arith, ints, t, e, many, more), grind (arith, ints, t, e, many, more))

pub common : (b c : Block) → has_places b ≡ true → has_places c ≡ true → blocks_meet b c ≡ true → (p : Place) × (is_in_block b p ≡ true) × (is_in_block c p ≡ true)
common b c some more e =
    let sizes = and_parts (int_le (pos 1) b.width) (int_le (pos 1) b.height) some in
    let others = and_parts (int_le (pos 1) c.width) (int_le (pos 1) c.height) more in
    let both = and_parts (spans_meet b.row b.height c.row c.height) (spans_meet b.column b.width c.column c.width) e in
    let rows = span_common b.row b.height c.row c.height (grind (arith, ints, sizes.1)) (grind (arith, ints, others.1)) both.0 in
    let columns = span_common b.column b.width c.column c.width (grind (arith, ints, sizes.0)) (grind (arith, ints, others.0)) both.1 in
    ((rows.0, columns.0), and_from _ _ rows.1 columns.1, and_from _ _ rows.2 columns.2)

-- the first place of a block is one of it
span_first : (f n : ℤ) → pos 1 ≤ℤ n → is_between f (f +ℤ n) f ≡ true
unfolding is_between
span_first f n h = grind (arith, ints, h)

pub first_in : (a : Place) (w t : ℤ) → is_area (block_at a w t) ≡ true → is_in_block (block_at a w t) a ≡ true
first_in a w t area =
    let b = area_bounds (block_at a w t) area in
    and_from _ _ (span_first a.0 t b.high) (span_first a.1 w b.wide)

pub area_places : (b : Block) → is_area b ≡ true → has_places b ≡ true
area_places b e = (and_parts (has_places b) (is_block_within b whole_sheet) e).0
